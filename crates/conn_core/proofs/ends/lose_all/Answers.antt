use Rattle.std.proofs.Common.{◌∙◌, sym, ap, arith}
use Rattle.txn_core.specs.RowEnds.{count_first, ended_first, ended_none}
use Rattle.txn_core.specs.RowSteps.{ended_all}
use Rattle.txn_core.specs.RowTables.{any_row}
use Rattle.wire_frames.specs.declared.ends.EndKind.TheVariants.{Lost}
use Rattle.conn_core.proofs.ends.lose_all.Goals as goal

pub live-smaller : goal.live-smaller
live-smaller c =
    let first = sym c.first_live.ensures.answer ∙ c.in-Some.is in
    let fewer = count_first any_row (Lost c.args.reason) c.live.requests c.in-Some.id c.first_live.ensures.table first in
    rw c.end.ensures.rows (omega arith)

pub live-preserved : goal.live-preserved
live-preserved c =
    let first = sym c.first_live.ensures.answer ∙ c.in-Some.is in
    ap (ended_all any_row (Lost c.args.reason)) c.end.ensures.rows ∙ ended_first any_row (Lost c.args.reason) c.live.requests c.in-Some.id c.first_live.ensures.table first ∙ c.live.invariant

pub returns-clause-requests : goal.returns-clause-requests
returns-clause-requests c = sym (ended_none any_row (Lost c.args.reason) c.live.requests (sym c.first_live.ensures.answer ∙ c.in_default.is)) ∙ c.live.invariant
