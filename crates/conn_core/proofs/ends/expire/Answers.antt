use Rattle.std.proofs.Common.{◌∙◌, sym, ap, arith}
use Rattle.txn_core.specs.RowEnds.{count_first, count_none_left, ended_first, ended_none}
use Rattle.txn_core.specs.RowSteps.{ended_all}
use Rattle.txn_core.specs.RowTables.{is_due}
use Rattle.wire_frames.specs.declared.ends.EndKind.TheVariants.{Expired}
use Rattle.conn_core.proofs.ends.expire.Goals as goal

pub live-smaller : goal.live-smaller
live-smaller c =
    let first = sym c.due.ensures.answer ∙ c.in-Some.is in
    let fewer = count_first (is_due c.args.now) Expired c.live.requests c.in-Some.id c.due.ensures.table first in
    rw c.end.ensures.rows (omega arith)

pub live-preserved : goal.live-preserved
live-preserved c =
    let first = sym c.due.ensures.answer ∙ c.in-Some.is in
    let fewer = count_first (is_due c.args.now) Expired c.live.requests c.in-Some.id c.due.ensures.table first in
    record {
      ends = ap (ended_all (is_due c.args.now) Expired) c.end.ensures.rows ∙ ended_first (is_due c.args.now) Expired c.live.requests c.in-Some.id c.due.ensures.table first ∙ c.live.invariant.ends;
      counted = rw c.end.ensures.rows (let was = c.live.invariant.counted in omega arith);
    }

pub returns-clause-requests : goal.returns-clause-requests
returns-clause-requests c = sym (ended_none (is_due c.args.now) Expired c.live.requests (sym c.due.ensures.answer ∙ c.in_default.is)) ∙ c.live.invariant.ends

pub returns-clause-count : goal.returns-clause-count
returns-clause-count c =
    let none = count_none_left (is_due c.args.now) c.live.requests (sym c.due.ensures.answer ∙ c.in_default.is) in
    let was = c.live.invariant.counted in omega arith
