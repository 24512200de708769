use Rattle.std.proofs.Common.{◌≡◌}
use Rattle.txn_core.specs.RowSteps.{ended_all}
use Rattle.txn_core.specs.RowTables.{any_row, count_where}
use Rattle.wire_frames.specs.declared.ends.EndKind.TheVariants.{Lost}
use Rattle.conn_core.proofs.ends.lose_all.Given as goal

abbrev pub invariant-live : goal.invariant-live
invariant-live l = ended_all any_row (Lost l.reason) l.requests ≡ ended_all any_row (Lost l.reason) l.initial.requests

abbrev pub decreases-live : goal.decreases-live
decreases-live l = count_where any_row l.requests
