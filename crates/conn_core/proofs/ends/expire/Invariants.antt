use Rattle.std.proofs.Common.{◌≡◌, ◌+◌}
use Rattle.txn_core.specs.RowSteps.{ended_all}
use Rattle.txn_core.specs.RowTables.{count_where, is_due}
use Rattle.wire_frames.specs.declared.ends.EndKind.TheVariants.{Expired}
use Rattle.conn_core.proofs.ends.expire.Given as goal

abbrev pub invariant-live : goal.invariant-live
invariant-live l = record {
  ends : ended_all (is_due l.now) Expired l.requests ≡ ended_all (is_due l.now) Expired l.initial.requests;
  counted : l.count + count_where (is_due l.now) l.requests ≡ count_where (is_due l.now) l.initial.requests;
}

abbrev pub decreases-live : goal.decreases-live
decreases-live l = count_where (is_due l.now) l.requests
