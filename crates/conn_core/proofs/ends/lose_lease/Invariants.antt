use Rattle.std.proofs.Common.{◌≡◌, ◌+◌}
use Rattle.txn_core.specs.RowSteps.{ended_all}
use Rattle.txn_core.specs.RowTables.{count_where, has_lease}
use Rattle.wire_frames.specs.declared.ends.EndKind.TheVariants.{LeaseGone}
use Rattle.conn_core.proofs.ends.lose_lease.Given as goal

abbrev pub invariant-live : goal.invariant-live
invariant-live l = record {
  ends : ended_all (has_lease l.lease) LeaseGone l.requests ≡ ended_all (has_lease l.lease) LeaseGone l.initial.requests;
  counted : l.count + count_where (has_lease l.lease) l.requests ≡ count_where (has_lease l.lease) l.initial.requests;
}

abbrev pub decreases-live : goal.decreases-live
decreases-live l = count_where (has_lease l.lease) l.requests
