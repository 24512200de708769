use Rattle.std.proofs.Common.{◌≡◌, ◌+◌, length}
use Rattle.lease_core.specs.LeaseSteps.{held_due_dropped}
use Rattle.lease_core.specs.LeaseTables.{due_numbers}
use Rattle.txn_core.specs.RowTables.{IsRowTable, any_row, count_where}
use Rattle.wire_frames.specs.declared.ends.EndKind.TheVariants.{LeaseGone}
use Rattle.conn_core.specs.KeptEnds.{leases_ended}
use Rattle.conn_core.proofs.ends.drop_held.Given as goal

abbrev pub invariant-due : goal.invariant-due
invariant-due l = record {
  table : IsRowTable l.requests;
  ends : leases_ended LeaseGone (due_numbers l.now l.leases.held) l.requests ≡ leases_ended LeaseGone (due_numbers l.now l.initial.leases.held) l.initial.requests;
  left : held_due_dropped l.leases l.now ≡ held_due_dropped l.initial.leases l.now;
  live : l.rows + count_where any_row l.requests ≡ count_where any_row l.initial.requests;
  counted : l.count + length (due_numbers l.now l.leases.held) ≡ length (due_numbers l.now l.initial.leases.held);
}

abbrev pub decreases-due : goal.decreases-due
decreases-due l = length (due_numbers l.now l.leases.held)
