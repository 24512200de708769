use Rattle.std.proofs.Common.{◌≡◌, ◌+◌, length}
use Rattle.lease_core.specs.LeaseSteps.{waiting_due_dropped}
use Rattle.lease_core.specs.LeaseTables.{due_numbers}
use Rattle.conn_core.proofs.ends.drop_waiting.Given as goal

abbrev pub invariant-due : goal.invariant-due
invariant-due l = record {
  left : waiting_due_dropped l.leases l.now ≡ waiting_due_dropped l.initial.leases l.now;
  counted : l.count + length (due_numbers l.now l.leases.waiting) ≡ length (due_numbers l.now l.initial.leases.waiting);
}

abbrev pub decreases-due : goal.decreases-due
decreases-due l = length (due_numbers l.now l.leases.waiting)
