use Rattle.std.proofs.Common.{subst}
use Rattle.lease_core.specs.LeaseTables.{IsLeaseTable, LeaseTable}
use Rattle.lease_core.specs.DueLaws.{WaitingDue, waiting_due}
use Rattle.lease_core.proofs.leases.Leases.due_waiting.Goals as goal

pub returns : goal.returns
returns c =
    let P : LeaseTable → Type 0 = λ l. WaitingDue l c.args.now c.first_due.result in
    let all = subst P c.self.view_is (waiting_due _ c.args.now c.first_due.result c.self.invariant.lawful (rw c.deref.ensures.value at c.first_due.ensures)) in
    record { least = all.least; known = all.known; rest = all.rest; dropped = all.dropped; lawful = subst IsLeaseTable c.self.view_is c.self.invariant.lawful }
