use Rattle.std.proofs.Common.{arith}
use Rattle.lease_core.specs.LeaseLaws.{dropped_lawful}
use Rattle.lease_core.proofs.leases.Leases.drop_lease.Goals as goal

pub returns-clause-lawful : goal.returns-clause-lawful
returns-clause-lawful c = rw (c.remove_numbered.ensures.items, c.remove_numbered-2.ensures.items) (dropped_lawful _ c.args.lease c.self.invariant.lawful)

pub invariant_of-self : goal.invariant_of-self
invariant_of-self c = record { held = omega arith; waiting = omega arith; lawful = returns-clause-lawful c }
