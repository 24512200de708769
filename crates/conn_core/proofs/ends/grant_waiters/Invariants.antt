use Rattle.std.proofs.Common.{◌≡◌, length}
use Rattle.lease_core.specs.LeaseSteps.{granted_all}
use Rattle.conn_core.proofs.ends.grant_waiters.Given as goal

abbrev pub invariant-granting : goal.invariant-granting
invariant-granting l = granted_all l.leases l.now ≡ granted_all l.initial.leases l.now

abbrev pub decreases-granting : goal.decreases-granting
decreases-granting l = length l.leases.waiting
