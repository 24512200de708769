use Rattle.std.proofs.Common.{◌≤◌}
use Rattle.lease_core.proofs.tests.leases_are_granted_in_order_at_the_clocks_end.Given as goal

abbrev pub invariant-loop-lease : goal.invariant-loop-lease
invariant-loop-lease g l = l.leases.drawn ≤ l.lease
