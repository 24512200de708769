use Rattle.std.proofs.Common.{◌+◌, ◌≤◌}
use Rattle.lease_core.proofs.tests.the_queue_is_full_behind_64_waiters.Given as goal

abbrev pub invariant-loop-place : goal.invariant-loop-place
invariant-loop-place g l = l.leases.drawn ≤ l.place + 1
