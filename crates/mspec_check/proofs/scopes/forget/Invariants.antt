use Rattle.std.proofs.Common.{◌≡◌, ◌≤◌, length, take}
use Rattle.mspec_check.proofs.scopes.forget.Given as goal

abbrev pub invariant-loop-scope : goal.invariant-loop-scope
invariant-loop-scope l = record {
  enough : l.count ≤ length l.scope.names;
  front : take l.count l.scope.names ≡ take l.count l.initial.scope.names;
}

abbrev pub decreases-loop-scope : goal.decreases-loop-scope
decreases-loop-scope l = length l.scope.names
