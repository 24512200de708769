use Rattle.std.proofs.Common.{◌≡◌, ◌++◌, take}
use Rattle.mspec_check.specs.Scopes.{params_seen}
use Rattle.mspec_check.proofs.scopes.see_params.Given as goal

abbrev pub invariant-loop-param : goal.invariant-loop-param
invariant-loop-param l =
    l.scope.names ≡ l.initial.scope.names ++ params_seen l.d (take l.param-index l.params)
