use Rattle.std.proofs.Common.{◌≡◌, drop}
use Rattle.mspec_rules.specs.Wrongs.{earlier, found}
use Rattle.mspec_check.specs.Arguments.{arguments_wrongs}
use Rattle.mspec_check.proofs.arguments.arguments_wrong.Given as goal

abbrev pub invariant-loop-i : goal.invariant-loop-i
invariant-loop-i l =
    earlier l.told (found (arguments_wrongs l.d l.scope l.named l.params l.i (drop l.i l.args)))
    ≡ found (arguments_wrongs l.d l.scope l.named l.params 0 l.args)
