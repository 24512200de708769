use Rattle.std.proofs.Common.{◌≡◌, drop}
use Rattle.mspec_rules.specs.Literals.{attrs_fit}
use Rattle.mspec_rules.proofs.literals.attrs_fit.Given as goal

abbrev pub invariant-loop-i : goal.invariant-loop-i
invariant-loop-i l =
    attrs_fit l.d l.params l.attrs ≡ attrs_fit l.d (drop l.i l.params) (drop l.i l.attrs)
