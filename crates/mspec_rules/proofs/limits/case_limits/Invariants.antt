use Rattle.std.proofs.Common.{◌≡◌, ◌+◌, drop}
use Rattle.mspec_rules.specs.Limits.{case_limits}
use Rattle.mspec_rules.specs.Wrongs.{earlier, found}
use Rattle.mspec_rules.proofs.limits.case_limits.Given as goal

abbrev pub invariant-loop-i : goal.invariant-loop-i
invariant-loop-i l =
    earlier l.fn.first (found (case_limits l.fields 1 l.cases)) ≡ earlier l.next (found (case_limits l.fields (l.i + 1) (drop l.i l.cases)))
