use Rattle.std.proofs.Common.{◌≡◌, ◌+◌, drop}
use Rattle.std.specs.List.{list_any}
use Rattle.mspec_rules.specs.Names.{cases_names, clashes}
use Rattle.mspec_rules.proofs.names.have_cases.Given as goal

abbrev pub invariant-loop-i : goal.invariant-loop-i
invariant-loop-i l =
    list_any (clashes l.name l.case) (cases_names 1 l.cases) ≡ list_any (clashes l.name l.case) (cases_names (l.i + 1) (drop l.i l.cases))
