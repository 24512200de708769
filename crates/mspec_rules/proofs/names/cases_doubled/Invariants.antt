use Rattle.std.proofs.Common.{◌≡◌, ◌+◌, ◌++◌, drop, take}
use Rattle.std.specs.List.{flat_map}
use Rattle.mspec_rules.specs.Names.{cases_names, doubled, entry_names, param_names}
use Rattle.mspec_rules.specs.Wrongs.{earlier, found}
use Rattle.mspec_rules.proofs.names.cases_doubled.Given as goal

abbrev pub invariant-loop-i : goal.invariant-loop-i
invariant-loop-i l =
    earlier l.fn.first (found (doubled (param_names l.params ++ flat_map entry_names l.fields) (cases_names 1 l.cases)))
    ≡ earlier l.next (found (doubled (param_names l.params ++ flat_map entry_names l.fields ++ cases_names 1 (take l.i l.cases)) (cases_names (l.i + 1) (drop l.i l.cases))))
