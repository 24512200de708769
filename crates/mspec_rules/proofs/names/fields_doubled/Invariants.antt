use Rattle.std.proofs.Common.{◌≡◌, ◌++◌, drop, take}
use Rattle.std.specs.List.{flat_map}
use Rattle.mspec_rules.specs.Names.{doubled, entry_names, fields_doubled, param_names}
use Rattle.mspec_rules.specs.Wrongs.{earlier, found}
use Rattle.mspec_rules.proofs.names.fields_doubled.Given as goal

abbrev pub invariant-loop-i : goal.invariant-loop-i
invariant-loop-i l =
    earlier l.fn.first (found (fields_doubled l.params l.fields))
    ≡ earlier l.next (found (doubled (param_names l.params ++ flat_map entry_names (take l.i l.fields)) (flat_map entry_names (drop l.i l.fields))))
