use Rattle.std.proofs.Common.{◌≡◌, ◌++◌, drop, take}
use Rattle.std.specs.List.{flat_map}
use Rattle.mspec_rules.specs.Fronts.{front_names}
use Rattle.mspec_rules.specs.Names.{doubled, field_names}
use Rattle.mspec_rules.specs.Wrongs.{earlier, found}
use Rattle.mspec_rules.proofs.names.case_doubled.Given as goal

abbrev pub invariant-loop-i : goal.invariant-loop-i
invariant-loop-i l =
    earlier l.fn.first (found (doubled (front_names l.front) (flat_map (field_names l.front.case) l.fields)))
    ≡ earlier l.next (found (doubled (front_names l.front ++ flat_map (field_names l.front.case) (take l.i l.fields)) (flat_map (field_names l.front.case) (drop l.i l.fields))))
