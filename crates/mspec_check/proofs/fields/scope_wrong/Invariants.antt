use Rattle.std.proofs.Common.{◌≡◌, drop}
use Rattle.std.specs.List.{flat_map}
use Rattle.mspec_rules.specs.Wrongs.{earlier, found}
use Rattle.mspec_check.specs.Fields.{def_wrongs, scope_wrongs}
use Rattle.mspec_check.proofs.fields.scope_wrong.Given as goal

abbrev pub invariant-loop-def : goal.invariant-loop-def
invariant-loop-def l = earlier l.told (found (flat_map (def_wrongs l.d) (drop l.def-index l.def-items))) ≡ found (scope_wrongs l.d)
