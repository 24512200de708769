use Rattle.std.proofs.Common.{◌≡◌, drop}
use Rattle.std.specs.List.{flat_map}
use Rattle.mspec_rules.specs.Wrongs.{earlier, found}
use Rattle.mspec_check.specs.Fields.{case_wrongs}
use Rattle.mspec_check.specs.Sites.{around_outer}
use Rattle.mspec_check.proofs.fields.switch_wrong.Given as goal

abbrev pub invariant-loop-case : goal.invariant-loop-case
invariant-loop-case l = record {
  told : earlier l.told (found (flat_map (case_wrongs l.d (around_outer l.outer) l.names) (drop l.case-index l.cases))) ≡ earlier l.initial.told (found (flat_map (case_wrongs l.d (around_outer l.outer) l.names) l.cases));
  names : l.scope.names ≡ l.initial.scope.names;
}
