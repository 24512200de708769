use Rattle.std.proofs.Common.{◌≡◌, [], take, drop}
use Rattle.std.specs.List.{flat_map}
use Rattle.mspec_rules.specs.Wrongs.{earlier, found}
use Rattle.mspec_check.specs.Fields.{placed_wrongs}
use Rattle.mspec_check.specs.Scopes.{names_before, placed, seen_given}
use Rattle.mspec_check.proofs.FieldLaws.{around_from}
use Rattle.std.specs.Prelude.{IfSome}
use Rattle.mspec_check.proofs.fields.fields_wrong.Given as goal

abbrev pub invariant-loop-i : goal.invariant-loop-i
invariant-loop-i l = record {
  told : earlier l.told (found (flat_map (placed_wrongs l.d) (placed l.outer.params.now (take l.i l.fields) [] (drop l.i l.fields)))) ≡ found (flat_map (placed_wrongs l.d) (placed l.outer.params.now [] [] l.fields));
  given : IfSome l.given (λ seen. seen ≡ seen_given l.d (around_from l.outer.params.now [] [] l.fields l.i));
  names : l.scope.names ≡ names_before l.d l.outer.params.now (take l.i l.fields);
}
