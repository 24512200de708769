use Rattle.std.proofs.Common.{◌≡◌, ◌++◌, take}
use Rattle.mspec_check.specs.Scopes.{fields_seen}
use Rattle.mspec_check.specs.Sites.{is_shown}
use Rattle.mspec_check.proofs.scopes.see_fields.Given as goal

abbrev pub invariant-loop-field : goal.invariant-loop-field
invariant-loop-field l =
    l.scope.names ≡ l.initial.scope.names ++ fields_seen l.d (is_shown l.shown) (take l.field-index l.fields)
