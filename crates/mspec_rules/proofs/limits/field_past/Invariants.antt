use Rattle.std.proofs.Common.{◌≡◌, drop}
use Rattle.std.specs.Prelude.{slice_get}
use Rattle.mspec_expr.specs.Kinds.{entry_fields}
use Rattle.mspec_rules.specs.Limits.{field_places, most_fields}
use Rattle.mspec_rules.proofs.limits.field_past.Given as goal

abbrev pub invariant-loop-field : goal.invariant-loop-field
invariant-loop-field l =
    slice_get (field_places (entry_fields l.case l.fields)) most_fields ≡ slice_get (field_places (entry_fields l.case (drop l.field-index l.fields))) l.left
