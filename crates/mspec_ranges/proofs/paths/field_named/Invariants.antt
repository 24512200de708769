use Rattle.std.proofs.Common.{◌≡◌, drop}
use Rattle.mspec_expr.specs.Kinds.{entry_fields}
use Rattle.mspec_expr.specs.Ranges.{field_named}
use Rattle.mspec_ranges.proofs.paths.field_named.Given as goal

abbrev pub invariant-loop-field : goal.invariant-loop-field
invariant-loop-field l =
    field_named l.implicit l.name (entry_fields l.case l.fields) ≡ field_named l.implicit l.name (entry_fields l.case (drop l.field-index l.fields))
