use Rattle.std.proofs.Common.{◌≡◌, drop}
use Rattle.mspec_expr.specs.Kinds.{first_cases}
use Rattle.mspec_expr.proofs.names.first_cases.Given as goal

abbrev pub invariant-loop-field : goal.invariant-loop-field
invariant-loop-field l = first_cases l.fields ≡ first_cases (drop l.field-index l.fields)
