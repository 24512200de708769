-- What the code keeps of a range that an operator gives: itself, where it stays inside the widest.
use Rattle.std.specs.Prelude.{Bool, true, false, ◌-◌, ◌^◌, ℤ, pos, unsigned_abs, Option, Some, None, if◌then◌else◌}
use Rattle.mspec_expr.specs.declared.kinds.Range.{Range}
use Rattle.mspec_expr.specs.Kinds.{binary_digits, in_range}
use Rattle.mspec_expr.specs.Ranges.{lies_in, widest}
use Rattle.mspec_ranges.specs.declared.spans.Span.{Span}
use Rattle.mspec_ranges.specs.declared.spans.Span.TheVariants.{Undefined, Leaves, Within}

abbrev pub span : Range → Span
span r = if lies_in widest r then Within r else Leaves

abbrev pub span_of : Option Range → Span
span_of None = Undefined
span_of (Some r) = span r

abbrev pub is_leaves : Span → Bool
is_leaves Leaves = true
is_leaves other = false

-- a number that stays inside the widest
abbrev pub contained : ℤ → Option ℤ
contained n = if in_range widest n then Some n else None

-- the greatest number of as many binary digits
abbrev pub filled : ℤ → ℤ
filled n = pos (2 ^ binary_digits (unsigned_abs n) - 1)

-- a range that stays inside the widest, or none
abbrev pub found_span : Option Range → Span
found_span (Some r) = Within r
found_span None = Leaves
