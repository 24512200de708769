use Rattle.std.proofs.Common.{◌∙◌, sym, arith}
use Rattle.std.proofs.lemmas.Int.{ints}
use Rattle.std.specs.Prelude.{◌*ℤ◌}
use Rattle.mspec_expr.specs.Ranges.{power, range}
use Rattle.mspec_ranges.proofs.SpanLaws.{bounds, shift_leaves, unless_none}
use Rattle.mspec_ranges.proofs.spans.shifted_left.Goals as goal

pub returns-then-b-gt63 : goal.returns-then-b-gt63
returns-then-b-gt63 c =
    let a = bounds c.args.a c.requires.left in
    let b = bounds c.args.b c.requires.right in
    let first = sym c.is_negative.ensures ∙ c.if-is_negative.false in
    let second = sym c.is_negative-else-is_negative.ensures ∙ c.if-is_negative-2.false in
    sym (unless_none c.args.a c.args.b (range (c.args.a.low *ℤ power c.args.b.low) (c.args.a.high *ℤ power c.args.b.high)) first second ∙ shift_leaves (c.args.a.low *ℤ power c.args.b.low) c.args.a.high c.args.b.high (grind (arith, ints)) (grind (arith, ints)))
