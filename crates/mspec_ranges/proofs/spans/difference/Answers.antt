use Rattle.std.proofs.Common.{◌∙◌}
use Rattle.mspec_ranges.proofs.SpanLaws.{bounds, code_difference, high_wide, low_wide, span_same}
use Rattle.mspec_ranges.proofs.spans.difference.Goals as goal

pub returns : goal.returns
returns c =
    let a = bounds c.args.a c.requires.left in
    let b = bounds c.args.b c.requires.right in
    c.span_between.ensures ∙ span_same _ _ _ _ (code_difference c.args.a.low c.args.b.high (low_wide c.args.a a) (high_wide c.args.b b)) (code_difference c.args.a.high c.args.b.low (high_wide c.args.a a) (low_wide c.args.b b))
