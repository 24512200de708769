use Rattle.std.proofs.Common.{◌∙◌}
use Rattle.mspec_ranges.proofs.SpanLaws.{bounds, code_sum, high_wide, low_wide, span_same}
use Rattle.mspec_ranges.proofs.spans.sum.Goals as goal

pub returns : goal.returns
returns c =
    let a = bounds c.args.a c.requires.left in
    let b = bounds c.args.b c.requires.right in
    c.span_between.ensures ∙ span_same _ _ _ _ (code_sum c.args.a.low c.args.b.low (low_wide c.args.a a) (low_wide c.args.b b)) (code_sum c.args.a.high c.args.b.high (high_wide c.args.a a) (high_wide c.args.b b))
