use Rattle.std.proofs.Common.{◌∙◌}
use Rattle.mspec_ranges.proofs.SpanLaws.{bounds, code_negation, high_wide, low_wide, span_same}
use Rattle.mspec_ranges.proofs.spans.negated_span.Goals as goal

pub returns : goal.returns
returns c =
    let r = bounds c.args.r c.requires in
    c.span_between.ensures ∙ span_same _ _ _ _ (code_negation c.args.r.high (high_wide c.args.r r)) (code_negation c.args.r.low (low_wide c.args.r r))
