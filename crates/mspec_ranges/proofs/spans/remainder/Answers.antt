use Rattle.std.proofs.Common.{◌≡◌, ◌-◌, ◌∙◌, sym, to_z}
use Rattle.std.specs.Int.{w128}
use Rattle.std.specs.Prelude.{pos}
use Rattle.mspec_expr.specs.Ranges.{greatest_size, is_negative}
use Rattle.mspec_ranges.proofs.SpanLaws.{negated_bits, none_less, one_less, remainder_size, size_most, span_same}
use Rattle.mspec_ranges.proofs.spans.remainder.Goals as goal
use Rattle.mspec_ranges.proofs.spans.remainder.Goals.{then-size-gt0, else-size-gt0}

pub returns-then-is_negative : goal.returns-then-is_negative
returns-then-is_negative c =
    let size = c.greatest_size-size.ensures.value in
    let bound = c.greatest_size-size.ensures.bound in
    let most : to_z w128 c.if-size-gt0.most-bits ≡ pos (greatest_size c.args.b - 1) = elim c.if-size-gt0.branch [
      | then-size-gt0 w ↦ one_less c.greatest_size-size.result (greatest_size c.args.b) c.if-size-gt0.most-bits size bound w.if-size-gt0.true w.most-is
      | else-size-gt0 w ↦ none_less c.greatest_size-size.result (greatest_size c.args.b) c.if-size-gt0.most-bits size bound w.if-size-gt0.false w.most-is
    ] in
    c.span_between.ensures
    ∙ span_same _ _ _ _ (negated_bits c.if-size-gt0.most-bits (greatest_size c.args.b - 1) most (size_most c.greatest_size-size.result (greatest_size c.args.b) size bound)) most
    ∙ sym (remainder_size (is_negative c.args.a) c.args.b (sym c.is_negative.ensures ∙ c.if-is_negative.true))
