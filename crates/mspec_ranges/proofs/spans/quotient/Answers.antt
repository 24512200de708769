use Rattle.std.proofs.Common.{◌≡◌, ◌∙◌, sym, arith, true}
use Rattle.std.specs.Prelude.{◌||◌}
use Rattle.std.proofs.lemmas.Int.{ints}
use Rattle.mspec_expr.specs.Ranges.{greatest_size, is_negative}
use Rattle.mspec_ranges.proofs.SpanLaws.{bounds, by_ends, code_negative, code_size, by_size, divided, or_left, or_right, positive, span_same}
use Rattle.mspec_ranges.proofs.spans.quotient.Goals as goal
use Rattle.mspec_ranges.proofs.spans.quotient.Goals.{then-is_negative-via-then-is_negative, then-is_negative-via-else-is_negative+then-is_negative-2}

pub returns-then-is_negative : goal.returns-then-is_negative
returns-then-is_negative c =
    let negative : (is_negative c.args.a || is_negative c.args.b) ≡ true = elim c.then-is_negative.branch [
      | then-is_negative-via-then-is_negative w ↦ or_left _ _ (sym c.is_negative.ensures ∙ w.if-is_negative.true)
      | then-is_negative-via-else-is_negative+then-is_negative-2 w ↦
          or_right _ _ (sym c.is_negative.ensures ∙ w.if-is_negative.false) (sym w.is_negative-else-is_negative.ensures ∙ w.if-is_negative-2.true)
    ] in
    c.span_between.ensures
    ∙ span_same _ _ _ _ (code_negative c.greatest_size-most.result (greatest_size c.args.a) c.greatest_size-most.ensures.value c.greatest_size-most.ensures.bound) (code_size c.greatest_size-most.result (greatest_size c.args.a) c.greatest_size-most.ensures.value c.greatest_size-most.ensures.bound)
    ∙ sym (by_size c.args.a c.args.b negative)

pub returns : goal.returns
returns c =
    let a = bounds c.args.a c.requires.left in
    let b = bounds c.args.b c.requires.right in
    let first = sym c.is_negative.ensures ∙ c.if-is_negative.false in
    let second = sym c.is_negative-else-is_negative.ensures ∙ c.if-is_negative-2.false in
    let zero = sym c.holds_zero.ensures ∙ c.if-holds_zero.false in
    let least = positive c.args.b b second zero in
    c.span_between-2.ensures
    ∙ span_same _ _ _ _
    (divided c.args.a.low c.args.b.high (grind (arith, ints)) (omega (arith, ints)) (omega (arith, ints)) (omega (arith, ints)))
    (divided c.args.a.high c.args.b.low (grind (arith, ints)) (omega (arith, ints)) (omega (arith, ints)) (omega (arith, ints)))
    ∙ sym (by_ends c.args.a c.args.b first second zero)
