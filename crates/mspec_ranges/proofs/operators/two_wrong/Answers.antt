use Rattle.std.proofs.Common.{◌++◌, ◌∙◌, ◌&&◌, ◌||◌, ap}
use Rattle.std.specs.Prelude.{int_lt, pos}
use Rattle.mspec_expr.specs.declared.kinds.ExprWhy.TheVariants.{DivisorMayBeZero, OperandRange, TooWide}
use Rattle.mspec_expr.specs.Ranges.{divides, holds_zero, is_negative, leaves, shifts, takes_no_negative, two_range, wrong_if}
use Rattle.mspec_ranges.specs.Spans.{is_leaves}
use Rattle.mspec_ranges.specs.Verdicts.{earlier, earliest}
use Rattle.mspec_ranges.proofs.VerdictLaws.{leaves_is, own_one}
use Rattle.mspec_ranges.proofs.operators.two_wrong.Goals as goal

pub returns : goal.returns
returns c =
    let o = c.args.o in
    let a = c.args.a in
    let b = c.args.b in
    let place = c.args.place in
    let wide = c.wrong_if-wide.ensures ∙ ap (λ t. earliest (wrong_if t place TooWide)) (c.leaves.ensures ∙ ap is_leaves c.requires ∙ leaves_is (two_range o a b)) in
    let zero = c.wrong_if-zero.ensures ∙ ap (λ t. earliest (wrong_if t place DivisorMayBeZero)) c.divides_badly.ensures in
    let operand = c.wrong_if-operand.ensures ∙ ap (λ t. earliest (wrong_if t place OperandRange)) c.takes_badly.ensures in
    let first = wrong_if (leaves (two_range o a b)) place TooWide in
    let second = wrong_if (divides o && holds_zero b) place DivisorMayBeZero in
    let third = wrong_if (takes_no_negative o && (is_negative a || is_negative b) || shifts o && int_lt (pos 63) b.high) place OperandRange in
    c.earlier-2.ensures
    ∙ ap (λ m. earlier m c.wrong_if-operand.result) c.earlier.ensures
    ∙ own_one (first ++ second) third _ _ (own_one first second _ _ wide zero) operand
