use Rattle.std.proofs.Common.{◌∙◌, ap, sym, Some}
use Rattle.mspec_expr.specs.declared.kinds.ExprWhy.TheVariants.{TooWide}
use Rattle.mspec_expr.specs.Ranges.{is_kind, is_number, kind_wrong, leaves, meant_numbers, negated_range, wrong_if}
use Rattle.mspec_ranges.specs.Spans.{is_leaves}
use Rattle.mspec_ranges.specs.Verdicts.{earliest}
use Rattle.mspec_ranges.proofs.VerdictLaws.{leaves_is, negated_none, negated_whole, numbers_proper, own_one}
use Rattle.mspec_ranges.proofs.operators.negated.Goals as goal

pub returns-in_default : goal.returns-in_default
returns-in_default c x h =
    let wrong = c.kind_wrong-wrong.ensures ∙ ap (λ b. earliest (kind_wrong b c.args.place)) (c.may_be_number.ensures ∙ ap (λ m. is_kind is_number m) h.meant) in
    negated_none c.args.d.now c.args.place x _ _ c.number_is.result
    (ap (λ m. meant_numbers c.args.d.now m) (sym h.meant) ∙ sym c.numbers_of.ensures ∙ c.in_default.is) wrong h.fault c.number_is.ensures

pub negated_span-span-requires : goal.negated_span-span-requires
negated_span-span-requires c =
    numbers_proper c.args.d.now c.args.a.meant c.in-Some.r (sym c.numbers_of.ensures ∙ c.in-Some.is)

pub returns : goal.returns
returns c x h =
    let wrong = c.kind_wrong-wrong.ensures ∙ ap (λ b. earliest (kind_wrong b c.args.place)) (c.may_be_number.ensures ∙ ap (λ m. is_kind is_number m) h.meant) in
    let leaving = c.leaves.ensures ∙ ap is_leaves c.negated_span-span.ensures ∙ leaves_is (negated_range (Some c.in-Some.r)) in
    let wide = c.wrong_if-wide.ensures ∙ ap (λ b. earliest (wrong_if b c.args.place TooWide)) leaving in
    negated_whole c.args.d.now c.args.place x c.in-Some.r c.negated_span-span.result c.earlier.result _ c.number_is-2.result
    (ap (λ m. meant_numbers c.args.d.now m) (sym h.meant) ∙ sym c.numbers_of.ensures ∙ c.in-Some.is)
    c.negated_span-span.ensures
    (c.earlier.ensures ∙ own_one (kind_wrong (is_kind is_number x.meant) c.args.place) (wrong_if (leaves (negated_range (Some c.in-Some.r))) c.args.place TooWide) _ _ wrong wide)
    h.fault c.number_is-2.ensures
