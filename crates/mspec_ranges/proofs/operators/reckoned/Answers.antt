use Rattle.std.proofs.Common.{◌∙◌, ap, sym}
use Rattle.mspec_expr.specs.Ranges.{both_numbers, kind_wrong, meant_numbers, two_wrong}
use Rattle.mspec_ranges.specs.Verdicts.{earliest}
use Rattle.mspec_ranges.proofs.VerdictLaws.{numbers_proper, own_one, reckoned_half, reckoned_none, reckoned_whole}
use Rattle.mspec_ranges.proofs.operators.reckoned.Goals as goal

pub returns-in_default : goal.returns-in_default
returns-in_default c x y h k =
    let wrong = c.kind_wrong-wrong.ensures ∙ ap (λ b. earliest (kind_wrong b c.args.place)) (c.both_numbers.ensures x y h k) in
    let under = c.earlier-under.ensures ∙ own_one x.faults y.faults _ _ h.fault k.fault in
    reckoned_none c.args.d.now c.args.place c.args.o x y _ _ c.number_is.result
    (ap (λ m. meant_numbers c.args.d.now m) (sym h.meant) ∙ sym c.numbers_of.ensures ∙ c.in_default.is) wrong under c.number_is.ensures

pub returns-in_default-numbers_of : goal.returns-in_default-numbers_of
returns-in_default-numbers_of c x y h k =
    let wrong = c.kind_wrong-wrong.ensures ∙ ap (λ b. earliest (kind_wrong b c.args.place)) (c.both_numbers.ensures x y h k) in
    let under = c.earlier-under.ensures ∙ own_one x.faults y.faults _ _ h.fault k.fault in
    reckoned_half c.args.d.now c.args.place c.args.o x y c.in-Some.left _ _ c.number_is-in_default-numbers_of.result
    (ap (λ m. meant_numbers c.args.d.now m) (sym h.meant) ∙ sym c.numbers_of.ensures ∙ c.in-Some.is)
    (ap (λ m. meant_numbers c.args.d.now m) (sym k.meant) ∙ sym c.numbers_of-2.ensures ∙ c.in_default-numbers_of.is)
    wrong under c.number_is-in_default-numbers_of.ensures

pub two_span-span-requires-clause-left : goal.two_span-span-requires-clause-left
two_span-span-requires-clause-left c =
    numbers_proper c.args.d.now c.args.a.meant c.in-Some.left (sym c.numbers_of.ensures ∙ c.in-Some.is)

pub two_span-span-requires-clause-right : goal.two_span-span-requires-clause-right
two_span-span-requires-clause-right c =
    numbers_proper c.args.d.now c.args.b.meant c.in-Some-numbers_of.right (sym c.numbers_of-2.ensures ∙ c.in-Some-numbers_of.is)

pub returns : goal.returns
returns c x y h k =
    let wrong = c.kind_wrong-wrong.ensures ∙ ap (λ b. earliest (kind_wrong b c.args.place)) (c.both_numbers.ensures x y h k) in
    let under = c.earlier-under.ensures ∙ own_one x.faults y.faults _ _ h.fault k.fault in
    reckoned_whole c.args.d.now c.args.place c.args.o x y c.in-Some.left c.in-Some-numbers_of.right c.two_span-span.result c.earlier-own.result _ c.number_is-2.result
    (ap (λ m. meant_numbers c.args.d.now m) (sym h.meant) ∙ sym c.numbers_of.ensures ∙ c.in-Some.is)
    (ap (λ m. meant_numbers c.args.d.now m) (sym k.meant) ∙ sym c.numbers_of-2.ensures ∙ c.in-Some-numbers_of.is)
    c.two_span-span.ensures
    (c.earlier-own.ensures ∙ own_one (kind_wrong (both_numbers x y) c.args.place) (two_wrong c.args.o c.in-Some.left c.in-Some-numbers_of.right c.args.place) _ _ wrong c.two_wrong.ensures)
    under c.number_is-2.ensures
