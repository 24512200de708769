use Rattle.std.proofs.Common.{[], ◌∙◌, ap, refl, subst, sym, true}
use Rattle.mspec_expr.specs.declared.kinds.ExprWhy.TheVariants.{TooWide}
use Rattle.mspec_expr.specs.Ranges.{Judged, literal_is, wrong_if}
use Rattle.mspec_ranges.specs.Verdicts.{Tells}
use Rattle.mspec_ranges.proofs.VerdictLaws.{literal_leaves, literal_stays}
use Rattle.mspec_ranges.proofs.operators.literal.Goals as goal

pub returns-in-Flag : goal.returns-in-Flag
returns-in-Flag c =
    subst (λ (j : Judged). Tells c.is.result j) (sym (ap (literal_is c.args.place) c.in-Flag.is)) (c.is.ensures [] refl)

pub returns-in-Some : goal.returns-in-Some
returns-in-Some c =
    subst (λ (j : Judged). Tells c.is-in-Some.result j)
    (sym (ap (literal_is c.args.place) c.in-Num.is ∙ literal_stays c.args.place c.in-Num.negative c.in-Num.size c.in-Some.number (sym c.literal_number.ensures ∙ c.in-Some.is)))
    (c.is-in-Some.ensures [] refl)

pub returns-in-None : goal.returns-in-None
returns-in-None c =
    subst (λ (j : Judged). Tells c.is-in-None.result j)
    (sym (ap (literal_is c.args.place) c.in-Num.is ∙ literal_leaves c.args.place c.in-Num.negative c.in-Num.size (sym c.literal_number.ensures ∙ c.in-None.is)))
    (c.is-in-None.ensures (wrong_if true c.args.place TooWide) c.wrong_if-wide.ensures)
