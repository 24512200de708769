use Rattle.std.proofs.Common.{◌++◌, ◌∙◌, subst, ℤ}
use Rattle.std.specs.Prelude.{pos}
use Rattle.std.specs.Int.{w128}
use Rattle.std.proofs.lemmas.Int.{to_z-of_z}
use Rattle.mspec_expr.specs.declared.kinds.Meant.TheVariants.{Number}
use Rattle.mspec_expr.specs.Ranges.{is, kind_wrong, range}
use Rattle.mspec_ranges.specs.Verdicts.{Tells}
use Rattle.mspec_ranges.proofs.VerdictLaws.{own_one}
use Rattle.mspec_ranges.proofs.operators.measured.Goals as goal

pub returns : goal.returns
returns c x h =
    let own = kind_wrong c.args.right c.args.place in
    subst (λ (most : ℤ). Tells c.is.result (is (Number (range (pos 0) most)) (own ++ x.faults))) (to_z-of_z w128 c.args.most c.ranges.most)
    (c.is.ensures (own ++ x.faults) (c.earlier.ensures ∙ own_one own x.faults _ _ c.kind_wrong-wrong.ensures h.fault))
