use Rattle.std.proofs.Common.{◌++◌, ◌∙◌, ap}
use Rattle.mspec_expr.specs.Ranges.{kind_wrong}
use Rattle.mspec_ranges.specs.Verdicts.{earlier}
use Rattle.mspec_ranges.proofs.VerdictLaws.{own_two}
use Rattle.mspec_ranges.proofs.operators.tested.Goals as goal

pub returns : goal.returns
returns c x y h k =
    let own = kind_wrong c.args.right c.args.place in
    c.is.ensures (own ++ x.faults ++ y.faults)
    (c.earlier.ensures ∙ ap (λ m. earlier c.kind_wrong.result m) c.earlier-under.ensures ∙ own_two own x.faults y.faults _ _ _ c.kind_wrong.ensures h.fault k.fault)
