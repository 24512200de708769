use Rattle.std.proofs.Common.{◌++◌, ◌∙◌, ap}
use Rattle.mspec_expr.specs.Ranges.{is_flag, is_kind, kind_wrong}
use Rattle.mspec_ranges.specs.Verdicts.{earliest}
use Rattle.mspec_ranges.proofs.VerdictLaws.{own_one}
use Rattle.mspec_ranges.proofs.operators.denied.Goals as goal

pub returns : goal.returns
returns c x h =
    let own = kind_wrong (is_kind is_flag x.meant) c.args.place in
    let wrong = c.kind_wrong-wrong.ensures ∙ ap (λ b. earliest (kind_wrong b c.args.place)) (c.may_be_flag.ensures ∙ ap (λ m. is_kind is_flag m) h.meant) in
    c.is.ensures (own ++ x.faults) (c.earlier.ensures ∙ own_one own x.faults _ _ wrong h.fault)
