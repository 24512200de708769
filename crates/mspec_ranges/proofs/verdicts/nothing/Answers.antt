use Rattle.std.proofs.Common.{[], ◌∷◌, Some, refl, ap, ◌∙◌, sym}
use Rattle.mspec_expr.specs.declared.kinds.Fault.{Fault}
use Rattle.mspec_ranges.specs.Verdicts.{earlier}
use Rattle.mspec_ranges.proofs.FaultLaws.{earliest-append}
use Rattle.mspec_ranges.proofs.verdicts.nothing.Goals as goal

pub returns : goal.returns
returns c faults e =
    let one : Fault = record { place = c.args.place; why = c.args.why } in
    record {
      meant = refl;
      optional = refl;
      fault = c.earlier.ensures ∙ ap (λ m. earlier (Some one) m) e ∙ sym (earliest-append (one ∷ []) faults);
    }
