use Rattle.std.proofs.Common.{◌≡◌, ◌∙◌, [], Option, Some, None, ap, refl, subst, sym}
use Rattle.std.specs.Option.{option_copied}
use Rattle.std.specs.Prelude.{find}
use Rattle.std.specs.Str.{bytes_eq}
use Rattle.mspec_expr.specs.declared.scopes.MeantName.{MeantName}
use Rattle.mspec_expr.specs.Ranges.{found_name, name_in}
use Rattle.mspec_ranges.specs.Verdicts.{Tells}
use Rattle.mspec_ranges.proofs.paths.name_is.Goals as goal

pub returns-in-Some : goal.returns-in-Some
returns-in-Some c =
    let found : name_in c.args.scope.now c.args.name.now ≡ Some c.in-Some.found.now =
    sym (ap (λ l. find (λ (seen : MeantName). bytes_eq seen.name c.args.name.now) l) c.as_slice.ensures) ∙ sym c.meant_named.ensures ∙ ap option_copied c.in-Some.is in
    subst (λ (m : Option MeantName). Tells c.field_is.result (found_name c.args.place m)) (sym found) (c.field_is.ensures [] refl)

pub returns-in-None : goal.returns-in-None
returns-in-None c =
    let found : name_in c.args.scope.now c.args.name.now ≡ None =
    sym (ap (λ l. find (λ (seen : MeantName). bytes_eq seen.name c.args.name.now) l) c.as_slice.ensures) ∙ sym c.meant_named.ensures ∙ ap option_copied c.in-None.is in
    subst (λ (m : Option MeantName). Tells c.nothing.result (found_name c.args.place m)) (sym found) (c.nothing.ensures [] refl)
