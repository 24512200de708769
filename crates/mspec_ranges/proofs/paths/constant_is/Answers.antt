use Rattle.std.proofs.Common.{◌≡◌, ◌∙◌, [], Bool, true, false, ap, refl, subst, sym}
use Rattle.std.specs.Prelude.{find}
use Rattle.std.specs.Str.{bytes_eq}
use Rattle.mspec_tree.specs.declared.defs.Constant.{Constant}
use Rattle.mspec_expr.specs.Kinds.{constants_of}
use Rattle.mspec_expr.specs.Ranges.{constant_is, has_constant}
use Rattle.mspec_ranges.specs.Verdicts.{Tells}
use Rattle.mspec_ranges.proofs.PathLaws.{has_copied}
use Rattle.mspec_ranges.proofs.paths.constant_is.Goals as goal

pub returns-then-is_some : goal.returns-then-is_some
returns-then-is_some c =
    let has : has_constant (find (λ constant. bytes_eq constant.name c.args.name.now) (constants_of c.args.d.now c.args.def)) ≡ true =
    sym (ap (λ l. has_constant (find (λ (constant : Constant). bytes_eq constant.name c.args.name.now) l)) c.constants_of.ensures) ∙ sym (ap has_constant c.constant_named.ensures) ∙ has_copied c.constant_named.result ∙ sym c.is_some.ensures ∙ c.if-is_some.true in
    subst (λ (b : Bool). Tells c.is.result (constant_is c.args.place c.args.def b)) (sym has) (c.is.ensures [] refl)

pub returns-else-is_some : goal.returns-else-is_some
returns-else-is_some c =
    let has : has_constant (find (λ constant. bytes_eq constant.name c.args.name.now) (constants_of c.args.d.now c.args.def)) ≡ false =
    sym (ap (λ l. has_constant (find (λ (constant : Constant). bytes_eq constant.name c.args.name.now) l)) c.constants_of.ensures) ∙ sym (ap has_constant c.constant_named.ensures) ∙ has_copied c.constant_named.result ∙ sym c.is_some.ensures ∙ c.if-is_some.false in
    subst (λ (b : Bool). Tells c.nothing.result (constant_is c.args.place c.args.def b)) (sym has) (c.nothing.ensures [] refl)
