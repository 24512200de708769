use Rattle.std.proofs.Common.{◌≡◌, ◌∙◌, Option, Some, None, ap, sym, subst}
use Rattle.std.specs.Option.{option_copied}
use Rattle.std.specs.Prelude.{find}
use Rattle.std.specs.Str.{bytes_eq}
use Rattle.mspec_tree.specs.declared.defs.Param.{Param}
use Rattle.mspec_expr.specs.declared.kinds.Meant.{Meant}
use Rattle.mspec_expr.specs.declared.kinds.Meant.TheVariants.{EnumOf}
use Rattle.mspec_expr.specs.Kinds.{params_of}
use Rattle.mspec_expr.specs.Ranges.{attribute_is, dotted_meant, is}
use Rattle.mspec_ranges.specs.Verdicts.{Tells}
use Rattle.mspec_ranges.proofs.paths.dotted.Goals as goal

pub returns-in-Some-param_named : goal.returns-in-Some-param_named
returns-in-Some-param_named c x h =
    let found : find (λ (param : Param). bytes_eq param.name c.args.name.now) (params_of c.args.d.now c.in-EnumOf.def) ≡ Some c.in-Some-param_named.param.now =
    sym (ap (λ l. find (λ (param : Param). bytes_eq param.name c.args.name.now) l) c.params_of.ensures) ∙ sym c.param_named.ensures ∙ ap option_copied c.in-Some-param_named.is in
    let meant : x.meant ≡ Some (EnumOf c.in-EnumOf.def) = sym h.meant ∙ c.in-Some.is ∙ ap Some c.in-EnumOf.is in
    subst (λ (m : Option Meant). Tells c.is.result (dotted_meant c.args.d.now c.args.scope.now c.args.place c.args.name.now x.faults m)) (sym meant)
    (subst (λ (o : Option Param). Tells c.is.result (attribute_is c.args.d.now c.args.place x.faults o)) (sym found)
    (subst (λ (m : Meant). Tells c.is.result (is m x.faults)) c.ref_meant.ensures (c.is.ensures x.faults h.fault)))

pub returns-in-None-param_named : goal.returns-in-None-param_named
returns-in-None-param_named c x h =
    let found : find (λ (param : Param). bytes_eq param.name c.args.name.now) (params_of c.args.d.now c.in-EnumOf.def) ≡ None =
    sym (ap (λ l. find (λ (param : Param). bytes_eq param.name c.args.name.now) l) c.params_of.ensures) ∙ sym c.param_named.ensures ∙ ap option_copied c.in-None-param_named.is in
    let meant : x.meant ≡ Some (EnumOf c.in-EnumOf.def) = sym h.meant ∙ c.in-Some.is ∙ ap Some c.in-EnumOf.is in
    let v = c.nothing-in-None-param_named.result in
    subst (λ (m : Option Meant). Tells v (dotted_meant c.args.d.now c.args.scope.now c.args.place c.args.name.now x.faults m)) (sym meant)
    (subst (λ (o : Option Param). Tells v (attribute_is c.args.d.now c.args.place x.faults o)) (sym found) (c.nothing-in-None-param_named.ensures x.faults h.fault))
