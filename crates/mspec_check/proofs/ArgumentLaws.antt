-- Arguments, as they are gone over.
use Rattle.std.proofs.Common.{◌≡◌, ℕ, ◌+◌, List, ◌∷◌, drop, Option, sym, ap, ◌∙◌}
use Rattle.std.specs.Prelude.{slice_get}
use Rattle.mspec_tree.specs.declared.words.Place.{Place}
use Rattle.mspec_tree.specs.declared.exprs.Expr.{Expr}
use Rattle.mspec_tree.specs.declared.defs.Param.{Param}
use Rattle.mspec_tree.specs.declared.defs.Description.{Description}
use Rattle.mspec_expr.specs.declared.scopes.Scope.{Scope}
use Rattle.mspec_rules.specs.declared.wrongs.Wrong.{Wrong}
use Rattle.mspec_rules.specs.Found.{found_then}
use Rattle.mspec_rules.specs.Wrongs.{earlier, found}
use Rattle.mspec_check.specs.declared.wants.Want.{Want}
use Rattle.mspec_check.specs.Arguments.{argument_wrongs, arguments_wrongs, param_want}

pub arguments_more : (d : Description) (scope : Scope) (named : Place) (params : List Param) (args : List Expr) (i : ℕ) (e : Expr) (want : Want) (told one next : Option Wrong)
    → drop i args ≡ e ∷ drop (i + 1) args → want ≡ param_want d (slice_get params i)
    → one ≡ found (argument_wrongs d scope named want e) → next ≡ earlier told one
    → earlier next (found (arguments_wrongs d scope named params (i + 1) (drop (i + 1) args))) ≡ earlier told (found (arguments_wrongs d scope named params i (drop i args)))
arguments_more d scope named params args i e want told one next r w o n =
    let rest = arguments_wrongs d scope named params (i + 1) (drop (i + 1) args) in
    let here : one ≡ found (argument_wrongs d scope named (param_want d (slice_get params i)) e) =
    o ∙ ap (λ v. found (argument_wrongs d scope named v e)) w in
    ap (λ v. earlier v (found rest)) (n ∙ ap (earlier told) here)
    ∙ found_then told (argument_wrongs d scope named (param_want d (slice_get params i)) e) rest
    ∙ sym (ap (λ l. earlier told (found (arguments_wrongs d scope named params i l))) r)
