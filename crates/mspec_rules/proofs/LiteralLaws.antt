-- Attributes of a constant, one after another.
use Rattle.std.proofs.Common.{◌≡◌, ℕ, zero, suc, ◌+◌, ◌<◌, Bool, true, false, ◌&&◌, List, [], ◌∷◌, length, drop, get_or, Option, Some, None, refl, sym, ap, ◌∙◌, arith}
use Rattle.std.proofs.lemmas.Option.{get_or_from_slice_get, slice_get_within}
use Rattle.std.specs.Prelude.{slice_get}
use Rattle.mspec_tree.specs.declared.words.Lit.{Lit}
use Rattle.mspec_tree.specs.declared.defs.Param.{Param}
use Rattle.mspec_tree.specs.declared.defs.Description.{Description}
use Rattle.mspec_expr.specs.Kinds.{ref_simple}
use Rattle.mspec_rules.specs.Found.{from_here}
use Rattle.mspec_rules.specs.Literals.{attr_fits, attrs_fit}

dropped_none : {A : Type 0} (items : List A) (i : ℕ) → slice_get items i ≡ None → drop i items ≡ []
dropped_none [] zero e = refl
dropped_none [] (suc i) e = refl
dropped_none (x ∷ items) zero e = absurd (cc)
dropped_none (x ∷ items) (suc i) e = dropped_none items i e

dropped_some : {A : Type 0} (items : List A) (i : ℕ) (item : A) → slice_get items i ≡ Some item → drop i items ≡ item ∷ drop (i + 1) items
dropped_some items i item e = from_here items i item (slice_get_within items i item e) (sym (get_or_from_slice_get items i item item e))

-- an attribute past the parameters
pub attr_past : (d : Description) (params : List Param) (attrs : List Lit) (i : ℕ) (lit : Lit)
    → drop i attrs ≡ lit ∷ drop (i + 1) attrs → None ≡ slice_get params i
    → attrs_fit d (drop i params) (drop i attrs) ≡ false
attr_past d params attrs i lit e n = ap (attrs_fit d (drop i params)) e ∙ ap (λ l. attrs_fit d l (lit ∷ drop (i + 1) attrs)) (dropped_none params i (sym n))

-- one with its parameter
pub attr_here : (d : Description) (params : List Param) (attrs : List Lit) (i : ℕ) (lit : Lit) (param : Param)
    → drop i attrs ≡ lit ∷ drop (i + 1) attrs → Some param ≡ slice_get params i
    → attrs_fit d (drop i params) (drop i attrs) ≡ (attr_fits (ref_simple d param.kind) lit && attrs_fit d (drop (i + 1) params) (drop (i + 1) attrs))
attr_here d params attrs i lit param e s = ap (attrs_fit d (drop i params)) e ∙ ap (λ l. attrs_fit d l (lit ∷ drop (i + 1) attrs)) (dropped_some params i param (sym s))

pub attrs_end : (d : Description) (params : List Param) (attrs : List Lit) → attrs ≡ [] → attrs_fit d params attrs ≡ true
attrs_end d params attrs e = ap (attrs_fit d params) e ∙ no_more params
  where
    no_more : (params : List Param) → attrs_fit d params [] ≡ true
    no_more [] = refl
    no_more (param ∷ params) = refl
