-- A count over one list of places and then another, and where it ends.
use Rattle.std.proofs.Common.{◌≡◌, ℕ, zero, suc, ◌+◌, List, [], ◌∷◌, ◌++◌, ◌-◌, Option, Some, None, refl, sym, ap, ◌∙◌, arith}
use Rattle.std.specs.Prelude.{slice_get}
use Rattle.std.specs.List.{flat_map}
use Rattle.mspec_tree.specs.declared.words.Place.{Place}
use Rattle.mspec_tree.specs.declared.exprs.Expr.{Expr, out-Expr}
use Rattle.mspec_tree.specs.declared.exprs.Shape.{Shape, out-Shape, out-roll-Shape, roll-Shape}
use Rattle.mspec_tree.specs.declared.exprs.Shape.TheOpen.{Shape-F}
use Rattle.mspec_rules.specs.Limits.{nodes_to, shape_nodes}
use Rattle.mspec_rules.specs.declared.parts.Count.{Count}
use Rattle.mspec_rules.specs.declared.parts.Count.TheVariants.{At, Left}
use Rattle.mspec_rules.specs.Counts.{counted, one_more, reached}

pub counted_then : (count : Count) (xs ys : List Place) → counted (counted count xs) ys ≡ counted count (xs ++ ys)
counted_then count [] ys = refl
counted_then count (x ∷ xs) ys = counted_then (one_more count x) xs ys

reached_at : (place : Place) (places : List Place) → counted (At place) places ≡ At place
reached_at place [] = refl
reached_at place (p ∷ places) = reached_at place places

-- what a count reaches is the first past so many
pub reached_past : (most : ℕ) (places : List Place) → reached (counted (Left most) places) ≡ slice_get places most
reached_past zero [] = refl
reached_past (suc most) [] = refl
reached_past zero (place ∷ places) = ap reached (reached_at place places)
reached_past (suc most) (place ∷ places) = reached_past most places

-- an item was gone over, and the rest of the list is left
pub counted_more : {A : Type 0} (places : A → List Place) (count next : Count) (items rest : List A) (item : A)
    → items ≡ item ∷ rest → next ≡ counted count (places item)
    → counted count (flat_map places items) ≡ counted next (flat_map places rest)
counted_more places count next items rest item e n =
    ap (λ l. counted count (flat_map places l)) e
    ∙ sym (counted_then count (places item) (flat_map places rest))
    ∙ ap (λ o. counted o (flat_map places rest)) (sym n)

-- ---- the nodes of an expression, by its outermost form

pub shape_of : (e : Expr) (f : Shape-F Shape Expr) → (out-Expr e).shape ≡ roll-Shape f → out-Shape (out-Expr e).shape ≡ f
shape_of e f h = ap out-Shape h ∙ out-roll-Shape f

one_level : (levels : ℕ) (e : Expr) → (levels ≡ 0 → ⊥) → nodes_to levels e ≡ shape_nodes (nodes_to (levels - 1)) (out-Expr e).place (out-Shape (out-Expr e).shape)
one_level zero e h = absurd (h refl)
one_level (suc n) e h =
    let under : n ≡ suc n - 1 = omega arith in
    ap (λ k. shape_nodes (nodes_to k) (out-Expr e).place (out-Shape (out-Expr e).shape)) under

pub by_shape : (levels : ℕ) (e : Expr) (f : Shape-F Shape Expr) (count all : Count) → (levels ≡ 0 → ⊥) → out-Shape (out-Expr e).shape ≡ f
    → all ≡ counted count (shape_nodes (nodes_to (levels - 1)) (out-Expr e).place f) → all ≡ counted count (nodes_to levels e)
by_shape levels e f count all h s t = rw (one_level levels e h, s) t

-- the nodes of an operand, then the place, then those of others
pub one_then : (count before all : Count) (place : Place) (first : List Place)
    → before ≡ counted count first → all ≡ one_more before place → all ≡ counted count (first ++ place ∷ [])
one_then count before all place first b a = a ∙ ap (λ k. one_more k place) b ∙ counted_then count first (place ∷ [])

pub two_then : (count before at all : Count) (place : Place) (first second : List Place)
    → before ≡ counted count first → at ≡ one_more before place → all ≡ counted at second → all ≡ counted count (first ++ place ∷ second)
two_then count before at all place first second b o a =
    a ∙ ap (λ k. counted k second) (o ∙ ap (λ k. one_more k place) b) ∙ counted_then count first (place ∷ second)

pub three_then : (count before at next all : Count) (place : Place) (first second third : List Place)
    → before ≡ counted count first → at ≡ one_more before place → next ≡ counted at second → all ≡ counted next third
    → all ≡ counted count (first ++ place ∷ (second ++ third))
three_then count before at next all place first second third b o n a =
    two_then count before at all place first (second ++ third) b o (a ∙ ap (λ k. counted k third) n ∙ counted_then at second third)
