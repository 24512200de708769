-- Depths of expressions, and of what they stand in.
use Rattle.std.proofs.Common.{ℕ, suc, ◌≡◌, ◌≤◌, max, List, [], ◌∷◌, true, sym, ap, ◌∙◌, subst, arith}
use Rattle.mspec_tree.specs.declared.words.Place.{Place}
use Rattle.mspec_tree.specs.declared.words.Op.{Op}
use Rattle.mspec_tree.specs.declared.words.Lit.{Lit}
use Rattle.mspec_tree.specs.declared.exprs.Expr.{Expr, fold-Expr, fold-roll-Expr, fold_out-Expr}
use Rattle.mspec_tree.specs.declared.exprs.Shape.{Shape, Shape-F, roll-Shape, fold-Shape, map-Shape, fold-roll-Shape, fold_out-Shape, out-Shape}
use Rattle.mspec_tree.specs.declared.exprs.Shape.TheOpen as layer
use Rattle.mspec_tree.specs.declared.exprs.Shape.TheVariants as shape
use Rattle.mspec_tree.specs.Depth.{depth, shape_depth}
use Rattle.mspec_quotes.specs.declared.pending.Open.{Open}
use Rattle.mspec_quotes.specs.declared.pending.Open.TheVariants.{Parenthesis, Count, Cast, Not, Neg, Left, Condition, Otherwise}
use Rattle.mspec_quotes.specs.Machine.{made, whole, closes, closed_by}

depth-layer : (place : Place) (form : Shape-F Shape Expr)
    → depth (made place (roll-Shape form)) ≡ shape_depth (map-Shape Shape Expr ℕ ℕ (fold-Shape ℕ ℕ shape_depth (λ layer. layer.shape)) (fold-Expr ℕ ℕ shape_depth (λ layer. layer.shape)) form)
depth-layer place form =
    fold-roll-Expr ℕ ℕ shape_depth (λ layer. layer.shape) (record { place = place; shape = roll-Shape form })
    ∙ fold-roll-Shape ℕ ℕ shape_depth (λ layer. layer.shape) form

pub depth-two : (place : Place) (operator : Op) (a b : Expr) → depth (made place (shape.Two operator a b)) ≡ suc (max (depth a) (depth b))
depth-two place operator a b = ap (λ (s : Shape). depth (made place s)) (sym (shape.rolls-Two operator a b)) ∙ depth-layer place (layer.Two operator a b)

pub depth-if : (place : Place) (c a b : Expr) → depth (made place (shape.If c a b)) ≡ suc (max (depth c) (max (depth a) (depth b)))
depth-if place c a b = ap (λ (s : Shape). depth (made place s)) (sym (shape.rolls-If c a b)) ∙ depth-layer place (layer.If c a b)

pub depth-not : (place : Place) (e : Expr) → depth (made place (shape.Not e)) ≡ suc (depth e)
depth-not place e = ap (λ (s : Shape). depth (made place s)) (sym (shape.rolls-Not e)) ∙ depth-layer place (layer.Not e)

pub depth-neg : (place : Place) (e : Expr) → depth (made place (shape.Neg e)) ≡ suc (depth e)
depth-neg place e = ap (λ (s : Shape). depth (made place s)) (sym (shape.rolls-Neg e)) ∙ depth-layer place (layer.Neg e)

pub depth-count : (place : Place) (e : Expr) → depth (made place (shape.Count e)) ≡ suc (depth e)
depth-count place e = ap (λ (s : Shape). depth (made place s)) (sym (shape.rolls-Count e)) ∙ depth-layer place (layer.Count e)

pub depth-length_of : (place : Place) (e : Expr) → depth (made place (shape.LengthOf e)) ≡ suc (depth e)
depth-length_of place e = ap (λ (s : Shape). depth (made place s)) (sym (shape.rolls-LengthOf e)) ∙ depth-layer place (layer.LengthOf e)

pub depth-dot : (place : Place) (e : Expr) (name : List ℕ) → depth (made place (shape.Dot e name)) ≡ suc (depth e)
depth-dot place e name = ap (λ (s : Shape). depth (made place s)) (sym (shape.rolls-Dot e name)) ∙ depth-layer place (layer.Dot e name)

pub depth-cast : (place : Place) (e : Expr) (name : List ℕ) → depth (made place (shape.Cast e name)) ≡ suc (depth e)
depth-cast place e name = ap (λ (s : Shape). depth (made place s)) (sym (shape.rolls-Cast e name)) ∙ depth-layer place (layer.Cast e name)

pub depth-lit : (place : Place) (lit : Lit) → depth (made place (shape.Lit lit)) ≡ 1
depth-lit place lit = ap (λ (s : Shape). depth (made place s)) (sym (shape.rolls-Lit lit)) ∙ depth-layer place (layer.Lit lit)

pub depth-name : (place : Place) (name : List ℕ) → depth (made place (shape.Name name)) ≡ 1
depth-name place name = ap (λ (s : Shape). depth (made place s)) (sym (shape.rolls-Name name)) ∙ depth-layer place (layer.Name name)

pub depth-null : (place : Place) → depth (made place shape.Null) ≡ 1
depth-null place = ap (λ (s : Shape). depth (made place s)) (sym shape.rolls-Null) ∙ depth-layer place layer.Null

pub depth-cur_pos : (place : Place) → depth (made place shape.CurPos) ≡ 1
depth-cur_pos place = ap (λ (s : Shape). depth (made place s)) (sym shape.rolls-CurPos) ∙ depth-layer place layer.CurPos

pub depth-length : (place : Place) → depth (made place shape.Length) ≡ 1
depth-length place = ap (λ (s : Shape). depth (made place s)) (sym shape.rolls-Length) ∙ depth-layer place layer.Length

pub depth-last_item : (place : Place) → depth (made place shape.LastItem) ≡ 1
depth-last_item place = ap (λ (s : Shape). depth (made place s)) (sym shape.rolls-LastItem) ∙ depth-layer place layer.LastItem

pub depth-sum_bytes : (place : Place) → depth (made place shape.SumBytes) ≡ 1
depth-sum_bytes place = ap (λ (s : Shape). depth (made place s)) (sym shape.rolls-SumBytes) ∙ depth-layer place layer.SumBytes

pub depth-xor_bytes : (place : Place) → depth (made place shape.XorBytes) ≡ 1
depth-xor_bytes place = ap (λ (s : Shape). depth (made place s)) (sym shape.rolls-XorBytes) ∙ depth-layer place layer.XorBytes

pub whole-grows : (opens : List Open) (d d' : ℕ) → d ≤ d' → whole opens d ≤ whole opens d'
whole-grows [] d d' h = h
whole-grows (Parenthesis ∷ opens) d d' h = whole-grows opens d d' h
whole-grows (Count place ∷ opens) d d' h = whole-grows opens _ _ (omega arith)
whole-grows (Cast place ∷ opens) d d' h = whole-grows opens _ _ (omega arith)
whole-grows (Not place ∷ opens) d d' h = whole-grows opens _ _ (omega arith)
whole-grows (Neg place ∷ opens) d d' h = whole-grows opens _ _ (omega arith)
whole-grows (Left place operator a ∷ opens) d d' h = whole-grows opens _ _ (omega arith)
whole-grows (Condition place c ∷ opens) d d' h = whole-grows opens _ _ (omega arith)
whole-grows (Otherwise place c a ∷ opens) d d' h = whole-grows opens _ _ (omega arith)

-- the whole is as deep as what is to come, at least
pub whole-least : (opens : List Open) (d : ℕ) → d ≤ whole opens d
whole-least [] d = omega arith
whole-least (Parenthesis ∷ opens) d = whole-least opens d
whole-least (Count place ∷ opens) d = let h = whole-least opens (suc d) in omega arith
whole-least (Cast place ∷ opens) d = let h = whole-least opens (suc d) in omega arith
whole-least (Not place ∷ opens) d = let h = whole-least opens (suc d) in omega arith
whole-least (Neg place ∷ opens) d = let h = whole-least opens (suc d) in omega arith
whole-least (Left place operator a ∷ opens) d = let h = whole-least opens (suc (max (depth a) d)) in omega arith
whole-least (Condition place c ∷ opens) d = let h = whole-least opens (suc (max (depth c) (max d 1))) in omega arith
whole-least (Otherwise place c a ∷ opens) d = let h = whole-least opens (suc (max (depth c) (max (depth a) d))) in omega arith

-- what something closes is as deep closed as open
pub whole-closed : (k : ℕ) (o : Open) (opens : List Open) (e : Expr) → closes k o ≡ true
    → whole opens (depth (closed_by o e)) ≡ whole (o ∷ opens) (depth e)
whole-closed k Parenthesis opens e h = absurd (cc)
whole-closed k (Count place) opens e h = absurd (cc)
whole-closed k (Cast place) opens e h = absurd (cc)
whole-closed k (Not place) opens e h = ap (whole opens) (depth-not place e)
whole-closed k (Neg place) opens e h = ap (whole opens) (depth-neg place e)
whole-closed k (Left place operator a) opens e h = ap (whole opens) (depth-two place operator a e)
whole-closed k (Condition place c) opens e h = absurd (cc)
whole-closed k (Otherwise place c a) opens e h = ap (whole opens) (depth-if place c a e)

some-layer : (form : Shape-F ℕ ℕ) → 1 ≤ shape_depth form
some-layer (layer.Two operator a b) = omega arith
some-layer (layer.If c a b) = omega arith
some-layer (layer.Dot of name) = omega arith
some-layer (layer.LengthOf of) = omega arith
some-layer (layer.Count of) = omega arith
some-layer (layer.Cast of name) = omega arith
some-layer (layer.Not of) = omega arith
some-layer (layer.Neg of) = omega arith
some-layer other = omega arith

-- each expression has a depth
pub depth-some : (e : Expr) → 1 ≤ depth e
depth-some e =
    let h = fold_out-Expr ℕ ℕ shape_depth (λ layer. layer.shape) e ∙ fold_out-Shape ℕ ℕ shape_depth (λ layer. layer.shape) e.shape in
    let P : ℕ → Type 0 = λ n. 1 ≤ n in
    subst P (sym h) (some-layer (map-Shape Shape Expr ℕ ℕ (fold-Shape ℕ ℕ shape_depth (λ layer. layer.shape)) (fold-Expr ℕ ℕ shape_depth (λ layer. layer.shape)) (out-Shape e.shape)))

pub ruleset depth_rules = (depth-two, depth-if, depth-not, depth-neg, depth-count, depth-length_of, depth-dot, depth-cast, depth-lit, depth-name, depth-null, depth-cur_pos, depth-length, depth-last_item, depth-sum_bytes, depth-xor_bytes)
