-- How deep the operand to come may be, and what the whole then comes to.
use Rattle.std.proofs.Common.{ℕ, suc, ◌≡◌, ◌≤◌, ◌<◌, ◌-◌, Bool, max, nat_le, List, [], ◌∷◌, true, false, refl, ap, arith}
use Rattle.std.proofs.lemmas.Bool.{leb-true, leb-false}
use Rattle.mspec_tree.specs.declared.exprs.Expr.{Expr}
use Rattle.mspec_tree.specs.Depth.{depth, depth_limit}
use Rattle.mspec_quotes.specs.declared.pending.Open.{Open}
use Rattle.mspec_quotes.specs.declared.pending.Open.TheVariants.{Parenthesis, Count, Cast, Not, Neg, Left, Condition, Otherwise}
use Rattle.mspec_quotes.specs.Machine.{whole}
use Rattle.mspec_quotes.specs.Rooms.{room, left_depth, IsDeeper}
use Rattle.mspec_quotes.proofs.Depths.{whole-grows, whole-least, depth-some}

-- what fits leaves room for it
pub room-complete : (opens : List Open) (d : ℕ) → whole opens d ≤ depth_limit → d ≤ room opens
room-complete [] d h = h
room-complete (Parenthesis ∷ opens) d h = room-complete opens d h
room-complete (Count place ∷ opens) d h = let r = room-complete opens (suc d) h in omega arith
room-complete (Cast place ∷ opens) d h = let r = room-complete opens (suc d) h in omega arith
room-complete (Not place ∷ opens) d h = let r = room-complete opens (suc d) h in omega arith
room-complete (Neg place ∷ opens) d h = let r = room-complete opens (suc d) h in omega arith
room-complete (Left place operator a ∷ opens) d h = let r = room-complete opens (suc (max (depth a) d)) h in omega arith
room-complete (Condition place c ∷ opens) d h = let r = room-complete opens (suc (max (depth c) (max d 1))) h in omega arith
room-complete (Otherwise place c a ∷ opens) d h = let r = room-complete opens (suc (max (depth c) (max (depth a) d))) h in omega arith

smaller : (opens : List Open) (d d' : ℕ) → d ≤ d' → whole opens d' ≤ depth_limit → whole opens d ≤ depth_limit
smaller opens d d' h fits = let grows = whole-grows opens d d' h in omega arith

-- what there is room for fits
pub room-fits : (opens : List Open) (d : ℕ) → whole opens 1 ≤ depth_limit → 1 ≤ d → d ≤ room opens → whole opens d ≤ depth_limit
room-fits [] d one some h = h
room-fits (Parenthesis ∷ opens) d one some h = room-fits opens d one some h
room-fits (Count place ∷ opens) d one some h = room-fits opens (suc d) (smaller opens 1 2 (omega arith) one) (omega arith) (omega arith)
room-fits (Cast place ∷ opens) d one some h = room-fits opens (suc d) (smaller opens 1 2 (omega arith) one) (omega arith) (omega arith)
room-fits (Not place ∷ opens) d one some h = room-fits opens (suc d) (smaller opens 1 2 (omega arith) one) (omega arith) (omega arith)
room-fits (Neg place ∷ opens) d one some h = room-fits opens (suc d) (smaller opens 1 2 (omega arith) one) (omega arith) (omega arith)
room-fits (Left place operator a ∷ opens) d one some h =
    let left = room-complete opens (suc (max (depth a) 1)) one in
    room-fits opens (suc (max (depth a) d)) (smaller opens 1 (suc (max (depth a) 1)) (omega arith) one) (omega arith) (omega arith)
room-fits (Condition place c ∷ opens) d one some h =
    let left = room-complete opens (suc (max (depth c) (max 1 1))) one in
    room-fits opens (suc (max (depth c) (max d 1))) (smaller opens 1 (suc (max (depth c) (max 1 1))) (omega arith) one) (omega arith) (omega arith)
room-fits (Otherwise place c a ∷ opens) d one some h =
    let left = room-complete opens (suc (max (depth c) (max (depth a) 1))) one in
    room-fits opens (suc (max (depth c) (max (depth a) d))) (smaller opens 1 (suc (max (depth c) (max (depth a) 1))) (omega arith) one) (omega arith) (omega arith)

-- ---- something more is opened

-- the whole with it is the whole with an operand one deeper than both
whole-one : (o : Open) (opens : List Open) → IsDeeper o → whole (o ∷ opens) 1 ≡ whole opens (suc (max (left_depth o) 1))
whole-one Parenthesis opens h = absurd h
whole-one (Count place) opens h = refl
whole-one (Cast place) opens h = refl
whole-one (Not place) opens h = refl
whole-one (Neg place) opens h = refl
whole-one (Left place operator a) opens h = refl
whole-one (Condition place c) opens h = refl
whole-one (Otherwise place c a) opens h = ap (λ n. whole opens n) (omega arith)

pub room-one : (o : Open) (opens : List Open) → IsDeeper o → room opens - 1 ≡ room (o ∷ opens)
room-one Parenthesis opens h = absurd h
room-one (Count place) opens h = refl
room-one (Cast place) opens h = refl
room-one (Not place) opens h = refl
room-one (Neg place) opens h = refl
room-one (Left place operator a) opens h = refl
room-one (Condition place c) opens h = refl
room-one (Otherwise place c a) opens h = refl

pub more-fits : (o : Open) (opens : List Open) → IsDeeper o → whole opens 1 ≤ depth_limit → max (left_depth o) 1 < room opens
    → whole (o ∷ opens) 1 ≤ depth_limit
more-fits o opens h one less = rw (whole-one o opens h) (room-fits opens (suc (max (left_depth o) 1)) one (omega arith) (omega arith))

not-complete : (opens : List Open) (d : ℕ) → (whole opens d ≤ depth_limit → d ≤ room opens) → room opens < d → depth_limit < whole opens d
not-complete opens d complete past = beyond (nat_le (whole opens d) depth_limit) refl
  where
    beyond : (b : Bool) → nat_le (whole opens d) depth_limit ≡ b → depth_limit < whole opens d
    beyond true h = let r = complete (leb-true (whole opens d) depth_limit h) in absurd (omega arith)
    beyond false h = leb-false (whole opens d) depth_limit h

pub more-deep : (o : Open) (opens : List Open) → IsDeeper o → room opens ≤ max (left_depth o) 1 → depth_limit < whole (o ∷ opens) 1
more-deep o opens h full = rw (whole-one o opens h) (not-complete opens (suc (max (left_depth o) 1)) (room-complete opens (suc (max (left_depth o) 1))) (omega arith))

-- what can be closed is not too deep
pub close-low : (o : Open) (opens : List Open) (d : ℕ) → whole (o ∷ opens) d ≤ depth_limit → max (left_depth o) d < 255
close-low Parenthesis opens d h = let r = whole-least opens d in omega arith
close-low (Count place) opens d h = let r = whole-least opens (suc d) in omega arith
close-low (Cast place) opens d h = let r = whole-least opens (suc d) in omega arith
close-low (Not place) opens d h = let r = whole-least opens (suc d) in omega arith
close-low (Neg place) opens d h = let r = whole-least opens (suc d) in omega arith
close-low (Left place operator a) opens d h = let r = whole-least opens (suc (max (depth a) d)) in omega arith
close-low (Condition place c) opens d h = let r = whole-least opens (suc (max (depth c) (max d 1))) in omega arith
close-low (Otherwise place c a) opens d h = let r = whole-least opens (suc (max (depth c) (max (depth a) d))) in omega arith

-- ---- behind an operand

pub one-fits : (opens : List Open) (e : Expr) → whole opens (depth e) ≤ depth_limit → whole opens 1 ≤ depth_limit
one-fits opens e h = smaller opens 1 (depth e) (depth-some e) h

-- what is open below fits too
pub below-fits : (o : Open) (opens : List Open) (d : ℕ) → 1 ≤ d → whole (o ∷ opens) d ≤ depth_limit → whole opens 1 ≤ depth_limit
below-fits Parenthesis opens d some h = smaller opens 1 d some h
below-fits (Count place) opens d some h = smaller opens 1 (suc d) (omega arith) h
below-fits (Cast place) opens d some h = smaller opens 1 (suc d) (omega arith) h
below-fits (Not place) opens d some h = smaller opens 1 (suc d) (omega arith) h
below-fits (Neg place) opens d some h = smaller opens 1 (suc d) (omega arith) h
below-fits (Left place operator a) opens d some h = smaller opens 1 (suc (max (depth a) d)) (omega arith) h
below-fits (Condition place c) opens d some h = smaller opens 1 (suc (max (depth c) (max d 1))) (omega arith) h
below-fits (Otherwise place c a) opens d some h = smaller opens 1 (suc (max (depth c) (max (depth a) d))) (omega arith) h

pub path-fits : (opens : List Open) (e : Expr) → whole opens (depth e) ≤ depth_limit → depth e < room opens → whole opens (suc (depth e)) ≤ depth_limit
path-fits opens e h less = room-fits opens (suc (depth e)) (one-fits opens e h) (omega arith) (omega arith)

pub path-deep : (opens : List Open) (e : Expr) → room opens ≤ depth e → depth_limit < whole opens (suc (depth e))
path-deep opens e full = not-complete opens (suc (depth e)) (room-complete opens (suc (depth e))) (omega arith)

-- an operand that may become deeper by one has a depth that a byte holds
pub path-low : (opens : List Open) (e : Expr) → whole opens (suc (depth e)) ≤ depth_limit → depth e < 255
path-low opens e h = let r = whole-least opens (suc (depth e)) in omega arith
