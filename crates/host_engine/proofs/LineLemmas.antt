-- The lines of a text, one after another.
use Rattle.std.proofs.Common.{◌≡◌, ℕ, ◌+◌, ◌<◌, ◌≤◌, ◌==◌, Bool, true, false, cond, List, [], ◌∷◌, length, take, drop, ltb, refl, ap, sym, ◌∙◌, arith}
use Rattle.std.specs.Prelude.{not, Some, None}
use Rattle.std.specs.List.{slice_split, onto_first, position, position_or_len}
use Rattle.std.proofs.Math.Numerals.{one-add}
use Rattle.std.proofs.lemmas.Bool.Decides.{nat_tests}
use Rattle.std.proofs.lemmas.List.Splits.{length-slice_split}
use Rattle.host_engine.specs.Lines.{lines_among, lines_in, last_line}

-- where no byte passes, the list is the one part
pub one_part : (p : ℕ → Bool) (xs : List ℕ) → length xs ≤ position_or_len p xs → slice_split p xs ≡ xs ∷ []
one_part p [] h = refl
one_part p (x ∷ xs) h =
    elim (p x) as (λ b. length (x ∷ xs) ≤ cond (not b) (1 + position_or_len p xs) 0 → cond b ([] ∷ slice_split p xs) (onto_first x (slice_split p xs)) ≡ (x ∷ xs) ∷ [])
    [ true ↦ λ e. absurd (omega arith) | false ↦ λ e. ap (onto_first x) (one_part p xs (omega arith)) ] h

-- one element more stands in front
front_more : (p : ℕ → Bool) (x : ℕ) (xs : List ℕ) (n : ℕ) (parts : List (List ℕ)) → parts ≡ take n xs ∷ slice_split p (drop (1 + n) xs) → onto_first x parts ≡ take (1 + n) (x ∷ xs) ∷ slice_split p (drop (1 + (1 + n)) (x ∷ xs))
front_more p x xs n parts e =
    let taken : take (1 + n) (x ∷ xs) ≡ x ∷ take n xs = ap (λ m. take m (x ∷ xs)) (one-add n) in
    let left : drop (1 + (1 + n)) (x ∷ xs) ≡ drop (1 + n) xs = ap (λ m. drop m (x ∷ xs)) (one-add (1 + n)) in
    ap (onto_first x) e ∙ ap (λ (ys : List ℕ). ys ∷ slice_split p (drop (1 + n) xs)) (sym taken) ∙ ap (λ (ys : List ℕ). take (1 + n) (x ∷ xs) ∷ slice_split p ys) (sym left)

-- else the first part ends at the first byte that passes
pub first_part : (p : ℕ → Bool) (xs : List ℕ) → position_or_len p xs < length xs → slice_split p xs ≡ take (position_or_len p xs) xs ∷ slice_split p (drop (1 + position_or_len p xs) xs)
first_part p [] h = absurd (omega arith)
first_part p (x ∷ xs) h =
    elim (p x) as (λ b. cond (not b) (1 + position_or_len p xs) 0 < length (x ∷ xs) → cond b ([] ∷ slice_split p xs) (onto_first x (slice_split p xs)) ≡ take (cond (not b) (1 + position_or_len p xs) 0) (x ∷ xs) ∷ slice_split p (drop (1 + cond (not b) (1 + position_or_len p xs) 0) (x ∷ xs))) [
      | true ↦ λ e. refl
      | false ↦ λ e. front_more p x xs (position_or_len p xs) (slice_split p xs) (first_part p xs (omega arith))
    ] h

-- a list has a part at least
pub some_part : (p : ℕ → Bool) (xs : List ℕ) → slice_split p xs ≡ [] → ⊥
some_part p xs e = absurd (omega (arith, ap length e, length-slice_split p xs))

pub before_parts : (ended : Bool) (part : List ℕ) (parts : List (List ℕ)) → (parts ≡ [] → ⊥) → lines_among ended (part ∷ parts) ≡ part ∷ lines_among ended parts
before_parts ended part [] some = absurd (some refl)
before_parts ended part (next ∷ more) some = refl

pub next_is : (ended : Bool) (xs : List ℕ) → position_or_len (λ b. b == 10) xs < length xs → lines_in ended xs ≡ take (position_or_len (λ b. b == 10) xs) xs ∷ lines_in ended (drop (1 + position_or_len (λ b. b == 10) xs) xs)
next_is ended xs h = ap (lines_among ended) (first_part _ xs h) ∙ before_parts ended _ _ (some_part (λ b. b == 10) (drop (1 + position_or_len (λ b. b == 10) xs) xs))

-- what is left where no line feed stands
pub last_is : (ended : Bool) (xs : List ℕ) → length xs ≤ position_or_len (λ b. b == 10) xs → lines_in ended xs ≡ last_line ended xs
last_is ended xs h = ap (lines_among ended) (one_part (λ b. b == 10) xs h)

place_cases : (n len : ℕ) (b : Bool) (i : ℕ) → ltb n len ≡ b → cond b (Some n) None ≡ Some i → (n ≡ i) × (i < len)
place_cases n len true i is h =
    let same : n ≡ i = cc in
    let below : n < len = grind (arith, nat_tests) in
    (same, omega arith)
place_cases n len false i is h = cc

no_place_cases : (n len : ℕ) (b : Bool) → ltb n len ≡ b → cond b (Some n) None ≡ None → len ≤ n
no_place_cases n len true is h = cc
no_place_cases n len false is h = grind (arith, nat_tests)

pub feed_at : (xs : List ℕ) (i : ℕ) → Some i ≡ position (λ b. b == 10) xs → (position_or_len (λ b. b == 10) xs ≡ i) × (i < length xs)
feed_at xs i h = place_cases (position_or_len (λ b. b == 10) xs) (length xs) (ltb (position_or_len (λ b. b == 10) xs) (length xs)) i refl (sym h)

-- where nothing passes, all that stands there doesn't
pub no_position : {X : Type 0} (test : X → Bool) (xs : List X) → None ≡ position test xs → length xs ≤ position_or_len test xs
no_position test xs h = no_place_cases (position_or_len test xs) (length xs) (ltb (position_or_len test xs) (length xs)) refl (sym h)

pub no_feed : (xs : List ℕ) → None ≡ position (λ b. b == 10) xs → length xs ≤ position_or_len (λ b. b == 10) xs
no_feed xs h = no_position (λ b. b == 10) xs h

-- the line at the line feed, and the lines behind it
pub line_at : (ended : Bool) (xs : List ℕ) (i : ℕ) → Some i ≡ position (λ b. b == 10) xs → lines_in ended xs ≡ take i xs ∷ lines_in ended (drop (i + 1) xs)
line_at ended xs i h =
    let at = feed_at xs i h in
    next_is ended xs (omega (arith, at.0, at.1))
    ∙ ap (λ n. take n xs ∷ lines_in ended (drop (1 + n) xs)) at.0
    ∙ ap (λ n. take i xs ∷ lines_in ended (drop n xs)) (omega arith)

-- what is left is a line where it has ended and isn't empty
pub left_full : (ended : Bool) (xs : List ℕ) → ended ≡ true → 0 < length xs → last_line ended xs ≡ xs ∷ []
left_full ended [] e some = absurd (omega (arith, some))
left_full ended (x ∷ xs) e some = rw e refl

pub left_open : (ended : Bool) (xs : List ℕ) → ended ≡ false → last_line ended xs ≡ []
left_open ended [] e = refl
left_open ended (x ∷ xs) e = rw e refl

pub left_empty : (ended : Bool) (xs : List ℕ) → length xs ≡ 0 → last_line ended xs ≡ []
left_empty ended [] e = refl
left_empty ended (x ∷ xs) e = absurd (omega (arith, e))
