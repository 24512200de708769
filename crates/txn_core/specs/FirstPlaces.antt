-- The first item of a list that passes a test: where it stands, and what stands round it.
use Rattle.std.proofs.Common.{◌≡◌, ℕ, suc, ◌+◌, ◌<◌, ◌≤◌, Bool, true, false, cond, not, List, [], ◌∷◌, ◌++◌, Option, Some, None, length, refl, sym, ap, ◌∙◌, arith, ltb}
use Rattle.std.specs.Prelude.{◌||◌, map}
use Rattle.std.specs.List.{find, list_any, position, position_or_len}
use Rattle.std.proofs.Math.Numerals.{one-add}
use Rattle.std.proofs.lemmas.Bool.{or_from, or_left, or_right}
use Rattle.std.proofs.lemmas.Bool.Decides.{nat_tests}
use Rattle.std.proofs.lemmas.List.{length-map}

-- no item passes
abbrev pub Fails : {R : Type 0} → (R → Bool) → List R → Type 0
Fails p [] = Unit {0}
Fails p (x ∷ xs) = (p x ≡ false) × Fails p xs

-- x is the first item that passes, and stands at this place
pub record IsFirstAt {R : Type 0} (p : R → Bool) (xs : List R) (at : ℕ) (x : R) : Type 0 where
  pub before : List R
  pub after : List R
  pub split : xs ≡ before ++ x ∷ after
  pub place : length before ≡ at
  pub passes : p x ≡ true
  pub fails : Fails p before

-- a place is that of the first item that passes, if any does
abbrev pub IsPlace : {R : Type 0} → (R → Bool) → List R → Option ℕ → Type 0
IsPlace p xs None = Fails p xs
IsPlace p xs (Some at) = (x : _) × IsFirstAt p xs at x

further : {R : Type 0} (p : R → Bool) (y : R) (ys : List R) (at : ℕ) (x : R) → p y ≡ false → IsFirstAt p ys at x → IsFirstAt p (y ∷ ys) (suc at) x
further p y ys at x out first = record {
  before = y ∷ first.before;
  after = first.after;
  split = ap (λ zs. y ∷ zs) first.split;
  place = ap suc first.place;
  passes = first.passes;
  fails = (out, first.fails);
}

at_head : {R : Type 0} (p : R → Bool) (x : R) (xs : List R) → p x ≡ true → IsFirstAt p (x ∷ xs) 0 x
at_head p x xs passes = record { before = []; after = xs; split = refl; place = refl; passes = passes; fails = tt }

pub found_at : {R : Type 0} (p : R → Bool) (xs : List R) (x : R) → find p xs ≡ Some x → (at : ℕ) × IsFirstAt p xs at x
found_at p [] x found = absurd (cc)
found_at {R} p (y ∷ ys) x found =
    elim (p y) as (λ b. p y ≡ b → cond b (Some y) (find p ys) ≡ Some x → (at : ℕ) × IsFirstAt p (y ∷ ys) at x) [
      | true ↦ λ is e. let same : y ≡ x = cc in (0, record { before = []; after = ys; split = ap (λ (z : R). z ∷ ys) same; place = refl; passes = sym (ap p same) ∙ is; fails = tt })
      | false ↦ λ is e. let rest = found_at p ys x e in (suc rest.0, further p y ys rest.0 x is rest.1)
    ] refl found

pub not_found : {R : Type 0} (p : R → Bool) (xs : List R) → find p xs ≡ None → Fails p xs
not_found p [] none = tt
not_found p (y ∷ ys) none =
    elim (p y) as (λ b. p y ≡ b → cond b (Some y) (find p ys) ≡ None → Fails p (y ∷ ys)) [
      | true ↦ λ is e. absurd (cc)
      | false ↦ λ is e. (is, not_found p ys e)
    ] refl none

pub fails_find : {R : Type 0} (p : R → Bool) (xs : List R) → Fails p xs → find p xs ≡ None
fails_find p [] fails = refl
fails_find p (y ∷ ys) fails = ap (λ b. cond b (Some y) (find p ys)) fails.0 ∙ fails_find p ys fails.1

-- behind items that fail, the first that passes is found
pub finds : {R : Type 0} (p : R → Bool) (before after : List R) (x : R) → Fails p before → p x ≡ true → find p (before ++ x ∷ after) ≡ Some x
finds p [] after x fails passes = ap (λ b. cond b (Some x) (find p after)) passes
finds p (y ∷ ys) after x fails passes = ap (λ b. cond b (Some y) (find p (ys ++ x ∷ after))) fails.0 ∙ finds p ys after x fails.1 passes

pub first_is_found : {R : Type 0} (p : R → Bool) (xs : List R) (at : ℕ) (x : R) → IsFirstAt p xs at x → find p xs ≡ Some x
first_is_found p xs at x first = ap (find p) first.split ∙ finds p first.before first.after x first.fails first.passes

-- ---- what `position` gives

position_map : {R S : Type 0} (p : S → Bool) (f : R → S) (xs : List R) → position_or_len p (map f xs) ≡ position_or_len (λ x. p (f x)) xs
position_map p f [] = refl
position_map p f (x ∷ xs) = ap (λ n. cond (not (p (f x))) (1 + n) 0) (position_map p f xs)

within : {R : Type 0} (p : R → Bool) (xs : List R) → position_or_len p xs < length xs → (x : R) × IsFirstAt p xs (position_or_len p xs) x
within p [] short = absurd (omega arith)
within {R} p (y ∷ ys) short =
    elim (p y) as (λ b. p y ≡ b → cond (not b) (1 + position_or_len p ys) 0 < length (y ∷ ys) → (x : R) × IsFirstAt p (y ∷ ys) (cond (not b) (1 + position_or_len p ys) 0) x) [
      | true ↦ λ is e. (y, at_head p y ys is)
      | false ↦ λ is e. rw (one-add (position_or_len p ys)) (let rest = within p ys (omega arith) in (rest.0, further p y ys (position_or_len p ys) rest.0 is rest.1))
    ] refl short

past : {R : Type 0} (p : R → Bool) (xs : List R) → length xs ≤ position_or_len p xs → Fails p xs
past p [] long = tt
past p (y ∷ ys) long =
    elim (p y) as (λ b. p y ≡ b → length (y ∷ ys) ≤ cond (not b) (1 + position_or_len p ys) 0 → Fails p (y ∷ ys)) [
      | true ↦ λ is e. absurd (omega arith)
      | false ↦ λ is e. (is, past p ys (omega arith))
    ] refl long

placed_by : {R : Type 0} (p : R → Bool) (xs : List R) (b : Bool) (r : Option ℕ) → ltb (position_or_len p xs) (length xs) ≡ b → r ≡ cond b (Some (position_or_len p xs)) None → IsPlace p xs r
placed_by p xs true None is e = absurd (cc)
placed_by p xs true (Some at) is e =
    let same : position_or_len p xs ≡ at = cc in
    let short : position_or_len p xs < length xs = grind (arith, nat_tests) in
    rw (← same) (within p xs short)
placed_by p xs false None is e = let long : length xs ≤ position_or_len p xs = grind (arith, nat_tests) in past p xs long
placed_by p xs false (Some at) is e = absurd (cc)

-- the place that `position` gives, where each item stands for another
pub placed : {R S : Type 0} (p : S → Bool) (f : R → S) (xs : List R) (r : Option ℕ) → r ≡ position (λ x. p (f x)) xs → IsPlace p (map f xs) r
placed p f xs r is =
    let place = position_map p f xs in
    let long = length-map xs f in
    placed_by p (map f xs) (ltb (position_or_len p (map f xs)) (length (map f xs))) r refl
    (is ∙ sym (ap (λ n. cond (ltb n (length (map f xs))) (Some n) None) place ∙ ap (λ m. cond (ltb (position_or_len (λ x. p (f x)) xs) m) (Some (position_or_len (λ x. p (f x)) xs)) None) long))

-- ---- some item passes

pub any_found : {R : Type 0} (p q : R → Bool) (xs : List R) (x : R) → find p xs ≡ Some x → q x ≡ true → list_any q xs ≡ true
any_found p q [] x found passes = absurd (cc)
any_found p q (y ∷ ys) x found passes =
    elim (p y) as (λ b. cond b (Some y) (find p ys) ≡ Some x → (q y || list_any q ys) ≡ true) [
      | true ↦ λ e. let same : y ≡ x = cc in or_left (q y) (list_any q ys) (ap q same ∙ passes)
      | false ↦ λ e. or_right (q y) (list_any q ys) (any_found p q ys x e passes)
    ] found

pub none_any : {R : Type 0} (p : R → Bool) (xs : List R) → Fails p xs → list_any p xs ≡ false
none_any p [] fails = refl
none_any p (x ∷ xs) fails = or_from (p x) (list_any p xs) fails.0 (none_any p xs fails.1)
