-- The first of all faults is the first of those of the parts.
use Rattle.std.proofs.Common.{◌≡◌, ℕ, Bool, true, false, ◌&&◌, ◌||◌, not, List, [], ◌∷◌, ◌++◌, Option, Some, None, refl, ap, ◌∙◌, arith, append-nil}
use Rattle.std.proofs.lemmas.Bool.Decides.{nat_tests}
use Rattle.std.specs.Prelude.{if◌then◌else◌, nat_lt}
use Rattle.mspec_tree.specs.declared.words.Place.{Place}
use Rattle.mspec_expr.specs.declared.kinds.Fault.{Fault}
use Rattle.mspec_expr.specs.Ranges.{fault_before, first_fault, place_before, rank}
use Rattle.mspec_ranges.specs.Verdicts.{earlier, earliest}

-- ---- the order of places

place_on : (a b c : Place) → place_before b a ≡ true → place_before c b ≡ true → place_before c a ≡ true
place_on a b c h k = grind (arith, nat_tests)

place_not : (a b c : Place) → place_before b a ≡ false → place_before c b ≡ false → place_before c a ≡ false
place_not a b c h k = grind (arith, nat_tests)

-- ---- the order of faults

-- by the places, each way, and the ranks
abbrev before : (on back : Bool) → (rank other : ℕ) → Bool
before on back rank other = on || not back && nat_lt rank other

back_first : (a b c : Place) → place_before b a ≡ true → place_before b c ≡ false → place_before c a ≡ true
back_first a b c h k = by_test (place_before c a) refl
  where
    by_test : (test : Bool) → place_before c a ≡ test → place_before c a ≡ true
    by_test true e = e
    by_test false e = absurd (let f = place_not a c b e k in cc)

back_last : (a b c : Place) → place_before a b ≡ false → place_before c b ≡ true → place_before c a ≡ true
back_last a b c h k = by_test (place_before c a) refl
  where
    by_test : (test : Bool) → place_before c a ≡ test → place_before c a ≡ true
    by_test true e = e
    by_test false e = absurd (let f = place_not b a c h e in cc)

ahead : (a b c : Place) → place_before a b ≡ true → place_before c b ≡ false → place_before a c ≡ true
ahead a b c h k = by_test (place_before a c) refl
  where
    by_test : (test : Bool) → place_before a c ≡ test → place_before a c ≡ true
    by_test true e = e
    by_test false e = absurd (let f = place_not b c a k e in cc)

behind : (a b c : Place) → place_before b a ≡ false → place_before b c ≡ true → place_before a c ≡ true
behind a b c h k = by_test (place_before a c) refl
  where
    by_test : (test : Bool) → place_before a c ≡ test → place_before a c ≡ true
    by_test true e = e
    by_test false e = absurd (let f = place_not c a b e h in cc)

-- faults in order: each before the next
ranks_on : (p q r : ℕ) (ba ab cb bc ca ac : Bool)
    → (ba ≡ true → cb ≡ true → ca ≡ true) → (ba ≡ true → bc ≡ false → ca ≡ true) → (ab ≡ false → cb ≡ true → ca ≡ true) → (ab ≡ false → bc ≡ false → ac ≡ false)
    → before ba ab q p ≡ true → before cb bc r q ≡ true → before ca ac r p ≡ true
ranks_on p q r true ab true bc ca ac h1 h2 h3 h4 x y = rw (h1 refl refl) refl
ranks_on p q r true ab false true ca ac h1 h2 h3 h4 x y = absurd (cc)
ranks_on p q r true ab false false ca ac h1 h2 h3 h4 x y = rw (h2 refl refl) refl
ranks_on p q r false true cb bc ca ac h1 h2 h3 h4 x y = absurd (cc)
ranks_on p q r false false true bc ca ac h1 h2 h3 h4 x y = rw (h3 refl refl) refl
ranks_on p q r false false false true ca ac h1 h2 h3 h4 x y = absurd (cc)
ranks_on p q r false false false false true ac h1 h2 h3 h4 x y = refl
ranks_on p q r false false false false false ac h1 h2 h3 h4 x y = rw (h4 refl refl) (grind (arith, nat_tests))

ranks_not : (p q r : ℕ) (ba ab cb bc ca ac : Bool)
    → (ba ≡ false → cb ≡ false → ca ≡ false) → (ab ≡ true → bc ≡ true → ac ≡ true) → (ab ≡ true → cb ≡ false → ac ≡ true) → (ba ≡ false → bc ≡ true → ac ≡ true)
    → before ba ab q p ≡ false → before cb bc r q ≡ false → before ca ac r p ≡ false
ranks_not p q r true ab cb bc ca ac h1 h2 h3 h4 x y = absurd (cc)
ranks_not p q r false ab true bc ca ac h1 h2 h3 h4 x y = absurd (cc)
ranks_not p q r false true false true ca ac h1 h2 h3 h4 x y = rw (h1 refl refl, h2 refl refl) refl
ranks_not p q r false true false false ca ac h1 h2 h3 h4 x y = rw (h1 refl refl, h3 refl refl) refl
ranks_not p q r false false false true ca ac h1 h2 h3 h4 x y = rw (h1 refl refl, h4 refl refl) refl
ranks_not p q r false false false false ca true h1 h2 h3 h4 x y = rw (h1 refl refl) refl
ranks_not p q r false false false false ca false h1 h2 h3 h4 x y = rw (h1 refl refl) (grind (arith, nat_tests))

fault_on : (a b c : Fault) → fault_before b a ≡ true → fault_before c b ≡ true → fault_before c a ≡ true
fault_on a b c =
    ranks_on (rank a.why) (rank b.why) (rank c.why) (place_before b.place a.place) (place_before a.place b.place) (place_before c.place b.place) (place_before b.place c.place) (place_before c.place a.place) (place_before a.place c.place)
    (place_on a.place b.place c.place) (back_first a.place b.place c.place) (back_last a.place b.place c.place) (λ h k. place_not c.place b.place a.place k h)

fault_not : (a b c : Fault) → fault_before b a ≡ false → fault_before c b ≡ false → fault_before c a ≡ false
fault_not a b c =
    ranks_not (rank a.why) (rank b.why) (rank c.why) (place_before b.place a.place) (place_before a.place b.place) (place_before c.place b.place) (place_before b.place c.place) (place_before c.place a.place) (place_before a.place c.place)
    (place_not a.place b.place c.place) (λ h k. place_on c.place b.place a.place k h) (ahead a.place b.place c.place) (behind a.place b.place c.place)

-- ---- the first of faults

abbrev pick : Fault → Fault → Fault
pick f g = if fault_before g f then g else f

pick_assoc : (f g h : Fault) → pick (pick f g) h ≡ pick f (pick g h)
pick_assoc f g h = go (fault_before g f) refl (fault_before h g) refl (fault_before h f) refl
  where
    go : (x : Bool) → fault_before g f ≡ x → (y : Bool) → fault_before h g ≡ y → (z : Bool) → fault_before h f ≡ z → pick (pick f g) h ≡ pick f (pick g h)
    go true p true q true r = rw (p, q, r) refl
    go true p true q false r = absurd (let e = fault_on f g h p q in cc)
    go true p false q z r = rw (p, q, p) refl
    go false p true q z r = rw (p, q) refl
    go false p false q true r = absurd (let e = fault_not f g h p q in cc)
    go false p false q false r = rw (p, q, p, r) refl

first_append : (f : Fault) (xs ys : List Fault) → first_fault f (xs ++ ys) ≡ first_fault (first_fault f xs) ys
first_append f [] ys = refl
first_append f (x ∷ xs) ys = first_append (pick f x) xs ys

first_pick : (f g : Fault) (xs : List Fault) → first_fault (pick f g) xs ≡ pick f (first_fault g xs)
first_pick f g [] = refl
first_pick f g (h ∷ xs) = ap (λ m. first_fault m xs) (pick_assoc f g h) ∙ first_pick f (pick g h) xs

-- the first of two lists of faults
pub earliest-append : (xs ys : List Fault) → earliest (xs ++ ys) ≡ earlier (earliest xs) (earliest ys)
earliest-append [] ys = refl
earliest-append (f ∷ xs) [] = ap (λ l. Some (first_fault f l)) (append-nil xs)
earliest-append (f ∷ xs) (g ∷ ys) =
    ap (λ m. Some m) (first_append f xs (g ∷ ys) ∙ first_pick (first_fault f xs) g ys)

-- the first of three
pub earliest_three : (xs ys zs : List Fault) → earliest (xs ++ ys ++ zs) ≡ earlier (earlier (earliest xs) (earliest ys)) (earliest zs)
earliest_three xs ys zs =
    earliest-append (xs ++ ys) zs ∙ ap (λ m. earlier m (earliest zs)) (earliest-append xs ys)

-- the first of four
pub earliest_four : (xs ys zs ws : List Fault) → earliest (xs ++ ys ++ zs ++ ws) ≡ earlier (earlier (earlier (earliest xs) (earliest ys)) (earliest zs)) (earliest ws)
earliest_four xs ys zs ws =
    earliest-append (xs ++ ys ++ zs) ws ∙ ap (λ m. earlier m (earliest ws)) (earliest_three xs ys zs)

-- which of them come first together doesn't matter
pub earlier_assoc : (x y z : Option Fault) → earlier (earlier x y) z ≡ earlier x (earlier y z)
earlier_assoc None y z = refl
earlier_assoc (Some f) None z = refl
earlier_assoc (Some f) (Some g) None = refl
earlier_assoc (Some f) (Some g) (Some h) = ap (λ m. Some m) (pick_assoc f g h)

-- no fault is told only where there is none
pub no_earliest : (xs : List Fault) → earliest xs ≡ None → xs ≡ []
no_earliest [] e = refl
no_earliest (x ∷ xs) e = absurd (cc)
