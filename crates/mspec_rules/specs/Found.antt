-- The first of all that is wrong. Lemmas for walks, here and in the crates above: the first of two lists is the earlier one of both first
-- ones, and what isn't told need not be looked for.
use Rattle.std.proofs.Common.{◌≡◌, ℕ, suc, ◌+◌, ◌<◌, ◌≤◌, Bool, true, false, ◌&&◌, ◌||◌, not, List, [], ◌∷◌, ◌++◌, length, drop, get_or, Option, Some, None, refl, sym, ap, ◌∙◌, arith}
use Rattle.std.proofs.Math.ListN.{drop_of_length-le}
use Rattle.std.proofs.Math.Seq.{drop-cons}
use Rattle.std.proofs.lemmas.Bool.Decides.{nat_tests}
use Rattle.std.specs.List.{flat_map}
use Rattle.std.specs.Prelude.{if◌then◌else◌, nat_lt}
use Rattle.mspec_tree.specs.declared.words.Place.{Place}
use Rattle.mspec_expr.specs.Ranges.{place_before}
use Rattle.mspec_rules.specs.declared.wrongs.CheckWhy.{CheckWhy}
use Rattle.mspec_rules.specs.declared.wrongs.Rule.{Rule}
use Rattle.mspec_rules.specs.declared.wrongs.Wrong.{Wrong}
use Rattle.mspec_rules.specs.Wrongs.{before, earlier, found, matters, rank, wrong, wrong_if}

-- ---- the order of places

place_on : (a b c : Place) → place_before b a ≡ true → place_before c b ≡ true → place_before c a ≡ true
place_on a b c h k = grind (arith, nat_tests)

place_not : (a b c : Place) → place_before b a ≡ false → place_before c b ≡ false → place_before c a ≡ false
place_not a b c h k = grind (arith, nat_tests)

-- ---- the order of faults

-- by the places, each way, and the ranks
abbrev ahead_by : (on back : Bool) → (rank other : ℕ) → Bool
ahead_by on back rank other = on || not back && nat_lt rank other

back_first : (a b c : Place) → place_before b a ≡ true → place_before b c ≡ false → place_before c a ≡ true
back_first a b c h k = by_test (place_before c a) refl
  where
    by_test : (test : Bool) → place_before c a ≡ test → place_before c a ≡ true
    by_test true e = e
    by_test false e = absurd (let f = place_not a c b e k in cc)

back_last : (a b c : Place) → place_before a b ≡ false → place_before c b ≡ true → place_before c a ≡ true
back_last a b c h k = by_test (place_before c a) refl
  where
    by_test : (test : Bool) → place_before c a ≡ test → place_before c a ≡ true
    by_test true e = e
    by_test false e = absurd (let f = place_not b a c h e in cc)

front_first : (a b c : Place) → place_before a b ≡ true → place_before c b ≡ false → place_before a c ≡ true
front_first a b c h k = by_test (place_before a c) refl
  where
    by_test : (test : Bool) → place_before a c ≡ test → place_before a c ≡ true
    by_test true e = e
    by_test false e = absurd (let f = place_not b c a k e in cc)

front_last : (a b c : Place) → place_before b a ≡ false → place_before b c ≡ true → place_before a c ≡ true
front_last a b c h k = by_test (place_before a c) refl
  where
    by_test : (test : Bool) → place_before a c ≡ test → place_before a c ≡ true
    by_test true e = e
    by_test false e = absurd (let f = place_not c a b e h in cc)

-- faults in order: each before the next
ranks_on : (p q r : ℕ) (ba ab cb bc ca ac : Bool)
    → (ba ≡ true → cb ≡ true → ca ≡ true) → (ba ≡ true → bc ≡ false → ca ≡ true) → (ab ≡ false → cb ≡ true → ca ≡ true) → (ab ≡ false → bc ≡ false → ac ≡ false)
    → ahead_by ba ab q p ≡ true → ahead_by cb bc r q ≡ true → ahead_by ca ac r p ≡ true
ranks_on p q r true ab true bc ca ac h1 h2 h3 h4 x y = rw (h1 refl refl) refl
ranks_on p q r true ab false true ca ac h1 h2 h3 h4 x y = absurd (cc)
ranks_on p q r true ab false false ca ac h1 h2 h3 h4 x y = rw (h2 refl refl) refl
ranks_on p q r false true cb bc ca ac h1 h2 h3 h4 x y = absurd (cc)
ranks_on p q r false false true bc ca ac h1 h2 h3 h4 x y = rw (h3 refl refl) refl
ranks_on p q r false false false true ca ac h1 h2 h3 h4 x y = absurd (cc)
ranks_on p q r false false false false true ac h1 h2 h3 h4 x y = refl
ranks_on p q r false false false false false ac h1 h2 h3 h4 x y = rw (h4 refl refl) (grind (arith, nat_tests))

ranks_not : (p q r : ℕ) (ba ab cb bc ca ac : Bool)
    → (ba ≡ false → cb ≡ false → ca ≡ false) → (ab ≡ true → bc ≡ true → ac ≡ true) → (ab ≡ true → cb ≡ false → ac ≡ true) → (ba ≡ false → bc ≡ true → ac ≡ true)
    → ahead_by ba ab q p ≡ false → ahead_by cb bc r q ≡ false → ahead_by ca ac r p ≡ false
ranks_not p q r true ab cb bc ca ac h1 h2 h3 h4 x y = absurd (cc)
ranks_not p q r false ab true bc ca ac h1 h2 h3 h4 x y = absurd (cc)
ranks_not p q r false true false true ca ac h1 h2 h3 h4 x y = rw (h1 refl refl, h2 refl refl) refl
ranks_not p q r false true false false ca ac h1 h2 h3 h4 x y = rw (h1 refl refl, h3 refl refl) refl
ranks_not p q r false false false true ca ac h1 h2 h3 h4 x y = rw (h1 refl refl, h4 refl refl) refl
ranks_not p q r false false false false ca true h1 h2 h3 h4 x y = rw (h1 refl refl) refl
ranks_not p q r false false false false ca false h1 h2 h3 h4 x y = rw (h1 refl refl) (grind (arith, nat_tests))

pub before_on : (a b c : Wrong) → before b a ≡ true → before c b ≡ true → before c a ≡ true
before_on a b c =
    ranks_on (rank a) (rank b) (rank c) (place_before b.place a.place) (place_before a.place b.place) (place_before c.place b.place) (place_before b.place c.place) (place_before c.place a.place) (place_before a.place c.place)
    (place_on a.place b.place c.place) (back_first a.place b.place c.place) (back_last a.place b.place c.place) (λ h k. place_not c.place b.place a.place k h)

pub before_not : (a b c : Wrong) → before b a ≡ false → before c b ≡ false → before c a ≡ false
before_not a b c =
    ranks_not (rank a) (rank b) (rank c) (place_before b.place a.place) (place_before a.place b.place) (place_before c.place b.place) (place_before b.place c.place) (place_before c.place a.place) (place_before a.place c.place)
    (place_not a.place b.place c.place) (λ h k. place_on c.place b.place a.place k h) (front_first a.place b.place c.place) (front_last a.place b.place c.place)

-- ---- the earlier one of two

abbrev pick : Wrong → Wrong → Wrong
pick f g = if before g f then g else f

pick_assoc : (f g h : Wrong) → pick (pick f g) h ≡ pick f (pick g h)
pick_assoc f g h = go (before g f) refl (before h g) refl (before h f) refl
  where
    go : (x : Bool) → before g f ≡ x → (y : Bool) → before h g ≡ y → (z : Bool) → before h f ≡ z → pick (pick f g) h ≡ pick f (pick g h)
    go true p true q true r = rw (p, q, r) refl
    go true p true q false r = absurd (let e = before_on f g h p q in cc)
    go true p false q z r = rw (p, q, p) refl
    go false p true q z r = rw (p, q) refl
    go false p false q true r = absurd (let e = before_not f g h p q in cc)
    go false p false q false r = rw (p, q, p, r) refl

pub earlier_assoc : (a b c : Option Wrong) → earlier (earlier a b) c ≡ earlier a (earlier b c)
earlier_assoc None b c = refl
earlier_assoc (Some f) None c = refl
earlier_assoc (Some f) (Some g) None = refl
earlier_assoc (Some f) (Some g) (Some h) = ap Some (pick_assoc f g h)

pub earlier_none : (a : Option Wrong) → earlier a None ≡ a
earlier_none None = refl
earlier_none (Some f) = refl

-- what isn't told need not be looked for
pub unmattering : (first : Option Wrong) (wrong : Wrong) → matters first wrong ≡ false → earlier first (Some wrong) ≡ first
unmattering None wrong h = absurd (cc)
unmattering (Some f) wrong h = rw h refl

pub unlooked : (first : Option Wrong) (holds : Bool) (place : Place) (of : Rule) (why : CheckWhy) → matters first (wrong place of why) ≡ false
    → earlier first (found (wrong_if holds place of why)) ≡ first
unlooked first true place of why h = unmattering first (wrong place of why) h
unlooked first false place of why h = earlier_none first

-- ---- the first of lists

pub found-append : (xs ys : List Wrong) → found (xs ++ ys) ≡ earlier (found xs) (found ys)
found-append [] ys = refl
found-append (x ∷ xs) ys =
    ap (earlier (Some x)) (found-append xs ys) ∙ sym (earlier_assoc (Some x) (found xs) (found ys))

-- one list after what was found so far, and then another
pub found_then : (first : Option Wrong) (xs ys : List Wrong) → earlier (earlier first (found xs)) (found ys) ≡ earlier first (found (xs ++ ys))
found_then first xs ys = earlier_assoc first (found xs) (found ys) ∙ ap (earlier first) (sym (found-append xs ys))

-- ---- walks

-- the rest of a list from an item on
pub from_here : {A : Type 0} (items : List A) (i : ℕ) (item : A) → i < length items → item ≡ get_or items i item → drop i items ≡ item ∷ drop (i + 1) items
from_here items i item h e =
    let one : suc i ≡ i + 1 = omega arith in
    drop-cons items i item h ∙ ap (λ f. f ∷ drop (suc i) items) (sym e) ∙ ap (λ k. item ∷ drop k items) one

-- the same, with what a list is read with past its end
pub from_here_or : {A : Type 0} (items : List A) (i : ℕ) (other : A) → i < length items → drop i items ≡ get_or items i other ∷ drop (i + 1) items
from_here_or items i other h =
    let one : suc i ≡ i + 1 = omega arith in
    drop-cons items i other h ∙ ap (λ k. get_or items i other ∷ drop k items) one

-- past the last one there is none
pub none_here : {A : Type 0} (items : List A) (i : ℕ) → length items ≤ i → drop i items ≡ []
none_here items i h = drop_of_length-le items h

-- an item was gone over, and the rest of the list is left
pub found_more : {A : Type 0} (g : A → List Wrong) (first next : Option Wrong) (items rest : List A) (item : A)
    → items ≡ item ∷ rest → next ≡ earlier first (found (g item))
    → earlier first (found (flat_map g items)) ≡ earlier next (found (flat_map g rest))
found_more g first next items rest item e n =
    ap (λ l. earlier first (found (flat_map g l))) e
    ∙ sym (found_then first (g item) (flat_map g rest))
    ∙ ap (λ o. earlier o (found (flat_map g rest))) (sym n)

pub found_all : {A : Type 0} (g : A → List Wrong) (first : Option Wrong) (items : List A)
    → items ≡ [] → earlier first (found (flat_map g items)) ≡ first
found_all g first items e = ap (λ l. earlier first (found (flat_map g l))) e ∙ earlier_none first
