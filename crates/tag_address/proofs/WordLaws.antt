-- The word of a list that stands in front of a text, or how far the text goes on as one of them.
use Rattle.std.proofs.Common.{◌≡◌, ℕ, ◌+◌, ◌<◌, ◌≤◌, ◌==◌, ◌&&◌, Bool, true, false, cond, List, [], ◌∷◌, ◌++◌, length, take, drop, get_or, refl, sym, ap, ◌∙◌, subst, inl, inr, arith, length-append, map, max, zero, suc}
use Rattle.std.specs.List.{All, Contains, list_all}
use Rattle.std.proofs.lemmas.Bool.{and_parts, cases_lt, cases_order, cond-true, eq-eqb}
use Rattle.std.proofs.lemmas.List.Elements.{All-contains, All-more, All-nil, All-weaker}
use Rattle.std.proofs.lemmas.List.{get_or-map, get_or-take, get_or_default, length-map, get_or_append_left, take-append-drop, take_all, length-take-le}
use Rattle.tag_address.specs.Places.{Begins}
use Rattle.tag_address.specs.Parts.{ArePassed, AreAlike, IsPassed, IsStuckPart, IsWord}
use Rattle.tag_address.proofs.Languages.{IsOnlyFront}

-- the byte at a place of a front
front_byte : (x r text : List ℕ) (p n : ℕ) → p ≤ length text → n < p → n < length x → take p text ≡ x ++ r → get_or x n 0 ≡ get_or text n 0
front_byte x r text p n inside below short e =
    sym (get_or_append_left x r 0 n short) ∙ ap (λ (bs : List ℕ). get_or bs n 0) (sym e) ∙ get_or-take p text n 0 below

-- a word that a text leaves isn't in front of as much of it
pub passed_word : (word text x r : List ℕ) (far p : ℕ) → IsPassed text far word → p ≤ length text → length word ≤ p → take p text ≡ word ++ r → ⊥
passed_word word text x r far p passed inside long e =
    passed.differs (omega arith) (front_byte word r text p passed.place inside (omega arith) passed.short e)

-- ---- the text leaves all words

passed_all : {A : Type 0} (spelling : A → List ℕ) (words : List A) (text : List ℕ) (far : ℕ) (word : A) → ArePassed spelling words (length words) text far → Contains words word → IsPassed text far (spelling word)
passed_all {A} spelling words text far word passed found =
    let P : A → Type 0 = λ w. IsPassed text far (spelling w) in
    All-contains P words word (subst (All P) (take_all (length words) words (omega arith)) passed.each) found

words-none : {A : Type 0} (spelling : A → List ℕ) (words : List A) (text : List ℕ) (far : ℕ) → ArePassed spelling words (length words) text far → (x r : List ℕ) (word : A) → take far text ≡ x ++ r → IsWord spelling words x word → ⊥
words-none spelling words text far passed x r word e h =
    let long : far ≡ length x + length r = sym (length-take-le far text passed.within) ∙ ap length e ∙ length-append x r in
    passed_word (spelling word) text x r far far (passed_all spelling words text far word passed h.0) passed.within (omega (arith, ap length h.1, long)) (e ∙ ap (λ (w : List ℕ). w ++ r) h.1)

words-next : {A : Type 0} (spelling : A → List ℕ) (words : List A) (text : List ℕ) (far : ℕ) → ArePassed spelling words (length words) text far → far < length text → Begins (IsWord spelling words) (take (far + 1) text) → ⊥
words-next spelling words text far passed inside h =
    let word : List ℕ = spelling h.1 in
    let left = passed_all spelling words text far h.1 passed h.2.0 in
    let front : List ℕ = take (far + 1) text in
    let long : length front ≡ far + 1 = length-take-le (far + 1) text (omega arith) in
    let read : get_or word left.place 0 ≡ get_or text left.place 0 =
    ap (λ (bs : List ℕ). get_or bs left.place 0) (sym h.2.1)
    ∙ get_or_append_left front h.0 0 left.place (omega (arith, left.below, long))
    ∙ get_or-take (far + 1) text left.place 0 (omega (arith, left.below)) in
    left.differs (omega (arith, left.below)) read

words-front : {A : Type 0} (spelling : A → List ℕ) (words : List A) (text : List ℕ) (far : ℕ) → ArePassed spelling words (length words) text far → Begins (IsWord spelling words) (take far text)
words-front spelling words text far passed =
    let word = passed.some.0 in
    (drop far (spelling word), word, (passed.some.1, ap (λ (x : List ℕ). x ++ drop far (spelling word)) passed.some.2 ∙ take-append-drop far (spelling word)))

pub no_word : {A : Type 0} (spelling : A → List ℕ) (words : List A) (text : List ℕ) (far : ℕ) → ArePassed spelling words (length words) text far → IsStuckPart (IsWord spelling words) text far
no_word spelling words text far passed = record {
  within = passed.within;
  front = words-front spelling words text far passed;
  none = words-none spelling words text far passed;
  next = words-next spelling words text far passed;
}

first_of : {A : Type 0} (words : List A) → 0 < length words → (word : A) × Contains words word
first_of [] some = absurd (omega arith)
first_of (w ∷ words) some = (w, (0, some, refl))

pub passed_none : {A : Type 0} (spelling : A → List ℕ) (words : List A) (text : List ℕ) → 0 < length words → ArePassed spelling words 0 text 0
passed_none {A} spelling words text some =
    let word = first_of words some in
    record { within = omega arith; each = All-nil (λ (w : A). IsPassed text 0 (spelling w)); some = (word.0, word.1, refl) }

weaker_passed : (text word : List ℕ) (far more : ℕ) → far ≤ more → IsPassed text far word → IsPassed text more word
weaker_passed text word far more further passed = record { place = passed.place; below = omega (arith, passed.below); short = passed.short; differs = passed.differs }

further_some : {A : Type 0} (spelling : A → List ℕ) (words : List A) (text : List ℕ) (far n : ℕ) (word : A) → Contains words word → take n (spelling word) ≡ take n text → ((w : A) × Contains words w × (take far text ≡ take far (spelling w))) → (w : A) × Contains words w × (take (max far n) text ≡ take (max far n) (spelling w))
further_some {A} spelling words text far n word found alike some =
    elim (cases_lt far n) [
      | inl more ↦
          let is : max far n ≡ n = omega arith in
          (word, found, ap (λ (k : ℕ). take k text) is ∙ sym alike ∙ ap (λ (k : ℕ). take k (spelling word)) (sym is))
      | inr less ↦
          let is : max far n ≡ far = omega arith in
          (some.0, some.1, ap (λ (k : ℕ). take k text) is ∙ some.2 ∙ ap (λ (k : ℕ). take k (spelling some.0)) (sym is))
    ]

pub passed_more : {A : Type 0} (spelling : A → List ℕ) (words : List A) (text : List ℕ) (i far n : ℕ) (word : A) → ArePassed spelling words i text far → i < length words → word ≡ get_or words i word → AreAlike (spelling word) text n → n < length (spelling word) → ArePassed spelling words (i + 1) text (max far n)
passed_more {A} spelling words text i far n word passed inside is alike short =
    let P : A → Type 0 = λ w. IsPassed text (max far n) (spelling w) in
    let here : P word = record { place = n; below = omega arith; short = short; differs = λ in_text e. alike.differs short in_text (sym e) } in
    record {
      within = omega (arith, passed.within, alike.in_text);
      each = All-more P words i word inside (All-weaker _ P (λ w. weaker_passed text (spelling w) far (max far n) (omega arith)) (take i words) passed.each) (subst P is here);
      some = further_some spelling words text far n word (i, inside, sym is) alike.same passed.some;
    }

-- ---- words of which none begins with another

abbrev pub clash : List ℕ → List ℕ → Bool
clash [] ys = false
clash (x ∷ xs) [] = false
clash (x ∷ xs) (y ∷ ys) = cond (x == y) (clash xs ys) true

abbrev pub are_apart : List (List ℕ) → Bool
are_apart [] = true
are_apart (w ∷ ws) = list_all (clash w) ws && are_apart ws

clashing : (xs ys r s : List ℕ) → clash xs ys ≡ true → xs ++ r ≡ ys ++ s → ⊥
clashing [] ys r s h e = cc
clashing (x ∷ xs) [] r s h e = cc
clashing (x ∷ xs) (y ∷ ys) r s h e =
    let head : x ≡ y = cc in
    let tail : xs ++ r ≡ ys ++ s = cc in
    clashing xs ys r s (sym (cond-true (x == y) (clash xs ys) true (eq-eqb x y head)) ∙ h) tail

pub all_at : {X : Type 0} (p : X → Bool) (xs : List X) (j : ℕ) (d : X) → list_all p xs ≡ true → j < length xs → p (get_or xs j d) ≡ true
all_at p [] j d h inside = absurd (omega arith)
all_at p (x ∷ xs) zero d h inside = (and_parts (p x) (list_all p xs) h).0
all_at p (x ∷ xs) (suc j) d h inside = all_at p xs j d (and_parts (p x) (list_all p xs) h).1 (omega arith)

apart_at : (ws : List (List ℕ)) (i j : ℕ) → are_apart ws ≡ true → i < j → j < length ws → clash (get_or ws i []) (get_or ws j []) ≡ true
apart_at [] i j h order inside = absurd (omega arith)
apart_at (w ∷ ws) i zero h order inside = absurd (omega arith)
apart_at (w ∷ ws) zero (suc j) h order inside = all_at (clash w) ws j [] (and_parts (list_all (clash w) ws) (are_apart ws) h).0 (omega arith)
apart_at (w ∷ ws) (suc i) (suc j) h order inside = apart_at ws i j (and_parts (list_all (clash w) ws) (are_apart ws) h).1 (omega arith) (omega arith)

word_at : {A : Type 0} (spelling : A → List ℕ) (words : List A) (x : List ℕ) (word : A) (h : IsWord spelling words x word) → get_or (map spelling words) h.0.0 [] ≡ x
word_at spelling words x word h =
    get_or-map spelling words h.0.0 word [] h.0.1 ∙ ap spelling h.0.2 ∙ sym h.1

same_word : {A : Type 0} (words : List A) (a b : A) (i j : ℕ) → i ≡ j → i < length words → get_or words i a ≡ a → get_or words j b ≡ b → b ≡ a
same_word words a b i j same inside one two =
    sym two ∙ ap (λ (k : ℕ). get_or words k b) (sym same) ∙ get_or_default words i b a inside ∙ one

pub one_word : {A : Type 0} (spelling : A → List ℕ) (words : List A) (front x y z : List ℕ) (word other : A) → are_apart (map spelling words) ≡ true → IsWord spelling words front word → IsWord spelling words x other → front ++ z ≡ x ++ y → (x ≡ front) × (other ≡ word)
one_word spelling words front x y z word other apart h k e =
    let ws : List (List ℕ) = map spelling words in
    let long = length-map words spelling in
    let i : ℕ = h.0.0 in
    let j : ℕ = k.0.0 in
    let one : get_or ws i [] ≡ front = word_at spelling words front word h in
    let two : get_or ws j [] ≡ x = word_at spelling words x other k in
    elim (cases_order i j) [
      | inl same ↦
          let is = same_word words word other i j same h.0.1 h.0.2 k.0.2 in
          (k.1 ∙ ap spelling is ∙ sym h.1, is)
      | inr order ↦
          elim order [
            | inl below ↦
                let test = apart_at ws i j apart below (omega (arith, long, k.0.1)) in
                absurd (clashing front x z y (ap (λ (w : List ℕ). clash w x) (sym one) ∙ ap (clash (get_or ws i [])) (sym two) ∙ test) e)
            | inr above ↦
                let test = apart_at ws j i apart above (omega (arith, long, h.0.1)) in
                absurd (clashing x front y z (ap (λ (w : List ℕ). clash w front) (sym two) ∙ ap (clash (get_or ws j [])) (sym one) ∙ test) (sym e))
          ]
    ]

pub only_word : {A B : Type 0} (spelling : A → List ℕ) (words : List A) (K : A → List ℕ → B → Type 0) (front : List ℕ) (word : A) → are_apart (map spelling words) ≡ true → IsWord spelling words front word → IsOnlyFront (IsWord spelling words) K (λ _. ⊥) front word
only_word spelling words K front word apart h x y z other b k l not e = one_word spelling words front x y z word other apart h k e
