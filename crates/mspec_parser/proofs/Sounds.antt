-- What is read is in the grammar: how the soundness of parts makes that of the whole.
use Rattle.std.proofs.Common.{ℕ, zero, suc, ◌≡◌, ◌==◌, ◌⊎◌, inl, inr, Bool, true, false, cond, List, [], ◌∷◌, Option, Some, None, Result, Ok, Err, length, refl, sym, ap, subst, ◌∙◌}
use Rattle.std.proofs.lemmas.Slice.Eq.{bytes_eq-Decides}
use Rattle.mspec_tree.specs.declared.words.Place.{Place}
use Rattle.mspec_lexer.specs.Lexemes.{Lexeme}
use Rattle.mspec_lexer.specs.declared.tokens.Symbol.{Symbol}
use Rattle.mspec_lexer.specs.declared.tokens.Symbol.TheVariants as sign
use Rattle.mspec_grammar.specs.declared.faults.ParseWhy.{ParseWhy}
use Rattle.mspec_grammar.specs.declared.faults.ParseWhy.TheVariants.{Unexpected}
use Rattle.mspec_grammar.specs.Meanings.{Meaning, meaning, Number, Sign, Taken, Name}
use Rattle.mspec_grammar.specs.Parts.{Many, Listed, none, more, last}
use Rattle.mspec_quotes.specs.Machine.{Stopped}
use Rattle.mspec_parser.specs.declared.words.Mark.{Mark}
use Rattle.mspec_parser.specs.declared.words.Mark.TheVariants as mark
use Rattle.mspec_parser.specs.Words.{symbol_of, mark_of}
use Rattle.mspec_parser.specs.Readers.{Read, ◌>>=◌, picked, next_at, one, begins_with, many, listed, number_of, is_some_mark, is_mark, is_word, passing, pick_name, pick_number, mark_at, word_at, name_at, number_at}

-- what a reader gives is such a part
pub record Sound {A : Type 0} (read : List Lexeme → Read A) (P : List Lexeme → A → List Lexeme → Type 0) : Type 0 where
  pub is : (xs : List Lexeme) (p : A × List Lexeme) → read xs ≡ Ok p → P xs p.0 p.1

pub through : {A : Type 0} {read : List Lexeme → Read A} {P Q : List Lexeme → A → List Lexeme → Type 0} → Sound read P
    → ((xs : List Lexeme) (a : A) (rest : List Lexeme) → P xs a rest → Q xs a rest) → Sound read Q
through s f = record { is = λ xs p h. f xs p.0 p.1 (s.is xs p h) }

-- ---- nothing read

pub record Gave {A : Type 0} (a : A) (xs : List Lexeme) (b : A) (rest : List Lexeme) : Type 0 where
  pub value : b ≡ a
  pub rest_is : rest ≡ xs

abbrev done : {A : Type 0} → A → Result A Stopped
done x = Ok x

ok-is : {A : Type 0} (x y : A) → done x ≡ done y → x ≡ y
ok-is x y e = cc

pub gives : {A : Type 0} (a : A) → Sound (λ xs. Ok (a, xs)) (Gave a)
gives {A} a = record {
  is = λ xs p h. record {
    value = ap (λ (q : A × List Lexeme). q.0) (sym (ok-is (a, xs) p h));
    rest_is = ap (λ (q : A × List Lexeme). q.1) (sym (ok-is (a, xs) p h));
  };
}

-- ---- one behind another

pub record Then {A B : Type 0} (P : List Lexeme → A → List Lexeme → Type 0) (Q : A → List Lexeme → B → List Lexeme → Type 0)
    (xs : List Lexeme) (b : B) (rest : List Lexeme) : Type 0 where
  pub value : A
  pub mid : List Lexeme
  pub first : P xs value mid
  pub next : Q value mid b rest

binds : {A B : Type 0} (r : Read A) (f : A × List Lexeme → Read B) (q : B × List Lexeme) → (r >>= f) ≡ Ok q
    → (p : A × List Lexeme) × (r ≡ Ok p) × (f p ≡ Ok q)
binds (Ok x) f q h = (x, refl, h)
binds (Err e) f q h = absurd (cc)

pub and_then : {A B : Type 0} {read : List Lexeme → Read A} {P : List Lexeme → A → List Lexeme → Type 0}
    {others : A → List Lexeme → Read B} {Q : A → List Lexeme → B → List Lexeme → Type 0}
    → Sound read P → ((a : A) → Sound (others a) (Q a)) → Sound (λ xs. read xs >>= λ p. others p.0 p.1) (Then P Q)
and_then {read} {others} s t = record {
  is = λ xs q h.
      let b = binds (read xs) (λ p. others p.0 p.1) q h in
      record { value = b.0.0; mid = b.0.1; first = s.is xs b.0 b.1; next = (t b.0.0).is b.0.1 q b.2 };
}

-- ---- one or the other

chosen-is : {A : Type 0} (b : Bool) (x y : Read A) (q : A × List Lexeme) → cond b x y ≡ Ok q → (x ≡ Ok q) ⊎ (y ≡ Ok q)
chosen-is true x y q h = inl h
chosen-is false x y q h = inr h

pub either : {A : Type 0} (test : List Lexeme → Bool) {r s : List Lexeme → Read A} {P Q : List Lexeme → A → List Lexeme → Type 0} → Sound r P → Sound s Q
    → Sound (λ xs. cond (test xs) (r xs) (s xs)) (λ xs a rest. P xs a rest ⊎ Q xs a rest)
either test {r} {s} p q = record { is = λ xs a h. elim (chosen-is (test xs) (r xs) (s xs) a h) [ inl e ↦ inl (p.is xs a e) | inr e ↦ inr (q.is xs a e) ] }

-- ---- one lexeme

pub record One {A : Type 0} (pick : Meaning → Result A ParseWhy) (xs : List Lexeme) (p : A × Place) (rest : List Lexeme) : Type 0 where
  pub x : Lexeme
  pub whole : xs ≡ x ∷ rest
  pub picks : pick (meaning x) ≡ Ok p.0
  pub at : p.1 ≡ x.place

picked-is : {A : Type 0} (pick : Meaning → Result A ParseWhy) (x : Lexeme) (rest : List Lexeme) (r : Result A ParseWhy) → pick (meaning x) ≡ r
    → (p : (A × Place) × List Lexeme) → picked r x.place rest (x ∷ rest) ≡ Ok p → One pick (x ∷ rest) p.0 p.1
picked-is {A} pick x rest (Ok a) e p h =
    subst (λ (p : (A × Place) × List Lexeme). One pick (x ∷ rest) p.0 p.1) (ok-is ((a, x.place), rest) p h) (record { x = x; whole = refl; picks = e; at = refl })
picked-is pick x rest (Err why) e p h = absurd (cc)

one-is : {A : Type 0} (pick : Meaning → Result A ParseWhy) (xs : List Lexeme) (p : (A × Place) × List Lexeme) → one pick xs ≡ Ok p → One pick xs p.0 p.1
unfolding next_at
one-is pick [] p h = absurd (cc)
one-is pick (x ∷ rest) p h = picked-is pick x rest (pick (meaning x)) refl p h

pub one-sound : {A : Type 0} (pick : Meaning → Result A ParseWhy) → Sound (one pick) (One pick)
one-sound pick = record { is = λ xs p h. one-is pick xs p h }

-- ---- symbols, words, names, numbers

pub record Marked (m : Mark) (xs : List Lexeme) (place : Place) (rest : List Lexeme) : Type 0 where
  pub x : Lexeme
  pub whole : xs ≡ x ∷ rest
  pub means : meaning x ≡ Sign (symbol_of m)
  pub at : place ≡ x.place

same-mark : (a b : Mark) → (number_of a == number_of b) ≡ true → a ≡ b
same-mark mark.LeftBracket mark.LeftBracket h = refl
same-mark mark.RightBracket mark.RightBracket h = refl
same-mark mark.LeftParenthesis mark.LeftParenthesis h = refl
same-mark mark.RightParenthesis mark.RightParenthesis h = refl
same-mark mark.Quote mark.Quote h = refl
same-mark mark.Comma mark.Comma h = refl
same-mark mark.Equal mark.Equal h = refl
same-mark a b h = absurd (cc)

symbol-of : (s : Symbol) (m : Mark) → mark_of s ≡ Some m → s ≡ symbol_of m
symbol-of sign.LeftBracket m h = let e : mark.LeftBracket ≡ m = cc in ap symbol_of e
symbol-of sign.RightBracket m h = let e : mark.RightBracket ≡ m = cc in ap symbol_of e
symbol-of sign.LeftParenthesis m h = let e : mark.LeftParenthesis ≡ m = cc in ap symbol_of e
symbol-of sign.RightParenthesis m h = let e : mark.RightParenthesis ≡ m = cc in ap symbol_of e
symbol-of sign.Quote m h = let e : mark.Quote ≡ m = cc in ap symbol_of e
symbol-of sign.Comma m h = let e : mark.Comma ≡ m = cc in ap symbol_of e
symbol-of sign.Equal m h = let e : mark.Equal ≡ m = cc in ap symbol_of e
symbol-of s m h = absurd (cc)

some-mark : (m : Mark) (s : Symbol) (o : Option Mark) → mark_of s ≡ o → is_some_mark m o ≡ true → s ≡ symbol_of m
some-mark m s (Some other) e h = symbol-of s m (e ∙ ap Some (same-mark other m h))
some-mark m s None e h = absurd (cc)

mark-is : (m : Mark) (meant : Meaning) → is_mark m meant ≡ true → meant ≡ Sign (symbol_of m)
mark-is m (Sign s) h = ap Sign (some-mark m s (mark_of s) refl h)
mark-is m (Number n) h = absurd (cc)
mark-is m (Taken w) h = absurd (cc)
mark-is m (Name n) h = absurd (cc)

abbrev tested : Bool → Result (Unit {0}) ParseWhy
tested b = cond b (Ok tt) (Err Unexpected)

passes : (b : Bool) (u : Unit {0}) → tested b ≡ Ok u → b ≡ true
passes true u h = refl
passes false u h = absurd (cc)

pub mark-sound : (m : Mark) → Sound (mark_at m) (Marked m)
unfolding mark_at
mark-sound m = through (and_then (one-sound (passing (is_mark m))) (λ p. gives p.1)) (λ xs place rest t.
    record {
      x = t.first.x;
      whole = rw t.next.rest_is t.first.whole;
      means = mark-is m (meaning t.first.x) (passes (is_mark m (meaning t.first.x)) t.value.0 t.first.picks);
      at = t.next.value ∙ t.first.at;
    })

pub record Worded (w : List ℕ) (xs : List Lexeme) (place : Place) (rest : List Lexeme) : Type 0 where
  pub x : Lexeme
  pub whole : xs ≡ x ∷ rest
  pub means : meaning x ≡ Name w
  pub at : place ≡ x.place

word-is : (w : List ℕ) (meant : Meaning) → is_word w meant ≡ true → meant ≡ Name w
word-is w (Name bytes) h = ap Name ((bytes_eq-Decides bytes w).0 h)
word-is w (Number n) h = absurd (cc)
word-is w (Taken t) h = absurd (cc)
word-is w (Sign s) h = absurd (cc)

pub word-sound : (w : List ℕ) → Sound (word_at w) (Worded w)
unfolding word_at
word-sound w = through (and_then (one-sound (passing (is_word w))) (λ p. gives p.1)) (λ xs place rest t.
    record {
      x = t.first.x;
      whole = rw t.next.rest_is t.first.whole;
      means = word-is w (meaning t.first.x) (passes (is_word w (meaning t.first.x)) t.value.0 t.first.picks);
      at = t.next.value ∙ t.first.at;
    })

pub record NamedAt (xs : List Lexeme) (named : List ℕ × Place) (rest : List Lexeme) : Type 0 where
  pub x : Lexeme
  pub whole : xs ≡ x ∷ rest
  pub means : meaning x ≡ Name named.0
  pub at : named.1 ≡ x.place

name-is : (m : Meaning) (bytes : List ℕ) → pick_name m ≡ Ok bytes → m ≡ Name bytes
name-is (Name n) bytes h = let e : n ≡ bytes = cc in ap Name e
name-is (Number n) bytes h = absurd (cc)
name-is (Taken t) bytes h = absurd (cc)
name-is (Sign s) bytes h = absurd (cc)

pub name-sound : Sound name_at NamedAt
unfolding name_at
name-sound = through (one-sound pick_name) (λ xs named rest t.
    record { x = t.x; whole = t.whole; means = name-is (meaning t.x) named.0 t.picks; at = t.at })

pub record NumberAt (xs : List Lexeme) (n : ℕ) (rest : List Lexeme) : Type 0 where
  pub x : Lexeme
  pub whole : xs ≡ x ∷ rest
  pub means : meaning x ≡ Number n

number-is : (m : Meaning) (n : ℕ) → pick_number m ≡ Ok n → m ≡ Number n
number-is (Number k) n h = let e : k ≡ n = cc in ap Number e
number-is (Name k) n h = absurd (cc)
number-is (Taken t) n h = absurd (cc)
number-is (Sign s) n h = absurd (cc)

pub number-sound : Sound number_at NumberAt
unfolding number_at
number-sound = through (and_then (one-sound pick_number) (λ p. gives p.0)) (λ xs n rest t.
    record {
      x = t.first.x;
      whole = rw t.next.rest_is t.first.whole;
      means = number-is (meaning t.first.x) t.value.0 t.first.picks ∙ ap Number (sym t.next.value);
    })

-- ---- lists

many-is : {A : Type 0} (begins : Meaning → Bool) {part : List Lexeme → Read A} {P : List Lexeme → A → List Lexeme → Type 0} → Sound part P
    → (n : ℕ) → Sound (many begins part n) (Many P)
unfolding many
many-is {A} begins s zero = through (gives []) (λ xs parts rest t. rw (t.value, t.rest_is) none)
many-is {A} begins s (suc n) =
    through (either (begins_with begins) (and_then s (λ a. and_then (many-is begins s n) (λ others. gives (a ∷ others)))) (gives []))
    (λ xs parts rest t. elim t [
      | inl t ↦ rw (t.next.next.value, t.next.next.rest_is) (more t.first t.next.first)
      | inr t ↦ rw (t.value, t.rest_is) none
    ])

pub many-sound : {A : Type 0} (begins : Meaning → Bool) {part : List Lexeme → Read A} {P : List Lexeme → A → List Lexeme → Type 0} → Sound part P
    → Sound (λ xs. many begins part (length xs) xs) (Many P)
many-sound begins s = record { is = λ xs p h. (many-is begins s (length xs)).is xs p h }

-- a comma before each
data Behind {A : Type 0} (P : List Lexeme → A → List Lexeme → Type 0) : List Lexeme → A → List Lexeme → Type 0 where
  behind : {comma : Lexeme} {from rest : List Lexeme} {a : A} → meaning comma ≡ Sign sign.Comma → P from a rest → Behind P (comma ∷ from) a rest

listing : {A : Type 0} {P : List Lexeme → A → List Lexeme → Type 0} {from mid rest : List Lexeme} {a : A} {others : List A} → P from a mid → Many (Behind P) mid others rest
    → Listed P from (a ∷ others) rest
listing p none = last p
listing p (more (behind hc q) qs) = more p hc (listing q qs)

pub listed-sound : {A : Type 0} {part : List Lexeme → Read A} {P : List Lexeme → A → List Lexeme → Type 0} → Sound part P → Sound (listed part) (Listed P)
unfolding listed
listed-sound {A} {part} {P} s =
    let comma : Sound (λ ys. mark_at mark.Comma ys >>= λ comma. part comma.1) (Behind P) =
    through (and_then (mark-sound mark.Comma) (λ place. s)) (λ xs a rest t. rw t.first.whole (behind t.first.means t.next)) in
    through (and_then s (λ first. and_then (many-sound (is_mark mark.Comma) comma) (λ others. gives (first ∷ others))))
    (λ xs parts rest t. rw (t.next.next.value, t.next.next.rest_is) (listing t.first t.next.first))
