-- How the stops of parts make those of the whole.
use Rattle.std.proofs.Common.{ℕ, suc, ◌≡◌, ◌≤◌, Bool, true, false, cond, List, [], ◌∷◌, Result, Ok, Err, length, refl, sym, ap, ◌∙◌, arith}
use Rattle.mspec_tree.specs.declared.words.Place.{Place}
use Rattle.mspec_tree.specs.declared.defs.Description.{Description}
use Rattle.mspec_lexer.specs.Lexemes.{Lexeme}
use Rattle.mspec_lexer.specs.declared.tokens.Symbol.TheVariants as sign
use Rattle.mspec_grammar.specs.declared.faults.ParseWhy.{ParseWhy}
use Rattle.mspec_grammar.specs.Meanings.{Meaning, meaning, Sign}
use Rattle.mspec_quotes.specs.Machine.{Stopped}
use Rattle.mspec_parser.specs.Readers.{Read, ◌>>=◌, picked, next_at, one, begins_with}
use Rattle.mspec_parser.proofs.LeftWords.{Rest}
use Rattle.mspec_parser.proofs.Stops.{Good, through, alike, fewer, Proper, Bars, opens, one-good}
use Rattle.mspec_parser.proofs.Chosen.{Plain, chosen-good}

pub assoc : {A B C : Type 0} (m : Result A Stopped) (f : A → Result B Stopped) (g : B → Result C Stopped) → ((m >>= f) >>= g) ≡ (m >>= λ x. f x >>= g)
assoc (Ok x) f g = refl
assoc (Err e) f g = refl

abbrev pub grown : Bool → ℕ → ℕ
grown true n = suc n
grown false n = n

grown-more : (b : Bool) (n : ℕ) → n ≤ grown b n
grown-more true n = omega arith
grown-more false n = omega arith

grown-up : (b : Bool) (m n : ℕ) → m ≤ n → grown b m ≤ grown b n
grown-up true m n h = omega arith
grown-up false m n h = omega arith

-- A part is read from the front, at least one lexeme if it `grows`. Where what follows begins with none of the lexemes with
-- which the part itself might go on, the stops of the part and of what follows are where no text goes on.
pub record Law {A : Type 0} (grows : Bool) (go : Meaning → Bool) (r : ℕ → List Lexeme → Read A) : Type 0 where
  pub good : (n : ℕ) (k : A → Rest) → ((a : A) → Good n (k a)) → ((a : A) → Bars go (k a)) → Good (grown grows n) (through r k)
  pub shrinks : (limit : ℕ) (xs : List Lexeme) (p : A × List Lexeme) → r limit xs ≡ Ok p → grown grows (length p.1) ≤ length xs

abbrev pub nothing : Meaning → Bool
nothing m = false

abbrev pub either_of : (Meaning → Bool) → (Meaning → Bool) → Meaning → Bool
either_of a b m = cond (a m) true (b m)

abbrev pub Within : (Meaning → Bool) → (Meaning → Bool) → Type 0
Within a b = (m : Meaning) → a m ≡ true → b m ≡ true

abbrev pub Apart : (Meaning → Bool) → (Meaning → Bool) → Type 0
Apart a b = (m : Meaning) → a m ≡ true → b m ≡ false

by-bool : (x y : Bool) → (x ≡ true → y ≡ true) → y ≡ false → x ≡ false
by-bool true y f h = let t = f refl in cc
by-bool false y f h = refl

pub in-first : (a b : Meaning → Bool) → Within a (either_of a b)
in-first a b m h = ap (λ c. cond c true (b m)) h

pub in-second : (a b : Meaning → Bool) → Within b (either_of a b)
in-second a b m h = by-first (a m)
  where
    by-first : (c : Bool) → cond c true (b m) ≡ true
    by-first true = refl
    by-first false = h

begins-within : (a b : Meaning → Bool) → Within a b → (xs : List Lexeme) → begins_with b xs ≡ false → begins_with a xs ≡ false
begins-within a b w [] h = refl
begins-within a b w (x ∷ xs) h = by-bool (a (meaning x)) (b (meaning x)) (w (meaning x)) h

pub begins-apart : (a b : Meaning → Bool) → Apart a b → (xs : List Lexeme) → begins_with a xs ≡ true → begins_with b xs ≡ false
begins-apart a b w [] h = refl
begins-apart a b w (x ∷ xs) h = w (meaning x) h

pub bars-within : {a b : Meaning → Bool} {k : Rest} → Within a b → Bars b k → Bars a k
bars-within {a} {b} w bars = record { is = λ limit xs d e. begins-within a b w xs (bars.is limit xs d e) }

pub bars-nothing : (k : Rest) → Bars nothing k
bars-nothing k = record { is = λ limit xs d e. none xs }
  where
    none : (xs : List Lexeme) → begins_with nothing xs ≡ false
    none [] = refl
    none (x ∷ xs) = refl

pub wider : {A : Type 0} {grows : Bool} {go go' : Meaning → Bool} {r : ℕ → List Lexeme → Read A} → Within go go' → Law grows go r → Law grows go' r
wider w law = record { good = λ n k good bars. law.good n k good (λ a. bars-within w (bars a)); shrinks = law.shrinks }

-- ---- what a part begins with

-- what is read begins with a lexeme that passes the test, or always with one that doesn't
pub record Starts {A : Type 0} (test : Meaning → Bool) (b : Bool) (r : ℕ → List Lexeme → Read A) : Type 0 where
  pub is : (limit : ℕ) (xs : List Lexeme) (p : A × List Lexeme) → r limit xs ≡ Ok p → begins_with test xs ≡ b

pub starts-one : {A : Type 0} (test : Meaning → Bool) (b : Bool) (pick : Meaning → Result A ParseWhy) → ((m : Meaning) (a : A) → pick m ≡ Ok a → test m ≡ b)
    → Starts test b (λ limit xs. one pick xs)
unfolding next_at
starts-one {A} test b pick h = record { is = λ limit xs p e. by-list xs p e }
  where
    by-pick : (x : Lexeme) (xs : List Lexeme) (p : (A × Place) × List Lexeme) (r : Result A ParseWhy) → pick (meaning x) ≡ r → picked r x.place xs (x ∷ xs) ≡ Ok p → test (meaning x) ≡ b
    by-pick x xs p (Ok a) picks e = h (meaning x) a picks
    by-pick x xs p (Err why) picks e = absurd (cc)

    by-list : (xs : List Lexeme) (p : (A × Place) × List Lexeme) → one pick xs ≡ Ok p → begins_with test xs ≡ b
    by-list [] p e = absurd (cc)
    by-list (x ∷ xs) p e = by-pick x xs p (pick (meaning x)) refl e

pub binds : {A B : Type 0} (r : Read A) (f : A × List Lexeme → Result B Stopped) (q : B) → (r >>= f) ≡ Ok q → (p : A × List Lexeme) × (r ≡ Ok p) × (f p ≡ Ok q)
binds (Ok x) f q h = (x, refl, h)
binds (Err e) f q h = absurd (cc)

pub starts-then : {A B : Type 0} {test : Meaning → Bool} {b : Bool} {r : ℕ → List Lexeme → Read A} → Starts test b r → (s : A → ℕ → List Lexeme → Read B)
    → Starts test b (λ limit xs. r limit xs >>= λ p. s p.0 limit p.1)
starts-then {r} h s = record { is = λ limit xs q e. let t = binds (r limit xs) (λ p. s p.0 limit p.1) q e in h.is limit xs t.0 t.1 }

pub starts-through : {A : Type 0} {test : Meaning → Bool} {b : Bool} {r : ℕ → List Lexeme → Read A} → Starts test b r → (k : A → Rest)
    → (limit : ℕ) (xs : List Lexeme) (d : Description) → through r k limit xs ≡ Ok d → begins_with test xs ≡ b
starts-through {r} h k limit xs d e = let t = binds (r limit xs) (λ p. k p.0 limit p.1) d e in h.is limit xs t.0 t.1

-- where none of these may follow a part, none of those may follow what stands before it
pub record Blocks {A : Type 0} (go go' : Meaning → Bool) (r : ℕ → List Lexeme → Read A) : Type 0 where
  pub is : (k : A → Rest) → ((a : A) → Bars go' (k a)) → Bars go (through r k)

pub blocks-nothing : {A : Type 0} (go' : Meaning → Bool) (r : ℕ → List Lexeme → Read A) → Blocks nothing go' r
blocks-nothing go' r = record { is = λ k bars. bars-nothing (through r k) }

pub blocks-start : {A : Type 0} {go : Meaning → Bool} {r : ℕ → List Lexeme → Read A} → Starts go false r → (go' : Meaning → Bool) → Blocks go go' r
blocks-start h go' = record { is = λ k bars. record { is = λ limit xs d e. starts-through h k limit xs d e } }

pub blocks-gives : {A : Type 0} (go : Meaning → Bool) (a : A) → Blocks go go (λ limit xs. Ok (a, xs))
blocks-gives go a = record { is = λ k bars. record { is = λ limit xs d e. (bars a).is limit xs d e } }

pub blocks-wider : {A : Type 0} {go go' go'' : Meaning → Bool} {r : ℕ → List Lexeme → Read A} → Within go' go'' → Blocks go go' r → Blocks go go'' r
blocks-wider w h = record { is = λ k bars. h.is k (λ a. bars-within w (bars a)) }

pub blocks-then : {A B : Type 0} {go mid go' : Meaning → Bool} {r : ℕ → List Lexeme → Read A} {s : A → ℕ → List Lexeme → Read B}
    → Blocks go mid r → ((a : A) → Blocks mid go' (s a)) → Blocks go go' (λ limit xs. r limit xs >>= λ p. s p.0 limit p.1)
blocks-then {r} {s} h h' = record {
  is = λ k bars. record {
    is = λ limit xs d e.
        (h.is (λ a. through (s a) k) (λ a. (h' a).is k bars)).is limit xs d (sym (assoc (r limit xs) (λ p. s p.0 limit p.1) (λ q. k q.0 limit q.1)) ∙ e);
  };
}

-- ---- one lexeme, and nothing

one-shrinks : {A : Type 0} (pick : Meaning → Result A ParseWhy) (xs : List Lexeme) (p : (A × Place) × List Lexeme) → one pick xs ≡ Ok p → suc (length p.1) ≤ length xs
unfolding next_at
one-shrinks pick [] p e = absurd (cc)
one-shrinks {A} pick (x ∷ xs) p e = by-pick (pick (meaning x)) e
  where
    rest-of : Read (A × Place) → List Lexeme
    rest-of (Ok q) = q.1
    rest-of (Err f) = []

    by-pick : (r : Result A ParseWhy) → picked r x.place xs (x ∷ xs) ≡ Ok p → suc (length p.1) ≤ suc (length xs)
    by-pick (Ok a) e = let same : xs ≡ p.1 = ap rest-of e in let lengths = ap length same in omega arith
    by-pick (Err why) e = absurd (cc)

not-quote : {A : Type 0} (pick : Meaning → Result A ParseWhy) (m : Meaning) (a : A) (why : ParseWhy) → pick (Sign sign.Quote) ≡ Err why → pick m ≡ Ok a → m ≡ Sign sign.Quote → ⊥
not-quote pick m a why h picks same = let e = ap pick same in cc

pub one-law : {A : Type 0} (pick : Meaning → Result A ParseWhy) (go : Meaning → Bool) → Proper pick → (why : ParseWhy) → pick (Sign sign.Quote) ≡ Err why → Law true go (λ limit xs. one pick xs)
one-law pick go proper why h = record {
  good = λ n k good bars. one-good pick proper k good (λ a x picks quote. absurd (not-quote pick (meaning x) a.0 why h picks quote));
  shrinks = λ limit xs p e. one-shrinks pick xs p e;
}

pub quote-law : {A : Type 0} (pick : Meaning → Result A ParseWhy) → Proper pick → Law true opens (λ limit xs. one pick xs)
quote-law pick proper = record {
  good = λ n k good bars. one-good pick proper k good (λ a x picks quote. bars a);
  shrinks = λ limit xs p e. one-shrinks pick xs p e;
}

gave-shrinks : {A : Type 0} (a : A) (xs : List Lexeme) (p : A × List Lexeme) (r : Read A) → r ≡ Ok (a, xs) → r ≡ Ok p → length p.1 ≤ length xs
gave-shrinks {A} a xs p r h e = let same : xs ≡ p.1 = ap rest-of (sym h ∙ e) in let lengths = ap length same in omega arith
  where
    rest-of : Read A → List Lexeme
    rest-of (Ok q) = q.1
    rest-of (Err f) = xs

pub gives-law : {A : Type 0} (go : Meaning → Bool) (a : A) → Law false go (λ limit xs. Ok (a, xs))
gives-law go a = record { good = λ n k good bars. good a; shrinks = λ limit xs p e. gave-shrinks a xs p (Ok (a, xs)) refl e }

-- ---- one part behind another

module _ {A B : Type 0} (r : ℕ → List Lexeme → Read A) (s : A → ℕ → List Lexeme → Read B) where
  abbrev followed : ℕ → List Lexeme → Read B
  followed limit xs = r limit xs >>= λ p. s p.0 limit p.1

  same : (k : B → Rest) (limit : ℕ) → 1 ≤ limit → (xs : List Lexeme) → through r (λ a. through (s a) k) limit xs ≡ through followed k limit xs
  same k limit low xs = sym (assoc (r limit xs) (λ p. s p.0 limit p.1) (λ q. k q.0 limit q.1))

  then-shrinks : (g g' : Bool)
      → ((limit : ℕ) (xs : List Lexeme) (p : A × List Lexeme) → r limit xs ≡ Ok p → grown g (length p.1) ≤ length xs)
      → ((a : A) (limit : ℕ) (xs : List Lexeme) (p : B × List Lexeme) → s a limit xs ≡ Ok p → grown g' (length p.1) ≤ length xs)
      → (limit : ℕ) (xs : List Lexeme) (q : B × List Lexeme) → followed limit xs ≡ Ok q → grown g (length q.1) ≤ length xs
  then-shrinks g g' h h' limit xs q e =
      let t = binds (r limit xs) (λ p. s p.0 limit p.1) q e in
      let first = h limit xs t.0 t.1 in
      let next = h' t.0.0 limit t.0.1 q t.2 in
      let more = grown-more g' (length q.1) in
      let shorter : length q.1 ≤ length t.0.1 = omega arith in
      let up = grown-up g (length q.1) (length t.0.1) shorter in
      omega arith

pub then-law : {A B : Type 0} {g g' : Bool} {go go' : Meaning → Bool} {r : ℕ → List Lexeme → Read A} {s : A → ℕ → List Lexeme → Read B}
    → Law g go r → ((a : A) → Law g' go' (s a)) → ((a : A) → Blocks go go' (s a)) → Law g go' (λ limit xs. r limit xs >>= λ p. s p.0 limit p.1)
then-law {g} {g'} {r} {s} t u b = record {
  good = λ n k good bars.
      alike (through r (λ a. through (s a) k)) (through (followed r s) k) (same r s k)
      (t.good n (λ a. through (s a) k) (λ a. fewer (grown-more g' n) ((u a).good n k good bars)) (λ a. (b a).is k bars));
  shrinks = then-shrinks r s g g' t.shrinks (λ a. (u a).shrinks);
}

-- ---- one part or another, by the first lexeme

module _ {A : Type 0} (test : Meaning → Bool) (r other : ℕ → List Lexeme → Read A) where
  abbrev either_part : ℕ → List Lexeme → Read A
  either_part limit xs = cond (begins_with test xs) (r limit xs) (other limit xs)

  spread : (k : A → Rest) (limit : ℕ) → 1 ≤ limit → (xs : List Lexeme)
      → cond (begins_with test xs) (through r k limit xs) (through other k limit xs) ≡ through either_part k limit xs
  spread k limit low xs = by-test (begins_with test xs)
    where
      by-test : (b : Bool) → cond b (through r k limit xs) (through other k limit xs) ≡ (cond b (r limit xs) (other limit xs) >>= λ p. k p.0 limit p.1)
      by-test true = refl
      by-test false = refl

  either-shrinks : (g : Bool)
      → ((limit : ℕ) (xs : List Lexeme) (p : A × List Lexeme) → r limit xs ≡ Ok p → grown g (length p.1) ≤ length xs)
      → ((limit : ℕ) (xs : List Lexeme) (p : A × List Lexeme) → other limit xs ≡ Ok p → grown g (length p.1) ≤ length xs)
      → (limit : ℕ) (xs : List Lexeme) (p : A × List Lexeme) → either_part limit xs ≡ Ok p → grown g (length p.1) ≤ length xs
  either-shrinks g h h' limit xs p e = by-test (begins_with test xs) e
    where
      by-test : (b : Bool) → cond b (r limit xs) (other limit xs) ≡ Ok p → grown g (length p.1) ≤ length xs
      by-test true e = h limit xs p e
      by-test false e = h' limit xs p e

pub either-law : {A : Type 0} {g : Bool} {go test : Meaning → Bool} {r other : ℕ → List Lexeme → Read A} → Plain test → Law g go r → Law g go other
    → Starts test true r → Starts test false other → Law g go (λ limit xs. cond (begins_with test xs) (r limit xs) (other limit xs))
either-law {g} {test} {r} {other} plain law law' first second = record {
  good = λ n k good bars.
      alike _ (through (either_part test r other) k) (spread test r other k)
      (chosen-good test plain (through r k) (through other k) (starts-through first k) (starts-through second k) (law.good n k good bars) (law'.good n k good bars));
  shrinks = either-shrinks test r other g law.shrinks law'.shrinks;
}

-- a part that may be left away
pub optional-law : {A : Type 0} {go test : Meaning → Bool} {r : ℕ → List Lexeme → Read A} (a : A) → Plain test → Law true go r → Starts test true r
    → Law false (either_of go test) (λ limit xs. cond (begins_with test xs) (r limit xs) (Ok (a, xs)))
optional-law {go} {test} {r} a plain law first = record {
  good = λ n k good bars.
      alike _ (through (either_part test r (λ limit xs. Ok (a, xs))) k) (spread test r (λ limit xs. Ok (a, xs)) k)
      (chosen-good test plain (through r k) (k a) (starts-through first k) (bars-within (in-second go test) (bars a)).is
      (fewer (omega arith) (law.good n k good (λ a. bars-within (in-first go test) (bars a)))) (good a));
  shrinks = either-shrinks test r (λ limit xs. Ok (a, xs)) false
      (λ limit xs p e. let h = law.shrinks limit xs p e in omega arith) (λ limit xs p e. gave-shrinks a xs p (Ok (a, xs)) refl e);
}

pub blocks-optional : {A : Type 0} {go test : Meaning → Bool} {r : ℕ → List Lexeme → Read A} (a : A) → Apart test go
    → Blocks go go (λ limit xs. cond (begins_with test xs) (r limit xs) (Ok (a, xs)))
blocks-optional {A} {go} {test} {r} a apart = record { is = λ k bars. record { is = λ limit xs d e. by-test k bars limit xs d (begins_with test xs) refl e } }
  where
    by-test : (k : A → Rest) → ((a : A) → Bars go (k a)) → (limit : ℕ) (xs : List Lexeme) (d : Description) (b : Bool) → begins_with test xs ≡ b
        → (cond b (r limit xs) (Ok (a, xs)) >>= λ p. k p.0 limit p.1) ≡ Ok d → begins_with go xs ≡ false
    by-test k bars limit xs d true h e = begins-apart test go apart xs h
    by-test k bars limit xs d false h e = (bars a).is limit xs d e
