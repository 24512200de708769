-- The stops of parts in a row.
use Rattle.std.proofs.Common.{ℕ, zero, suc, ◌≡◌, ◌≤◌, Bool, true, false, cond, List, [], ◌∷◌, Ok, Err, length, refl, sym, ap, ◌∙◌, arith}
use Rattle.mspec_tree.specs.declared.defs.Description.{Description}
use Rattle.mspec_lexer.specs.Lexemes.{Lexeme}
use Rattle.mspec_grammar.specs.Meanings.{Meaning}
use Rattle.mspec_parser.specs.Readers.{Read, ◌>>=◌, begins_with, many}
use Rattle.mspec_parser.proofs.LeftWords.{Rest}
use Rattle.mspec_parser.proofs.Stops.{Good, through, alike, fewer, Bars}
use Rattle.mspec_parser.proofs.Chosen.{Plain, chosen-good, empty-good}
use Rattle.mspec_parser.proofs.Behave.{assoc, binds, Law, either_of, Apart, in-first, in-second, begins-apart, bars-within, Starts, Blocks}

module _ {A : Type 0} (begins : Meaning → Bool) (plain : Plain begins) (part : ℕ → List Lexeme → Read A) (first : Starts begins true part)
    (go : Meaning → Bool) (law : Law true go part) (apart : Apart begins go) where
  abbrev all : ℕ → List Lexeme → Read (List A)
  all limit xs = many begins (part limit) (length xs) xs

  abbrev with_first : A → Read (List A) → Read (List A)
  with_first a read = read >>= λ others. Ok (a ∷ others.0, others.1)

  -- ---- how many at most doesn't matter

  enough-behind : (limit : ℕ) (m n : ℕ) (xs : List Lexeme) → length xs ≤ suc m → length xs ≤ suc n
      → ((ys : List Lexeme) → length ys ≤ m → length ys ≤ n → many begins (part limit) m ys ≡ many begins (part limit) n ys)
      → (r : Read A) → part limit xs ≡ r
      → (r >>= λ p. with_first p.0 (many begins (part limit) m p.1)) ≡ (r >>= λ p. with_first p.0 (many begins (part limit) n p.1))
  enough-behind limit m n xs le le' further (Ok p) h =
      let s = law.shrinks limit xs p h in
      ap (with_first p.0) (further p.1 (omega arith) (omega arith))
  enough-behind limit m n xs le le' further (Err f) h = refl

  enough : (limit : ℕ) (m n : ℕ) (xs : List Lexeme) → length xs ≤ m → length xs ≤ n → many begins (part limit) m xs ≡ many begins (part limit) n xs
  unfolding many
  enough limit zero zero xs le le' = refl
  enough limit zero (suc n) [] le le' = refl
  enough limit zero (suc n) (x ∷ xs) le le' = absurd (omega arith)
  enough limit (suc m) zero [] le le' = refl
  enough limit (suc m) zero (x ∷ xs) le le' = absurd (omega arith)
  enough limit (suc m) (suc n) xs le le' =
      ap (λ (r : Read (List A)). cond (begins_with begins xs) r (Ok ([], xs)))
      (enough-behind limit m n xs le le' (λ ys l l'. enough limit m n ys l l') (part limit xs) refl)

  unrolled-behind : (limit : ℕ) (m : ℕ) (xs : List Lexeme) → length xs ≤ suc m → (r : Read A) → part limit xs ≡ r
      → (r >>= λ p. with_first p.0 (many begins (part limit) m p.1)) ≡ (r >>= λ p. with_first p.0 (all limit p.1))
  unrolled-behind limit m xs le (Ok p) h =
      let s = law.shrinks limit xs p h in
      ap (with_first p.0) (enough limit m (length p.1) p.1 (omega arith) (omega arith))
  unrolled-behind limit m xs le (Err f) h = refl

  unrolled : (limit : ℕ) (xs : List Lexeme)
      → all limit xs ≡ cond (begins_with begins xs) (part limit xs >>= λ p. with_first p.0 (all limit p.1)) (Ok ([], xs))
  unfolding many
  unrolled limit [] = refl
  unrolled limit (x ∷ xs) =
      ap (λ (r : Read (List A)). cond (begins_with begins (x ∷ xs)) r (Ok ([], x ∷ xs)))
      (unrolled-behind limit (length xs) (x ∷ xs) (omega arith) (part limit (x ∷ xs)) refl)

  -- ---- the first part, and the others

  abbrev first_then : (List A → Rest) → Rest
  first_then k limit xs = part limit xs >>= λ p. through all (λ others. k (p.0 ∷ others)) limit p.1

  spread : (k : List A → Rest) (limit : ℕ) (b : Bool) (r : Read A) (xs : List Lexeme)
      → (cond b (r >>= λ p. with_first p.0 (all limit p.1)) (Ok ([], xs)) >>= λ q. k q.0 limit q.1)
      ≡ cond b (r >>= λ p. all limit p.1 >>= λ q. k (p.0 ∷ q.0) limit q.1) (k [] limit xs)
  spread k limit true (Ok p) xs = assoc (all limit p.1) (λ others. Ok (p.0 ∷ others.0, others.1)) (λ q. k q.0 limit q.1)
  spread k limit true (Err f) xs = refl
  spread k limit false r xs = refl

  as-chosen : (k : List A → Rest) (limit : ℕ) → 1 ≤ limit → (xs : List Lexeme)
      → cond (begins_with begins xs) (first_then k limit xs) (k [] limit xs) ≡ through all k limit xs
  as-chosen k limit low xs =
      sym (ap (λ (r : Read (List A)). r >>= λ q. k q.0 limit q.1) (unrolled limit xs) ∙ spread k limit (begins_with begins xs) (part limit xs) xs)

  first-begins : (k : List A → Rest) (limit : ℕ) (xs : List Lexeme) (d : Description) → first_then k limit xs ≡ Ok d → begins_with begins xs ≡ true
  first-begins k limit xs d e =
      let t = binds (part limit xs) (λ p. through all (λ others. k (p.0 ∷ others)) limit p.1) d e in
      first.is limit xs t.0 t.1

  -- what may not follow a part may not follow what stands before the parts
  all-bars : (k : List A → Rest) → ((parts : List A) → Bars go (k parts)) → Bars go (through all k)
  all-bars k bars = record {
    is = λ limit xs d e. by-test limit xs d (begins_with begins xs) refl
        (sym (ap (λ (r : Read (List A)). r >>= λ q. k q.0 limit q.1) (unrolled limit xs) ∙ spread k limit (begins_with begins xs) (part limit xs) xs) ∙ e);
  }
    where
      by-test : (limit : ℕ) (xs : List Lexeme) (d : Description) (b : Bool) → begins_with begins xs ≡ b
          → cond b (first_then k limit xs) (k [] limit xs) ≡ Ok d → begins_with go xs ≡ false
      by-test limit xs d true h e = begins-apart begins go apart xs h
      by-test limit xs d false h e = (bars []).is limit xs d e

  pub blocks-many : Blocks go go (λ limit xs. many begins (part limit) (length xs) xs)
  blocks-many = record { is = λ k bars. all-bars k bars }

  many-good : (n : ℕ) (k : List A → Rest) → ((parts : List A) → Good n (k parts)) → ((parts : List A) → Bars (either_of go begins) (k parts)) → Good n (through all k)
  many-good zero k good bars =
      alike (λ limit xs. cond (begins_with begins xs) (first_then k limit xs) (k [] limit xs)) (through all k) (as-chosen k)
      (empty-good begins plain (first_then k) (k []) (first-begins k) (bars-within (in-second go begins) (bars [])).is (good []))
  many-good (suc n) k good bars =
      alike (λ limit xs. cond (begins_with begins xs) (first_then k limit xs) (k [] limit xs)) (through all k) (as-chosen k)
      (chosen-good begins plain (first_then k) (k []) (first-begins k) (bars-within (in-second go begins) (bars [])).is
      (law.good n (λ a. through all (λ others. k (a ∷ others)))
      (λ a. many-good n (λ others. k (a ∷ others)) (λ others. fewer (omega arith) (good (a ∷ others))) (λ others. bars (a ∷ others)))
      (λ a. all-bars (λ others. k (a ∷ others)) (λ others. bars-within (in-first go begins) (bars (a ∷ others)))))
      (good []))

  many-shrinks : (limit n : ℕ) (xs : List Lexeme) (q : List A × List Lexeme) → many begins (part limit) n xs ≡ Ok q → length q.1 ≤ length xs
  unfolding many
  many-shrinks limit zero xs q e = let same : xs ≡ q.1 = cc in let lengths = ap length same in omega arith
  many-shrinks limit (suc n) xs q e = by-test (λ ys p h. many-shrinks limit n ys p h) (begins_with begins xs) e
    where
      by-test : ((ys : List Lexeme) (p : List A × List Lexeme) → many begins (part limit) n ys ≡ Ok p → length p.1 ≤ length ys)
          → (b : Bool) → cond b (part limit xs >>= λ p. with_first p.0 (many begins (part limit) n p.1)) (Ok ([], xs)) ≡ Ok q → length q.1 ≤ length xs
      by-test further true e =
          let t = binds (part limit xs) (λ p. with_first p.0 (many begins (part limit) n p.1)) q e in
          let u = binds (many begins (part limit) n t.0.1) (λ others. Ok (t.0.0 ∷ others.0, others.1)) q t.2 in
          let s = law.shrinks limit xs t.0 t.1 in
          let s' = further t.0.1 u.0 u.1 in
          let same : u.0.1 ≡ q.1 = cc in
          let lengths = ap length same in
          omega arith
      by-test further false e = let same : xs ≡ q.1 = cc in let lengths = ap length same in omega arith

  pub many-law : Law false (either_of go begins) (λ limit xs. many begins (part limit) (length xs) xs)
  many-law = record { good = many-good; shrinks = λ limit xs p e. many-shrinks limit (length xs) xs p e }
