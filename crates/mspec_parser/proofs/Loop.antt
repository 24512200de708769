-- Reading parts one after the other, as a loop does.
use Rattle.std.proofs.Common.{◌≡◌, ℕ, zero, suc, ◌-◌, ◌+◌, ◌≤◌, ◌<◌, Bool, true, false, List, [], ◌∷◌, ◌++◌, Ok, Err, refl, sym, ap, ◌∙◌, append_assoc, length, drop, arith}
use Rattle.std.proofs.lemmas.List.{append-nil, length-drop, length-map}
use Rattle.mspec_lexer.specs.declared.tokens.Token.{Token}
use Rattle.mspec_lexer.specs.Lexemes.{Lexeme, lexeme}
use Rattle.mspec_grammar.specs.Meanings.{Meaning}
use Rattle.mspec_quotes.specs.declared.quotes.QuoteFault.{QuoteFault}
use Rattle.mspec_quotes.specs.declared.quotes.QuoteFault.TheVariants as fault
use Rattle.mspec_quotes.specs.Machine.{Stopped}
use Rattle.mspec_tree.specs.declared.words.Place.{Place}
use Rattle.mspec_parser.specs.declared.words.Mark.TheVariants.{Comma}
use Rattle.mspec_parser.specs.Readers.{Read, ◌>>=◌, begins_with, is_mark, mark_at, many, listed, from_on, GivesBy}

-- what was read before, and what is still read
abbrev pub with_front : {A : Type 0} → List A → Read (List A) → Read (List A)
with_front front read = read >>= λ x. Ok (front ++ x.0, x.1)

pub starts : {A : Type 0} (read : Read (List A)) → with_front [] read ≡ read
starts (Ok x) = refl
starts (Err e) = refl

regroup : {A : Type 0} (front : List A) (a : A) (read : Read (List A)) → with_front front (read >>= λ x. Ok (a ∷ x.0, x.1)) ≡ with_front (front ++ a ∷ []) read
regroup {A} front a (Ok x) = ap (λ (ps : List A). Ok (ps, x.1)) (simp append_assoc)
regroup front a (Err f) = refl

-- as many lexemes as tokens
pub tokens-left : (text : List ℕ) (tokens : List Token) (at : ℕ) → length (from_on text tokens at) ≡ length tokens - at
tokens-left text tokens at = length-map (drop at tokens) (lexeme text) ∙ length-drop at tokens

module _ {A : Type 0} (begins : Meaning → Bool) (part : List Lexeme → Read A) where
  unrolled : (n : ℕ) (xs after : List Lexeme) (a : A) → begins_with begins xs ≡ true → part xs ≡ Ok (a, after)
      → many begins part (suc n) xs ≡ (many begins part n after >>= λ x. Ok (a ∷ x.0, x.1))
  unfolding many
  unrolled n xs after a h p = rw (h, p) refl

  pub goes-on : (front : List A) (count i : ℕ) (xs after : List Lexeme) (a : A) (total : Read (List A)) → i < count
      → begins_with begins xs ≡ true → part xs ≡ Ok (a, after)
      → with_front front (many begins part (count - i) xs) ≡ total → with_front (front ++ a ∷ []) (many begins part (count - (i + 1)) after) ≡ total
  goes-on front count i xs after a total lt h p so_far =
      let k : count - i ≡ suc (count - (i + 1)) = omega arith in
      let one : with_front front (many begins part (count - i) xs) ≡ with_front (front ++ a ∷ []) (many begins part (count - (i + 1)) after)
      = rw (k, unrolled (count - (i + 1)) xs after a h p) (regroup front a (many begins part (count - (i + 1)) after)) in
      sym one ∙ so_far

  refused : (n : ℕ) (xs : List Lexeme) (f : Stopped) → begins_with begins xs ≡ true → part xs ≡ Err f → many begins part (suc n) xs ≡ Err f
  unfolding many
  refused n xs f h p = rw (h, p) refl

  pub ends : (e : QuoteFault) (front : List A) (text : List ℕ) (tokens : List Token) (count i : ℕ) (xs : List Lexeme) (total : Read (List A)) → i < count
      → begins_with begins xs ≡ true → GivesBy (λ (x : A). x) text tokens (Err e) (part xs)
      → with_front front (many begins part (count - i) xs) ≡ total → GivesBy (λ (x : List A). x) text tokens (Err e) total
  ends fault.NoMemory front text tokens count i xs total lt h p so_far = tt
  ends (fault.At index why) front text tokens count i xs total lt h p so_far =
      let k : count - i ≡ suc (count - (i + 1)) = omega arith in
      let f : Stopped = record { why = why; at = from_on text tokens index } in
      let one : with_front front (many begins part (count - i) xs) ≡ Err f = rw (k, refused (count - (i + 1)) xs f h p) refl in
      sym so_far ∙ one

  over : (n : ℕ) (xs : List Lexeme) → begins_with begins xs ≡ false → many begins part n xs ≡ Ok ([], xs)
  unfolding many
  over zero xs h = refl
  over (suc n) xs h = rw h refl

  ended : (front : List A) (n : ℕ) (xs : List Lexeme) (total : Read (List A)) → many begins part n xs ≡ Ok ([], xs)
      → with_front front (many begins part n xs) ≡ total → total ≡ Ok (front, xs)
  ended front n xs total e so_far =
      let one : with_front front (many begins part n xs) ≡ Ok (front, xs) = rw e (ap (λ (ps : List A). Ok (ps, xs)) (append-nil front)) in
      sym so_far ∙ one

  pub is-over : (front : List A) (n : ℕ) (xs : List Lexeme) (total : Read (List A)) → begins_with begins xs ≡ false
      → with_front front (many begins part n xs) ≡ total → total ≡ Ok (front, xs)
  is-over front n xs total h so_far = ended front n xs total (over n xs h) so_far

  pub is-done : (front : List A) (count i : ℕ) (xs : List Lexeme) (total : Read (List A)) → count ≤ i
      → with_front front (many begins part (count - i) xs) ≡ total → total ≡ Ok (front, xs)
  unfolding many
  is-done front count i xs total le so_far =
      let k : count - i ≡ 0 = omega arith in
      let none : many begins part (count - i) xs ≡ Ok ([], xs) = rw k refl in
      ended front (count - i) xs total none so_far

  pub begin : (text : List ℕ) (tokens : List Token) (at end : ℕ) (front : List A) → end ≡ length tokens → front ≡ []
      → with_front front (many begins part (end - at) (from_on text tokens at)) ≡ many begins part (length (from_on text tokens at)) (from_on text tokens at)
  begin text tokens at end front e none =
      let xs = from_on text tokens at in
      let left : end - at ≡ length xs = ap (λ n. n - at) e ∙ sym (tokens-left text tokens at) in
      ap (λ (f : List A). with_front f (many begins part (end - at) xs)) none ∙ starts (many begins part (end - at) xs) ∙ ap (λ n. many begins part n xs) left

-- ---- with commas

abbrev pub behind_comma : {A : Type 0} → (List Lexeme → Read A) → List Lexeme → Read A
behind_comma part ys = mark_at Comma ys >>= λ comma. part comma.1

pub comma-gives : {A : Type 0} (part : List Lexeme → Read A) (xs mid after : List Lexeme) (place : Place) (a : A) → mark_at Comma xs ≡ Ok (place, mid) → part mid ≡ Ok (a, after)
    → behind_comma part xs ≡ Ok (a, after)
comma-gives part xs mid after place a h p = rw h p

pub comma-fails : {A : Type 0} (part : List Lexeme → Read A) (e : QuoteFault) (text : List ℕ) (tokens : List Token) (xs : List Lexeme)
    → GivesBy (λ (x : Place). x) text tokens (Err e) (mark_at Comma xs) → GivesBy (λ (x : A). x) text tokens (Err e) (behind_comma part xs)
comma-fails part fault.NoMemory text tokens xs h = tt
comma-fails part (fault.At index why) text tokens xs h = rw h refl

pub part-fails : {A : Type 0} (part : List Lexeme → Read A) (e : QuoteFault) (text : List ℕ) (tokens : List Token) (xs mid : List Lexeme) (place : Place) → mark_at Comma xs ≡ Ok (place, mid)
    → GivesBy (λ (x : A). x) text tokens (Err e) (part mid) → GivesBy (λ (x : A). x) text tokens (Err e) (behind_comma part xs)
part-fails part fault.NoMemory text tokens xs mid place h p = tt
part-fails part (fault.At index why) text tokens xs mid place h p = rw h p

pub first-read : {A : Type 0} (part : List Lexeme → Read A) (text : List ℕ) (tokens : List Token) (xs : List Lexeme) (next end : ℕ) (a : A) (front : List A)
    → end ≡ length tokens → part xs ≡ Ok (a, from_on text tokens next) → front ≡ a ∷ []
    → with_front front (many (is_mark Comma) (behind_comma part) (end - next) (from_on text tokens next)) ≡ listed part xs
unfolding listed
first-read {A} part text tokens xs next end a front e p one =
    let ys = from_on text tokens next in
    let left : end - next ≡ length ys = ap (λ n. n - next) e ∙ sym (tokens-left text tokens next) in
    ap (λ (f : List A). with_front f (many (is_mark Comma) (behind_comma part) (end - next) ys)) one
    ∙ ap (λ n. with_front (a ∷ []) (many (is_mark Comma) (behind_comma part) n ys)) left
    ∙ rw p refl
