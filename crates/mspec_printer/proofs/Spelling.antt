-- Lexemes that spell the words of printed pieces, and how lists of parts are read of them.
use Rattle.std.proofs.Common.{◌≡◌, ℕ, Bool, true, false, ◌&&◌, List, [], ◌∷◌, ◌++◌, map, refl, sym, ap, ◌∙◌, subst, append-nil}
use Rattle.std.specs.List.{flat_map, list_all}
use Rattle.mspec_lexer.specs.declared.tokens.Symbol.TheVariants.{Comma}
use Rattle.mspec_lexer.specs.declared.tokens.TokenKind.{TokenKind}
use Rattle.mspec_lexer.specs.Lexemes.{Lexeme}
use Rattle.mspec_lexer.specs.Tokens.{Gap, Piece, Word}
use Rattle.mspec_grammar.specs.Meanings.{Meaning, meaning, meaning_of}
use Rattle.mspec_grammar.specs.Parts.{Many, Listed, none, more, last}
use Rattle.mspec_printer.specs.Printed.{blank, each_behind, mark}

-- the lexemes at the front are the words among the pieces, in order, and the rest follows them
pub data Spells : List Lexeme → List Piece → List Lexeme → Type 0 where
  done : {rest : List Lexeme} → Spells rest [] rest
  gap : {bytes : List ℕ} {pieces : List Piece} {from rest : List Lexeme}
      → Spells from pieces rest → Spells from (Gap bytes ∷ pieces) rest
  word : {x : Lexeme} {kind : TokenKind} {bytes : List ℕ} {pieces : List Piece} {from rest : List Lexeme}
      → meaning x ≡ meaning_of kind bytes → Spells from pieces rest → Spells (x ∷ from) (Word kind bytes ∷ pieces) rest

-- ---- one part behind another

pub record Split (from : List Lexeme) (p q : List Piece) (rest : List Lexeme) : Type 0 where
  pub mid : List Lexeme
  pub first : Spells from p mid
  pub second : Spells mid q rest

pub splits : (p q : List Piece) {from rest : List Lexeme} → Spells from (p ++ q) rest → Split from p q rest
splits [] q {from} s = record { mid = from; first = done; second = s }
splits (Gap bytes ∷ p) q (gap s) =
    let parts = splits p q s in
    record { mid = parts.mid; first = gap parts.first; second = parts.second }
splits (Word kind bytes ∷ p) q (word means s) =
    let parts = splits p q s in
    record { mid = parts.mid; first = word means parts.first; second = parts.second }

pub past_gap : {bytes : List ℕ} {p : List Piece} {from rest : List Lexeme} → Spells from (Gap bytes ∷ p) rest → Spells from p rest
past_gap (gap s) = s

pub all_there : (p : List Piece) {from rest : List Lexeme} → Spells from (p ++ []) rest → Spells from p rest
all_there p s = rw append-nil at s

-- a part, and a word behind it
pub record Before (from : List Lexeme) (p : List Piece) (m : Meaning) (q : List Piece) (rest : List Lexeme) : Type 0 where
  pub x : Lexeme
  pub beyond : List Lexeme
  pub first : Spells from p (x ∷ beyond)
  pub means : meaning x ≡ m
  pub second : Spells beyond q rest

word_behind : (p q : List Piece) {kind : TokenKind} {bytes : List ℕ} {from mid rest : List Lexeme} → Spells from p mid → Spells mid (Word kind bytes ∷ q) rest → Before from p (meaning_of kind bytes) q rest
word_behind p q first (word {x} {from = beyond} means s) =
    record { x = x; beyond = beyond; first = first; means = means; second = s }

pub before_word : (p : List Piece) (kind : TokenKind) (bytes : List ℕ) (q : List Piece) {from rest : List Lexeme} → Spells from (p ++ Word kind bytes ∷ q) rest → Before from p (meaning_of kind bytes) q rest
before_word p kind bytes q s = let parts = splits p (Word kind bytes ∷ q) s in word_behind p q parts.first parts.second

pub before_gap : (p : List Piece) (blank : List ℕ) (kind : TokenKind) (bytes : List ℕ) (q : List Piece) {from rest : List Lexeme} → Spells from (p ++ Gap blank ∷ Word kind bytes ∷ q) rest → Before from p (meaning_of kind bytes) q rest
before_gap p blank kind bytes q s =
    let parts = splits p (Gap blank ∷ Word kind bytes ∷ q) s in
    word_behind p q parts.first (past_gap parts.second)

-- a part, and one last word behind it
pub record Last (from : List Lexeme) (p : List Piece) (m : Meaning) (rest : List Lexeme) : Type 0 where
  pub x : Lexeme
  pub first : Spells from p (x ∷ rest)
  pub means : meaning x ≡ m

last_behind : (p : List Piece) {kind : TokenKind} {bytes : List ℕ} {from mid rest : List Lexeme} → Spells from p mid → Spells mid (Word kind bytes ∷ []) rest → Last from p (meaning_of kind bytes) rest
last_behind p first (word {x} means done) = record { x = x; first = first; means = means }

pub before_last : (p : List Piece) (kind : TokenKind) (bytes : List ℕ) {from rest : List Lexeme} → Spells from (p ++ Word kind bytes ∷ []) rest → Last from p (meaning_of kind bytes) rest
before_last p kind bytes s =
    let parts = splits p (Word kind bytes ∷ []) s in last_behind p parts.first parts.second

pub last_gap : (p : List Piece) (blank : List ℕ) (kind : TokenKind) (bytes : List ℕ) {from rest : List Lexeme} → Spells from (p ++ Gap blank ∷ Word kind bytes ∷ []) rest → Last from p (meaning_of kind bytes) rest
last_gap p blank kind bytes s =
    let parts = splits p (Gap blank ∷ Word kind bytes ∷ []) s in
    last_behind p parts.first (past_gap parts.second)

by_gap : (p : List Piece) {bytes : List ℕ} {from mid rest : List Lexeme} → Spells from p mid → Spells mid (Gap bytes ∷ []) rest → Spells from p rest
by_gap p first (gap done) = first

pub before_gap_alone : (p : List Piece) (bytes : List ℕ) {from rest : List Lexeme} → Spells from (p ++ Gap bytes ∷ []) rest → Spells from p rest
before_gap_alone p bytes s = let parts = splits p (Gap bytes ∷ []) s in by_gap p parts.first parts.second

-- a part, and two last words behind it
pub record LastTwo (from : List Lexeme) (p : List Piece) (m n : Meaning) (rest : List Lexeme) : Type 0 where
  pub x : Lexeme
  pub y : Lexeme
  pub first : Spells from p (x ∷ y ∷ rest)
  pub means : meaning x ≡ m
  pub also : meaning y ≡ n

two_behind : (p : List Piece) {kind other : TokenKind} {bytes others : List ℕ} {from mid rest : List Lexeme} → Spells from p mid → Spells mid (Word kind bytes ∷ Word other others ∷ []) rest → LastTwo from p (meaning_of kind bytes) (meaning_of other others) rest
two_behind p first (word {x} means (word {x = y} also done)) = record { x = x; y = y; first = first; means = means; also = also }

pub before_two : (p : List Piece) (kind other : TokenKind) (bytes others : List ℕ) {from rest : List Lexeme} → Spells from (p ++ Word kind bytes ∷ Word other others ∷ []) rest → LastTwo from p (meaning_of kind bytes) (meaning_of other others) rest
before_two p kind other bytes others s =
    let parts = splits p (Word kind bytes ∷ Word other others ∷ []) s in two_behind p parts.first parts.second

-- a part, and two words behind it
pub record BeforeTwo (from : List Lexeme) (p : List Piece) (m n : Meaning) (q : List Piece) (rest : List Lexeme) : Type 0 where
  pub x : Lexeme
  pub y : Lexeme
  pub beyond : List Lexeme
  pub first : Spells from p (x ∷ y ∷ beyond)
  pub means : meaning x ≡ m
  pub also : meaning y ≡ n
  pub second : Spells beyond q rest

gaps_behind : (p q : List Piece) {blank blanks : List ℕ} {kind other : TokenKind} {bytes others : List ℕ} {from mid rest : List Lexeme} → Spells from p mid → Spells mid (Gap blank ∷ Word kind bytes ∷ Gap blanks ∷ Word other others ∷ q) rest → BeforeTwo from p (meaning_of kind bytes) (meaning_of other others) q rest
gaps_behind p q first (gap (word {x} means (gap (word {x = y} {from = beyond} also s)))) =
    record { x = x; y = y; beyond = beyond; first = first; means = means; also = also; second = s }

pub before_gaps : (p : List Piece) (blank blanks : List ℕ) (kind other : TokenKind) (bytes others : List ℕ) (q : List Piece) {from rest : List Lexeme} → Spells from (p ++ Gap blank ∷ Word kind bytes ∷ Gap blanks ∷ Word other others ∷ q) rest → BeforeTwo from p (meaning_of kind bytes) (meaning_of other others) q rest
before_gaps p blank blanks kind other bytes others q s =
    let parts = splits p (Gap blank ∷ Word kind bytes ∷ Gap blanks ∷ Word other others ∷ q) s in
    gaps_behind p q parts.first parts.second

-- ---- what is read

-- a part of the grammar, which is the same as another value but for what u lets go
pub record Like {A B : Type 0} (Part : List Lexeme → A → List Lexeme → Type 0) (u : A → B) (v : B) (from rest : List Lexeme) : Type 0 where
  pub value : A
  pub reads : Part from value rest
  pub alike : u value ≡ v

-- lexemes that spell what is printed of a value are read as one like it
pub record Reads {A B : Type 0} (Part : List Lexeme → A → List Lexeme → Type 0) (u : A → B) (printed : A → List Piece) (a : A) : Type 0 where
  pub by : {from rest : List Lexeme} → Spells from (printed a) rest → Like Part u (u a) from rest

pub both : (v w : Bool) → v && w ≡ true → (v ≡ true) × (w ≡ true)
both true w h = (refl, h)
both false w h = absurd (cc)

-- ---- lists

two_alike : {B : Type 0} {a b : B} {xs ys : List B} → a ≡ b → xs ≡ ys → a ∷ xs ≡ b ∷ ys
two_alike {b} {xs} e f = ap (λ c. c ∷ xs) e ∙ ap (λ l. b ∷ l) f

module _ {A B : Type 0} (Part : List Lexeme → A → List Lexeme → Type 0) (u : A → B) (printed : A → List Piece) (test : A → Bool) (each : (a : A) → test a ≡ true → Reads Part u printed a) where
  pub reads-many : (others : List A) → list_all test others ≡ true → {from rest : List Lexeme} → Spells from (flat_map printed others) rest → Like (Many Part) (map u) (map u others) from rest
  reads-many [] h done = record { value = []; reads = none; alike = refl }
  reads-many (a ∷ others) h s =
      let tests = both (test a) (list_all test others) h in
      let parts = splits (printed a) (flat_map printed others) s in
      let one = (each a tests.0).by parts.first in
      let tail = reads-many others tests.1 parts.second in
      record { value = one.value ∷ tail.value; reads = more one.reads tail.reads; alike = two_alike one.alike tail.alike }

  pub reads-listed : (a : A) (others : List A) → test a ≡ true → list_all test others ≡ true → {from rest : List Lexeme} → Spells from (printed a ++ each_behind (mark Comma ++ blank) (map printed others)) rest → Like (Listed Part) (map u) (map u (a ∷ others)) from rest
  reads-listed a [] h k s =
      let one = (each a h).by (all_there (printed a) s) in
      record { value = one.value ∷ []; reads = last one.reads; alike = two_alike one.alike refl }
  reads-listed a (b ∷ others) h k s =
      let tests = both (test b) (list_all test others) k in
      let parts = before_word (printed a) _ _ _ s in
      let one = (each a h).by parts.first in
      let tail = reads-listed b others tests.0 tests.1 (past_gap parts.second) in
      record { value = one.value ∷ tail.value; reads = more one.reads parts.means tail.reads; alike = two_alike one.alike tail.alike }

-- ---- values that have no place

same_items : {A : Type 0} (xs : List A) → map (λ a. a) xs ≡ xs
same_items [] = refl
same_items (x ∷ xs) = ap (λ l. x ∷ l) (same_items xs)

pub exactly : {A : Type 0} {Part : List Lexeme → List A → List Lexeme → Type 0} (xs : List A) {from rest : List Lexeme} → Like Part (map (λ a. a)) (map (λ a. a) xs) from rest → Part from xs rest
exactly {Part} xs {from} {rest} found =
    subst (λ l. Part from l rest) (sym (same_items found.value) ∙ found.alike ∙ same_items xs) found.reads
