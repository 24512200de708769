-- What one lexeme is picked for: that there is such a one, and why others are none.
use Rattle.std.proofs.Common.{ℕ, ◌≡◌, Bool, true, false, cond, List, [], codes, Option, Some, None, Result, Ok, Err, refl, sym, ap, ◌∙◌}
use Rattle.mspec_tree.specs.declared.words.ByteOrder.TheVariants.{Big}
use Rattle.mspec_tree.specs.declared.words.Lit.TheVariants.{Num}
use Rattle.mspec_lexer.specs.Lexemes.{Lexeme}
use Rattle.mspec_lexer.specs.declared.tokens.Symbol.TheVariants as sign
use Rattle.mspec_lexer.specs.declared.tokens.TokenKind.TheVariants as kind
use Rattle.mspec_grammar.specs.declared.faults.ParseWhy.{ParseWhy}
use Rattle.mspec_grammar.specs.declared.faults.ParseWhy.TheVariants.{Unexpected, EndOfText, LeftOut, TooDeep}
use Rattle.mspec_grammar.specs.declared.words.Word.TheVariants as word
use Rattle.mspec_grammar.specs.Meanings.{Meaning, meaning, word_of, Number, Sign, Taken, Name}
use Rattle.mspec_quotes.proofs.Completing.{sign_lexeme, nowhere}
use Rattle.mspec_parser.specs.declared.words.Mark.{Mark}
use Rattle.mspec_parser.specs.declared.words.Mark.TheVariants as mark
use Rattle.mspec_parser.specs.declared.words.DefWord.TheVariants as def_word
use Rattle.mspec_parser.specs.declared.words.LitStart.{LitStart}
use Rattle.mspec_parser.specs.declared.words.LitStart.TheVariants as start
use Rattle.mspec_parser.specs.Words.{symbol_of, def_word_of, order_word_of}
use Rattle.mspec_parser.specs.Readers.{is_mark, is_word, passing, pick_name, pick_number}
use Rattle.mspec_parser.specs.Small.{or_unexpected, lit_start_of, pick_lit, any, of_name, or_literal, pick_key, pick_star, pick_order}
use Rattle.mspec_parser.specs.Defs.{pick_def}
use Rattle.mspec_parser.proofs.Stops.{Proper, Allowed, for_field, for_type, for_way, spelt_lexeme, means_simple}

-- ---- other lexemes are unexpected

abbrev OnlyUnexpected : {A : Type 0} → (Meaning → Result A ParseWhy) → Type 0
OnlyUnexpected pick = (m : Meaning) (why : ParseWhy) → pick m ≡ Err why → why ≡ Unexpected

not-both : {A : Type 0} (pick : Meaning → Result A ParseWhy) (m : Meaning) (why : ParseWhy) (a : A) → pick m ≡ Err why → pick m ≡ Ok a → ⊥
not-both pick m why a h e = cc

-- and names that may stand there are none of those
proper-unnamed : {A : Type 0} (pick : Meaning → Result A ParseWhy) (lexeme : Lexeme) (value : A) → pick (meaning lexeme) ≡ Ok value → OnlyUnexpected pick
    → pick (Name (codes "simple")) ≡ Err Unexpected → pick (Taken word.Bit) ≡ Err Unexpected → pick (Name (codes "count")) ≡ Err Unexpected → Proper pick
proper-unnamed {A} pick lexeme value picks only simple bit count = record {
  lexeme = lexeme;
  value = value;
  picks = picks;
  flat = λ m e. let h = only m TooDeep e in cc;
  going = λ m e. let h = only m EndOfText e in cc;
  leaves = λ x e. let h = only (meaning x) LeftOut e in absurd (cc);
  keeps = λ x e a. keeps x a;
}
  where
    keeps : (x : Lexeme) → Allowed pick x → ⊥
    keeps x (for_field w a p) = not-both pick (Name (codes "simple")) Unexpected a simple p
    keeps x (for_type w a p) = not-both pick (Taken word.Bit) Unexpected a bit p
    keeps x (for_way w a p) = not-both pick (Name (codes "count")) Unexpected a count p

-- where each name may stand
proper-named : {A : Type 0} (pick : Meaning → Result A ParseWhy) (lexeme : Lexeme) (value : A) → pick (meaning lexeme) ≡ Ok value → OnlyUnexpected pick
    → (name : List ℕ → A) → ((w : List ℕ) → pick (Name w) ≡ Ok (name w)) → pick (Taken word.Bit) ≡ Err Unexpected → Proper pick
proper-named {A} pick lexeme value picks only name names bit = record {
  lexeme = lexeme;
  value = value;
  picks = picks;
  flat = λ m e. let h = only m TooDeep e in cc;
  going = λ m e. let h = only m EndOfText e in cc;
  leaves = λ x e. let h = only (meaning x) LeftOut e in absurd (cc);
  keeps = λ x e a. keeps x e a;
}
  where
    none : (x : Lexeme) (w : List ℕ) → meaning x ≡ Name w → pick (meaning x) ≡ Err Unexpected → ⊥
    none x w h e = not-both pick (Name w) Unexpected (name w) (sym (ap pick h) ∙ e) (names w)

    keeps : (x : Lexeme) → pick (meaning x) ≡ Err Unexpected → Allowed pick x → ⊥
    keeps x e (for_field w a p) = none x w.0 w.1 e
    keeps x e (for_type w a p) = not-both pick (Taken word.Bit) Unexpected a bit p
    keeps x e (for_way w a p) = none x w.0 w.1 e

-- ---- symbols and words

abbrev tested : Bool → Result (Unit {0}) ParseWhy
tested b = cond b (Ok tt) (Err Unexpected)

passing-only : (test : Meaning → Bool) → OnlyUnexpected (passing test)
passing-only test m why e = by-test (test m) e
  where
    by-test : (b : Bool) → tested b ≡ Err why → why ≡ Unexpected
    by-test true e = absurd (cc)
    by-test false e = cc

mark-picks : (m : Mark) → passing (is_mark m) (meaning (sign_lexeme (symbol_of m))) ≡ Ok tt
mark-picks mark.LeftBracket = refl
mark-picks mark.RightBracket = refl
mark-picks mark.LeftParenthesis = refl
mark-picks mark.RightParenthesis = refl
mark-picks mark.Quote = refl
mark-picks mark.Comma = refl
mark-picks mark.Equal = refl

pub mark-proper : (m : Mark) → Proper (passing (is_mark m))
mark-proper m = proper-unnamed (passing (is_mark m)) (sign_lexeme (symbol_of m)) tt (mark-picks m) (passing-only (is_mark m)) refl refl refl

pub order-word-proper : Proper (passing (is_word (codes "byteOrder")))
unfolding word_of
order-word-proper = proper-unnamed (passing (is_word (codes "byteOrder"))) (spelt_lexeme (codes "byteOrder")) tt refl (passing-only (is_word (codes "byteOrder"))) refl refl refl

pub switch-word-proper : Proper (passing (is_word (codes "typeSwitch")))
unfolding word_of
switch-word-proper = proper-unnamed (passing (is_word (codes "typeSwitch"))) (spelt_lexeme (codes "typeSwitch")) tt refl (passing-only (is_word (codes "typeSwitch"))) refl refl refl

name-only : OnlyUnexpected pick_name
name-only (Name w) why e = absurd (cc)
name-only (Number n) why e = cc
name-only (Sign s) why e = cc
name-only (Taken w) why e = cc

pub name-proper : Proper pick_name
name-proper = proper-named pick_name (spelt_lexeme (codes "simple")) (codes "simple") (ap pick_name means_simple) name-only (λ w. w) (λ w. refl) refl

number-only : OnlyUnexpected pick_number
number-only (Number n) why e = absurd (cc)
number-only (Name w) why e = cc
number-only (Sign s) why e = cc
number-only (Taken w) why e = cc

abbrev one_lexeme : Lexeme
one_lexeme = record { kind = kind.Number 1; text = []; place = nowhere }

pub number-proper : Proper pick_number
number-proper = proper-unnamed pick_number one_lexeme 1 refl number-only refl refl refl

-- ---- literals and keys

or_unexpected-only : {A : Type 0} (o : Option A) (why : ParseWhy) → or_unexpected o ≡ Err why → why ≡ Unexpected
or_unexpected-only (Some a) why e = absurd (cc)
or_unexpected-only None why e = cc

pub lit-proper : Proper pick_lit
lit-proper = proper-unnamed pick_lit one_lexeme (start.Whole (Num false 1)) refl (λ m why e. or_unexpected-only (lit_start_of m) why e) refl refl refl

or_literal-only : (o : Option LitStart) (why : ParseWhy) → or_literal o ≡ Err why → why ≡ Unexpected
or_literal-only (Some a) why e = absurd (cc)
or_literal-only None why e = cc

key-only : OnlyUnexpected pick_key
key-only (Sign sign.Star) why e = absurd (cc)
key-only (Name w) why e = absurd (cc)
key-only (Sign s) why e = or_literal-only (lit_start_of (Sign s)) why e
key-only (Number n) why e = or_literal-only (lit_start_of (Number n)) why e
key-only (Taken w) why e = or_literal-only (lit_start_of (Taken w)) why e

pub key-proper : Proper pick_key
key-proper = proper-named pick_key (sign_lexeme sign.Star) any refl key-only of_name (λ w. refl) refl

star-only : OnlyUnexpected pick_star
star-only (Sign sign.Star) why e = absurd (cc)
star-only (Sign sign.Quote) why e = absurd (cc)
star-only (Sign s) why e = cc
star-only (Name w) why e = cc
star-only (Number n) why e = cc
star-only (Taken w) why e = cc

pub star-proper : Proper pick_star
star-proper = proper-unnamed pick_star (sign_lexeme sign.Star) true refl star-only refl refl refl

order-only : OnlyUnexpected pick_order
order-only (Name w) why e = or_unexpected-only (order_word_of w) why e
order-only (Number n) why e = cc
order-only (Sign s) why e = cc
order-only (Taken w) why e = cc

pub order-proper : Proper pick_order
unfolding word_of order_word_of
order-proper = proper-unnamed pick_order (spelt_lexeme (codes "BIG_ENDIAN")) Big refl order-only refl refl refl

def-only : OnlyUnexpected pick_def
def-only (Name w) why e = or_unexpected-only (def_word_of w) why e
def-only (Number n) why e = cc
def-only (Sign s) why e = cc
def-only (Taken w) why e = cc

pub def-proper : Proper pick_def
unfolding word_of def_word_of
def-proper = proper-unnamed pick_def (spelt_lexeme (codes "type")) def_word.Type refl def-only refl refl refl
