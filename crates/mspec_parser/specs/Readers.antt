-- How parts of a description are read, from left to right. The grammar says what they are.
use Rattle.std.specs.Prelude.{ℕ, ◌==◌, zero, suc, Bool, false, cond, List, [], ◌∷◌, length, drop, Option, Some, None, Result, Ok, Err, ◌≡◌}
use Rattle.std.specs.Str.{bytes_eq}
use Rattle.mspec_tree.specs.declared.words.Place.{Place}
use Rattle.mspec_lexer.specs.declared.tokens.Token.{Token}
use Rattle.mspec_lexer.specs.Lexemes.{Lexeme, lexemes}
use Rattle.mspec_grammar.specs.declared.faults.ParseWhy.{ParseWhy}
use Rattle.mspec_grammar.specs.declared.faults.ParseWhy.TheVariants.{Unexpected, EndOfText}
use Rattle.mspec_grammar.specs.declared.senses.Sense.{Sense}
use Rattle.mspec_grammar.specs.Senses.{sensed}
use Rattle.mspec_grammar.specs.Meanings.{Meaning, meaning, Number, Sign, Name}
use Rattle.mspec_quotes.specs.declared.quotes.QuoteFault.{QuoteFault}
use Rattle.mspec_quotes.specs.declared.quotes.QuoteFault.TheVariants as fault
use Rattle.mspec_quotes.specs.Machine.{Stopped}
use Rattle.mspec_parser.specs.declared.words.Mark.{Mark}
use Rattle.mspec_parser.specs.declared.words.Mark.TheVariants as mark
use Rattle.mspec_parser.specs.Words.{mark_of}

-- a part's value and the lexemes behind it, or where reading stops, and why
abbrev pub Read : Type 0 → Type 0
Read A = Result (A × List Lexeme) Stopped

infixl 10 ◌>>=◌
abbrev pub ◌>>=◌ : {A B : Type 0} → Result A Stopped → (A → Result B Stopped) → Result B Stopped
(Ok x) >>= f = f x
(Err e) >>= f = Err e

abbrev pub stop : {A : Type 0} → ParseWhy → List Lexeme → Read A
stop why xs = Err (record { why = why; at = xs })

-- ---- one lexeme

-- the first lexeme's meaning and place
abbrev pub front_of : List Lexeme → Option (Meaning × Place)
front_of [] = None
front_of (x ∷ rest) = Some (meaning x, x.place)

abbrev pub behind : List Lexeme → List Lexeme
behind [] = []
behind (x ∷ rest) = rest

abbrev pub next_from : Option (Meaning × Place) → List Lexeme → Read (Meaning × Place)
next_from None xs = stop EndOfText xs
next_from (Some front) xs = Ok (front, behind xs)

-- the first lexeme, by its meaning and place
unfoldable pub next_at : List Lexeme → Read (Meaning × Place)
next_at xs = next_from (front_of xs) xs

abbrev pub picked : {A : Type 0} → Result A ParseWhy → Place → (rest xs : List Lexeme) → Read (A × Place)
picked (Ok a) place rest xs = Ok ((a, place), rest)
picked (Err why) place rest xs = stop why xs

-- what the first lexeme is picked for, and its place; or why it is nothing of that
abbrev pub one : {A : Type 0} → (Meaning → Result A ParseWhy) → List Lexeme → Read (A × Place)
one pick xs = next_at xs >>= λ n. picked (pick n.0.0) n.0.1 n.1 xs

abbrev pub on_front : (Meaning → Bool) → Option (Meaning × Place) → Bool
on_front test None = false
on_front test (Some front) = test front.0

abbrev pub begins_with : (Meaning → Bool) → List Lexeme → Bool
begins_with test xs = on_front test (front_of xs)

-- ---- lists

-- parts, at most so many, as long as the next lexeme begins one
unfoldable pub many : {A : Type 0} → (Meaning → Bool) → (List Lexeme → Read A) → ℕ → List Lexeme → Read (List A)
many begins part zero xs = Ok ([], xs)
many begins part (suc n) xs = cond (begins_with begins xs) (do
  first ← part xs
  others ← many begins part n first.1
  Ok (first.0 ∷ others.0, others.1)) (Ok ([], xs))

-- ---- symbols, words, names and numbers

abbrev pub number_of : Mark → ℕ
number_of mark.LeftBracket = 0
number_of mark.RightBracket = 1
number_of mark.LeftParenthesis = 2
number_of mark.RightParenthesis = 3
number_of mark.Quote = 4
number_of mark.Comma = 5
number_of mark.Equal = 6

abbrev pub is_some_mark : Mark → Option Mark → Bool
is_some_mark m None = false
is_some_mark m (Some other) = number_of other == number_of m

abbrev pub is_mark : Mark → Meaning → Bool
is_mark m (Sign symbol) = is_some_mark m (mark_of symbol)
is_mark m other = false

abbrev pub is_word : List ℕ → Meaning → Bool
is_word word (Name bytes) = bytes_eq bytes word
is_word word other = false

-- what passes a test
abbrev pub passing : (Meaning → Bool) → Meaning → Result (Unit {0}) ParseWhy
passing test m = cond (test m) (Ok tt) (Err Unexpected)

abbrev pub pick_name : Meaning → Result (List ℕ) ParseWhy
pick_name (Name bytes) = Ok bytes
pick_name other = Err Unexpected

abbrev pub pick_number : Meaning → Result ℕ ParseWhy
pick_number (Number n) = Ok n
pick_number other = Err Unexpected

abbrev pub place_only : {A : Type 0} → Read (A × Place) → Read Place
place_only read = read >>= λ p. Ok (p.0.1, p.1)

-- the place of this symbol
unfoldable pub mark_at : Mark → List Lexeme → Read Place
mark_at m xs = place_only (one (passing (is_mark m)) xs)

-- the place of this word
unfoldable pub word_at : List ℕ → List Lexeme → Read Place
word_at word xs = place_only (one (passing (is_word word)) xs)

unfoldable pub name_at : List Lexeme → Read (List ℕ × Place)
name_at xs = one pick_name xs

unfoldable pub number_at : List Lexeme → Read ℕ
number_at xs = one pick_number xs >>= λ p. Ok (p.0.0, p.1)

-- parts with commas between them, one at least
unfoldable pub listed : {A : Type 0} → (List Lexeme → Read A) → List Lexeme → Read (List A)
listed part xs = do
  first ← part xs
  others ← many (is_mark mark.Comma) (λ ys. mark_at mark.Comma ys >>= λ comma. part comma.1) (length first.1) first.1
  Ok (first.0 ∷ others.0, others.1)

-- ---- what the code gives

-- the lexemes from this token on
abbrev pub from_on : (text : List ℕ) → (tokens : List Token) → ℕ → List Lexeme
from_on text tokens at = lexemes text (drop at tokens)

-- What was answered, seen by view, is what reading the lexemes gives, unless memory ran out.
abbrev pub GivesBy : {A B : Type 0} → (A → B) → (text : List ℕ) → (tokens : List Token) → Result (A × ℕ) QuoteFault → Read B → Type 0
GivesBy view text tokens (Ok r) read = read ≡ Ok (view r.0, from_on text tokens r.1)
GivesBy view text tokens (Err (fault.At index why)) read = read ≡ Err (record { why = why; at = from_on text tokens index })
GivesBy view text tokens (Err fault.NoMemory) read = Unit {0}

abbrev pub Gives : {A : Type 0} → (text : List ℕ) → (tokens : List Token) → Result (A × ℕ) QuoteFault → Read A → Type 0
Gives text tokens result read = GivesBy (λ x. x) text tokens result read

-- a sense and a place as a lexeme has them
abbrev pub seen : Sense × Place → Meaning × Place
seen front = (sensed front.0, front.1)

abbrev pub seen_front : Option (Sense × Place) → Option (Meaning × Place)
seen_front None = None
seen_front (Some front) = Some (seen front)
