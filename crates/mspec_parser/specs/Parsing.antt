-- What is said of a description that was read, or of the fault.
use Rattle.std.specs.Prelude.{ℕ, ◌≡◌, List, Option, Some, None, Result, Ok, Err}
use Rattle.mspec_tree.specs.declared.words.Place.{Place}
use Rattle.mspec_tree.specs.declared.defs.Description.{Description}
use Rattle.mspec_lexer.specs.Lexemes.{Lexeme}
use Rattle.mspec_lexer.specs.Tokens.{place_behind}
use Rattle.mspec_grammar.specs.declared.faults.ParseWhy.{ParseWhy}
use Rattle.mspec_grammar.specs.Meanings.{Meaning}
use Rattle.mspec_grammar.specs.Faults.{IsRefused}
use Rattle.mspec_quotes.specs.Machine.{Stopped}
use Rattle.mspec_parser.specs.declared.faults.ParseFault.{ParseFault}
use Rattle.mspec_parser.specs.declared.faults.ParseFault.TheVariants as fault
use Rattle.mspec_parser.specs.Readers.{front_of}

abbrev pub place_or : (text : List ℕ) → Option (Meaning × Place) → Place
place_or text None = place_behind text
place_or text (Some front) = front.1

-- the first lexeme's place, or the place behind the text
abbrev pub place_of : (text : List ℕ) → List Lexeme → Place
place_of text xs = place_or text (front_of xs)

-- nothing else than this tree was answered, unless memory ran out
abbrev pub IsNoOther : Result Description ParseFault → Description → Type 0
IsNoOther (Ok other) d = other ≡ d
IsNoOther (Err (fault.At place why)) d = ⊥
IsNoOther (Err fault.NoMemory) d = Unit {0}

-- the tree, or the place of the stop, and why
abbrev pub placed : (text : List ℕ) → Result Description Stopped → Result Description (Place × ParseWhy)
placed text (Ok d) = Ok d
placed text (Err f) = Err (place_of text f.at, f.why)

-- What was answered is what reading gives, with its place, unless memory ran out.
abbrev pub GivesAt : (text : List ℕ) → Result Description ParseFault → Result Description Stopped → Type 0
GivesAt text (Ok d) read = read ≡ Ok d
GivesAt text (Err (fault.At place why)) read = placed text read ≡ Err (place, why)
GivesAt text (Err fault.NoMemory) read = Unit {0}

-- a fault is where the lexemes leave the grammar, with why
abbrev pub IsFaultOf : (text : List ℕ) → List Lexeme → Result Description ParseFault → Type 0
IsFaultOf text xs (Ok d) = Unit {0}
IsFaultOf text xs (Err (fault.At place why)) = (at : List Lexeme) × IsRefused xs at why × (place ≡ place_of text at)
IsFaultOf text xs (Err fault.NoMemory) = Unit {0}
