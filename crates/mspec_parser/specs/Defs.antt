-- Definitions, and the whole description, as they are read.
use Rattle.std.specs.Prelude.{ℕ, List, length, ◌≡◌, Option, Some, None, Result, Ok, Err}
use Rattle.mspec_tree.specs.declared.words.Place.{Place}
use Rattle.mspec_tree.specs.declared.defs.Constant.{Constant}
use Rattle.mspec_tree.specs.declared.defs.Def.{Def}
use Rattle.mspec_tree.specs.declared.defs.DefBody.{DefBody}
use Rattle.mspec_tree.specs.declared.defs.DefBody.TheVariants as def
use Rattle.mspec_tree.specs.declared.defs.Description.{Description}
use Rattle.mspec_lexer.specs.Lexemes.{Lexeme}
use Rattle.mspec_lexer.specs.declared.tokens.Token.{Token}
use Rattle.mspec_quotes.specs.declared.quotes.QuoteFault.{QuoteFault}
use Rattle.mspec_quotes.specs.declared.quotes.QuoteFault.TheVariants as fault
use Rattle.mspec_grammar.specs.declared.faults.ParseWhy.{ParseWhy}
use Rattle.mspec_grammar.specs.declared.faults.ParseWhy.TheVariants.{Unexpected}
use Rattle.mspec_grammar.specs.Meanings.{Meaning, Name}
use Rattle.mspec_quotes.specs.Machine.{Stopped}
use Rattle.mspec_parser.specs.declared.words.Mark.TheVariants as mark
use Rattle.mspec_parser.specs.declared.words.DefWord.{DefWord}
use Rattle.mspec_parser.specs.declared.words.DefWord.TheVariants as word
use Rattle.mspec_parser.specs.declared.definitions.Head.{Head}
use Rattle.mspec_parser.specs.Words.{def_word_of}
use Rattle.mspec_parser.specs.Readers.{Read, ◌>>=◌, one, many, is_mark, mark_at, name_at, front_of, from_on}
use Rattle.mspec_parser.specs.Small.{or_unexpected, simple_at, params_at, order_at, constant_at}
use Rattle.mspec_parser.specs.Fields.{fields_at, members_at, switch_at}

unfoldable pub constants_at : List Lexeme → Read (List Constant)
constants_at xs = many (is_mark mark.LeftBracket) constant_at (length xs) xs

abbrev pub pick_def : Meaning → Result DefWord ParseWhy
pick_def (Name bytes) = or_unexpected (def_word_of bytes)
pick_def other = Err Unexpected

-- a name, parameters and a byte order
unfoldable pub head_at : List Lexeme → Read Head
head_at xs = do
  named ← name_at xs
  params ← params_at named.1
  order ← order_at params.1
  Ok (record { named = named.0.1; name = named.0.0; params = params.0; order = order.0 }, order.1)

-- an enum's head, which has no byte order
unfoldable pub enum_head_at : List Lexeme → Read Head
enum_head_at xs = do
  named ← name_at xs
  params ← params_at named.1
  Ok (record { named = named.0.1; name = named.0.0; params = params.0; order = None }, params.1)

abbrev pub def_of : Place → Head → DefBody → Def
def_of bracket head form =
    record { place = bracket; named = head.named; name = head.name; params = head.params; order = head.order; body = form }

unfoldable pub type_from : ℕ → Place → List Lexeme → Read Def
type_from limit bracket xs = do
  head ← head_at xs
  fields ← fields_at limit head.1
  right ← mark_at mark.RightBracket fields.1
  Ok (def_of bracket head.0 (def.Plain fields.0), right.1)

unfoldable pub discriminated_from : ℕ → Place → List Lexeme → Read Def
discriminated_from limit bracket xs = do
  head ← head_at xs
  fields ← members_at limit head.1
  right ← mark_at mark.RightBracket fields.1
  Ok (def_of bracket head.0 (def.Switched fields.0), right.1)

unfoldable pub data_io_from : ℕ → Place → List Lexeme → Read Def
data_io_from limit bracket xs = do
  head ← head_at xs
  switch ← switch_at limit head.1
  right ← mark_at mark.RightBracket switch.1
  Ok (def_of bracket head.0 (def.DataIo switch.0), right.1)

unfoldable pub enum_from : Place → List Lexeme → Read Def
enum_from bracket xs = do
  base ← simple_at xs
  head ← enum_head_at base.1
  constants ← constants_at head.1
  right ← mark_at mark.RightBracket constants.1
  Ok (def_of bracket head.0 (def.Enum base.0 constants.0), right.1)

abbrev pub def_from : ℕ → Place → DefWord → List Lexeme → Read Def
def_from limit bracket word.Type xs = type_from limit bracket xs
def_from limit bracket word.DiscriminatedType xs = discriminated_from limit bracket xs
def_from limit bracket word.DataIo xs = data_io_from limit bracket xs
def_from limit bracket word.Enum xs = enum_from bracket xs

unfoldable pub def_at : ℕ → List Lexeme → Read Def
def_at limit xs = do
  left ← mark_at mark.LeftBracket xs
  word ← one pick_def left.1
  def_from limit left.0 word.0.0 word.1

unfoldable pub defs_at : ℕ → List Lexeme → Read (List Def)
defs_at limit xs = many (is_mark mark.LeftBracket) (def_at limit) (length xs) xs

-- the definitions, if nothing stands behind them
abbrev pub ended : List Def → Option (Meaning × Place) → List Lexeme → Result Description Stopped
ended defs None xs = Ok (record { defs = defs })
ended defs (Some front) xs = Err (record { why = Unexpected; at = xs })

-- the whole description
unfoldable pub description_at : ℕ → List Lexeme → Result Description Stopped
description_at limit xs = defs_at limit xs >>= λ r. ended r.0 (front_of r.1) r.1

-- What was answered is what reading all lexemes gives, unless memory ran out.
abbrev pub GivesAll : (text : List ℕ) → (tokens : List Token) → Result Description QuoteFault → Result Description Stopped → Type 0
GivesAll text tokens (Ok d) read = read ≡ Ok d
GivesAll text tokens (Err (fault.At index why)) read = read ≡ Err (record { why = why; at = from_on text tokens index })
GivesAll text tokens (Err fault.NoMemory) read = Unit {0}
