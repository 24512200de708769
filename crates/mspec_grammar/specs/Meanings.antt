-- What a lexeme is to the grammar: a number, a symbol, a word that no name may be, or a name.
use Rattle.std.specs.Prelude.{ℕ, List, codes, Option, Some, None, if◌then◌else◌}
use Rattle.std.specs.Str.{bytes_eq}
use Rattle.mspec_lexer.specs.declared.tokens.Symbol.{Symbol}
use Rattle.mspec_lexer.specs.declared.tokens.TokenKind.{TokenKind}
use Rattle.mspec_lexer.specs.declared.tokens.TokenKind.TheVariants as kind
use Rattle.mspec_lexer.specs.Lexemes.{Lexeme}
use Rattle.mspec_grammar.specs.declared.words.Word.{Word}
use Rattle.mspec_grammar.specs.declared.words.Word.TheVariants.{Bit, Byte, Uint, Int, Float, True, False, Null, Count, Cast, CurPos, LengthInBytes, LastItem, SumBytes, XorBytes}

-- the words of a type
abbrev pub type_word_of : List ℕ → Option Word
type_word_of bytes =
    if bytes_eq bytes (codes "bit") then Some Bit
    else (if bytes_eq bytes (codes "byte") then Some Byte
    else (if bytes_eq bytes (codes "uint") then Some Uint
    else (if bytes_eq bytes (codes "int") then Some Int
    else (if bytes_eq bytes (codes "float") then Some Float
    else None))))

abbrev pub value_word_of : List ℕ → Option Word
value_word_of bytes =
    if bytes_eq bytes (codes "true") then Some True
    else (if bytes_eq bytes (codes "false") then Some False
    else (if bytes_eq bytes (codes "null") then Some Null
    else (if bytes_eq bytes (codes "curPos") then Some CurPos
    else (if bytes_eq bytes (codes "lastItem") then Some LastItem
    else None))))

abbrev pub measure_word_of : List ℕ → Option Word
measure_word_of bytes =
    if bytes_eq bytes (codes "COUNT") then Some Count
    else (if bytes_eq bytes (codes "CAST") then Some Cast
    else (if bytes_eq bytes (codes "lengthInBytes") then Some LengthInBytes
    else (if bytes_eq bytes (codes "SUM_BYTES") then Some SumBytes
    else (if bytes_eq bytes (codes "XOR_BYTES") then Some XorBytes
    else None))))

abbrev pub or_else : Option Word → Option Word → Option Word
or_else None second = second
or_else (Some word) second = Some word

-- the words that no name may be
unfoldable pub word_of : List ℕ → Option Word
word_of bytes = or_else (type_word_of bytes) (or_else (value_word_of bytes) (measure_word_of bytes))

pub data Meaning : Type 0 where
  Number : ℕ → Meaning
  Sign : Symbol → Meaning
  Taken : Word → Meaning
  Name : List ℕ → Meaning

abbrev pub name_or : List ℕ → Option Word → Meaning
name_or bytes None = Name bytes
name_or bytes (Some word) = Taken word

abbrev pub meaning_of : TokenKind → List ℕ → Meaning
meaning_of (kind.Number n) bytes = Number n
meaning_of (kind.Symbol symbol) bytes = Sign symbol
meaning_of kind.Name bytes = name_or bytes (word_of bytes)

abbrev pub meaning : Lexeme → Meaning
meaning x = meaning_of x.kind x.text

-- the word that an expression leaves out; outside expressions it is a name like others
abbrev pub static_call : List ℕ
static_call = codes "STATIC_CALL"
