-- The words and symbols outside expressions.
use Rattle.std.specs.Prelude.{ℕ, List, codes, Option, Some, None, if◌then◌else◌}
use Rattle.std.specs.Str.{bytes_eq}
use Rattle.mspec_lexer.specs.declared.tokens.Symbol.{Symbol}
use Rattle.mspec_lexer.specs.declared.tokens.Symbol.TheVariants as sign
use Rattle.mspec_tree.specs.declared.words.ByteOrder.{ByteOrder}
use Rattle.mspec_tree.specs.declared.words.ByteOrder.TheVariants.{Big, Little}
use Rattle.mspec_parser.specs.declared.words.Mark.{Mark}
use Rattle.mspec_parser.specs.declared.words.Mark.TheVariants as mark
use Rattle.mspec_parser.specs.declared.words.FieldWord.{FieldWord}
use Rattle.mspec_parser.specs.declared.words.FieldWord.TheVariants as field
use Rattle.mspec_parser.specs.declared.words.DefWord.{DefWord}
use Rattle.mspec_parser.specs.declared.words.DefWord.TheVariants as def
use Rattle.mspec_parser.specs.declared.words.ArrayWord.{ArrayWord}
use Rattle.mspec_parser.specs.declared.words.ArrayWord.TheVariants as array

abbrev pub symbol_of : Mark → Symbol
symbol_of mark.LeftBracket = sign.LeftBracket
symbol_of mark.RightBracket = sign.RightBracket
symbol_of mark.LeftParenthesis = sign.LeftParenthesis
symbol_of mark.RightParenthesis = sign.RightParenthesis
symbol_of mark.Quote = sign.Quote
symbol_of mark.Comma = sign.Comma
symbol_of mark.Equal = sign.Equal

-- the mark that the symbol is, if it is one
abbrev pub mark_of : Symbol → Option Mark
mark_of sign.LeftBracket = Some mark.LeftBracket
mark_of sign.RightBracket = Some mark.RightBracket
mark_of sign.LeftParenthesis = Some mark.LeftParenthesis
mark_of sign.RightParenthesis = Some mark.RightParenthesis
mark_of sign.Quote = Some mark.Quote
mark_of sign.Comma = Some mark.Comma
mark_of sign.Equal = Some mark.Equal
mark_of other = None

abbrev pub first_field_words : List ℕ → Option FieldWord
first_field_words bytes =
    if bytes_eq bytes (codes "simple") then Some field.Simple
    else (if bytes_eq bytes (codes "discriminator") then Some field.Discriminator
    else (if bytes_eq bytes (codes "const") then Some field.Const
    else (if bytes_eq bytes (codes "reserved") then Some field.Reserved
    else (if bytes_eq bytes (codes "implicit") then Some field.Implicit
    else None))))

abbrev pub other_field_words : List ℕ → Option FieldWord
other_field_words bytes =
    if bytes_eq bytes (codes "virtual") then Some field.Virtual
    else (if bytes_eq bytes (codes "optional") then Some field.Optional
    else (if bytes_eq bytes (codes "checksum") then Some field.Checksum
    else (if bytes_eq bytes (codes "padding") then Some field.Padding
    else (if bytes_eq bytes (codes "array") then Some field.Array
    else None))))

abbrev pub or_word : Option FieldWord → Option FieldWord → Option FieldWord
or_word None second = second
or_word (Some word) second = Some word

-- the word that a field begins with
unfoldable pub field_word_of : List ℕ → Option FieldWord
field_word_of bytes = or_word (first_field_words bytes) (other_field_words bytes)

unfoldable pub def_word_of : List ℕ → Option DefWord
def_word_of bytes =
    if bytes_eq bytes (codes "type") then Some def.Type
    else (if bytes_eq bytes (codes "discriminatedType") then Some def.DiscriminatedType
    else (if bytes_eq bytes (codes "dataIo") then Some def.DataIo
    else (if bytes_eq bytes (codes "enum") then Some def.Enum
    else None)))

unfoldable pub array_word_of : List ℕ → Option ArrayWord
array_word_of bytes =
    if bytes_eq bytes (codes "count") then Some array.Count
    else (if bytes_eq bytes (codes "length") then Some array.Length
    else None)

unfoldable pub order_word_of : List ℕ → Option ByteOrder
order_word_of bytes =
    if bytes_eq bytes (codes "BIG_ENDIAN") then Some Big
    else (if bytes_eq bytes (codes "LITTLE_ENDIAN") then Some Little
    else None)
