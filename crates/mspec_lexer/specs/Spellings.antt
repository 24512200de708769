-- How names, numbers and symbols are spelt.
use Rattle.std.specs.Prelude.{◌≡◌, ◌⊎◌, ◌==◌, ◌||◌, ◌++◌, ℕ, Bool, List, [], ◌∷◌, codes, IsTrue}
use Rattle.std.specs.Char.{is_ascii_digit, is_ascii_alphabetic}
use Rattle.std.specs.List.{AllByRecursion}
use Rattle.std.specs.Str.Parse.{IsNumeral, digits_value}
use Rattle.mspec_lexer.specs.declared.tokens.Symbol.{Symbol}
use Rattle.mspec_lexer.specs.declared.tokens.Symbol.TheVariants.{DoubleEqual, NotEqual, LessEqual, GreaterEqual, DoubleLess, DoubleGreater, DoubleAmpersand, DoubleBar, LeftBracket, RightBracket, LeftParenthesis, RightParenthesis, Quote, DoubleQuote, Comma, Dot, Star, Equal, Less, Greater, Plus, Minus, Slash, Percent, Ampersand, Bar, Exclamation, Question, Colon}
use Rattle.mspec_lexer.specs.declared.tokens.TokenKind.{TokenKind}
use Rattle.mspec_lexer.specs.declared.tokens.TokenKind.TheVariants.{Name, Number, Symbol as Sign}

-- a letter or `_`
abbrev pub begins_name : ℕ → Bool
begins_name b = is_ascii_alphabetic b || b == 95

-- the same, or a digit
abbrev pub continues_name : ℕ → Bool
continues_name b = begins_name b || is_ascii_digit b

abbrev pub IsName : List ℕ → Type 0
IsName [] = ⊥
IsName (b ∷ bytes) = IsTrue (begins_name b) × AllByRecursion (λ c. IsTrue (continues_name c)) bytes

-- decimal digits, or `0x` and hexadecimal digits in either case, and the number that they spell
abbrev pub IsNumber : List ℕ → ℕ → Type 0
IsNumber bytes n =
    (IsNumeral 10 bytes × (digits_value 10 bytes ≡ n))
    ⊎ ((digits : List ℕ) × (bytes ≡ codes "0x" ++ digits) × IsNumeral 16 digits × (digits_value 16 digits ≡ n))

abbrev pub spelling : Symbol → List ℕ
spelling DoubleEqual = codes "=="
spelling NotEqual = codes "!="
spelling LessEqual = codes "<="
spelling GreaterEqual = codes ">="
spelling DoubleLess = codes "<<"
spelling DoubleGreater = codes ">>"
spelling DoubleAmpersand = codes "&&"
spelling DoubleBar = codes "||"
spelling LeftBracket = codes "["
spelling RightBracket = codes "]"
spelling LeftParenthesis = codes "("
spelling RightParenthesis = codes ")"
spelling Quote = codes "'"
spelling DoubleQuote = 34 ∷ []
spelling Comma = codes ","
spelling Dot = codes "."
spelling Star = codes "*"
spelling Equal = codes "="
spelling Less = codes "<"
spelling Greater = codes ">"
spelling Plus = codes "+"
spelling Minus = codes "-"
spelling Slash = codes "/"
spelling Percent = codes "%"
spelling Ampersand = codes "&"
spelling Bar = codes "|"
spelling Exclamation = codes "!"
spelling Question = codes "?"
spelling Colon = codes ":"

-- the bytes have the form of this token; a number may be of any size
abbrev pub HasForm : TokenKind → List ℕ → Type 0
HasForm Name bytes = IsName bytes
HasForm (Number n) bytes = IsNumber bytes n
HasForm (Sign symbol) bytes = bytes ≡ spelling symbol
