-- What the parts of the lexer compute, each from the rest of a text.
use Rattle.std.specs.Prelude.{◌==◌, ◌&&◌, ◌+◌, ◌^◌, ℕ, suc, nat_lt, Bool, false, not, List, [], ◌∷◌, length, take, Option, Some, None, Result, Ok, Err, if◌then◌else◌}
use Rattle.std.specs.Char.{is_ascii_digit, is_digit}
use Rattle.std.specs.List.{prefix_len}
use Rattle.std.specs.Option.{option_map}
use Rattle.std.specs.Str.Parse.{digits_value}
use Rattle.mspec_tree.specs.declared.words.Place.{Place}
use Rattle.mspec_lexer.specs.declared.tokens.LexFault.{LexFault}
use Rattle.mspec_lexer.specs.declared.tokens.LexFault.TheVariants.{At}
use Rattle.mspec_lexer.specs.declared.tokens.LexWhy.{LexWhy}
use Rattle.mspec_lexer.specs.declared.tokens.LexWhy.TheVariants.{Character, WideNumber, OpenComment}
use Rattle.mspec_lexer.specs.declared.tokens.Symbol.{Symbol}
use Rattle.mspec_lexer.specs.declared.tokens.Symbol.TheVariants.{DoubleEqual, NotEqual, LessEqual, GreaterEqual, DoubleLess, DoubleGreater, DoubleAmpersand, DoubleBar, LeftBracket, RightBracket, LeftParenthesis, RightParenthesis, Quote, DoubleQuote, Comma, Dot, Star, Equal, Less, Greater, Plus, Minus, Slash, Percent, Ampersand, Bar, Exclamation, Question, Colon}
use Rattle.mspec_lexer.specs.declared.tokens.Token.{Token}
use Rattle.mspec_lexer.specs.declared.tokens.TokenKind.{TokenKind}
use Rattle.mspec_lexer.specs.declared.tokens.TokenKind.TheVariants.{Name, Number, Symbol as Sign}
use Rattle.mspec_lexer.specs.declared.fronts.Front.{Front}
use Rattle.mspec_lexer.specs.Spellings.{begins_name, continues_name}
use Rattle.mspec_lexer.specs.Tokens.{is_blank, is_line_end}

-- ---- places

-- the place behind a byte that stands at this place
abbrev pub step : Place → ℕ → Place
step place b =
    if is_line_end b
    then record { line = place.line + 1; column = 1 }
    else record { line = place.line; column = place.column + 1 }

abbrev pub stepped : Place → List ℕ → Place
stepped place [] = place
stepped place (b ∷ bytes) = stepped (step place b) bytes

-- ---- what stands at the front

abbrev pub gap : ℕ → Front
gap len = record { kind = None; len = len }

abbrev pub token : TokenKind → ℕ → Front
token kind len = record { kind = Some kind; len = len }

-- ---- symbols

unfoldable pub single_symbol : ℕ → Option Symbol
single_symbol b =
    if b == 91 then Some LeftBracket
    else if b == 93 then Some RightBracket
    else if b == 40 then Some LeftParenthesis
    else if b == 41 then Some RightParenthesis
    else if b == 39 then Some Quote
    else if b == 34 then Some DoubleQuote
    else if b == 44 then Some Comma
    else if b == 46 then Some Dot
    else if b == 42 then Some Star
    else if b == 61 then Some Equal
    else if b == 60 then Some Less
    else if b == 62 then Some Greater
    else if b == 43 then Some Plus
    else if b == 45 then Some Minus
    else if b == 47 then Some Slash
    else if b == 37 then Some Percent
    else if b == 38 then Some Ampersand
    else if b == 124 then Some Bar
    else if b == 33 then Some Exclamation
    else if b == 63 then Some Question
    else if b == 58 then Some Colon
    else None

unfoldable pub double_symbol : ℕ → ℕ → Option Symbol
double_symbol a b =
    if a == 61 && b == 61 then Some DoubleEqual
    else if a == 33 && b == 61 then Some NotEqual
    else if a == 60 && b == 61 then Some LessEqual
    else if a == 62 && b == 61 then Some GreaterEqual
    else if a == 60 && b == 60 then Some DoubleLess
    else if a == 62 && b == 62 then Some DoubleGreater
    else if a == 38 && b == 38 then Some DoubleAmpersand
    else if a == 124 && b == 124 then Some DoubleBar
    else None

abbrev pub either : (double single : Option Symbol) → Result Front LexWhy
either (Some symbol) single = Ok (token (Sign symbol) 2)
either None (Some symbol) = Ok (token (Sign symbol) 1)
either None None = Err Character

unfoldable pub symbol_front : (first : ℕ) (behind : List ℕ) → Result Front LexWhy
symbol_front first [] = either None (single_symbol first)
symbol_front first (second ∷ behind) = either (double_symbol first second) (single_symbol first)

-- ---- numbers

abbrev pub digits_len : (radix : ℕ) → List ℕ → ℕ
digits_len radix bytes = prefix_len (λ b. is_digit b radix) bytes

abbrev pub digits_of : (radix : ℕ) → List ℕ → List ℕ
digits_of radix bytes = take (digits_len radix bytes) bytes

-- the hexadecimal digits behind a `0x` at the front
unfoldable pub hexadecimal_of : List ℕ → List ℕ
hexadecimal_of (a ∷ b ∷ behind) = if a == 48 && b == 120 then digits_of 16 behind else []
hexadecimal_of rest = []

-- the number of these digits, behind so many bytes of its own
abbrev pub number : (radix : ℕ) → (digits : List ℕ) → (before : ℕ) → Result Front LexWhy
number radix digits before =
    if nat_lt (digits_value radix digits) (2 ^ 128)
    then Ok (token (Number (digits_value radix digits)) (before + length digits))
    else Err WideNumber

abbrev pub decimal_or : (rest hexadecimal : List ℕ) → Result Front LexWhy
decimal_or rest [] = number 10 (digits_of 10 rest) 0
decimal_or rest (digit ∷ digits) = number 16 (digit ∷ digits) 2

unfoldable pub number_front : (rest : List ℕ) → Result Front LexWhy
number_front rest = decimal_or rest (hexadecimal_of rest)

-- ---- comments

-- how many bytes a comment has up to and with the first `*/`, where `star` says whether a `*` of it stands before them
abbrev pub closed_len : (star : Bool) → List ℕ → Option ℕ
closed_len star [] = None
closed_len star (b ∷ bytes) =
    if star && b == 47 then Some 1 else option_map (λ n. suc n) (closed_len (b == 42) bytes)

abbrev pub line_len : List ℕ → ℕ
line_len bytes = prefix_len (λ b. not (is_line_end b)) bytes

abbrev pub closed : Option ℕ → Result Front LexWhy
closed None = Err OpenComment
closed (Some len) = Ok (gap (2 + len))

-- what a slash before these bytes begins
unfoldable pub slash_front : (behind : List ℕ) → Result Front LexWhy
slash_front [] = Ok (token (Sign Slash) 1)
slash_front (b ∷ inner) =
    if b == 47 then Ok (gap (2 + line_len inner))
    else if b == 42 then closed (closed_len false inner)
    else Ok (token (Sign Slash) 1)

-- ---- all together

abbrev pub name_len : List ℕ → ℕ
name_len bytes = prefix_len continues_name bytes

-- what begins the rest of a text; an empty rest begins nothing
unfoldable pub front_of : (rest : List ℕ) → Result Front LexWhy
front_of [] = Err Character
front_of (first ∷ behind) =
    if is_blank first then Ok (gap 1)
    else if begins_name first then Ok (token Name (1 + name_len behind))
    else if is_ascii_digit first then number_front (first ∷ behind)
    else if first == 47 then slash_front behind
    else symbol_front first behind

-- a fault of the front at this place
abbrev pub placed : Place → Result Front LexWhy → Result Front LexFault
placed place (Ok front) = Ok front
placed place (Err why) = Err (At place why)

-- the token that the front is at this byte, if it is one
abbrev pub front_token : Option TokenKind → (from len : ℕ) → Place → List Token
front_token None from len place = []
front_token (Some kind) from len place = record { kind = kind; from = from; to = from + len; place = place } ∷ []
