-- The tokens of a text.
--
-- A text is cut into pieces: gaps, which are a blank or a comment each, and tokens.
use Rattle.std.specs.Prelude.{◌≡◌, ◌⊎◌, ◌+◌, ◌==◌, ◌||◌, ◌<◌, ◌^◌, ◌≤◌, ◌++◌, ℕ, Bool, not, List, [], ◌∷◌, length, take, reverse, count_by, codes, IsTrue}
use Rattle.std.specs.List.{AllByRecursion, prefix_len}
use Rattle.mspec_tree.specs.declared.words.Place.{Place}
use Rattle.mspec_lexer.specs.declared.tokens.Token.{Token}
use Rattle.mspec_lexer.specs.declared.tokens.TokenKind.{TokenKind}
use Rattle.mspec_lexer.specs.declared.tokens.TokenKind.TheVariants.{Number}
use Rattle.mspec_lexer.specs.Spellings.{HasForm}

-- ---- places

abbrev pub is_line_end : ℕ → Bool
is_line_end b = b == 10

-- the place behind these bytes of a text: its line is one more than their line ends, and its column one more than
-- the bytes behind the last of these
abbrev pub place_behind : List ℕ → Place
place_behind bytes = record {
  line = 1 + count_by is_line_end bytes;
  column = 1 + prefix_len (λ b. not (is_line_end b)) (reverse bytes);
}

-- the place of the byte with this number, from 0
abbrev pub PlaceAt : (text : List ℕ) → (from : ℕ) → Place → Type 0
PlaceAt text from place = place ≡ place_behind (take from text)

-- ---- gaps

-- space, tab, CR, LF
abbrev pub is_blank : ℕ → Bool
is_blank b = b == 32 || b == 9 || b == 13 || b == 10

abbrev pub IsBlank : List ℕ → Type 0
IsBlank bytes = (b : ℕ) × (bytes ≡ b ∷ []) × IsTrue (is_blank b)

abbrev pub BeginsLine : List ℕ → Type 0
BeginsLine [] = Unit {0}
BeginsLine (b ∷ bytes) = IsTrue (is_line_end b)

-- `//` and what follows, up to the line's end or the text's
abbrev pub IsLineComment : (bytes behind : List ℕ) → Type 0
IsLineComment bytes behind =
    (inner : List ℕ)
    × (bytes ≡ codes "//" ++ inner)
    × AllByRecursion (λ b. IsTrue (not (is_line_end b))) inner
    × BeginsLine behind

-- `*/` stands nowhere in these bytes
abbrev pub HasNoEnd : List ℕ → Type 0
HasNoEnd bytes = (front behind : List ℕ) → bytes ≡ front ++ (codes "*/" ++ behind) → ⊥

-- `/*` and what follows, up to the first `*/`, whose `*` is another than that of `/*`
abbrev pub IsBlockComment : (bytes : List ℕ) → Type 0
IsBlockComment bytes =
    (inner : List ℕ)
    × (bytes ≡ codes "/*" ++ (inner ++ codes "*/"))
    × HasNoEnd (inner ++ codes "*")

abbrev pub IsGap : (bytes behind : List ℕ) → Type 0
IsGap bytes behind = IsBlank bytes ⊎ (IsLineComment bytes behind ⊎ IsBlockComment bytes)

-- ---- tokens

abbrev pub BeginsComment : List ℕ → Type 0
BeginsComment rest = (behind : List ℕ) × ((rest ≡ codes "//" ++ behind) ⊎ (rest ≡ codes "/*" ++ behind))

-- the longest bytes at the front of the rest that have the form of a token, where no comment begins
abbrev pub IsLongest : TokenKind → (bytes behind : List ℕ) → Type 0
IsLongest kind bytes behind =
    HasForm kind bytes
    × ((other : TokenKind) (more less : List ℕ) → bytes ++ behind ≡ more ++ less → HasForm other more → length more ≤ length bytes)
    × (BeginsComment (bytes ++ behind) → ⊥)

-- a number that is no token is 2^128 or more
abbrev pub IsNarrow : TokenKind → Type 0
IsNarrow (Number n) = n < 2 ^ 128
IsNarrow other = Unit {0}

-- ---- texts

-- the most bytes that a text may have
abbrev pub text_limit : ℕ
text_limit = 1048576

pub data Piece : Type 0 where
  Gap : (bytes : List ℕ) → Piece
  Word : (kind : TokenKind) (bytes : List ℕ) → Piece

-- the piece can stand before these bytes
abbrev pub StandsBefore : Piece → (behind : List ℕ) → Type 0
StandsBefore (Gap bytes) behind = IsGap bytes behind
StandsBefore (Word kind bytes) behind = IsLongest kind bytes behind × IsNarrow kind

abbrev pub text_of : List Piece → List ℕ
text_of [] = []
text_of (Gap bytes ∷ pieces) = bytes ++ text_of pieces
text_of (Word kind bytes ∷ pieces) = bytes ++ text_of pieces

-- the pieces, one after another, can stand before these bytes
abbrev pub StandBefore : List Piece → (behind : List ℕ) → Type 0
StandBefore [] behind = Unit {0}
StandBefore (piece ∷ pieces) behind = StandsBefore piece (text_of pieces ++ behind) × StandBefore pieces behind

-- the tokens among pieces that stand behind these bytes of the text
abbrev pub tokens_behind : (before : List ℕ) → List Piece → List Token
tokens_behind before [] = []
tokens_behind before (Gap bytes ∷ pieces) = tokens_behind (before ++ bytes) pieces
tokens_behind before (Word kind bytes ∷ pieces) =
    record { kind = kind; from = length before; to = length before + length bytes; place = place_behind before }
    ∷ tokens_behind (before ++ bytes) pieces

-- the text, which is short enough, is cut into pieces, and these are the tokens among them
pub record Tokens (text : List ℕ) (tokens : List Token) : Type 0 where
  pub short : length text ≤ text_limit
  pub pieces : List Piece
  pub whole : text ≡ text_of pieces
  pub stand : StandBefore pieces []
  pub among : tokens ≡ tokens_behind [] pieces
