-- Why a text has no tokens.
use Rattle.std.specs.Prelude.{◌≡◌, ◌<◌, ◌≤◌, ◌^◌, ◌++◌, ℕ, List, [], ◌∷◌, length, codes, IsTrue}
use Rattle.mspec_tree.specs.declared.words.Place.{Place}
use Rattle.mspec_lexer.specs.declared.tokens.TokenKind.{TokenKind}
use Rattle.mspec_lexer.specs.declared.tokens.TokenKind.TheVariants.{Number}
use Rattle.mspec_lexer.specs.declared.tokens.LexWhy.{LexWhy}
use Rattle.mspec_lexer.specs.declared.tokens.LexWhy.TheVariants.{TextTooLong, Character, WideNumber, OpenComment}
use Rattle.mspec_lexer.specs.declared.tokens.LexFault.{LexFault}
use Rattle.mspec_lexer.specs.declared.tokens.LexFault.TheVariants.{At, NoMemory}
use Rattle.mspec_lexer.specs.Spellings.{HasForm}
use Rattle.mspec_lexer.specs.Tokens.{is_blank, BeginsComment, HasNoEnd, IsLongest, Piece, StandBefore, place_behind, text_limit, text_of}

-- a byte that begins no blank, no comment and no token
abbrev pub IsStray : (rest : List ℕ) → Type 0
IsStray [] = ⊥
IsStray (b ∷ bytes) =
    (IsTrue (is_blank b) → ⊥)
    × (BeginsComment (b ∷ bytes) → ⊥)
    × ((kind : TokenKind) (front behind : List ℕ) → b ∷ bytes ≡ front ++ behind → HasForm kind front → ⊥)

-- what begins the rest is a number of 2^128 or more
abbrev pub BeginsWide : (rest : List ℕ) → Type 0
BeginsWide rest =
    (n : ℕ) × (bytes behind : List ℕ) × (rest ≡ bytes ++ behind) × IsLongest (Number n) bytes behind × (2 ^ 128 ≤ n)

-- a comment begins the rest and doesn't end
abbrev pub IsOpenComment : (rest : List ℕ) → Type 0
IsOpenComment rest = (inner : List ℕ) × (rest ≡ codes "/*" ++ inner) × HasNoEnd inner

-- why the rest begins no piece
abbrev pub BeginsNone : LexWhy → (rest : List ℕ) → Type 0
BeginsNone TextTooLong rest = ⊥
BeginsNone Character rest = IsStray rest
BeginsNone WideNumber rest = BeginsWide rest
BeginsNone OpenComment rest = IsOpenComment rest

-- the text is cut into pieces up to this place, at which none begins
pub record StopsAt (text : List ℕ) (place : Place) (why : LexWhy) : Type 0 where
  pub pieces : List Piece
  pub rest : List ℕ
  pub whole : text ≡ text_of pieces ++ rest
  pub stand : StandBefore pieces rest
  pub there : place ≡ place_behind (text_of pieces)
  pub none : BeginsNone why rest

-- the text is refused at this place, and why: for its length before all else
abbrev pub IsRefused : (text : List ℕ) → Place → LexWhy → Type 0
IsRefused text place TextTooLong = (text_limit < length text) × (place ≡ place_behind [])
IsRefused text place Character = (length text ≤ text_limit) × StopsAt text place Character
IsRefused text place WideNumber = (length text ≤ text_limit) × StopsAt text place WideNumber
IsRefused text place OpenComment = (length text ≤ text_limit) × StopsAt text place OpenComment

-- P of the fault that was answered, unless memory ran out
abbrev pub OfFault : LexFault → (Place → LexWhy → Type 0) → Type 0
OfFault (At place why) P = P place why
OfFault NoMemory P = Unit {0}
