-- A text that is cut up to some byte, and one piece more.
use Rattle.std.proofs.Common.{◌≡◌, ◌≤◌, ◌+◌, ℕ, Bool, true, false, List, [], ◌∷◌, ◌++◌, length, take, drop, Some, None, Option, refl, sym, ap, ◌∙◌, subst, arith, append_assoc, append-nil, length-append, length-drop}
use Rattle.std.proofs.Math.Seq.{take-append_seam, drop-append_seam}
use Rattle.std.proofs.lemmas.List.{drop_all}
use Rattle.mspec_tree.specs.declared.words.Place.{Place}
use Rattle.mspec_lexer.specs.declared.fronts.Front.{Front}
use Rattle.mspec_lexer.specs.declared.tokens.LexWhy.{LexWhy}
use Rattle.mspec_lexer.specs.declared.tokens.LexWhy.TheVariants.{TextTooLong, Character, WideNumber, OpenComment}
use Rattle.mspec_lexer.specs.declared.tokens.Token.{Token}
use Rattle.mspec_lexer.specs.declared.tokens.TokenKind.{TokenKind}
use Rattle.mspec_lexer.specs.Tokens.{Gap, is_line_end, Piece, place_behind, StandBefore, StandsBefore, text_limit, text_of, Tokens, tokens_behind, Word}
use Rattle.mspec_lexer.specs.LexFaults.{BeginsNone, IsRefused, StopsAt}
use Rattle.mspec_lexer.specs.LexerParts.{front_token, step, stepped}
use Rattle.mspec_lexer.proofs.FrontLaws.{Parts, piece_of}
use Rattle.mspec_lexer.proofs.PlaceLaws.{bytes_more}

-- ---- pieces

abbrev pub bytes_of : Piece → List ℕ
bytes_of (Gap bytes) = bytes
bytes_of (Word kind bytes) = bytes

pub text_of-cons : (piece : Piece) (pieces : List Piece) → text_of (piece ∷ pieces) ≡ bytes_of piece ++ text_of pieces
text_of-cons (Gap bytes) pieces = refl
text_of-cons (Word kind bytes) pieces = refl

pub text_of-push : (pieces : List Piece) (piece : Piece) → text_of (pieces ++ piece ∷ []) ≡ text_of pieces ++ bytes_of piece
text_of-push [] piece = text_of-cons piece [] ∙ append-nil (bytes_of piece)
text_of-push (first ∷ pieces) piece =
    text_of-cons first (pieces ++ piece ∷ [])
    ∙ ap (λ (l : List ℕ). bytes_of first ++ l) (text_of-push pieces piece)
    ∙ sym (append_assoc (bytes_of first) (text_of pieces) (bytes_of piece))
    ∙ ap (λ (l : List ℕ). l ++ bytes_of piece) (sym (text_of-cons first pieces))

pub stand-push : (pieces : List Piece) (piece : Piece) (behind : List ℕ) → StandBefore pieces (bytes_of piece ++ behind) → StandsBefore piece behind → StandBefore (pieces ++ piece ∷ []) behind
stand-push [] piece behind h k = (k, tt)
stand-push (first ∷ pieces) piece behind h k =
    let same : text_of pieces ++ (bytes_of piece ++ behind) ≡ text_of (pieces ++ piece ∷ []) ++ behind =
    sym (append_assoc (text_of pieces) (bytes_of piece) behind)
    ∙ ap (λ (l : List ℕ). l ++ behind) (sym (text_of-push pieces piece)) in
    (subst (λ (l : List ℕ). StandsBefore first l) same h.0, stand-push pieces piece behind h.1 k)

-- the token that a piece is, if it is one
abbrev pub token_of : (before : List ℕ) → Piece → List Token
token_of before piece = tokens_behind before (piece ∷ [])

pub tokens-push : (before : List ℕ) (pieces : List Piece) (piece : Piece) → tokens_behind before (pieces ++ piece ∷ []) ≡ tokens_behind before pieces ++ token_of (before ++ text_of pieces) piece
tokens-push before [] piece = ap (λ (l : List ℕ). token_of l piece) (sym (append-nil before))
tokens-push before (Gap bytes ∷ pieces) piece =
    tokens-push (before ++ bytes) pieces piece
    ∙ ap (λ (l : List ℕ). tokens_behind (before ++ bytes) pieces ++ token_of l piece) (append_assoc before bytes (text_of pieces))
tokens-push before (Word kind bytes ∷ pieces) piece =
    ap (λ (l : List Token). record { kind = kind; from = length before; to = length before + length bytes; place = place_behind before } ∷ l)
    (tokens-push (before ++ bytes) pieces piece
    ∙ ap (λ (l : List ℕ). tokens_behind (before ++ bytes) pieces ++ token_of l piece) (append_assoc before bytes (text_of pieces)))

-- ---- cuts

-- the text is cut into pieces up to this byte, which has this place, and these are the tokens among them
pub record Cut (text : List ℕ) (from : ℕ) (place : Place) (tokens : List Token) : Type 0 where
  pub pieces : List Piece
  pub whole : text ≡ text_of pieces ++ drop from text
  pub at : length (text_of pieces) ≡ from
  pub stand : StandBefore pieces (drop from text)
  pub there : place ≡ place_behind (text_of pieces)
  pub among : tokens ≡ tokens_behind [] pieces

front_token_is : (kind : Option TokenKind) (before bytes : List ℕ) → token_of before (piece_of kind bytes) ≡ front_token kind (length before) (length bytes) (place_behind before)
front_token_is None before bytes = refl
front_token_is (Some kind) before bytes = refl

pub bytes_of-piece_of : (kind : Option TokenKind) (bytes : List ℕ) → bytes_of (piece_of kind bytes) ≡ bytes
bytes_of-piece_of None bytes = refl
bytes_of-piece_of (Some kind) bytes = refl

pub start : (text : List ℕ) → Cut text 0 (place_behind []) []
start text = record { pieces = []; whole = refl; at = refl; stand = tt; there = refl; among = refl }

pub next : (text : List ℕ) (from : ℕ) (place : Place) (tokens : List Token) (front : Front) → Cut text from place tokens → Parts (drop from text) front → Cut text (from + front.len) (stepped place (take front.len (drop from text))) (tokens ++ front_token front.kind from front.len place)
next text from place tokens front cut parts =
    let piece = piece_of front.kind parts.bytes in
    let bytes : bytes_of piece ≡ parts.bytes = bytes_of-piece_of front.kind parts.bytes in
    let before = text_of cut.pieces in
    let pushed : text_of (cut.pieces ++ piece ∷ []) ≡ before ++ parts.bytes =
    text_of-push cut.pieces piece ∙ ap (λ (l : List ℕ). before ++ l) bytes in
    let split : text ≡ (before ++ parts.bytes) ++ parts.behind =
    cut.whole ∙ ap (λ (l : List ℕ). before ++ l) parts.split ∙ sym (append_assoc before parts.bytes parts.behind) in
    let len : length (before ++ parts.bytes) ≡ from + front.len = omega (arith, length-append before parts.bytes, cut.at, parts.len) in
    let behind : drop (from + front.len) text ≡ parts.behind =
    ap (λ n. drop n text) (sym len) ∙ ap (λ (l : List ℕ). drop (length (before ++ parts.bytes)) l) split
    ∙ drop-append_seam (before ++ parts.bytes) parts.behind in
    let taken : take front.len (drop from text) ≡ parts.bytes =
    ap (λ n. take n (drop from text)) (sym parts.len) ∙ ap (λ (l : List ℕ). take (length parts.bytes) l) parts.split
    ∙ take-append_seam parts.bytes parts.behind in
    let before_piece : StandBefore cut.pieces (bytes_of piece ++ parts.behind) =
    subst (λ (l : List ℕ). StandBefore cut.pieces l) (parts.split ∙ ap (λ (l : List ℕ). l ++ parts.behind) (sym bytes)) cut.stand in
    record {
      pieces = cut.pieces ++ piece ∷ [];
      whole = split ∙ ap (λ (l : List ℕ). l ++ parts.behind) (sym pushed) ∙ ap (λ (l : List ℕ). text_of (cut.pieces ++ piece ∷ []) ++ l) (sym behind);
      at = ap length pushed ∙ len;
      stand = subst (λ (l : List ℕ). StandBefore (cut.pieces ++ piece ∷ []) l) (sym behind) (stand-push cut.pieces piece parts.behind before_piece parts.stands);
      there =
          ap (λ (l : List ℕ). stepped place l) taken
          ∙ ap (λ (p : Place). stepped p parts.bytes) cut.there
          ∙ sym (bytes_more before parts.bytes)
          ∙ ap place_behind (sym pushed);
      among =
          ap (λ (l : List Token). l ++ front_token front.kind from front.len place) cut.among
          ∙ ap (λ (l : List Token). tokens_behind [] cut.pieces ++ l)
          (ap (λ n. front_token front.kind n front.len place) (sym cut.at)
          ∙ ap (λ n. front_token front.kind (length before) n place) (sym parts.len)
          ∙ ap (λ (p : Place). front_token front.kind (length before) (length parts.bytes) p) cut.there
          ∙ sym (front_token_is front.kind before parts.bytes))
          ∙ sym (tokens-push [] cut.pieces piece);
    }

pub done : (text : List ℕ) (from : ℕ) (place : Place) (tokens : List Token) → length text ≤ text_limit → length text ≤ from → Cut text from place tokens → Tokens text tokens
done text from place tokens short end cut =
    let none = drop_all from text end in
    record {
      short = short;
      pieces = cut.pieces;
      whole = cut.whole ∙ ap (λ (l : List ℕ). text_of cut.pieces ++ l) none ∙ append-nil (text_of cut.pieces);
      stand = subst (λ (l : List ℕ). StandBefore cut.pieces l) none cut.stand;
      among = cut.among;
    }

stops : (text : List ℕ) (from : ℕ) (place : Place) (tokens : List Token) (why : LexWhy) → Cut text from place tokens → BeginsNone why (drop from text) → StopsAt text place why
stops text from place tokens why cut none = record {
  pieces = cut.pieces;
  rest = drop from text;
  whole = cut.whole;
  stand = cut.stand;
  there = cut.there;
  none = none;
}

pub refused : (text : List ℕ) (from : ℕ) (place : Place) (tokens : List Token) (why : LexWhy) → length text ≤ text_limit → Cut text from place tokens → BeginsNone why (drop from text) → IsRefused text place why
refused text from place tokens TextTooLong short cut none = absurd none
refused text from place tokens Character short cut none = (short, stops text from place tokens Character cut none)
refused text from place tokens WideNumber short cut none = (short, stops text from place tokens WideNumber cut none)
refused text from place tokens OpenComment short cut none = (short, stops text from place tokens OpenComment cut none)

-- ---- bounds

pub within : (text : List ℕ) (from : ℕ) (front : Front) → from ≤ length text → Parts (drop from text) front → from + front.len ≤ length text
within text from front h parts =
    omega (arith, parts.len, ap length parts.split, length-append parts.bytes parts.behind, length-drop from text)

step_within : (place : Place) (b : ℕ) (v : Bool) → is_line_end b ≡ v → ((step place b).line ≤ place.line + 1) × ((step place b).column ≤ place.column + 1)
step_within place b true e = rw e (omega arith, omega arith)
step_within place b false e = rw e (omega arith, omega arith)

pub stepped_within : (place : Place) (bytes : List ℕ) → ((stepped place bytes).line ≤ place.line + length bytes) × ((stepped place bytes).column ≤ place.column + length bytes)
stepped_within place [] = (omega arith, omega arith)
stepped_within place (b ∷ bytes) =
    let one = step_within place b (is_line_end b) refl in
    let rest = stepped_within (step place b) bytes in
    (omega (arith, one.0, rest.0), omega (arith, one.1, rest.1))
