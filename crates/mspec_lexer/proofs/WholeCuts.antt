-- Whole cuts of a text: there is one, and one only.
use Rattle.std.proofs.Common.{◌≡◌, ◌<◌, ◌≤◌, ◌⊎◌, ℕ, zero, suc, List, [], ◌∷◌, ◌++◌, length, Ok, Err, Result, refl, sym, ap, ◌∙◌, subst, inl, inr, arith, append_assoc, append-nil, length-append}
use Rattle.mspec_tree.specs.declared.words.Place.{Place}
use Rattle.mspec_lexer.specs.declared.fronts.Front.{Front}
use Rattle.mspec_lexer.specs.declared.tokens.LexWhy.{LexWhy}
use Rattle.mspec_lexer.specs.declared.tokens.LexWhy.TheVariants.{TextTooLong, Character, WideNumber, OpenComment}
use Rattle.mspec_lexer.specs.declared.tokens.Token.{Token}
use Rattle.mspec_lexer.specs.declared.tokens.TokenKind.{TokenKind}
use Rattle.mspec_lexer.specs.declared.tokens.TokenKind.TheVariants.{Number}
use Rattle.mspec_lexer.specs.Spellings.{HasForm}
use Rattle.mspec_lexer.specs.Tokens.{Gap, IsGap, Piece, place_behind, StandBefore, StandsBefore, text_limit, text_of, Tokens, tokens_behind, Word}
use Rattle.mspec_lexer.specs.LexFaults.{BeginsNone, IsRefused, StopsAt}
use Rattle.mspec_lexer.specs.LexerParts.{front_of}
use Rattle.mspec_lexer.proofs.CutLaws.{bytes_of, bytes_of-piece_of, text_of-cons}
use Rattle.mspec_lexer.proofs.FormLaws.{begins}
use Rattle.mspec_lexer.proofs.FrontLaws.{fronts, IsFront, Parts, piece_of}
use Rattle.mspec_lexer.proofs.OneCut.{none_or_piece, one_why, same_piece}

-- where a cut ends: at the text's end, or where nothing begins
abbrev IsEnd : List ℕ → Type 0
IsEnd rest = (rest ≡ []) ⊎ ((why : LexWhy) × BeginsNone why rest)

-- ---- one

no_empty_gap : (bytes behind : List ℕ) → IsGap bytes behind → bytes ≡ [] → ⊥
no_empty_gap bytes behind (inl (b, e, h)) none = cc
no_empty_gap bytes behind (inr (inl (inner, e, h, end))) none = cc
no_empty_gap bytes behind (inr (inr (inner, e, h))) none = cc

no_empty_token : (kind : TokenKind) (bytes behind : List ℕ) → HasForm kind bytes → bytes ++ behind ≡ [] → ⊥
no_empty_token kind bytes behind h none =
    let first = begins kind bytes h in
    let spelt : first.first ∷ (first.more ++ behind) ≡ [] = ap (λ (l : List ℕ). l ++ behind) (sym first.split) ∙ none in
    cc

no_empty_piece : (piece : Piece) (behind : List ℕ) → StandsBefore piece behind → bytes_of piece ++ behind ≡ [] → ⊥
no_empty_piece (Gap bytes) behind h none = no_empty_gap bytes behind h (front_is_empty bytes behind none)
  where
    front_is_empty : (xs ys : List ℕ) → xs ++ ys ≡ [] → xs ≡ []
    front_is_empty [] ys e = refl
    front_is_empty (x ∷ xs) ys e = cc
no_empty_piece (Word kind bytes) behind h none =
    no_empty_token kind bytes behind h.0.0 none

no_piece_at_end : (piece : Piece) (behind : List ℕ) → StandsBefore piece behind → IsEnd (bytes_of piece ++ behind) → ⊥
no_piece_at_end piece behind h (inl none) = no_empty_piece piece behind h none
no_piece_at_end piece behind h (inr (why, none)) = none_or_piece why piece behind h none

record SameCut (ps qs : List Piece) (rest other : List ℕ) : Type 0 where
  pieces : ps ≡ qs
  rests : rest ≡ other

first_piece : (p : Piece) (ps : List Piece) (rest : List ℕ) → text_of (p ∷ ps) ++ rest ≡ bytes_of p ++ (text_of ps ++ rest)
first_piece p ps rest =
    ap (λ (l : List ℕ). l ++ rest) (text_of-cons p ps) ∙ append_assoc (bytes_of p) (text_of ps) rest

same_cut : (ps qs : List Piece) (rest other : List ℕ) → text_of ps ++ rest ≡ text_of qs ++ other → StandBefore ps rest → StandBefore qs other → IsEnd rest → IsEnd other → SameCut ps qs rest other
same_cut [] [] rest other e h k p q = record { pieces = refl; rests = e }
same_cut [] (y ∷ ys) rest other e h k p q =
    absurd (no_piece_at_end y (text_of ys ++ other) k.0 (subst IsEnd (e ∙ first_piece y ys other) p))
same_cut (x ∷ xs) [] rest other e h k p q =
    absurd (no_piece_at_end x (text_of xs ++ rest) h.0 (subst IsEnd (sym e ∙ first_piece x xs rest) q))
same_cut (x ∷ xs) (y ∷ ys) rest other e h k p q =
    let whole = sym (first_piece x xs rest) ∙ e ∙ first_piece y ys other in
    let first = same_piece x y (text_of xs ++ rest) (text_of ys ++ other) whole h.0 k.0 in
    let more = same_cut xs ys rest other first.rests h.1 k.1 p q in
    record {
      pieces = ap (λ v. v ∷ xs) first.pieces ∙ ap (λ (l : List Piece). y ∷ l) more.pieces;
      rests = more.rests;
    }

pub one_tokens : (text : List ℕ) (one other : List Token) → Tokens text one → Tokens text other → one ≡ other
one_tokens text one other h k =
    let whole = ap (λ (l : List ℕ). l ++ []) (sym h.whole ∙ k.whole) in
    let same = same_cut h.pieces k.pieces [] [] whole h.stand k.stand (inl refl) (inl refl) in
    h.among ∙ ap (λ (l : List Piece). tokens_behind [] l) same.pieces ∙ sym k.among

-- ---- faults

abbrev IsRefusal : List ℕ → Place → LexWhy → Type 0
IsRefusal text place why =
    ((text_limit < length text) × (place ≡ place_behind []) × (why ≡ TextTooLong))
    ⊎ ((length text ≤ text_limit) × StopsAt text place why)

refusal : (text : List ℕ) (place : Place) (why : LexWhy) → IsRefused text place why → IsRefusal text place why
refusal text place TextTooLong h = inl (h.0, h.1, refl)
refusal text place Character h = inr h
refusal text place WideNumber h = inr h
refusal text place OpenComment h = inr h

same_stop : (text : List ℕ) (one other : Place) (why reason : LexWhy) → StopsAt text one why → StopsAt text other reason → (one ≡ other) × (why ≡ reason)
same_stop text one other why reason h k =
    let same = same_cut h.pieces k.pieces h.rest k.rest (sym h.whole ∙ k.whole) h.stand k.stand (inr (why, h.none)) (inr (reason, k.none)) in (
      h.there ∙ ap (λ (l : List Piece). place_behind (text_of l)) same.pieces ∙ sym k.there,
      one_why why reason k.rest (subst (λ (l : List ℕ). BeginsNone why l) same.rests h.none) k.none,
    )

same_refusal : (text : List ℕ) (one other : Place) (why reason : LexWhy) → IsRefusal text one why → IsRefusal text other reason → (one ≡ other) × (why ≡ reason)
same_refusal text one other why reason (inl h) (inl k) = (h.1 ∙ sym k.1, h.2 ∙ sym k.2)
same_refusal text one other why reason (inl h) (inr k) = absurd (omega (arith, h.0, k.0))
same_refusal text one other why reason (inr h) (inl k) = absurd (omega (arith, h.0, k.0))
same_refusal text one other why reason (inr h) (inr k) = same_stop text one other why reason h.1 k.1

pub one_fault : (text : List ℕ) (one other : Place) (why reason : LexWhy) → IsRefused text one why → IsRefused text other reason → (one ≡ other) × (why ≡ reason)
one_fault text one other why reason h k =
    same_refusal text one other why reason (refusal text one why h) (refusal text other reason k)

nothing_left : (why : LexWhy) → BeginsNone why [] → ⊥
nothing_left TextTooLong h = h
nothing_left Character h = h
nothing_left WideNumber (n, bytes, behind, split, longest, wide) = no_empty_token (Number n) bytes behind longest.0 (sym split)
nothing_left OpenComment (inner, whole, unclosed) = cc

not_both : (text : List ℕ) (tokens : List Token) (place : Place) (why : LexWhy) → Tokens text tokens → IsRefusal text place why → ⊥
not_both text tokens place why h (inl k) = omega (arith, h.short, k.0)
not_both text tokens place why h (inr k) =
    let whole = append-nil (text_of h.pieces) ∙ sym h.whole ∙ k.1.whole in
    let same = same_cut h.pieces k.1.pieces [] k.1.rest whole h.stand k.1.stand (inl refl) (inr (why, k.1.none)) in
    nothing_left why (subst (λ (l : List ℕ). BeginsNone why l) (sym same.rests) k.1.none)

pub tokens_or_refused : (text : List ℕ) (tokens : List Token) (place : Place) (why : LexWhy) → Tokens text tokens → IsRefused text place why → ⊥
tokens_or_refused text tokens place why h k = not_both text tokens place why h (refusal text place why k)

-- ---- some

record SomeCut (text : List ℕ) : Type 0 where
  pieces : List Piece
  rest : List ℕ
  whole : text ≡ text_of pieces ++ rest
  stand : StandBefore pieces rest
  end : IsEnd rest

put_first : (text : List ℕ) (front : Front) → (parts : Parts text front) → SomeCut parts.behind → SomeCut text
put_first text front parts more =
    let piece = piece_of front.kind parts.bytes in
    let bytes : bytes_of piece ≡ parts.bytes = bytes_of-piece_of front.kind parts.bytes in
    record {
      pieces = piece ∷ more.pieces;
      rest = more.rest;
      whole =
          parts.split ∙ ap (λ (l : List ℕ). parts.bytes ++ l) more.whole
          ∙ ap (λ (l : List ℕ). l ++ (text_of more.pieces ++ more.rest)) (sym bytes)
          ∙ sym (first_piece piece more.pieces more.rest);
      stand = (subst (λ (l : List ℕ). StandsBefore piece l) more.whole parts.stands, more.stand);
      end = more.end;
    }

some_cut : (fuel : ℕ) (text : List ℕ) → length text ≤ fuel → SomeCut text
some_cut fuel [] h = record { pieces = []; rest = []; whole = refl; stand = tt; end = inl refl }
some_cut zero (b ∷ text) h = absurd (omega arith)
some_cut (suc fuel) (b ∷ text) h = by_front fuel (b ∷ text) (front_of (b ∷ text)) h (fronts (b ∷ text) (omega arith)) (λ rest k. some_cut fuel rest k)
  where
    by_front : (fuel : ℕ) (text : List ℕ) (r : Result Front LexWhy) → length text ≤ suc fuel → IsFront text r → ((rest : List ℕ) → length rest ≤ fuel → SomeCut rest) → SomeCut text
    by_front fuel text (Ok front) h parts more =
        put_first text front parts (more parts.behind (omega (arith, parts.some, parts.len, ap length parts.split, length-append parts.bytes parts.behind)))
    by_front fuel text (Err why) h none more = record { pieces = []; rest = text; whole = refl; stand = tt; end = inr (why, none) }

refused_by : (text : List ℕ) (place : Place) (why : LexWhy) → length text ≤ text_limit → StopsAt text place why → IsRefused text place why
refused_by text place TextTooLong h k = absurd k.none
refused_by text place Character h k = (h, k)
refused_by text place WideNumber h k = (h, k)
refused_by text place OpenComment h k = (h, k)

abbrev HasAnswer : List ℕ → Type 0
HasAnswer text = ((tokens : List Token) × Tokens text tokens) ⊎ ((place : Place) × (why : LexWhy) × IsRefused text place why)

answer_by : (text : List ℕ) (cut : SomeCut text) → length text ≤ text_limit → IsEnd cut.rest → HasAnswer text
answer_by text cut h (inl none) = inl (
  tokens_behind [] cut.pieces,
  record {
    short = h;
    pieces = cut.pieces;
    whole = cut.whole ∙ ap (λ (l : List ℕ). text_of cut.pieces ++ l) none ∙ append-nil (text_of cut.pieces);
    stand = subst (λ (l : List ℕ). StandBefore cut.pieces l) none cut.stand;
    among = refl;
  },
)
answer_by text cut h (inr (why, none)) = inr (
  place_behind (text_of cut.pieces),
  why,
  refused_by text (place_behind (text_of cut.pieces)) why h (record {
    pieces = cut.pieces;
    rest = cut.rest;
    whole = cut.whole;
    stand = cut.stand;
    there = refl;
    none = none;
  }),
)

short_or_long : (text : List ℕ) → (length text ≤ text_limit) ⊎ (text_limit < length text)
short_or_long text = grind arith

pub some_answer : (text : List ℕ) → HasAnswer text
some_answer text =
    elim (short_or_long text) [
      | inl short ↦ let cut = some_cut (length text) text (omega arith) in answer_by text cut short cut.end
      | inr long ↦ inr (place_behind [], TextTooLong, (long, refl))
    ]
