-- What the parts of the lexer say of the front of a text is so.
use Rattle.std.proofs.Common.{◌≡◌, ◌<◌, ◌≤◌, ◌+◌, ◌^◌, ℕ, Bool, true, false, cond, List, [], ◌∷◌, ◌++◌, length, take, drop, Some, None, Option, Result, Ok, Err, refl, sym, ap, ◌∙◌, subst, inl, inr, arith, eqb, ltb, eqb-true, ltb-false, append_assoc, length-append, length-drop}
use Rattle.std.specs.Prelude.{not}
use Rattle.std.specs.Char.{is_ascii_digit, is_digit}
use Rattle.std.specs.Str.Parse.{digits_value}
use Rattle.std.proofs.lemmas.Bool.Decides.{Decides-ltb}
use Rattle.std.proofs.lemmas.List.{take-append-drop}
use Rattle.std.proofs.lemmas.List.Folds.{length-prefix_len}
use Rattle.mspec_lexer.specs.declared.fronts.Front.{Front}
use Rattle.mspec_tree.specs.declared.words.Place.{Place}
use Rattle.mspec_lexer.specs.declared.tokens.LexFault.{LexFault}
use Rattle.mspec_lexer.specs.declared.tokens.LexFault.TheVariants.{At}
use Rattle.mspec_lexer.specs.declared.tokens.LexWhy.{LexWhy}
use Rattle.mspec_lexer.specs.declared.tokens.LexWhy.TheVariants.{WideNumber}
use Rattle.mspec_lexer.specs.declared.tokens.Symbol.{Symbol}
use Rattle.mspec_lexer.specs.declared.tokens.Symbol.TheVariants.{Slash}
use Rattle.mspec_lexer.specs.declared.tokens.TokenKind.{TokenKind}
use Rattle.mspec_lexer.specs.declared.tokens.TokenKind.TheVariants.{Name, Number, Symbol as Sign}
use Rattle.mspec_lexer.specs.Spellings.{begins_name, continues_name, HasForm, spelling}
use Rattle.mspec_lexer.specs.Tokens.{BeginsComment, Gap, is_blank, is_line_end, IsLongest, Piece, StandsBefore, Word}
use Rattle.mspec_lexer.specs.LexFaults.{BeginsNone, IsStray}
use Rattle.mspec_lexer.specs.LexerParts.{closed, closed_len, decimal_or, digits_len, digits_of, double_symbol, either, front_of, gap, hexadecimal_of, line_len, name_len, number_front, placed, single_symbol, slash_front, symbol_front, token}
use Rattle.mspec_lexer.proofs.FormLaws.{begins, class_of, IsIn, one_class, Other, spelled, spelled_back}
use Rattle.mspec_lexer.proofs.GapLaws.{closed_none, closed_some, stops}
use Rattle.mspec_lexer.proofs.LongestLaws.{decimal_longest, double_longest, front_passes, hexadecimal_longest, is_hexadecimal, name_longest, NoDouble, only_symbol, single_longest, single_within}
use Rattle.mspec_lexer.proofs.SymbolLaws.{double_spells, single_spells}

abbrev pub piece_of : Option TokenKind → List ℕ → Piece
piece_of None bytes = Gap bytes
piece_of (Some kind) bytes = Word kind bytes

-- the rest is a piece, and what is behind it
pub record Parts (rest : List ℕ) (front : Front) : Type 0 where
  pub bytes : List ℕ
  pub behind : List ℕ
  pub split : rest ≡ bytes ++ behind
  pub len : length bytes ≡ front.len
  pub some : 0 < front.len
  pub stands : StandsBefore (piece_of front.kind bytes) behind

abbrev pub IsFront : List ℕ → Result Front LexWhy → Type 0
IsFront rest (Ok front) = Parts rest front
IsFront rest (Err why) = BeginsNone why rest

-- ---- symbols

abbrev IsOtherByte : ℕ → Type 0
IsOtherByte b = IsIn Other b × (is_blank b ≡ false)

other_class : (kind : TokenKind) (xs ys behind : List ℕ) (first : ℕ) → first ∷ behind ≡ xs ++ ys → HasForm kind xs → IsIn Other first → class_of kind ≡ Other
other_class kind xs ys behind first e h other =
    let x = begins kind xs h in
    let whole : first ∷ behind ≡ x.first ∷ (x.more ++ ys) = e ∙ ap (λ (l : List ℕ). l ++ ys) x.split in
    let same : x.first ≡ first = cc in
    one_class (class_of kind) Other first (subst (λ b. IsIn (class_of kind) b) same x.class) other

no_single : (first : ℕ) (behind xs ys : List ℕ) (s : Symbol) → single_symbol first ≡ None → first ∷ behind ≡ xs ++ ys → length xs ≤ 1 → spelling s ≡ xs → ⊥
no_single first behind [] ys s none e short h = let x = spelled_back s in let y = ap spelled h in cc
no_single first behind (a ∷ []) ys s none e short h =
    let same : a ≡ first = cc in
    let x : single_symbol a ≡ Some s = ap spelled (sym h) ∙ spelled_back s in
    let y : single_symbol a ≡ None = ap single_symbol same ∙ none in
    cc
no_single first behind (a ∷ b ∷ xs) ys s none e short h = absurd (omega arith)

stray : (first : ℕ) (behind : List ℕ) → IsOtherByte first → NoDouble first behind → single_symbol first ≡ None → (BeginsComment (first ∷ behind) → ⊥) → IsStray (first ∷ behind)
stray first behind byte double single comment = (
  λ blank. cc,
  comment,
  λ kind front rest e h.
      let symbol = only_symbol kind (other_class kind front rest behind first e h byte.0) in
      let spelt : front ≡ spelling symbol.0 = subst (λ v. HasForm v front) symbol.1 h in
      no_single first behind front rest symbol.0 single e
      (single_within symbol.0 first behind front rest double e (sym spelt)) (sym spelt),
)

is_single : (first : ℕ) (behind : List ℕ) (single : Option Symbol) → IsOtherByte first → NoDouble first behind → single_symbol first ≡ single → (BeginsComment (first ∷ behind) → ⊥) → IsFront (first ∷ behind) (either None single)
is_single first behind (Some s) byte double e comment = record {
  bytes = first ∷ [];
  behind = behind;
  split = refl;
  len = refl;
  some = omega arith;
  stands = (single_longest s first behind (single_spells first s e) double comment, tt);
}
is_single first behind None byte double e comment = stray first behind byte double e comment

is_double : (first second : ℕ) (beyond : List ℕ) (double : Option Symbol) → IsOtherByte first → double_symbol first second ≡ double → (BeginsComment (first ∷ second ∷ beyond) → ⊥) → IsFront (first ∷ second ∷ beyond) (either double (single_symbol first))
is_double first second beyond (Some s) byte e comment = record {
  bytes = first ∷ second ∷ [];
  behind = beyond;
  split = refl;
  len = refl;
  some = omega arith;
  stands = (double_longest s first second beyond (double_spells first second s e) comment, tt);
}
is_double first second beyond None byte e comment =
    is_single first (second ∷ beyond) (single_symbol first) byte
    (λ b more h. let same : b ≡ second = cc in subst (λ c. double_symbol first c ≡ None) (sym same) e) refl comment

is_symbol : (first : ℕ) (behind : List ℕ) → IsOtherByte first → (BeginsComment (first ∷ behind) → ⊥) → IsFront (first ∷ behind) (symbol_front first behind)
unfolding symbol_front
is_symbol first [] byte comment = is_single first [] (single_symbol first) byte (λ b more h. cc) refl comment
is_symbol first (second ∷ beyond) byte comment = is_double first second beyond (double_symbol first second) byte refl comment

-- ---- names and blanks

is_name : (first : ℕ) (behind : List ℕ) → begins_name first ≡ true → Parts (first ∷ behind) (token Name (1 + name_len behind))
is_name first behind h = record {
  bytes = first ∷ take (name_len behind) behind;
  behind = drop (name_len behind) behind;
  split = ap (λ (l : List ℕ). first ∷ l) (sym (take-append-drop (name_len behind) behind));
  len = omega (arith, length-prefix_len continues_name behind);
  some = omega arith;
  stands = (name_longest first behind h, tt);
}

is_blank_front : (first : ℕ) (behind : List ℕ) → is_blank first ≡ true → Parts (first ∷ behind) (gap 1)
is_blank_front first behind h = record {
  bytes = first ∷ [];
  behind = behind;
  split = refl;
  len = refl;
  some = omega arith;
  stands = inl (first, refl, h);
}

-- ---- numbers

is_number : (radix n len : ℕ) (rest bytes behind : List ℕ) (v : Bool) → ltb n (2 ^ 128) ≡ v → rest ≡ bytes ++ behind → length bytes ≡ len → 0 < len → IsLongest (Number n) bytes behind → IsFront rest (cond v (Ok (token (Number n) len)) (Err WideNumber))
is_number radix n len rest bytes behind true e split long some longest = record {
  bytes = bytes;
  behind = behind;
  split = split;
  len = long;
  some = some;
  stands = (longest, (Decides-ltb n (2 ^ 128)).0 e);
}
is_number radix n len rest bytes behind false e split long some longest =
    (n, bytes, behind, split, longest, omega (arith, ltb-false n (2 ^ 128) e))

is_decimal : (first : ℕ) (behind : List ℕ) → is_ascii_digit first ≡ true → hexadecimal_of (first ∷ behind) ≡ [] → IsFront (first ∷ behind) (decimal_or (first ∷ behind) [])
is_decimal first behind digit none =
    let rest = first ∷ behind in
    let longest = decimal_longest first behind digit none in
    let len = length-prefix_len (λ b. is_digit b 10) rest in
    is_number 10 (digits_value 10 (digits_of 10 rest)) (0 + length (digits_of 10 rest)) rest (digits_of 10 rest) (drop (digits_len 10 rest) rest)
    (ltb (digits_value 10 (digits_of 10 rest)) (2 ^ 128)) refl (sym (take-append-drop (digits_len 10 rest) rest)) (omega arith)
    (some_bytes (Number (digits_value 10 (digits_of 10 rest))) (digits_of 10 rest) longest.0) longest
  where
    some_bytes : (kind : TokenKind) (bytes : List ℕ) → HasForm kind bytes → 0 < 0 + length bytes
    some_bytes kind bytes h = let x = begins kind bytes h in omega (arith, ap length x.split)

is_hexadecimal_front : (rest digits : List ℕ) (d : ℕ) → hexadecimal_of rest ≡ d ∷ digits → IsFront rest (decimal_or rest (d ∷ digits))
is_hexadecimal_front rest digits d e =
    let h = is_hexadecimal rest digits d e in
    let parted : rest ≡ 48 ∷ 120 ∷ d ∷ digits ++ drop (digits_len 16 h.behind) h.behind =
    h.split
    ∙ ap (λ (l : List ℕ). 48 ∷ 120 ∷ l) (sym (take-append-drop (digits_len 16 h.behind) h.behind))
    ∙ ap (λ (l : List ℕ). 48 ∷ 120 ∷ (l ++ drop (digits_len 16 h.behind) h.behind)) (sym h.digits_are) in
    is_number 16 (digits_value 16 (d ∷ digits)) (2 + length (d ∷ digits)) rest (48 ∷ 120 ∷ d ∷ digits) (drop (digits_len 16 h.behind) h.behind)
    (ltb (digits_value 16 (d ∷ digits)) (2 ^ 128)) refl parted (omega arith) (omega arith)
    (hexadecimal_longest h.behind digits d h.digits_are)

number_by : (first : ℕ) (behind hexadecimal : List ℕ) → is_ascii_digit first ≡ true → hexadecimal_of (first ∷ behind) ≡ hexadecimal → IsFront (first ∷ behind) (decimal_or (first ∷ behind) hexadecimal)
number_by first behind [] digit e = is_decimal first behind digit e
number_by first behind (d ∷ digits) digit e = is_hexadecimal_front (first ∷ behind) digits d e

is_number_front : (first : ℕ) (behind : List ℕ) → is_ascii_digit first ≡ true → IsFront (first ∷ behind) (number_front (first ∷ behind))
unfolding number_front
is_number_front first behind digit = number_by first behind (hexadecimal_of (first ∷ behind)) digit refl

-- ---- slashes

is_line : (inner : List ℕ) → Parts (47 ∷ 47 ∷ inner) (gap (2 + line_len inner))
is_line inner = record {
  bytes = 47 ∷ 47 ∷ take (line_len inner) inner;
  behind = drop (line_len inner) inner;
  split = ap (λ (l : List ℕ). 47 ∷ 47 ∷ l) (sym (take-append-drop (line_len inner) inner));
  len = omega (arith, length-prefix_len (λ b. not (is_line_end b)) inner);
  some = omega arith;
  stands = inr (inl (take (line_len inner) inner, refl, front_passes (λ b. not (is_line_end b)) inner, stops inner));
}

is_block : (inner : List ℕ) (end : Option ℕ) → closed_len false inner ≡ end → IsFront (47 ∷ 42 ∷ inner) (closed end)
is_block inner None e = (inner, refl, closed_none false inner e)
is_block inner (Some n) e =
    let ends = closed_some false inner n e in
    record {
      bytes = 47 ∷ 42 ∷ ends.inner ++ 42 ∷ 47 ∷ [];
      behind = ends.behind;
      split = ap (λ (l : List ℕ). 47 ∷ 42 ∷ l) (ends.split ∙ sym (append_assoc ends.inner (42 ∷ 47 ∷ []) ends.behind));
      len = omega (arith, ends.len, length-append ends.inner (42 ∷ 47 ∷ []));
      some = omega arith;
      stands = inr (inr (ends.inner, refl, ends.first));
    }

no_slash_symbol : (second : ℕ) → double_symbol 47 second ≡ None
unfolding double_symbol
no_slash_symbol second = refl

slash_spelt : spelling Slash ≡ 47 ∷ []
slash_spelt = refl

is_slash : (behind : List ℕ) → (BeginsComment (47 ∷ behind) → ⊥) → Parts (47 ∷ behind) (token (Sign Slash) 1)
is_slash behind comment = record {
  bytes = 47 ∷ [];
  behind = behind;
  split = refl;
  len = refl;
  some = omega arith;
  stands = (single_longest Slash 47 behind refl (λ second more e. no_slash_symbol second) comment, tt);
}

lone_slash : (b : ℕ) (inner : List ℕ) → eqb b 47 ≡ false → eqb b 42 ≡ false → BeginsComment (47 ∷ b ∷ inner) → ⊥
lone_slash b inner e f (behind, inl h) = let same : b ≡ 47 = cc in let no : eqb b 47 ≡ true = subst (λ c. eqb c 47 ≡ true) (sym same) refl in cc
lone_slash b inner e f (behind, inr h) = let same : b ≡ 42 = cc in let no : eqb b 42 ≡ true = subst (λ c. eqb c 42 ≡ true) (sym same) refl in cc

slash_by : (b : ℕ) (inner : List ℕ) (v w : Bool) → eqb b 47 ≡ v → eqb b 42 ≡ w → IsFront (47 ∷ b ∷ inner) (cond v (Ok (gap (2 + line_len inner))) (cond w (closed (closed_len false inner)) (Ok (token (Sign Slash) 1))))
slash_by b inner true w e f = subst (λ c. Parts (47 ∷ c ∷ inner) (gap (2 + line_len inner))) (sym (eqb-true b 47 e)) (is_line inner)
slash_by b inner false true e f =
    subst (λ c. IsFront (47 ∷ c ∷ inner) (closed (closed_len false inner))) (sym (eqb-true b 42 f)) (is_block inner (closed_len false inner) refl)
slash_by b inner false false e f = is_slash (b ∷ inner) (lone_slash b inner e f)

is_slash_front : (behind : List ℕ) → IsFront (47 ∷ behind) (slash_front behind)
unfolding slash_front
is_slash_front [] = is_slash [] no_comment
  where
    no_comment : BeginsComment (47 ∷ []) → ⊥
    no_comment (behind, inl h) = cc
    no_comment (behind, inr h) = cc
is_slash_front (b ∷ inner) = slash_by b inner (eqb b 47) (eqb b 42) refl refl

-- ---- all together

no_comment : (first : ℕ) (behind : List ℕ) → eqb first 47 ≡ false → BeginsComment (first ∷ behind) → ⊥
no_comment first behind e (more, inl h) = let same : first ≡ 47 = cc in let no : eqb first 47 ≡ true = subst (λ c. eqb c 47 ≡ true) (sym same) refl in cc
no_comment first behind e (more, inr h) = let same : first ≡ 47 = cc in let no : eqb first 47 ≡ true = subst (λ c. eqb c 47 ≡ true) (sym same) refl in cc

front_by : (first : ℕ) (behind : List ℕ) (blank name digit slash : Bool) → is_blank first ≡ blank → begins_name first ≡ name → is_ascii_digit first ≡ digit → eqb first 47 ≡ slash → IsFront (first ∷ behind) (cond blank (Ok (gap 1)) (cond name (Ok (token Name (1 + name_len behind))) (cond digit (number_front (first ∷ behind)) (cond slash (slash_front behind) (symbol_front first behind)))))
front_by first behind true name digit slash b n d s = is_blank_front first behind b
front_by first behind false true digit slash b n d s = is_name first behind n
front_by first behind false false true slash b n d s = is_number_front first behind d
front_by first behind false false false true b n d s =
    subst (λ c. IsFront (c ∷ behind) (slash_front behind)) (sym (eqb-true first 47 s)) (is_slash_front behind)
front_by first behind false false false false b n d s =
    is_symbol first behind ((n, d), b) (no_comment first behind s)

pub is_front : (first : ℕ) (behind : List ℕ) → IsFront (first ∷ behind) (front_of (first ∷ behind))
unfolding front_of
is_front first behind =
    front_by first behind (is_blank first) (begins_name first) (is_ascii_digit first) (eqb first 47) refl refl refl refl

pub fronts : (rest : List ℕ) → 0 < length rest → IsFront rest (front_of rest)
fronts [] some = absurd (omega arith)
fronts (first ∷ behind) some = is_front first behind

pub placed_ok : (place : Place) (r : Result Front LexWhy) (front : Front) → Ok front ≡ placed place r → r ≡ Ok front
placed_ok place (Ok found) front e = cc
placed_ok place (Err why) front e = cc

pub record IsPlaced (place : Place) (r : Result Front LexWhy) (fault : LexFault) : Type 0 where
  pub why : LexWhy
  pub at : fault ≡ At place why
  pub was : r ≡ Err why

pub placed_err : (place : Place) (r : Result Front LexWhy) (fault : LexFault) → Err fault ≡ placed place r → IsPlaced place r fault
placed_err place (Ok found) fault e = cc
placed_err place (Err why) fault e = record { why = why; at = cc; was = refl }

some_left : (from : ℕ) (text : List ℕ) → from < length text → 0 < length (drop from text)
some_left from text h = omega (arith, length-drop from text)

pub ok_parts : (text : List ℕ) (from : ℕ) (front : Front) → from < length text → front_of (drop from text) ≡ Ok front → Parts (drop from text) front
ok_parts text from front within e =
    subst (λ (r : Result Front LexWhy). IsFront (drop from text) r) e (fronts (drop from text) (some_left from text within))

pub parts_at : (text : List ℕ) (from : ℕ) (place : Place) (front : Front) → from < length text → Ok front ≡ placed place (front_of (drop from text)) → Parts (drop from text) front
parts_at text from place front within e =
    ok_parts text from front within (placed_ok place (front_of (drop from text)) front e)

pub none_at : (text : List ℕ) (from : ℕ) (why : LexWhy) → from < length text → front_of (drop from text) ≡ Err why → BeginsNone why (drop from text)
none_at text from why within e =
    subst (λ (r : Result Front LexWhy). IsFront (drop from text) r) e (fronts (drop from text) (some_left from text within))
