-- A text is cut in one way.
use Rattle.std.proofs.Common.{◌≡◌, ◌<◌, ◌^◌, ℕ, true, false, List, [], ◌∷◌, ◌++◌, length, refl, sym, ap, ◌∙◌, subst, inl, inr, arith, append_assoc}
use Rattle.std.specs.Prelude.{codes, IsTrue, not}
use Rattle.std.specs.List.{AllByRecursion}
use Rattle.mspec_lexer.specs.declared.tokens.LexWhy.{LexWhy}
use Rattle.mspec_lexer.specs.declared.tokens.LexWhy.TheVariants.{TextTooLong, Character, WideNumber, OpenComment}
use Rattle.mspec_lexer.specs.declared.tokens.TokenKind.{TokenKind}
use Rattle.mspec_lexer.specs.declared.tokens.TokenKind.TheVariants.{Number}
use Rattle.mspec_lexer.specs.Spellings.{HasForm}
use Rattle.mspec_lexer.specs.Tokens.{BeginsComment, BeginsLine, Gap, HasNoEnd, is_blank, is_line_end, IsGap, IsLongest, IsNarrow, Piece, StandsBefore, Word}
use Rattle.mspec_lexer.specs.LexFaults.{BeginsNone}
use Rattle.mspec_lexer.proofs.CutLaws.{bytes_of}
use Rattle.mspec_lexer.proofs.FormLaws.{begins, one_form}

-- ---- two parts of one text

pub record Same (xs ys behind beyond : List ℕ) : Type 0 where
  pub fronts : xs ≡ ys
  pub rests : behind ≡ beyond

pub same_long : (xs ys behind beyond : List ℕ) → xs ++ behind ≡ ys ++ beyond → length xs ≡ length ys → Same xs ys behind beyond
same_long [] [] behind beyond e h = record { fronts = refl; rests = e }
same_long [] (y ∷ ys) behind beyond e h = absurd (omega arith)
same_long (x ∷ xs) [] behind beyond e h = absurd (omega arith)
same_long (x ∷ xs) (y ∷ ys) behind beyond e h =
    let heads : x ≡ y = cc in
    let tails : xs ++ behind ≡ ys ++ beyond = cc in
    let same = same_long xs ys behind beyond tails (omega arith) in
    record { fronts = ap (λ b. b ∷ xs) heads ∙ ap (λ (l : List ℕ). y ∷ l) same.fronts; rests = same.rests }

-- ---- gaps

-- one byte is the same where both texts begin with it
blank_no_slash : (b c : ℕ) → IsTrue (is_blank b) → b ≡ c → c ≡ 47 → ⊥
blank_no_slash b c h e slash = let no : is_blank 47 ≡ true = subst (λ d. is_blank d ≡ true) (e ∙ slash) h in cc

two_lines : (xs ys behind beyond : List ℕ) → xs ++ behind ≡ ys ++ beyond → AllByRecursion (λ b. IsTrue (not (is_line_end b))) xs → AllByRecursion (λ b. IsTrue (not (is_line_end b))) ys → BeginsLine behind → BeginsLine beyond → Same xs ys behind beyond
two_lines [] [] behind beyond e h k p q = record { fronts = refl; rests = e }
two_lines [] (y ∷ ys) [] beyond e h k p q = cc
two_lines [] (y ∷ ys) (b ∷ behind) beyond e h k p q =
    let same : b ≡ y = cc in
    let no : not (is_line_end b) ≡ true = subst (λ c. not (is_line_end c) ≡ true) (sym same) k.0 in
    let end : not (is_line_end b) ≡ false = ap not p in cc
two_lines (x ∷ xs) [] behind [] e h k p q = cc
two_lines (x ∷ xs) [] behind (b ∷ beyond) e h k p q =
    let same : b ≡ x = cc in
    let no : not (is_line_end b) ≡ true = subst (λ c. not (is_line_end c) ≡ true) (sym same) h.0 in
    let end : not (is_line_end b) ≡ false = ap not q in cc
two_lines (x ∷ xs) (y ∷ ys) behind beyond e h k p q =
    let heads : x ≡ y = cc in
    let tails : xs ++ behind ≡ ys ++ beyond = cc in
    let same = two_lines xs ys behind beyond tails h.1 k.1 p q in
    record { fronts = ap (λ b. b ∷ xs) heads ∙ ap (λ (l : List ℕ). y ∷ l) same.fronts; rests = same.rests }

without_first : (a : ℕ) (bytes : List ℕ) → HasNoEnd (a ∷ bytes) → HasNoEnd bytes
without_first a bytes h front behind e = h (a ∷ front) behind (ap (λ (l : List ℕ). a ∷ l) e)

star_no_slash : (star slash : ℕ) → star ≡ 42 → slash ≡ 47 → star ≡ slash → ⊥
star_no_slash star slash e h same = omega arith

-- what stands between `/*` and the first `*/`
two_blocks : (xs ys behind beyond : List ℕ) → xs ++ (42 ∷ 47 ∷ behind) ≡ ys ++ (42 ∷ 47 ∷ beyond) → HasNoEnd (xs ++ 42 ∷ []) → HasNoEnd (ys ++ 42 ∷ []) → Same xs ys behind beyond
two_blocks [] [] behind beyond e h k = record { fronts = refl; rests = cc }
two_blocks [] (y ∷ []) behind beyond e h k = absurd (star_no_slash 42 47 refl refl (cc))
two_blocks [] (y ∷ z ∷ ys) behind beyond e h k =
    absurd (k [] (ys ++ 42 ∷ []) (let first : y ≡ 42 = cc in let second : z ≡ 47 = cc in cc))
two_blocks (x ∷ []) [] behind beyond e h k = absurd (star_no_slash 42 47 refl refl (cc))
two_blocks (x ∷ z ∷ xs) [] behind beyond e h k =
    absurd (h [] (xs ++ 42 ∷ []) (let first : x ≡ 42 = cc in let second : z ≡ 47 = cc in cc))
two_blocks (x ∷ xs) (y ∷ ys) behind beyond e h k =
    let heads : x ≡ y = cc in
    let tails : xs ++ (42 ∷ 47 ∷ behind) ≡ ys ++ (42 ∷ 47 ∷ beyond) = cc in
    let same = two_blocks xs ys behind beyond tails (without_first x (xs ++ 42 ∷ []) h) (without_first y (ys ++ 42 ∷ []) k) in
    record { fronts = ap (λ b. b ∷ xs) heads ∙ ap (λ (l : List ℕ). y ∷ l) same.fronts; rests = same.rests }

-- the same of bytes that are spelt out
by_spelling : (xs ys xs' ys' behind beyond : List ℕ) → xs ≡ xs' → ys ≡ ys' → xs ++ behind ≡ ys ++ beyond → (xs' ++ behind ≡ ys' ++ beyond → Same xs' ys' behind beyond) → Same xs ys behind beyond
by_spelling xs ys xs' ys' behind beyond e f whole same =
    let spelt : xs' ++ behind ≡ ys' ++ beyond =
    ap (λ (l : List ℕ). l ++ behind) (sym e) ∙ whole ∙ ap (λ (l : List ℕ). l ++ beyond) f in
    let found = same spelt in
    record { fronts = e ∙ found.fronts ∙ sym f; rests = found.rests }

same_gap : (xs ys behind beyond : List ℕ) → xs ++ behind ≡ ys ++ beyond → IsGap xs behind → IsGap ys beyond → Same xs ys behind beyond
same_gap xs ys behind beyond whole (inl (b, e, h)) (inl (c, f, k)) =
    by_spelling xs ys (b ∷ []) (c ∷ []) behind beyond e f whole (λ s. same_long (b ∷ []) (c ∷ []) behind beyond s refl)
same_gap xs ys behind beyond whole (inl (b, e, h)) (inr (inl (inner, f, k, end))) =
    by_spelling xs ys (b ∷ []) (codes "//" ++ inner) behind beyond e f whole
    (λ s. absurd (blank_no_slash b 47 h (cc) refl))
same_gap xs ys behind beyond whole (inl (b, e, h)) (inr (inr (inner, f, k))) =
    by_spelling xs ys (b ∷ []) (codes "/*" ++ (inner ++ codes "*/")) behind beyond e f whole
    (λ s. absurd (blank_no_slash b 47 h (cc) refl))
same_gap xs ys behind beyond whole (inr (inl (inner, e, h, end))) (inl (c, f, k)) =
    by_spelling xs ys (codes "//" ++ inner) (c ∷ []) behind beyond e f whole
    (λ s. absurd (blank_no_slash c 47 k (cc) refl))
same_gap xs ys behind beyond whole (inr (inl (inner, e, p, end))) (inr (inl (other, f, q, last))) =
    by_spelling xs ys (codes "//" ++ inner) (codes "//" ++ other) behind beyond e f whole
    (λ s.
    let tails : inner ++ behind ≡ other ++ beyond = cc in
    let same = two_lines inner other behind beyond tails p q end last in
    record { fronts = ap (λ (l : List ℕ). codes "//" ++ l) same.fronts; rests = same.rests })
same_gap xs ys behind beyond whole (inr (inl (inner, e, h, end))) (inr (inr (other, f, k))) =
    by_spelling xs ys (codes "//" ++ inner) (codes "/*" ++ (other ++ codes "*/")) behind beyond e f whole
    (λ s. absurd (star_no_slash 42 47 refl refl (cc)))
same_gap xs ys behind beyond whole (inr (inr (inner, e, h))) (inl (c, f, k)) =
    by_spelling xs ys (codes "/*" ++ (inner ++ codes "*/")) (c ∷ []) behind beyond e f whole
    (λ s. absurd (blank_no_slash c 47 k (cc) refl))
same_gap xs ys behind beyond whole (inr (inr (inner, e, h))) (inr (inl (other, f, k, last))) =
    by_spelling xs ys (codes "/*" ++ (inner ++ codes "*/")) (codes "//" ++ other) behind beyond e f whole
    (λ s. absurd (star_no_slash 42 47 refl refl (cc)))
same_gap xs ys behind beyond whole (inr (inr (inner, e, h))) (inr (inr (other, f, k))) =
    by_spelling xs ys (codes "/*" ++ (inner ++ codes "*/")) (codes "/*" ++ (other ++ codes "*/")) behind beyond e f whole
    (λ s.
    let tails : (inner ++ codes "*/") ++ behind ≡ (other ++ codes "*/") ++ beyond = cc in
    let spelt : inner ++ (42 ∷ 47 ∷ behind) ≡ other ++ (42 ∷ 47 ∷ beyond) =
    sym (append_assoc inner (codes "*/") behind) ∙ tails ∙ append_assoc other (codes "*/") beyond in
    let same = two_blocks inner other behind beyond spelt h k in
    record { fronts = ap (λ (l : List ℕ). codes "/*" ++ (l ++ codes "*/")) same.fronts; rests = same.rests })

-- ---- gaps and tokens

begins_comment : (xs behind inner : List ℕ) → xs ≡ codes "//" ++ inner → BeginsComment (xs ++ behind)
begins_comment xs behind inner e = (inner ++ behind, inl (ap (λ (l : List ℕ). l ++ behind) e))

begins_block : (xs behind inner : List ℕ) → xs ≡ codes "/*" ++ inner → BeginsComment (xs ++ behind)
begins_block xs behind inner e = (inner ++ behind, inr (ap (λ (l : List ℕ). l ++ behind) e))

gap_no_token : (kind : TokenKind) (xs ys behind beyond : List ℕ) → xs ++ behind ≡ ys ++ beyond → IsGap xs behind → IsLongest kind ys beyond → ⊥
gap_no_token kind xs ys behind beyond whole (inl (b, e, h)) (form, longest, comment) =
    let first = begins kind ys form in
    let spelt : b ∷ behind ≡ first.first ∷ (first.more ++ beyond) =
    ap (λ (l : List ℕ). l ++ behind) (sym e) ∙ whole ∙ ap (λ (l : List ℕ). l ++ beyond) first.split in
    let same : b ≡ first.first = cc in
    let blank : is_blank first.first ≡ true = subst (λ c. is_blank c ≡ true) same h in
    let filled = first.filled in cc
gap_no_token kind xs ys behind beyond whole (inr (inl (inner, e, h, end))) (form, longest, comment) =
    comment (subst (λ (l : List ℕ). BeginsComment l) whole (begins_comment xs behind inner e))
gap_no_token kind xs ys behind beyond whole (inr (inr (inner, e, h))) (form, longest, comment) =
    comment (subst (λ (l : List ℕ). BeginsComment l) whole (begins_block xs behind (inner ++ codes "*/") e))

same_token : (kind other : TokenKind) (xs ys behind beyond : List ℕ) → xs ++ behind ≡ ys ++ beyond → IsLongest kind xs behind → IsLongest other ys beyond → Same xs ys behind beyond
same_token kind other xs ys behind beyond whole h k =
    let low = h.1 other ys beyond whole k.0 in
    let high = k.1 kind xs behind (sym whole) h.0 in
    same_long xs ys behind beyond whole (omega arith)

same_kind : (kind other : TokenKind) (xs ys behind beyond : List ℕ) → xs ++ behind ≡ ys ++ beyond → IsLongest kind xs behind → IsLongest other ys beyond → kind ≡ other
same_kind kind other xs ys behind beyond whole h k =
    let same = same_token kind other xs ys behind beyond whole h k in
    one_form kind other ys (subst (λ (l : List ℕ). HasForm kind l) same.fronts h.0) k.0

pub record SamePiece (p q : Piece) (behind beyond : List ℕ) : Type 0 where
  pub pieces : p ≡ q
  pub rests : behind ≡ beyond

pub same_piece : (p q : Piece) (behind beyond : List ℕ) → bytes_of p ++ behind ≡ bytes_of q ++ beyond → StandsBefore p behind → StandsBefore q beyond → SamePiece p q behind beyond
same_piece (Gap xs) (Gap ys) behind beyond whole h k =
    let same = same_gap xs ys behind beyond whole h k in
    record { pieces = ap (λ (l : List ℕ). Gap l) same.fronts; rests = same.rests }
same_piece (Gap xs) (Word kind ys) behind beyond whole h k = absurd (gap_no_token kind xs ys behind beyond whole h k.0)
same_piece (Word kind xs) (Gap ys) behind beyond whole h k = absurd (gap_no_token kind ys xs beyond behind (sym whole) k h.0)
same_piece (Word kind xs) (Word other ys) behind beyond whole h k =
    let same = same_token kind other xs ys behind beyond whole h.0 k.0 in
    let kinds = same_kind kind other xs ys behind beyond whole h.0 k.0 in
    record { pieces = ap (λ v. Word v xs) kinds ∙ ap (λ (l : List ℕ). Word other l) same.fronts; rests = same.rests }

-- ---- where nothing begins

record StrayFacts (rest : List ℕ) : Type 0 where
  blank : (b : ℕ) (bytes : List ℕ) → rest ≡ b ∷ bytes → is_blank b ≡ true → ⊥
  comment : BeginsComment rest → ⊥
  token : (kind : TokenKind) (front behind : List ℕ) → rest ≡ front ++ behind → HasForm kind front → ⊥

stray_facts : (rest : List ℕ) → BeginsNone Character rest → StrayFacts rest
stray_facts [] h = elim h [ ]
stray_facts (c ∷ rest) h = record {
  blank = λ b bytes e blank. let same : c ≡ b = cc in h.0 (subst (λ d. is_blank d ≡ true) (sym same) blank);
  comment = h.1;
  token = h.2;
}

slash_is_first : (b : ℕ) (xs behind rest : List ℕ) → xs ≡ b ∷ [] → xs ++ behind ≡ 47 ∷ rest → b ≡ 47
slash_is_first b xs behind rest e whole =
    let spelt : b ∷ behind ≡ 47 ∷ rest = ap (λ (l : List ℕ). l ++ behind) (sym e) ∙ whole in cc

star_is_second : (xs behind inner rest : List ℕ) → xs ≡ codes "//" ++ inner → xs ++ behind ≡ codes "/*" ++ rest → ⊥
star_is_second xs behind inner rest e whole =
    let spelt : codes "//" ++ (inner ++ behind) ≡ codes "/*" ++ rest = ap (λ (l : List ℕ). l ++ behind) (sym e) ∙ whole in
    star_no_slash 42 47 refl refl (cc)

pub none_or_piece : (why : LexWhy) (p : Piece) (behind : List ℕ) → StandsBefore p behind → BeginsNone why (bytes_of p ++ behind) → ⊥
none_or_piece TextTooLong p behind h none = none
none_or_piece Character (Gap xs) behind (inl (b, e, h)) none =
    (stray_facts (xs ++ behind) none).blank b behind (ap (λ (l : List ℕ). l ++ behind) e) h
none_or_piece Character (Gap xs) behind (inr (inl (inner, e, h, end))) none =
    (stray_facts (xs ++ behind) none).comment (begins_comment xs behind inner e)
none_or_piece Character (Gap xs) behind (inr (inr (inner, e, h))) none =
    (stray_facts (xs ++ behind) none).comment (begins_block xs behind (inner ++ codes "*/") e)
none_or_piece Character (Word kind xs) behind h none = (stray_facts (xs ++ behind) none).token kind xs behind refl h.0.0
none_or_piece WideNumber (Gap xs) behind h (n, ys, beyond, split, longest, wide) =
    gap_no_token (Number n) xs ys behind beyond split h longest
none_or_piece WideNumber (Word kind xs) behind h (n, ys, beyond, split, longest, wide) =
    let same = same_kind kind (Number n) xs ys behind beyond split h.0 longest in
    let narrow : n < 2 ^ 128 = subst IsNarrow same h.1 in
    omega arith
none_or_piece OpenComment (Gap xs) behind (inl (b, e, h)) (rest, whole, unclosed) =
    blank_no_slash b 47 h (slash_is_first b xs behind (42 ∷ rest) e whole) refl
none_or_piece OpenComment (Gap xs) behind (inr (inl (inner, e, h, end))) (rest, whole, unclosed) =
    star_is_second xs behind inner rest e whole
none_or_piece OpenComment (Gap xs) behind (inr (inr (inner, e, h))) (rest, whole, unclosed) =
    let spelt : codes "/*" ++ ((inner ++ codes "*/") ++ behind) ≡ codes "/*" ++ rest = ap (λ (l : List ℕ). l ++ behind) (sym e) ∙ whole in
    let tails : (inner ++ codes "*/") ++ behind ≡ rest = cc in
    unclosed inner behind (sym tails ∙ append_assoc inner (codes "*/") behind)
none_or_piece OpenComment (Word kind xs) behind h (rest, whole, unclosed) = h.0.2 (rest, inr whole)

pub one_why : (why reason : LexWhy) (rest : List ℕ) → BeginsNone why rest → BeginsNone reason rest → why ≡ reason
one_why TextTooLong reason rest h k = absurd h
one_why Character TextTooLong rest h k = absurd k
one_why Character Character rest h k = refl
one_why Character WideNumber rest h (n, bytes, behind, split, longest, wide) =
    absurd ((stray_facts rest h).token (Number n) bytes behind split longest.0)
one_why Character OpenComment rest h (inner, whole, unclosed) = absurd ((stray_facts rest h).comment (inner, inr whole))
one_why WideNumber TextTooLong rest h k = absurd k
one_why WideNumber Character rest (n, bytes, behind, split, longest, wide) k =
    absurd ((stray_facts rest k).token (Number n) bytes behind split longest.0)
one_why WideNumber WideNumber rest h k = refl
one_why WideNumber OpenComment rest (n, bytes, behind, split, longest, wide) (inner, whole, unclosed) =
    absurd (longest.2 (inner, inr (sym split ∙ whole)))
one_why OpenComment TextTooLong rest h k = absurd k
one_why OpenComment Character rest (inner, whole, unclosed) k = absurd ((stray_facts rest k).comment (inner, inr whole))
one_why OpenComment WideNumber rest (inner, whole, unclosed) (n, bytes, behind, split, longest, wide) =
    absurd (longest.2 (inner, inr (sym split ∙ whole)))
one_why OpenComment OpenComment rest h k = refl
