-- The tokens of a text are spelt as their meanings say.
use Rattle.std.proofs.Common.{ℕ, ◌≡◌, ◌-◌, ◌+◌, ◌^◌, Bool, true, false, not, ◌||◌, List, [], ◌∷◌, ◌++◌, Option, Some, None, length, take, drop, refl, sym, ap, ◌∙◌, subst, append_assoc, arith}
use Rattle.std.proofs.Math.Seq.{drop-append_seam, take-append_seam}
use Rattle.std.specs.Prelude.{slice_range, ◌==◌, IsTrue}
use Rattle.std.specs.Char.{is_ascii_digit, is_ascii_alphabetic}
use Rattle.std.specs.List.{AllByRecursion, list_all}
use Rattle.std.specs.Str.{bytes_eq}
use Rattle.std.specs.Cmp.Derive.{both_true}
use Rattle.std.proofs.lemmas.Bool.{lt-ltb, false_from_ne_true}
use Rattle.std.proofs.lemmas.Slice.Eq.{bytes_eq-Decides}
use Rattle.mspec_tree.specs.Depth.{depth_limit}
use Rattle.mspec_tree.specs.Form.{is_spelt, is_one_of, taken_words, IsWritten}
use Rattle.mspec_tree.specs.declared.defs.Description.{Description}
use Rattle.mspec_lexer.specs.declared.tokens.Token.{Token}
use Rattle.mspec_lexer.specs.declared.tokens.TokenKind.{TokenKind}
use Rattle.mspec_lexer.specs.declared.tokens.TokenKind.TheVariants as token
use Rattle.mspec_lexer.specs.Lexemes.{lexemes}
use Rattle.mspec_lexer.specs.Spellings.{continues_name, IsName, HasForm}
use Rattle.mspec_lexer.specs.Tokens.{Piece, Gap, Word as Token_piece, text_of, tokens_behind, IsNarrow, StandBefore, Tokens}
use Rattle.mspec_grammar.specs.declared.words.Word.{Word}
use Rattle.mspec_grammar.specs.Meanings.{word_of, name_or, meaning_of}
use Rattle.mspec_grammar.specs.Trees.{Tree}
use Rattle.mspec_parser.proofs.Formed.{proper, AreProper, tree-form}

-- ---- names

-- the word has a meaning of its own, so it is no name
abbrev HasWord : List ℕ → Type 0
HasWord bytes = word_of bytes ≡ None → ⊥

no-word : {w : Word} → Some w ≡ None → ⊥
no-word h = cc

taken-all : AllByRecursion HasWord taken_words
unfolding word_of
taken-all = (
  λ h. no-word h,
  (
    λ h. no-word h,
    (
      λ h. no-word h,
      (
        λ h. no-word h,
        (
          λ h. no-word h,
          (
            λ h. no-word h,
            (
              λ h. no-word h,
              (
                λ h. no-word h,
                (
                  λ h. no-word h,
                  (
                    λ h. no-word h,
                    (λ h. no-word h, (λ h. no-word h, (λ h. no-word h, (λ h. no-word h, (λ h. no-word h, tt))))),
                  ),
                ),
              ),
            ),
          ),
        ),
      ),
    ),
  ),
)

first-or : (P : List ℕ → Type 0) (w bytes : List ℕ) (b other : Bool) → bytes_eq w bytes ≡ b → P w → (other ≡ true → P bytes) → (b || other) ≡ true → P bytes
first-or P w bytes true other h p q e = subst P ((bytes_eq-Decides w bytes).0 h) p
first-or P w bytes false other h p q e = q e

one-of : (P : List ℕ → Type 0) (words : List (List ℕ)) → AllByRecursion P words → (bytes : List ℕ) → is_one_of words bytes ≡ true → P bytes
one-of P [] all bytes h = absurd (cc)
one-of P (w ∷ words) all bytes h =
    first-or P w bytes (bytes_eq w bytes) (is_one_of words bytes) refl all.0 (λ e. one-of P words all.1 bytes e) h

not-taken : (bytes : List ℕ) → word_of bytes ≡ None → not (is_one_of taken_words bytes) ≡ true
not-taken bytes e = ap not (false_from_ne_true (is_one_of taken_words bytes) (λ t. one-of HasWord taken_words taken-all bytes t e))

continues : (bytes : List ℕ) → AllByRecursion (λ c. IsTrue (continues_name c)) bytes
    → list_all (λ c. is_ascii_alphabetic c || c == 95 || is_ascii_digit c) bytes ≡ true
continues [] h = refl
continues (c ∷ bytes) h = both_true h.0 (continues bytes h.1)

spelt : (bytes : List ℕ) → IsName bytes → is_spelt bytes ≡ true
spelt [] h = absurd h
spelt (b ∷ bytes) h = both_true h.0 (continues bytes h.1)

name-or : (bytes : List ℕ) (word : Option Word) → word_of bytes ≡ word → IsName bytes → proper (name_or bytes word) ≡ true
name-or bytes (Some word) e h = refl
name-or bytes None e h = both_true (spelt bytes h) (not-taken bytes e)

-- ---- tokens

of-form : (kind : TokenKind) (bytes : List ℕ) → HasForm kind bytes → IsNarrow kind → proper (meaning_of kind bytes) ≡ true
of-form token.Name bytes h n = name-or bytes (word_of bytes) refl h
of-form (token.Number number) bytes h n = lt-ltb number (2 ^ 128) n
of-form (token.Symbol symbol) bytes h n = refl

cut : (text before bytes rest : List ℕ) → text ≡ before ++ (bytes ++ rest) → slice_range text (length before) (length before + length bytes) ≡ bytes
cut text before bytes rest e =
    let behind : drop (length before) text ≡ bytes ++ rest = ap (drop (length before)) e ∙ drop-append_seam before (bytes ++ rest) in
    let size : length before + length bytes - length before ≡ length bytes = omega arith in
    ap (λ n. take n (drop (length before) text)) size ∙ ap (take (length bytes)) behind ∙ take-append_seam bytes rest

proper-behind : (text before : List ℕ) (pieces : List Piece) → text ≡ before ++ text_of pieces → StandBefore pieces []
    → AreProper (lexemes text (tokens_behind before pieces))
proper-behind text before [] e s = tt
proper-behind text before (Gap bytes ∷ pieces) e s =
    proper-behind text (before ++ bytes) pieces (e ∙ sym (append_assoc before bytes (text_of pieces))) s.1
proper-behind text before (Token_piece kind bytes ∷ pieces) e s =
    let spelling = cut text before bytes (text_of pieces) e in (
      ap (λ (bs : List ℕ). proper (meaning_of kind bs)) spelling ∙ of-form kind bytes s.0.0.0 s.0.1,
      proper-behind text (before ++ bytes) pieces (e ∙ sym (append_assoc before bytes (text_of pieces))) s.1,
    )

-- the tree of a text has the form that the grammar can give
pub text-form : (text : List ℕ) (tokens : List Token) → Tokens text tokens → (d : Description) → Tree depth_limit (lexemes text tokens) d → IsWritten d
text-form text tokens t d tree =
    let all = proper-behind text [] t.pieces t.whole t.stand in
    tree-form (lexemes text tokens) d (subst (λ (ts : List Token). AreProper (lexemes text ts)) (sym t.among) all) tree
