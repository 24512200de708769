-- The place behind bytes, one byte after another.
use Rattle.std.proofs.Common.{◌≡◌, ℕ, ◌+◌, Bool, true, false, cond, List, [], ◌∷◌, ◌++◌, sym, ap, ◌∙◌, arith, append_assoc, append-nil}
use Rattle.std.specs.Prelude.{count_by, not, reverse}
use Rattle.std.specs.List.{prefix_len}
use Rattle.std.proofs.lemmas.List.{reverse-append}
use Rattle.std.proofs.lemmas.List.Sums.{fold-append}
use Rattle.mspec_tree.specs.declared.words.Place.{Place}
use Rattle.mspec_lexer.specs.Tokens.{is_line_end, place_behind}
use Rattle.mspec_lexer.specs.LexerParts.{step, stepped}

abbrev at : (line column : ℕ) → Place
at line column = record { line = line; column = column }

by_end : (v : Bool) (lines column : ℕ) → at (1 + (lines + cond v 1 0)) (1 + cond (not v) (1 + column) 0) ≡ cond v (at (1 + lines + 1) 1) (at (1 + lines) (1 + column + 1))
by_end true lines column = ap (λ l. at l 1) (let e : 1 + (lines + 1) ≡ 1 + lines + 1 = omega arith in e)
by_end false lines column =
    ap (λ l. at l (1 + (1 + column))) (let e : 1 + (lines + 0) ≡ 1 + lines = omega arith in e)
    ∙ ap (λ c. at (1 + lines) c) (let e : 1 + (1 + column) ≡ 1 + column + 1 = omega arith in e)

pub one_byte_more : (bytes : List ℕ) (b : ℕ) → place_behind (bytes ++ b ∷ []) ≡ step (place_behind bytes) b
one_byte_more bytes b =
    let lines = fold-append (λ (a x : ℕ). a + cond (is_line_end x) 1 0) 0 bytes (b ∷ []) in
    let reversed = reverse-append bytes (b ∷ []) in
    ap (λ l. at (1 + l) (1 + prefix_len (λ b. not (is_line_end b)) (reverse (bytes ++ b ∷ [])))) lines
    ∙ ap (λ (r : List ℕ). at (1 + (count_by is_line_end bytes + cond (is_line_end b) 1 0)) (1 + prefix_len (λ b. not (is_line_end b)) r)) reversed
    ∙ by_end (is_line_end b) (count_by is_line_end bytes) (prefix_len (λ b. not (is_line_end b)) (reverse bytes))

pub bytes_more : (before bytes : List ℕ) → place_behind (before ++ bytes) ≡ stepped (place_behind before) bytes
bytes_more before [] = ap place_behind (append-nil before)
bytes_more before (b ∷ bytes) =
    ap place_behind (sym (append_assoc before (b ∷ []) bytes))
    ∙ bytes_more (before ++ b ∷ []) bytes
    ∙ ap (λ (p : Place). stepped p bytes) (one_byte_more before b)
