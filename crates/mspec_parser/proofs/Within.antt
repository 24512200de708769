-- The bytes of a text's tokens lie in the text.
use Rattle.std.proofs.Common.{ℕ, ◌≡◌, ◌≤◌, ◌+◌, List, [], ◌∷◌, ◌++◌, length, ap, sym, subst, arith, length-append}
use Rattle.std.specs.List.{AllByRecursion}
use Rattle.std.proofs.lemmas.List.Elements.{All-from_recursion}
use Rattle.mspec_lexer.specs.declared.tokens.Token.{Token}
use Rattle.mspec_lexer.specs.Tokens.{Piece, Gap, Word, text_of, tokens_behind, Tokens}
use Rattle.mspec_grammar.specs.Senses.{IsWithin, AreWithin}

within : (text before : List ℕ) (pieces : List Piece) → length text ≡ length before + length (text_of pieces)
    → AllByRecursion (IsWithin text) (tokens_behind before pieces)
within text before [] h = tt
within text before (Gap bytes ∷ pieces) h =
    within text (before ++ bytes) pieces (omega (arith, length-append before bytes, length-append bytes (text_of pieces)))
within text before (Word kind bytes ∷ pieces) h =
    let size : length text ≡ length (before ++ bytes) + length (text_of pieces)
    = omega (arith, length-append before bytes, length-append bytes (text_of pieces)) in
    let ends : length before + length bytes ≤ length text = omega (arith, length-append bytes (text_of pieces)) in
    let begins : length before ≤ length before + length bytes = omega arith in
    ((begins, ends), within text (before ++ bytes) pieces size)

pub are-within : (text : List ℕ) (tokens : List Token) → Tokens text tokens → AreWithin text tokens
are-within text tokens t =
    let size : length text ≡ length (text_of t.pieces) = ap length t.whole in
    let all = within text [] t.pieces (omega arith) in
    subst (λ (ts : List Token). AreWithin text ts) (sym t.among) (All-from_recursion (IsWithin text) (tokens_behind [] t.pieces) all)
