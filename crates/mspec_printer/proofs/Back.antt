-- What is printed of a description is read as one that is the same but for places.
use Rattle.std.proofs.Common.{◌≡◌, ◌≤◌, ◌+◌, ◌-◌, ℕ, List, [], ◌∷◌, ◌++◌, length, take, refl, sym, ap, ◌∙◌, subst, arith, append_assoc}
use Rattle.std.specs.List.{slice_range}
use Rattle.std.proofs.Math.Seq.{take-append_seam, drop-append_seam}
use Rattle.mspec_tree.specs.declared.defs.Description.{Description}
use Rattle.mspec_tree.specs.Form.{IsWritten}
use Rattle.mspec_lexer.specs.Lexemes.{lexemes}
use Rattle.mspec_lexer.specs.Tokens.{Gap, Piece, text_limit, text_of, tokens_behind, Word}
use Rattle.mspec_grammar.specs.Meanings.{meaning_of}
use Rattle.mspec_printer.specs.Alike.{ParsesAlike}
use Rattle.mspec_printer.specs.Printed.{printed}
use Rattle.mspec_printer.proofs.DefReads.{description-reads}
use Rattle.mspec_printer.proofs.Spelling.{done, gap, Spells, word}
use Rattle.mspec_printer.proofs.TreeJoined.{description-stands}

-- bytes between two others
between : (before bytes behind : List ℕ) → slice_range (before ++ (bytes ++ behind)) (length before) (length before + length bytes) ≡ bytes
between before bytes behind =
    let len : length before + length bytes - length before ≡ length bytes = omega arith in
    ap (λ (l : List ℕ). take (length before + length bytes - length before) l) (drop-append_seam before (bytes ++ behind))
    ∙ ap (λ n. take n (bytes ++ behind)) len
    ∙ take-append_seam bytes behind

-- the lexemes of pieces spell their words
lexemes-spell : (before : List ℕ) (pieces : List Piece) (text : List ℕ) → text ≡ before ++ text_of pieces → Spells (lexemes text (tokens_behind before pieces)) pieces []
lexemes-spell before [] text e = done
lexemes-spell before (Gap bytes ∷ pieces) text e =
    gap (lexemes-spell (before ++ bytes) pieces text (e ∙ sym (append_assoc before bytes (text_of pieces))))
lexemes-spell before (Word kind bytes ∷ pieces) text e =
    word (ap (λ (l : List ℕ). meaning_of kind l)
    (ap (λ (l : List ℕ). slice_range l (length before) (length before + length bytes)) e ∙ between before bytes (text_of pieces)))
    (lexemes-spell (before ++ bytes) pieces text (e ∙ sym (append_assoc before bytes (text_of pieces))))

pub reads-back : (d : Description) → IsWritten d → length (text_of (printed d)) ≤ text_limit → ParsesAlike d (text_of (printed d))
reads-back d h short =
    let pieces = printed d in
    let text = text_of pieces in
    let tokens = tokens_behind [] pieces in
    let found = description-reads d h (lexemes-spell [] pieces text refl) in (
      tokens,
      record { defs = found.value },
      record { short = short; pieces = pieces; whole = refl; stand = description-stands d h; among = refl },
      found.reads,
      sym found.alike,
    )

pub reads-text : (d : Description) (text : List ℕ) → text ≡ text_of (printed d) → IsWritten d → length text ≤ text_limit → ParsesAlike d text
reads-text d text e h short =
    subst (λ l. ParsesAlike d l) (sym e) (reads-back d h (subst (λ (l : List ℕ). length l ≤ text_limit) e short))
