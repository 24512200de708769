-- The text of pieces, one behind another, and a text that grows at its end.
use Rattle.std.proofs.Common.{◌≡◌, ℕ, List, [], ◌∷◌, ◌++◌, map, refl, sym, ap, ◌∙◌, append_assoc}
use Rattle.std.specs.List.{flat_map}
use Rattle.mspec_lexer.specs.declared.tokens.Symbol.TheVariants.{Comma}
use Rattle.mspec_lexer.specs.Tokens.{Gap, Piece, text_of, Word}
use Rattle.mspec_printer.specs.Printed.{blank, each_behind, mark}

pub text_of_both : (ps qs : List Piece) → text_of (ps ++ qs) ≡ text_of ps ++ text_of qs
text_of_both [] qs = refl
text_of_both (Gap bytes ∷ ps) qs =
    ap (λ (l : List ℕ). bytes ++ l) (text_of_both ps qs) ∙ sym (append_assoc bytes (text_of ps) (text_of qs))
text_of_both (Word kind bytes ∷ ps) qs =
    ap (λ (l : List ℕ). bytes ++ l) (text_of_both ps qs) ∙ sym (append_assoc bytes (text_of ps) (text_of qs))

-- the text of the pieces of each item
pub text_of_all : {A : Type 0} (f : A → List Piece) (items : List A) → text_of (flat_map f items) ≡ flat_map (λ a. text_of (f a)) items
text_of_all f [] = refl
text_of_all f (a ∷ items) =
    text_of_both (f a) (flat_map f items) ∙ ap (λ (l : List ℕ). text_of (f a) ++ l) (text_of_all f items)

-- the text of items behind commas
pub text_of_behind : {A : Type 0} (f : A → List Piece) (items : List A) → text_of (each_behind (mark Comma ++ blank) (map f items)) ≡ flat_map (λ a. 44 ∷ 32 ∷ text_of (f a)) items
text_of_behind f [] = refl
text_of_behind f (a ∷ items) =
    ap (λ (l : List ℕ). 44 ∷ 32 ∷ l)
    (text_of_both (f a) (each_behind (mark Comma ++ blank) (map f items))
    ∙ ap (λ (l : List ℕ). text_of (f a) ++ l) (text_of_behind f items))

pub ruleset texts = (text_of_both, text_of_all, text_of_behind)
