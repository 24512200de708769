-- Fields gone over in turn: lemmas for loops, here and in the crates above.
use Rattle.std.proofs.Common.{◌≡◌, ℕ, suc, ◌+◌, ◌<◌, ◌≤◌, List, [], ◌∷◌, length, drop, get_or, sym, ap, ◌∙◌, arith}
use Rattle.std.proofs.Math.ListN.{drop_of_length-le}
use Rattle.std.proofs.Math.Seq.{drop-cons}
use Rattle.mspec_tree.specs.declared.fields.Field.{Field}

-- the rest of a list from an item on
pub from_item : (fields : List Field) (i : ℕ) (field : Field) → i < length fields → field ≡ get_or fields i field → drop i fields ≡ field ∷ drop (i + 1) fields
from_item fields i field h e =
    let one : suc i ≡ i + 1 = omega arith in
    drop-cons fields i field h ∙ ap (λ f. f ∷ drop (suc i) fields) (sym e) ∙ ap (λ k. field ∷ drop k fields) one

-- past the last one there is none
pub none_left : (fields : List Field) (i : ℕ) → length fields ≤ i → drop i fields ≡ []
none_left fields i h = drop_of_length-le fields h
