-- The lines of no fields, or of no entries, are none.
use Rattle.std.proofs.Common.{◌≡◌, ℕ, zero, suc, List, [], ◌∷◌, length, drop, min, refl, arith}
use Rattle.std.proofs.Math.Seq.{drop-nil}
use Rattle.node_tree.specs.declared.nodes.Node.{Node}
use Rattle.mspec_tree.specs.declared.fields.Field.{Field}
use Rattle.host_engine.specs.Listing.{lines}

lines-none : (fields : List Field) (entries : List Node) → entries ≡ [] → lines fields entries ≡ []
lines-none [] entries h = refl
lines-none (field ∷ fields) [] h = refl
lines-none (field ∷ fields) (entry ∷ entries) h = absurd cc

lines-no_field : (fields : List Field) (entries : List Node) → fields ≡ [] → lines fields entries ≡ []
lines-no_field [] entries h = refl
lines-no_field (field ∷ fields) entries h = absurd cc

pub lines_done : (n : ℕ) (fields : List Field) (entries : List Node) → n ≡ min (length fields) (length entries) → lines (drop n fields) (drop n entries) ≡ []
lines_done n [] entries h = lines-no_field (drop n []) (drop n entries) (drop-nil n)
lines_done n (field ∷ fields) [] h = lines-none (drop n (field ∷ fields)) (drop n []) (drop-nil n)
lines_done zero (field ∷ fields) (entry ∷ entries) h = absurd (omega arith)
lines_done (suc n) (field ∷ fields) (entry ∷ entries) h = lines_done n fields entries (omega arith)
