-- How many lines a value has.
use Rattle.std.specs.Prelude.{ℕ, zero, suc, ◌+◌, ◌&&◌, Bool, true, false, List, [], ◌∷◌, sum, IsTrue}
use Rattle.std.specs.List.{list_all}
use Rattle.node_tree.specs.declared.nodes.Node.{Node, fold-Node}
use Rattle.node_tree.specs.declared.nodes.Node.TheOpen.{Node-F, List as ListOf, Group}
use Rattle.mspec_tree.specs.declared.fields.Field.{Field}
use Rattle.mspec_tree.specs.declared.defs.Description.{Description}
use Rattle.mspec_expr.specs.Kinds.{entry_fields, field_meant, fields_of}
use Rattle.mspec_listings.specs.Listings.{groups_in}

-- The leaves of a node and its groups with a case. An empty list is a leaf, and so is a group with neither a case nor an entry.
abbrev pub layer_leaves : Node-F ℕ → ℕ
layer_leaves (ListOf []) = 1
layer_leaves (ListOf (item ∷ items)) = sum (item ∷ items)
layer_leaves (Group (suc before) entries) = 1 + sum entries
layer_leaves (Group zero []) = 1
layer_leaves (Group zero (entry ∷ entries)) = sum (entry ∷ entries)
layer_leaves other = 1

abbrev pub leaves : Node → ℕ
leaves node = fold-Node ℕ layer_leaves node

-- by the definition of its groups
abbrev pub Fielded : Type 0
Fielded = (def : ℕ) → Bool

abbrev pub have_fields : Description → List Field → List Fielded → Bool
have_fields d fields [] = true
have_fields d [] (entry ∷ entries) = false
have_fields d (field ∷ fields) (entry ∷ entries) = entry (groups_in (field_meant d field)) && have_fields d fields entries

abbrev pub layer_fielded : Description → Node-F Fielded → Fielded
layer_fielded d (ListOf items) def = list_all (λ item. item def) items
layer_fielded d (Group case entries) def = have_fields d (entry_fields case (fields_of d def)) entries
layer_fielded d other def = true

-- no group in the node has more entries than its type has fields
abbrev pub HasFields : Description → (def : ℕ) → Node → Type 0
HasFields d def node = IsTrue (fold-Node Fielded (layer_fielded d) node def)
