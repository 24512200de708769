-- The paths of a value's lines.
use Rattle.std.specs.Prelude.{ℕ, ◌≡◌, ◌≢◌, ◌^◌, ◌&&◌, Bool, true, List, [], ◌∷◌, length, nat_le, IsTrue}
use Rattle.std.specs.List.{AllByRecursion, list_all}
use Rattle.node_tree.specs.declared.nodes.Node.{Node, fold-Node}
use Rattle.node_tree.specs.declared.nodes.Node.TheOpen.{Node-F, List as ListOf, Group}
use Rattle.mspec_tree.specs.declared.fields.Field.{Field, out-Field}
use Rattle.mspec_tree.specs.declared.defs.Description.{Description}
use Rattle.mspec_expr.specs.Kinds.{entry_fields, fields_of}
use Rattle.mspec_listings.specs.Listings.{Line, Leaf, Chosen}

abbrev pub path_of : Line → List ℕ
path_of (Leaf path value) = path
path_of (Chosen path case) = path

-- no two lines have the same path
abbrev pub HaveOwnPaths : List Line → Type 0
HaveOwnPaths [] = Unit {0}
HaveOwnPaths (line ∷ lines) = AllByRecursion (λ other. path_of line ≢ path_of other) lines × HaveOwnPaths lines

-- no two fields have the same name; some have none
abbrev pub HaveOwnNames : List Field → Type 0
HaveOwnNames [] = Unit {0}
HaveOwnNames (field ∷ fields) =
    AllByRecursion (λ other. (out-Field field).name ≡ (out-Field other).name → (out-Field field).name ≡ []) fields × HaveOwnNames fields

-- no two fields of a group have the same name, whatever its type and its case
abbrev pub NamesTellFields : Description → Type 0
NamesTellFields d = (def case : ℕ) → HaveOwnNames (entry_fields case (fields_of d def))

-- a list or a group has no more parts than there are places
abbrev pub are_placed : List Bool → Bool
are_placed parts = nat_le (length parts) (2 ^ 64) && list_all (λ placed. placed) parts

abbrev pub is_placed_layer : Node-F Bool → Bool
is_placed_layer (ListOf items) = are_placed items
is_placed_layer (Group case entries) = are_placed entries
is_placed_layer other = true

abbrev pub is_placed : Node → Bool
is_placed node = fold-Node Bool is_placed_layer node

-- so it is with each list and each group of a value, as with all that a computer can hold
abbrev pub IsPlaced : Node → Type 0
IsPlaced node = IsTrue (is_placed node)
