-- The lines of a value are plain.
use Rattle.std.proofs.Common.{ℕ, zero, suc, ◌+◌, List, [], ◌∷◌, map, refl, sym, subst, codes}
use Rattle.node_tree.specs.declared.nodes.Node.{Node, Node-F, fold-roll-Node, ind-Node, map-Node}
use Rattle.node_tree.specs.declared.nodes.Node.TheOpen as node
use Rattle.mspec_tree.specs.Form.{IsWritten}
use Rattle.mspec_tree.specs.declared.fields.Case.{Case}
use Rattle.mspec_tree.specs.declared.fields.Field.{Field, out-Field}
use Rattle.mspec_tree.specs.declared.defs.Description.{Description}
use Rattle.mspec_expr.specs.Kinds.{case_name, cases_of, entry_fields, field_meant, fields_of}
use Rattle.mspec_listings.specs.Listings.{Listed, entry_lines, field_path, fields_lines, group_lines, groups_in, head_lines, item_path, items_lines, layer_lines, lines, list_lines}
use Rattle.mspec_listings.specs.Plain.{ArePlain, IsPlain, IsSolid}
use Rattle.mspec_listings.proofs.NameLemmas.{AreNamed, bytes_solid, case_is_named, fields_are_named}
use Rattle.mspec_listings.proofs.SolidLemmas.{all-append, blob_leaf, field_solid, flag_leaf, item_solid, number_leaf, raw_leaf, solid_codes}

-- what is listed under a solid path is plain
abbrev Keeps : Listed → Type 0
Keeps listed = (def : ℕ) (path : List ℕ) → IsSolid path → ArePlain (listed def path)

-- a node whose lines are plain
abbrev Kept : Description → Type 0
Kept d = (n : Node) × Keeps (lines d n)

abbrev listed_of : (d : Description) → List (Kept d) → List Listed
listed_of d es = map (λ n. lines d n) (map (λ e. e.0) es)

items_plain : (d : Description) (es : List (Kept d)) (def : ℕ) (path : List ℕ) (place : ℕ) → IsSolid path → ArePlain (items_lines def path place (listed_of d es))
items_plain d [] def path place s = tt
items_plain d (e ∷ es) def path place s =
    all-append IsPlain (lines d e.0 def (item_path path place)) (items_lines def path (place + 1) (listed_of d es))
    (e.1 def (item_path path place) (item_solid path place s)) (items_plain d es def path (place + 1) s)

list_plain : (d : Description) (es : List (Kept d)) (def : ℕ) (path : List ℕ) → IsSolid path → ArePlain (list_lines def path (listed_of d es))
list_plain d [] def path s = ((s, (solid_codes (codes "[]") refl, λ e. cc)), tt)
list_plain d (e ∷ es) def path s = items_plain d (e ∷ es) def path 0 s

fields_plain : (d : Description) (fields : List Field) (es : List (Kept d)) (path : List ℕ) (place : ℕ) → AreNamed fields → IsSolid path → ArePlain (fields_lines d path place fields (listed_of d es))
fields_plain d [] es path place named s = tt
fields_plain d (field ∷ fields) [] path place named s = tt
fields_plain d (field ∷ fields) (e ∷ es) path place named s =
    all-append IsPlain (entry_lines d path place field (lines d e.0)) (fields_lines d path (place + 1) fields (listed_of d es))
    (e.1 (groups_in (field_meant d field)) (field_path path (out-Field field).name place) (field_solid path (out-Field field).name place s (bytes_solid (out-Field field).name named.0)))
    (fields_plain d fields es path (place + 1) named.1 s)

head_plain : {A : Type 0} (cases : List Case) (case : ℕ) (path : List ℕ) (entries : List A) → IsSolid (case_name case cases) → IsSolid path → ArePlain (head_lines cases case path entries)
head_plain cases (suc before) path entries named s = ((s, named), tt)
head_plain cases zero [] entries named s = tt
head_plain cases zero (b ∷ path) [] named s = ((s, (solid_codes (codes "{}") refl, λ e. cc)), tt)
head_plain cases zero (b ∷ path) (entry ∷ entries) named s = tt

group_plain : (d : Description) → IsWritten d → (es : List (Kept d)) (def case : ℕ) (path : List ℕ) → IsSolid path → ArePlain (group_lines d def case path (listed_of d es))
group_plain d w es def case path s =
    all-append IsPlain (head_lines (cases_of d def) case path (listed_of d es)) (fields_lines d path 0 (entry_fields case (fields_of d def)) (listed_of d es))
    (head_plain (cases_of d def) case path (listed_of d es) (case_is_named d def case w) s)
    (fields_plain d (entry_fields case (fields_of d def)) es path 0 (fields_are_named d def case w) s)

layer_plain : (d : Description) → IsWritten d → (y : Node-F (Kept d)) → Keeps (layer_lines d (map-Node Node Listed (λ n. lines d n) (map-Node (Kept d) Node (λ e. e.0) y)))
layer_plain d w (node.Num number) def path s = ((s, number_leaf number), tt)
layer_plain d w (node.Flag flag) def path s = ((s, flag_leaf Listed flag), tt)
layer_plain d w (node.Raw bits width) def path s = ((s, raw_leaf bits width), tt)
layer_plain d w (node.Blob bytes) def path s = ((s, blob_leaf bytes), tt)
layer_plain d w node.Unset def path s = ((s, (solid_codes (codes "unset") refl, λ e. cc)), tt)
layer_plain d w node.Absent def path s = ((s, (solid_codes (codes "absent") refl, λ e. cc)), tt)
layer_plain d w (node.List es) def path s = list_plain d es def path s
layer_plain d w (node.Group case es) def path s = group_plain d w es def case path s

pub lines_plain : (d : Description) → IsWritten d → (node : Node) → Keeps (lines d node)
lines_plain d w = ind-Node (λ n. Keeps (lines d n)) (λ x y is def path s.
    subst (λ (l : Listed). ArePlain (l def path)) (sym (fold-roll-Node Listed (layer_lines d) x))
    (subst (λ (z : Node-F Node). ArePlain (layer_lines d (map-Node Node Listed (λ n. lines d n) z) def path)) is (layer_plain d w y def path s)))
