-- A value has a line for each leaf.
use Rattle.std.proofs.Common.{◌≡◌, ◌≢◌, ℕ, zero, suc, ◌+◌, true, List, [], ◌∷◌, length, map, sum, refl, sym, ap, subst, ◌⊎◌, inl, inr, codes, arith}
use Rattle.std.specs.List.{list_all}
use Rattle.std.proofs.lemmas.Bool.{and_parts}
use Rattle.std.proofs.lemmas.List.{length-append}
use Rattle.std.proofs.lemmas.List.Sums.{sum_by-cons}
use Rattle.node_tree.specs.declared.nodes.Node.{Node, Node-F, fold-Node, fold-roll-Node, ind-Node, map-Node, roll-Node}
use Rattle.node_tree.specs.declared.nodes.Node.TheOpen as node
use Rattle.mspec_tree.specs.declared.fields.Field.{Field, out-Field}
use Rattle.mspec_tree.specs.declared.defs.Description.{Description}
use Rattle.mspec_expr.specs.Kinds.{entry_fields, field_meant, fields_of}
use Rattle.mspec_listings.specs.Leaves.{Fielded, have_fields, layer_fielded, layer_leaves, leaves}
use Rattle.mspec_listings.specs.Listings.{Listed, dot_behind, field_path, field_word, fields_lines, group_lines, groups_in, item_path, items_lines, layer_lines, lines, list_lines}
use Rattle.mspec_listings.proofs.LineLemmas.{no_entries}
use Rattle.mspec_listings.proofs.PathLaw.{some_word}
use Rattle.mspec_listings.proofs.WordLemmas.{field_is_some, item_is_some, item_word}

abbrev fielded : Description → Node → Fielded
fielded d n = fold-Node Fielded (layer_fielded d) n

-- as many lines as leaves, where it isn't the whole value or has a line at all
abbrev Counts : Listed → Fielded → ℕ → Type 0
Counts listed has count = (def : ℕ) (path : List ℕ) → has def ≡ true → (path ≢ []) ⊎ (listed def path ≢ []) → length (listed def path) ≡ count

abbrev Kept : Description → Type 0
Kept d = (n : Node) × Counts (lines d n) (fielded d n) (leaves n)

abbrev nodes_of : (d : Description) → List (Kept d) → List Node
nodes_of d es = map (λ e. e.0) es

abbrev listed_of : (d : Description) → List (Kept d) → List Listed
listed_of d es = map (λ n. lines d n) (nodes_of d es)

abbrev fielded_of : (d : Description) → List (Kept d) → List Fielded
fielded_of d es = map (λ n. fielded d n) (nodes_of d es)

abbrev leaves_of : (d : Description) → List (Kept d) → List ℕ
leaves_of d es = map (λ n. leaves n) (nodes_of d es)

items_count : (d : Description) (es : List (Kept d)) (def : ℕ) (path : List ℕ) (place : ℕ) → list_all (λ item. item def) (fielded_of d es) ≡ true
    → length (items_lines def path place (listed_of d es)) ≡ sum (leaves_of d es)
items_count d [] def path place h = refl
items_count d (e ∷ es) def path place h =
    let parts = and_parts (fielded d e.0 def) (list_all (λ item. item def) (fielded_of d es)) h in
    let here = e.1 def (item_path path place) parts.0 (inl (some_word path (codes "[") (item_word place) (item_is_some place))) in
    let rest = items_count d es def path (place + 1) parts.1 in
    let both = length-append (lines d e.0 def (item_path path place)) (items_lines def path (place + 1) (listed_of d es)) in
    let all = sum_by-cons (λ (n : ℕ). n) (leaves e.0) (leaves_of d es) in
    omega arith

list_count : (d : Description) (es : List (Kept d)) (def : ℕ) (path : List ℕ) → list_all (λ item. item def) (fielded_of d es) ≡ true
    → length (list_lines def path (listed_of d es)) ≡ layer_leaves (node.List (leaves_of d es))
list_count d [] def path h = refl
list_count d (e ∷ es) def path h = items_count d (e ∷ es) def path 0 h

fields_count : (d : Description) (fields : List Field) (es : List (Kept d)) (path : List ℕ) (place : ℕ) → have_fields d fields (fielded_of d es) ≡ true
    → length (fields_lines d path place fields (listed_of d es)) ≡ sum (leaves_of d es)
fields_count d fields [] path place h = ap length (no_entries d path place fields)
fields_count d [] (e ∷ es) path place h = absurd (cc)
fields_count d (field ∷ fields) (e ∷ es) path place h =
    let name = (out-Field field).name in
    let def = groups_in (field_meant d field) in
    let parts = and_parts (fielded d e.0 def) (have_fields d fields (fielded_of d es)) h in
    let here = e.1 def (field_path path name place) parts.0 (inl (some_word path (dot_behind path) (field_word name place) (field_is_some name place))) in
    let rest = fields_count d fields es path (place + 1) parts.1 in
    let both = length-append (lines d e.0 def (field_path path name place)) (fields_lines d path (place + 1) fields (listed_of d es)) in
    let all = sum_by-cons (λ (n : ℕ). n) (leaves e.0) (leaves_of d es) in
    omega arith

group_count : (d : Description) (es : List (Kept d)) (def case : ℕ) (path : List ℕ) → have_fields d (entry_fields case (fields_of d def)) (fielded_of d es) ≡ true
    → (path ≢ []) ⊎ (group_lines d def case path (listed_of d es) ≢ [])
    → length (group_lines d def case path (listed_of d es)) ≡ layer_leaves (node.Group case (leaves_of d es))
group_count d es def (suc before) path h some =
    let rest = fields_count d (entry_fields (suc before) (fields_of d def)) es path 0 h in
    omega arith
group_count d [] def zero [] h (inl some) = absurd (some refl)
group_count d [] def zero [] h (inr some) = absurd (some (no_entries d [] 0 (entry_fields zero (fields_of d def))))
group_count d [] def zero (b ∷ path) h some =
    let rest = fields_count d (entry_fields zero (fields_of d def)) [] (b ∷ path) 0 h in
    omega arith
group_count d (e ∷ es) def zero [] h some = fields_count d (entry_fields zero (fields_of d def)) (e ∷ es) [] 0 h
group_count d (e ∷ es) def zero (b ∷ path) h some = fields_count d (entry_fields zero (fields_of d def)) (e ∷ es) (b ∷ path) 0 h

layer_count : (d : Description) (y : Node-F (Kept d))
    → let x : Node-F Node = map-Node (Kept d) Node (λ e. e.0) y in
    Counts (layer_lines d (map-Node Node Listed (λ n. lines d n) x)) (layer_fielded d (map-Node Node Fielded (λ n. fielded d n) x)) (layer_leaves (map-Node Node ℕ (λ n. leaves n) x))
layer_count d (node.Num number) def path h some = refl
layer_count d (node.Flag flag) def path h some = refl
layer_count d (node.Raw bits width) def path h some = refl
layer_count d (node.Blob bytes) def path h some = refl
layer_count d node.Unset def path h some = refl
layer_count d node.Absent def path h some = refl
layer_count d (node.List es) def path h some = list_count d es def path h
layer_count d (node.Group case es) def path h some = group_count d es def case path h some

-- the same of a node that is made of a layer
rolled : (d : Description) (x : Node-F Node)
    → Counts (layer_lines d (map-Node Node Listed (λ n. lines d n) x)) (layer_fielded d (map-Node Node Fielded (λ n. fielded d n) x)) (layer_leaves (map-Node Node ℕ (λ n. leaves n) x))
    → Counts (lines d (roll-Node x)) (fielded d (roll-Node x)) (leaves (roll-Node x))
rolled d x h =
    subst (λ (l : Listed). Counts l (fielded d (roll-Node x)) (leaves (roll-Node x))) (sym (fold-roll-Node Listed (layer_lines d) x))
    (subst (λ (f : Fielded). Counts (layer_lines d (map-Node Node Listed (λ n. lines d n) x)) f (leaves (roll-Node x))) (sym (fold-roll-Node Fielded (layer_fielded d) x))
    (subst (λ (n : ℕ). Counts (layer_lines d (map-Node Node Listed (λ n. lines d n) x)) (layer_fielded d (map-Node Node Fielded (λ n. fielded d n) x)) n) (sym (fold-roll-Node ℕ layer_leaves x)) h))

pub line_for_each_leaf : (d : Description) (node : Node) → Counts (lines d node) (fielded d node) (leaves node)
line_for_each_leaf d = ind-Node (λ n. Counts (lines d n) (fielded d n) (leaves n)) (λ x y is. rolled d x
    (subst (λ (z : Node-F Node). Counts (layer_lines d (map-Node Node Listed (λ n. lines d n) z)) (layer_fielded d (map-Node Node Fielded (λ n. fielded d n) z)) (layer_leaves (map-Node Node ℕ (λ n. leaves n) z))) is (layer_count d y)))
