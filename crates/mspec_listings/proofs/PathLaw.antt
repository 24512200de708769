-- The lines of a value have different paths.
use Rattle.std.proofs.Common.{◌≡◌, ◌≢◌, ◌<◌, ◌≤◌, ◌^◌, ℕ, zero, suc, ◌+◌, Bool, true, List, [], ◌∷◌, ◌++◌, length, map, refl, sym, ap, subst, ◌∙◌, codes, arith, append-nil, append_assoc, inl, inr, nat_le}
use Rattle.std.specs.List.{AllByRecursion, list_all}
use Rattle.std.proofs.lemmas.Bool.{and_parts, leb-true}
use Rattle.std.proofs.lemmas.List.{length-map}
use Rattle.node_tree.specs.declared.nodes.Node.{Node, Node-F, fold-roll-Node, ind-Node, map-Node}
use Rattle.node_tree.specs.declared.nodes.Node.TheOpen as node
use Rattle.mspec_tree.specs.Form.{IsWritten}
use Rattle.mspec_tree.specs.declared.fields.Case.{Case}
use Rattle.mspec_tree.specs.declared.fields.Field.{Field, out-Field}
use Rattle.mspec_tree.specs.declared.defs.Description.{Description}
use Rattle.mspec_expr.specs.Kinds.{cases_of, entry_fields, field_meant, fields_of}
use Rattle.mspec_listings.specs.Listings.{Line, Leaf, Listed, dot_behind, field_path, field_word, fields_lines, group_lines, groups_in, head_lines, item_path, items_lines, layer_lines, lines, list_lines}
use Rattle.mspec_listings.specs.Paths.{HaveOwnNames, HaveOwnPaths, IsPlaced, NamesTellFields, is_placed, is_placed_layer, path_of}
use Rattle.mspec_listings.proofs.BlockLemmas.{Behind, Block, Extends, HaveOwnWords, all-weaker, behind_blocks, lines_in, not_behind, own-append, own_blocks}
use Rattle.mspec_listings.proofs.NameLemmas.{AreNamed, IsNameText, fields_are_named}
use Rattle.mspec_listings.proofs.SolidLemmas.{all-append}
use Rattle.mspec_listings.proofs.WordLemmas.{field_is_some, field_is_word, fields_differ, item_is_some, item_is_word, item_word, items_differ}

-- the lines under a path that isn't that of the whole value
record Tells (path : List ℕ) (ls : List Line) : Type 0 where
  under : AllByRecursion (λ line. Extends path (path_of line)) ls
  own : HaveOwnPaths ls

-- the lines of a node, by itself and under a path
record TellsAll (listed : Listed) : Type 0 where
  whole : (def : ℕ) → HaveOwnPaths (listed def [])
  inside : (def : ℕ) (path : List ℕ) → path ≢ [] → Tells path (listed def path)

abbrev Told : Description → Node → Type 0
Told d n = is_placed n ≡ true → TellsAll (lines d n)

abbrev Kept : Description → Type 0
Kept d = (n : Node) × Told d n

abbrev nodes_of : (d : Description) → List (Kept d) → List Node
nodes_of d es = map (λ e. e.0) es

abbrev listed_of : (d : Description) → List (Kept d) → List Listed
listed_of d es = map (λ n. lines d n) (nodes_of d es)

abbrev all_placed : (d : Description) → List (Kept d) → Bool
all_placed d es = list_all (λ placed. placed) (map is_placed (nodes_of d es))

some_path : (path mid : List ℕ) (b : ℕ) (more : List ℕ) → (path ++ (mid ++ b ∷ more)) ≢ []
some_path [] [] b more = λ e. cc
some_path [] (c ∷ mid) b more = λ e. cc
some_path (c ∷ path) mid b more = λ e. cc

pub some_word : (path mid word : List ℕ) → word ≢ [] → (path ++ (mid ++ word)) ≢ []
some_word path mid [] h = absurd (h refl)
some_word path mid (b ∷ word) h = some_path path mid b word

-- the lines under a longer path, as those of a block
moved : (base word path : List ℕ) → path ≡ base ++ word → (ls : List Line) → AllByRecursion (λ line. Extends path (path_of line)) ls → AllByRecursion (λ line. Extends (base ++ word) (path_of line)) ls
moved base word path e ls h =
    all-weaker (λ line. Extends path (path_of line)) (λ line. Extends (base ++ word) (path_of line))
    (λ line under. record { more = under.more; joint = under.joint; whole = under.whole ∙ ap (λ (p : List ℕ). p ++ under.more) e }) ls h

at_path : (path longer : List ℕ) → longer ≡ path → Extends path longer
at_path path longer e = record { more = []; joint = tt; whole = e ∙ sym (append-nil path) }

one_leaf : (value : List ℕ) → TellsAll (λ def path. Leaf path value ∷ [])
one_leaf value = record {
  whole = λ def. (tt, tt);
  inside = λ def path some. record { under = (at_path path path refl, tt); own = (tt, tt) };
}

-- ---- items

abbrev items_blocks : (d : Description) (es : List (Kept d)) (def : ℕ) (path : List ℕ) (place : ℕ) → all_placed d es ≡ true → List (Block (path ++ codes "["))
items_blocks d [] def path place p = []
items_blocks d (e ∷ es) def path place p =
    let parts = and_parts (is_placed e.0) (all_placed d es) p in
    let tells = (e.1 parts.0).inside def (item_path path place) (some_word path (codes "[") (item_word place) (item_is_some place)) in
    record {
      word = item_word place;
      lines = lines d e.0 def (item_path path place);
      proper = item_is_word place;
      some = item_is_some place;
      under = moved (path ++ codes "[") (item_word place) (item_path path place) (sym (append_assoc path (codes "[") (item_word place))) (lines d e.0 def (item_path path place)) tells.under;
      own = tells.own;
    } ∷ items_blocks d es def path (place + 1) parts.1

items_are_blocks : (d : Description) (es : List (Kept d)) (def : ℕ) (path : List ℕ) (place : ℕ) (p : all_placed d es ≡ true)
    → lines_in (items_blocks d es def path place p) ≡ items_lines def path place (listed_of d es)
items_are_blocks d [] def path place p = refl
items_are_blocks d (e ∷ es) def path place p =
    ap (λ ls. lines d e.0 def (item_path path place) ++ ls) (items_are_blocks d es def path (place + 1) (and_parts (is_placed e.0) (all_placed d es) p).1)

other_items : (d : Description) (es : List (Kept d)) (def : ℕ) (path : List ℕ) (before place : ℕ) (p : all_placed d es ≡ true) → before < place → place + length es ≤ 2 ^ 64
    → AllByRecursion (λ other. item_word before ≢ other.word) (items_blocks d es def path place p)
other_items d [] def path before place p h k = tt
other_items d (e ∷ es) def path before place p h k =
    (items_differ before place h (omega arith), other_items d es def path before (place + 1) (and_parts (is_placed e.0) (all_placed d es) p).1 (omega arith) (omega arith))

own_items : (d : Description) (es : List (Kept d)) (def : ℕ) (path : List ℕ) (place : ℕ) (p : all_placed d es ≡ true) → place + length es ≤ 2 ^ 64
    → HaveOwnWords (items_blocks d es def path place p)
own_items d [] def path place p k = tt
own_items d (e ∷ es) def path place p k =
    let rest = (and_parts (is_placed e.0) (all_placed d es) p).1 in
    (other_items d es def path place (place + 1) rest (omega arith) (omega arith), own_items d es def path (place + 1) rest (omega arith))

list_own : (d : Description) (es : List (Kept d)) (def : ℕ) (path : List ℕ) → all_placed d es ≡ true → length es ≤ 2 ^ 64 → HaveOwnPaths (list_lines def path (listed_of d es))
list_own d [] def path p k = (tt, tt)
list_own d (e ∷ es) def path p k =
    subst HaveOwnPaths (items_are_blocks d (e ∷ es) def path 0 p) (own_blocks (items_blocks d (e ∷ es) def path 0 p) (own_items d (e ∷ es) def path 0 p (omega arith)))

behind_item : (path longer : List ℕ) → Behind (path ++ codes "[") longer → Extends path longer
behind_item path longer h = record { more = codes "[" ++ h.more; joint = inr refl; whole = h.whole ∙ append_assoc path (codes "[") h.more }

list_under : (d : Description) (es : List (Kept d)) (def : ℕ) (path : List ℕ) → all_placed d es ≡ true → AllByRecursion (λ line. Extends path (path_of line)) (list_lines def path (listed_of d es))
list_under d [] def path p = (at_path path path refl, tt)
list_under d (e ∷ es) def path p =
    subst (λ (ls : List Line). AllByRecursion (λ line. Extends path (path_of line)) ls) (items_are_blocks d (e ∷ es) def path 0 p)
    (all-weaker (λ line. Behind (path ++ codes "[") (path_of line)) (λ line. Extends path (path_of line)) (λ line h. behind_item path (path_of line) h)
    (lines_in (items_blocks d (e ∷ es) def path 0 p)) (behind_blocks (items_blocks d (e ∷ es) def path 0 p)))

list_told : (d : Description) (es : List (Kept d)) → all_placed d es ≡ true → length es ≤ 2 ^ 64 → TellsAll (λ def path. list_lines def path (listed_of d es))
list_told d es p k = record {
  whole = λ def. list_own d es def [] p k;
  inside = λ def path some. record { under = list_under d es def path p; own = list_own d es def path p k };
}

-- ---- fields

abbrev fields_blocks : (d : Description) (fields : List Field) (es : List (Kept d)) (path : List ℕ) (place : ℕ) → AreNamed fields → all_placed d es ≡ true → List (Block (path ++ dot_behind path))
fields_blocks d [] es path place n p = []
fields_blocks d (field ∷ fields) [] path place n p = []
fields_blocks d (field ∷ fields) (e ∷ es) path place n p =
    let parts = and_parts (is_placed e.0) (all_placed d es) p in
    let name = (out-Field field).name in
    let word = field_word name place in
    let def = groups_in (field_meant d field) in
    let tells = (e.1 parts.0).inside def (field_path path name place) (some_word path (dot_behind path) word (field_is_some name place)) in
    record {
      word = word;
      lines = lines d e.0 def (field_path path name place);
      proper = field_is_word name place n.0;
      some = field_is_some name place;
      under = moved (path ++ dot_behind path) word (field_path path name place) (sym (append_assoc path (dot_behind path) word)) (lines d e.0 def (field_path path name place)) tells.under;
      own = tells.own;
    } ∷ fields_blocks d fields es path (place + 1) n.1 parts.1

fields_are_blocks : (d : Description) (fields : List Field) (es : List (Kept d)) (path : List ℕ) (place : ℕ) (n : AreNamed fields) (p : all_placed d es ≡ true)
    → lines_in (fields_blocks d fields es path place n p) ≡ fields_lines d path place fields (listed_of d es)
fields_are_blocks d [] es path place n p = refl
fields_are_blocks d (field ∷ fields) [] path place n p = refl
fields_are_blocks d (field ∷ fields) (e ∷ es) path place n p =
    ap (λ ls. lines d e.0 (groups_in (field_meant d field)) (field_path path (out-Field field).name place) ++ ls)
    (fields_are_blocks d fields es path (place + 1) n.1 (and_parts (is_placed e.0) (all_placed d es) p).1)

other_fields : (d : Description) (fields : List Field) (es : List (Kept d)) (path name : List ℕ) (before place : ℕ) (n : AreNamed fields) (p : all_placed d es ≡ true)
    → IsNameText name → AllByRecursion (λ other. name ≡ (out-Field other).name → name ≡ []) fields → before < place → place + length es ≤ 2 ^ 64
    → AllByRecursion (λ other. field_word name before ≢ other.word) (fields_blocks d fields es path place n p)
other_fields d [] es path name before place n p t own h k = tt
other_fields d (field ∷ fields) [] path name before place n p t own h k = tt
other_fields d (field ∷ fields) (e ∷ es) path name before place n p t own h k = (
  fields_differ name before (out-Field field).name place t n.0 own.0 h (omega arith),
  other_fields d fields es path name before (place + 1) n.1 (and_parts (is_placed e.0) (all_placed d es) p).1 t own.1 (omega arith) (omega arith),
)

own_fields : (d : Description) (fields : List Field) (es : List (Kept d)) (path : List ℕ) (place : ℕ) (n : AreNamed fields) (p : all_placed d es ≡ true)
    → HaveOwnNames fields → place + length es ≤ 2 ^ 64 → HaveOwnWords (fields_blocks d fields es path place n p)
own_fields d [] es path place n p own k = tt
own_fields d (field ∷ fields) [] path place n p own k = tt
own_fields d (field ∷ fields) (e ∷ es) path place n p own k =
    let rest = (and_parts (is_placed e.0) (all_placed d es) p).1 in (
      other_fields d fields es path (out-Field field).name place (place + 1) n.1 rest n.0 own.0 (omega arith) (omega arith),
      own_fields d fields es path (place + 1) n.1 rest own.1 (omega arith),
    )

-- ---- groups

heads_at : {A : Type 0} (cases : List Case) (case : ℕ) (path : List ℕ) (entries : List A) → AllByRecursion (λ line. path_of line ≡ path) (head_lines cases case path entries)
heads_at cases (suc before) path entries = (refl, tt)
heads_at cases zero [] entries = tt
heads_at cases zero (b ∷ path) [] = (refl, tt)
heads_at cases zero (b ∷ path) (entry ∷ entries) = tt

own_heads : {A : Type 0} (cases : List Case) (case : ℕ) (path : List ℕ) (entries : List A) → HaveOwnPaths (head_lines cases case path entries)
own_heads cases (suc before) path entries = (tt, tt)
own_heads cases zero [] entries = tt
own_heads cases zero (b ∷ path) [] = (tt, tt)
own_heads cases zero (b ∷ path) (entry ∷ entries) = tt

behind_fields : (d : Description) (fields : List Field) (es : List (Kept d)) (path : List ℕ) → AreNamed fields → all_placed d es ≡ true
    → AllByRecursion (λ line. Behind (path ++ dot_behind path) (path_of line)) (fields_lines d path 0 fields (listed_of d es))
behind_fields d fields es path n p =
    subst (λ (ls : List Line). AllByRecursion (λ line. Behind (path ++ dot_behind path) (path_of line)) ls) (fields_are_blocks d fields es path 0 n p) (behind_blocks (fields_blocks d fields es path 0 n p))

group_own : (d : Description) → IsWritten d → NamesTellFields d → (es : List (Kept d)) (def case : ℕ) (path : List ℕ) → all_placed d es ≡ true → length es ≤ 2 ^ 64 → HaveOwnPaths (group_lines d def case path (listed_of d es))
group_own d w t es def case path p k =
    let fields = entry_fields case (fields_of d def) in
    let named = fields_are_named d def case w in
    own-append (λ line. path_of line ≡ path) (λ line. Behind (path ++ dot_behind path) (path_of line)) (not_behind path (dot_behind path))
    (head_lines (cases_of d def) case path (listed_of d es)) (fields_lines d path 0 fields (listed_of d es))
    (heads_at (cases_of d def) case path (listed_of d es)) (behind_fields d fields es path named p)
    (own_heads (cases_of d def) case path (listed_of d es))
    (subst HaveOwnPaths (fields_are_blocks d fields es path 0 named p) (own_blocks (fields_blocks d fields es path 0 named p) (own_fields d fields es path 0 named p (t def case) (omega arith))))

behind_field : (path longer : List ℕ) → path ≢ [] → Behind (path ++ dot_behind path) longer → Extends path longer
behind_field [] longer some h = absurd (some refl)
behind_field (b ∷ path) longer some h = record { more = codes "." ++ h.more; joint = inl refl; whole = h.whole ∙ append_assoc (b ∷ path) (codes ".") h.more }

group_under : (d : Description) → IsWritten d → (es : List (Kept d)) (def case : ℕ) (path : List ℕ) → path ≢ [] → all_placed d es ≡ true
    → AllByRecursion (λ line. Extends path (path_of line)) (group_lines d def case path (listed_of d es))
group_under d w es def case path some p =
    let fields = entry_fields case (fields_of d def) in
    let heads = head_lines (cases_of d def) case path (listed_of d es) in
    let behind = fields_lines d path 0 fields (listed_of d es) in
    all-append (λ line. Extends path (path_of line)) heads behind
    (all-weaker (λ line. path_of line ≡ path) (λ line. Extends path (path_of line)) (λ line e. at_path path (path_of line) e) heads (heads_at (cases_of d def) case path (listed_of d es)))
    (all-weaker (λ line. Behind (path ++ dot_behind path) (path_of line)) (λ line. Extends path (path_of line)) (λ line h. behind_field path (path_of line) some h) behind
    (behind_fields d fields es path (fields_are_named d def case w) p))

group_told : (d : Description) → IsWritten d → NamesTellFields d → (es : List (Kept d)) (case : ℕ) → all_placed d es ≡ true → length es ≤ 2 ^ 64 → TellsAll (λ def path. group_lines d def case path (listed_of d es))
group_told d w t es case p k = record {
  whole = λ def. group_own d w t es def case [] p k;
  inside = λ def path some. record { under = group_under d w es def case path some p; own = group_own d w t es def case path p k };
}

-- ---- nodes

placed_length : (d : Description) (es : List (Kept d)) → nat_le (length (map is_placed (nodes_of d es))) (2 ^ 64) ≡ true → length es ≤ 2 ^ 64
placed_length d es h =
    let le = leb-true (length (map is_placed (nodes_of d es))) (2 ^ 64) h in
    let a = length-map (nodes_of d es) is_placed in
    let b = length-map es (λ e. e.0) in
    omega arith

layer_told : (d : Description) → IsWritten d → NamesTellFields d → (y : Node-F (Kept d))
    → is_placed_layer (map-Node Node Bool is_placed (map-Node (Kept d) Node (λ e. e.0) y)) ≡ true
    → TellsAll (layer_lines d (map-Node Node Listed (λ n. lines d n) (map-Node (Kept d) Node (λ e. e.0) y)))
layer_told d w t (node.Num number) p = one_leaf _
layer_told d w t (node.Flag flag) p = one_leaf _
layer_told d w t (node.Raw bits width) p = one_leaf _
layer_told d w t (node.Blob bytes) p = one_leaf _
layer_told d w t node.Unset p = one_leaf _
layer_told d w t node.Absent p = one_leaf _
layer_told d w t (node.List es) p =
    let parts = and_parts (nat_le (length (map is_placed (nodes_of d es))) (2 ^ 64)) (all_placed d es) p in
    list_told d es parts.1 (placed_length d es parts.0)
layer_told d w t (node.Group case es) p =
    let parts = and_parts (nat_le (length (map is_placed (nodes_of d es))) (2 ^ 64)) (all_placed d es) p in
    group_told d w t es case parts.1 (placed_length d es parts.0)

all_told : (d : Description) → IsWritten d → NamesTellFields d → (node : Node) → Told d node
all_told d w t = ind-Node (λ n. Told d n) (λ x y is p.
    let placed : is_placed_layer (map-Node Node Bool is_placed x) ≡ true = sym (fold-roll-Node Bool is_placed_layer x) ∙ p in
    subst TellsAll (sym (fold-roll-Node Listed (layer_lines d) x))
    (subst (λ (z : Node-F Node). TellsAll (layer_lines d (map-Node Node Listed (λ n. lines d n) z))) is
    (layer_told d w t y (subst (λ (z : Node-F Node). is_placed_layer (map-Node Node Bool is_placed z) ≡ true) (sym is) placed))))

pub own_paths : (d : Description) (def : ℕ) (node : Node) → IsWritten d → NamesTellFields d → IsPlaced node → HaveOwnPaths (lines d node def [])
own_paths d def node w t p = (all_told d w t node p).whole def
