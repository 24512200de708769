-- A value as text, by its description: a line for each leaf.
use Rattle.std.specs.Prelude.{ℕ, zero, suc, ◌+◌, ◌-◌, ◌/◌, true, false, List, [], ◌∷◌, ◌++◌, drop, codes}
use Rattle.std.specs.Fmt.{decimal, signed_decimal}
use Rattle.std.specs.Int.{w64, to_be_bytes}
use Rattle.std.specs.List.{flat_map}
use Rattle.hex.specs.Hex.{encode_lower, encode_upper}
use Rattle.node_tree.specs.declared.nodes.Node.{Node, fold-Node}
use Rattle.node_tree.specs.declared.nodes.Node.TheOpen.{Node-F, Num, Flag, Raw, Blob, Unset, Absent, List as ListOf, Group}
use Rattle.mspec_tree.specs.declared.fields.Case.{Case}
use Rattle.mspec_tree.specs.declared.fields.Field.{Field, out-Field}
use Rattle.mspec_tree.specs.declared.defs.Description.{Description}
use Rattle.mspec_expr.specs.declared.kinds.ItemOf.TheVariants.{GroupOf as ItemGroups}
use Rattle.mspec_expr.specs.declared.kinds.Meant.{Meant}
use Rattle.mspec_expr.specs.declared.kinds.Meant.TheVariants.{GroupOf, ListOf as ItemsOf}
use Rattle.mspec_expr.specs.Kinds.{case_name, cases_of, entry_fields, field_meant, fields_of}

-- ---- values

-- the last digits of the sixteen that 64 bits have
abbrev pub raw_digits : (bits width : ℕ) → List ℕ
raw_digits bits width = drop (16 - width / 4) (encode_upper (to_be_bytes w64 bits))

-- What stands on the line of a leaf; lists and groups have lines of their own.
abbrev pub leaf_text : {A : Type 0} → Node-F A → List ℕ
leaf_text (Num number) = signed_decimal number
leaf_text (Flag true) = codes "true"
leaf_text (Flag false) = codes "false"
leaf_text (Raw bits width) = codes "16#" ++ raw_digits bits width
leaf_text (Blob bytes) = codes "0x" ++ encode_lower bytes
leaf_text Unset = codes "unset"
leaf_text Absent = codes "absent"
leaf_text other = []

-- ---- lines

-- a leaf with its value, or a group with its case
pub data Line : Type 0 where
  Leaf : (path value : List ℕ) → Line
  Chosen : (path case : List ℕ) → Line

-- `PATH = VALUE` or `PATH : CASE`
abbrev pub line_text : Line → List ℕ
line_text (Leaf path value) = path ++ (codes " = " ++ (value ++ codes "\n"))
line_text (Chosen path case) = path ++ (codes " : " ++ (case ++ codes "\n"))

abbrev pub text_of : List Line → List ℕ
text_of lines = flat_map line_text lines

-- ---- paths; that of the whole value is empty

-- names stand apart by a dot
abbrev pub dot_behind : (path : List ℕ) → List ℕ
dot_behind [] = []
dot_behind (b ∷ path) = codes "."

-- a field's name, or the place in its group of one that has none
abbrev pub field_word : (name : List ℕ) → (place : ℕ) → List ℕ
field_word [] place = codes "#" ++ decimal place
field_word (b ∷ name) place = b ∷ name

abbrev pub field_path : (path name : List ℕ) → (place : ℕ) → List ℕ
field_path path name place = path ++ (dot_behind path ++ field_word name place)

abbrev pub item_path : (path : List ℕ) → (place : ℕ) → List ℕ
item_path path place = path ++ (codes "[" ++ (decimal place ++ codes "]"))

-- ---- nodes

-- the definition of the groups that a field has: its own, or that of its items. Any serves a field that has none.
abbrev pub groups_in : Meant → ℕ
groups_in (GroupOf def case) = def
groups_in (ItemsOf (ItemGroups def counted)) = def
groups_in other = 0

-- the lines of a node, by the definition of its groups and by its path
abbrev pub Listed : Type 0
Listed = (def : ℕ) → (path : List ℕ) → List Line

-- items, the first of which has this place
abbrev pub items_lines : (def : ℕ) → (path : List ℕ) → (place : ℕ) → List Listed → List Line
items_lines def path place [] = []
items_lines def path place (item ∷ items) =
    item def (item_path path place) ++ items_lines def path (place + 1) items

abbrev pub list_lines : (def : ℕ) → (path : List ℕ) → List Listed → List Line
list_lines def path [] = Leaf path (codes "[]") ∷ []
list_lines def path (item ∷ items) = items_lines def path 0 (item ∷ items)

-- an entry of a field that has this place in its group
abbrev pub entry_lines : Description → (path : List ℕ) → (place : ℕ) → Field → Listed → List Line
entry_lines d path place field entry =
    entry (groups_in (field_meant d field)) (field_path path (out-Field field).name place)

-- fields with their entries, the first of which has this place in its group
abbrev pub fields_lines : Description → (path : List ℕ) → (place : ℕ) → List Field → List Listed → List Line
fields_lines d path place [] entries = []
fields_lines d path place (field ∷ fields) [] = []
fields_lines d path place (field ∷ fields) (entry ∷ entries) =
    entry_lines d path place field entry ++ fields_lines d path (place + 1) fields entries

-- What a group says before its entries: its case; `{}` where it has neither a case nor an entry, unless it is the whole value.
abbrev pub head_lines : {A : Type 0} → List Case → (case : ℕ) → (path : List ℕ) → (entries : List A) → List Line
head_lines cases (suc before) path entries = Chosen path (case_name (suc before) cases) ∷ []
head_lines cases zero (b ∷ path) [] = Leaf (b ∷ path) (codes "{}") ∷ []
head_lines cases zero path entries = []

-- a group, the fields of its case at the place of the switch
abbrev pub group_lines : Description → (def case : ℕ) → (path : List ℕ) → (entries : List Listed) → List Line
group_lines d def case path entries =
    head_lines (cases_of d def) case path entries
    ++ fields_lines d path 0 (entry_fields case (fields_of d def)) entries

-- one layer of a node, with the lines of what stands in it
abbrev pub layer_lines : Description → Node-F Listed → Listed
layer_lines d (ListOf items) def path = list_lines def path items
layer_lines d (Group case entries) def path = group_lines d def case path entries
layer_lines d leaf def path = Leaf path (leaf_text leaf) ∷ []

abbrev pub lines : Description → Node → Listed
lines d node = fold-Node Listed (layer_lines d) node

-- a value of the definition at this place
abbrev pub listing : Description → (def : ℕ) → Node → List ℕ
listing d def node = text_of (lines d node def [])
