-- A value as text: a line for each field, and an empty line behind the value.
use Rattle.std.specs.Prelude.{ℕ, List, [], ◌∷◌, ◌++◌, codes, slice_get, Option, Some, None}
use Rattle.std.specs.Fmt.{signed_decimal}
use Rattle.node_tree.specs.declared.nodes.Node.{Node, out-Node}
use Rattle.node_tree.specs.declared.nodes.Node.TheOpen.{Node-F, Num, Group}
use Rattle.mspec_tree.specs.declared.fields.Field.{Field, out-Field}
use Rattle.mspec_tree.specs.declared.defs.Def.{Def}
use Rattle.mspec_tree.specs.declared.defs.DefBody.{DefBody}
use Rattle.mspec_tree.specs.declared.defs.DefBody.TheVariants.{Plain}
use Rattle.mspec_tree.specs.declared.defs.Description.{Description}

-- the text of what stands in a field; so far fields are numbers
abbrev pub value_at : Node-F Node → List ℕ
value_at (Num n) = signed_decimal n
value_at other = []

abbrev pub value_text : Node → List ℕ
value_text node = value_at (out-Node node)

-- `NAME = VALUE`
abbrev pub line : List ℕ → Node → List ℕ
line name node = name ++ codes " = " ++ value_text node ++ codes "\n"

-- a line for each field in order
abbrev pub lines : List Field → List Node → List ℕ
lines [] entries = []
lines (field ∷ fields) [] = []
lines (field ∷ fields) (entry ∷ entries) = line (out-Field field).name entry ++ lines fields entries

abbrev pub entries_at : Node-F Node → List Node
entries_at (Group case entries) = entries
entries_at other = []

-- the entries of a group
abbrev pub entries_of : Node → List Node
entries_of node = entries_at (out-Node node)

-- a value of a type with these fields, and the empty line behind it
abbrev pub listing : List Field → Node → List ℕ
listing fields node = lines fields (entries_of node) ++ codes "\n"

abbrev pub body_fields : DefBody → List Field
body_fields (Plain fields) = fields
body_fields other = []

abbrev pub def_fields : Option Def → List Field
def_fields None = []
def_fields (Some def) = body_fields def.body

-- the fields of the definition at this place
abbrev pub fields_at : Description → ℕ → List Field
fields_at d def = def_fields (slice_get d.defs def)
