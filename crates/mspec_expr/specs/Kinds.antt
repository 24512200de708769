-- What the types of a description are: their widths, their ranges, and what a field of each is to an expression.
use Rattle.std.specs.Prelude.{ℕ, zero, suc, ℤ, pos, neg_ℤ, ◌-ℤ◌, unsigned_abs, ◌-◌, ◌/◌, ◌^◌, ◌&&◌, not, Bool, true, false, List, [], ◌∷◌, Option, Some, None, nat_le, if◌then◌else◌, int_le, slice_get, unwrap_or, position, bytes_eq}
use Rattle.std.specs.Ordering.{int_eq}
use Rattle.std.specs.List.{flat_map}
use Rattle.node_tree.specs.Bits.{digit}
use Rattle.node_tree.specs.declared.nodes.Node.{Node}
use Rattle.node_tree.specs.declared.nodes.Node.TheOpen.{Node-F}
use Rattle.node_tree.specs.declared.nodes.Node.TheVariants.{Num as NumNode, Flag as FlagNode}
use Rattle.mspec_tree.specs.declared.words.ByteOrder.{ByteOrder}
use Rattle.mspec_tree.specs.declared.words.Lit.{Lit}
use Rattle.mspec_tree.specs.declared.words.Lit.TheVariants.{Num, Flag}
use Rattle.mspec_tree.specs.declared.words.Simple.{Simple}
use Rattle.mspec_tree.specs.declared.words.Simple.TheVariants.{Bit, Byte, Uint, Int, Float}
use Rattle.mspec_tree.specs.declared.exprs.Ref.{Ref}
use Rattle.mspec_tree.specs.declared.exprs.Ref.TheVariants.{Plain, Named}
use Rattle.mspec_tree.specs.declared.fields.Field.{Field, out-Field}
use Rattle.mspec_tree.specs.declared.fields.Body.{Body, out-Body}
use Rattle.mspec_tree.specs.declared.fields.Body.TheOpen.{Body-F}
use Rattle.mspec_tree.specs.declared.fields.Case.{Case, out-Case}
use Rattle.mspec_tree.specs.declared.defs.Constant.{Constant}
use Rattle.mspec_tree.specs.declared.defs.Param.{Param}
use Rattle.mspec_tree.specs.declared.defs.Def.{Def}
use Rattle.mspec_tree.specs.declared.defs.DefBody.{DefBody}
use Rattle.mspec_tree.specs.declared.defs.DefBody.TheVariants.{Plain as PlainType, Switched, DataIo, Enum}
use Rattle.mspec_tree.specs.declared.defs.Description.{Description}
use Rattle.mspec_expr.specs.declared.kinds.Range.{Range}
use Rattle.mspec_expr.specs.declared.kinds.Target.{Target}
use Rattle.mspec_expr.specs.declared.kinds.Target.TheVariants.{Enum as EnumTarget, Group as GroupTarget}
use Rattle.mspec_expr.specs.declared.kinds.ItemOf.TheVariants.{Bits, GroupOf as ItemGroups}
use Rattle.mspec_expr.specs.declared.kinds.Meant.{Meant}
use Rattle.mspec_expr.specs.declared.kinds.Meant.TheVariants.{Number, Flag as FlagKind, EnumOf, GroupOf, ListOf, Bytes, Raw, Null}

-- a field, one layer of it
abbrev pub BodyLayer : Type 0
BodyLayer = Body-F Body Case Field

abbrev pub layer : Field → BodyLayer
layer field = out-Body (out-Field field).body

-- the number of a literal; a flag counts 0 or 1
abbrev pub signed : (negative : Bool) → ℕ → ℤ
signed true size = neg_ℤ (pos size)
signed false size = pos size

abbrev pub literal : Lit → ℤ
literal (Num negative size) = signed negative size
literal (Flag flag) = pos (digit flag)

abbrev pub width : Simple → ℕ
width Bit = 1
width Byte = 8
width (Uint bits) = bits
width (Int bits) = bits
width (Float bits) = bits

-- the least and the greatest number of so many bits
abbrev pub unsigned_range : (bits : ℕ) → Range
unsigned_range bits = record { low = pos 0; high = pos (2 ^ bits - 1) }

abbrev pub signed_range : (bits : ℕ) → Range
signed_range bits = record { low = neg_ℤ (pos (2 ^ (bits - 1))); high = pos (2 ^ (bits - 1) - 1) }

abbrev pub type_range : Simple → Range
type_range Bit = unsigned_range 1
type_range Byte = unsigned_range 8
type_range (Uint bits) = unsigned_range bits
type_range (Int bits) = signed_range bits
type_range (Float bits) = unsigned_range bits

-- a number may have so many bits
abbrev pub is_width : (bits : ℕ) → Bool
is_width bits = nat_le 1 bits && nat_le bits 64

-- the range of a number that has none
abbrev pub no_range : Range
no_range = record { low = pos 1; high = pos 0 }

-- the range of a type's numbers; a width that no number may have gives none
abbrev pub own_range : Simple → Range
own_range simple = if is_width (width simple) then type_range simple else no_range

abbrev pub in_range : Range → ℤ → Bool
in_range range number = int_le range.low number && int_le number range.high

-- a number leaves these in no expression
abbrev pub widest : Range
widest = record { low = neg_ℤ (pos (2 ^ 63)); high = pos (2 ^ 64 - 1) }

-- how many binary digits a number has, up to so many
abbrev pub digits_to : (most number : ℕ) → ℕ
digits_to zero number = 0
digits_to (suc most) zero = 0
digits_to (suc most) (suc less) = suc (digits_to most (suc less / 2))

abbrev pub binary_digits : ℕ → ℕ
binary_digits number = digits_to number number

-- the width of the type of a range
abbrev pub range_width : Range → ℕ
range_width range = binary_digits (unsigned_abs (range.high -ℤ range.low))

-- a number is one of this type
abbrev pub of_type : Simple → ℤ → Bool
of_type simple number = in_range (type_range simple) number

-- the place of the first definition of a name
abbrev pub def_named : Description → List ℕ → Option ℕ
def_named d name = position (λ def. bytes_eq def.name name) d.defs

-- what a definition's name stands for in a type's place
abbrev pub body_target : (def : ℕ) → DefBody → Target
body_target def (Enum base constants) = EnumTarget def base
body_target def other = GroupTarget def

abbrev pub def_target : Description → (def : ℕ) → Option Def → Target
def_target d def (Some found) = body_target def found.body
def_target d def None = GroupTarget def

abbrev pub placed_target : Description → Option ℕ → Target
placed_target d (Some def) = def_target d def (slice_get d.defs def)
placed_target d None = GroupTarget 0

abbrev pub target_named : Description → List ℕ → Target
target_named d name = placed_target d (def_named d name)

-- the fields of a definition's bracket
abbrev pub fields_in : DefBody → List Field
fields_in (PlainType fields) = fields
fields_in (Switched fields) = fields
fields_in (DataIo field) = field ∷ []
fields_in (Enum base constants) = []

abbrev pub base_in : DefBody → Simple
base_in (Enum base constants) = base
base_in other = Bit

abbrev pub constants_in : DefBody → List Constant
constants_in (Enum base constants) = constants
constants_in other = []

-- what a place has of the definition there
abbrev pub of_found : {A : Type 0} → (Def → List A) → Option Def → List A
of_found part (Some found) = part found
of_found part None = []

abbrev pub fields_of : Description → (def : ℕ) → List Field
fields_of d def = of_found (λ found. fields_in found.body) (slice_get d.defs def)

abbrev pub constants_of : Description → (def : ℕ) → List Constant
constants_of d def = of_found (λ found. constants_in found.body) (slice_get d.defs def)

abbrev pub params_of : Description → (def : ℕ) → List Param
params_of d def = of_found (λ found. found.params) (slice_get d.defs def)

-- the type of an enum's numbers
abbrev pub base_at : Option Def → Simple
base_at (Some found) = base_in found.body
base_at None = Bit

abbrev pub base_of : Description → (def : ℕ) → Simple
base_of d def = base_at (slice_get d.defs def)

-- the order of bytes that a definition gives its fields
abbrev pub order_in : Option Def → Option ByteOrder
order_in (Some found) = found.order
order_in None = None

abbrev pub order_of : Description → (def : ℕ) → Option ByteOrder
order_of d def = order_in (slice_get d.defs def)

-- the fields of the case of this number, from 1; 0 is no case
abbrev pub case_fields : (case : ℕ) → List Case → List Field
case_fields zero cases = []
case_fields (suc before) [] = []
case_fields (suc zero) (case ∷ cases) = (out-Case case).fields
case_fields (suc (suc before)) (case ∷ cases) = case_fields (suc before) cases

abbrev pub case_name : (case : ℕ) → List Case → List ℕ
case_name zero cases = []
case_name (suc before) [] = []
case_name (suc zero) (case ∷ cases) = (out-Case case).name
case_name (suc (suc before)) (case ∷ cases) = case_name (suc before) cases

-- the fields that have entries, those of the chosen case at the switch's place
abbrev pub entry_fields_in : (case : ℕ) → Field → BodyLayer → List Field
entry_fields_in case field (Body-F.Switch names cases) = case_fields case cases
entry_fields_in case field other = field ∷ []

abbrev pub entry_fields : (case : ℕ) → List Field → List Field
entry_fields case fields = flat_map (λ field. entry_fields_in case field (layer field)) fields

-- the cases of a switch
abbrev pub switch_cases : BodyLayer → Option (List Case)
switch_cases (Body-F.Switch names cases) = Some cases
switch_cases other = None

-- the cases of the first switch among fields
abbrev pub first_cases : List Field → List Case
first_cases [] = []
first_cases (field ∷ fields) = unwrap_or (switch_cases (layer field)) (first_cases fields)

-- the cases of a definition's switch
abbrev pub cases_of : Description → (def : ℕ) → List Case
cases_of d def = first_cases (fields_of d def)

-- what a type is to an expression
abbrev pub simple_meant : Simple → Meant
simple_meant Bit = FlagKind
simple_meant (Float bits) = Raw
simple_meant other = Number (own_range other)

abbrev pub target_meant : Target → Meant
target_meant (EnumTarget def base) = EnumOf def
target_meant (GroupTarget def) = GroupOf def 0

abbrev pub ref_meant : Description → Ref → Meant
ref_meant d (Plain simple) = simple_meant simple
ref_meant d (Named place name args) = target_meant (target_named d name)

-- the type of the numbers of a type, where it has numbers
abbrev pub target_simple : Target → Option Simple
target_simple (EnumTarget def base) = Some base
target_simple (GroupTarget def) = None

abbrev pub ref_simple : Description → Ref → Option Simple
ref_simple d (Plain simple) = Some simple
ref_simple d (Named place name args) = target_simple (target_named d name)

abbrev pub width_or_none : Option Simple → ℕ
width_or_none (Some simple) = width simple
width_or_none None = 0

abbrev pub ref_width : Description → Ref → ℕ
ref_width d kind = width_or_none (ref_simple d kind)

-- what an array of a type is
abbrev pub target_items : (counted : Bool) → Target → Meant
target_items counted (EnumTarget def base) = ListOf (Bits (width base))
target_items counted (GroupTarget def) = ListOf (ItemGroups def counted)

abbrev pub items_meant : Description → (counted : Bool) → Ref → Meant
items_meant d counted (Plain Byte) = Bytes
items_meant d counted (Plain simple) = ListOf (Bits (width simple))
items_meant d counted (Named place name args) = target_items counted (target_named d name)

-- what a field is
abbrev pub body_meant : Description → BodyLayer → Meant
body_meant d (Body-F.Simple kind) = ref_meant d kind
body_meant d (Body-F.Discriminator kind) = ref_meant d kind
body_meant d (Body-F.Const simple value) = simple_meant simple
body_meant d (Body-F.Reserved simple value) = simple_meant simple
body_meant d (Body-F.Implicit kind value) = ref_meant d kind
body_meant d (Body-F.Virtual kind value) = ref_meant d kind
body_meant d (Body-F.Optional kind condition) = ref_meant d kind
body_meant d (Body-F.Checksum simple value) = simple_meant simple
body_meant d (Body-F.Padding simple value count) = ListOf (Bits (width simple))
body_meant d (Body-F.CountArray kind count) = items_meant d true kind
body_meant d (Body-F.LengthArray kind length) = items_meant d false kind
body_meant d (Body-F.Switch names cases) = Null

abbrev pub field_meant : Description → Field → Meant
field_meant d field = body_meant d (layer field)

-- a number as a node of a simple type
abbrev pub number_node : Simple → ℤ → Node
number_node Bit number = FlagNode (not (int_eq number (pos 0)))
number_node other number = NumNode number

abbrev pub literal_node : Lit → Node
literal_node (Num negative size) = NumNode (signed negative size)
literal_node (Flag flag) = FlagNode flag

-- a number as a node of a type that has numbers
abbrev pub simple_node : Option Simple → ℤ → Node
simple_node (Some simple) number = number_node simple number
simple_node None number = NumNode number

abbrev pub kind_node : Description → Ref → ℤ → Node
kind_node d kind number = simple_node (ref_simple d kind) number

-- a number is one of a type
abbrev pub of_simple : Option Simple → ℤ → Bool
of_simple (Some simple) number = of_type simple number
of_simple None number = false

abbrev pub of_kind : Description → Ref → ℤ → Bool
of_kind d kind number = of_simple (ref_simple d kind) number

-- a node is this number
abbrev pub number_is : ℤ → Node-F Node → Bool
number_is number (Node-F.Num n) = int_eq n number
number_is number (Node-F.Flag flag) = int_eq (pos (digit flag)) number
number_is number other = false
