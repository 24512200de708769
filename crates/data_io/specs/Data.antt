-- Values of an item as nodes of `PlcData`, the last definition of the descriptions of Modbus and S7. By the item's type and, of a
-- flag, by whether it lies in a register, it has one of these cases in order, from 1:
--   BOOL in a register   a reserved number of 15 bits, and the flag
--   BOOL                 a reserved number of 7 bits, and the flag
--   each other type      a list of numbers
use Rattle.std.specs.Prelude.{◌≡◌, ◌≢◌, ℕ, ℤ, pos, negsuc, ◌-◌, ◌*◌, ◌^◌, ◌<◌, ◌≤◌, ◌≤ℤ◌, Bool, List, [], ◌∷◌, length, map, if◌then◌else◌}
use Rattle.std.specs.List.{All}
use Rattle.node_tree.specs.declared.nodes.Node.{Node}
use Rattle.node_tree.specs.declared.nodes.Node.TheVariants as nodes
use Rattle.wire_frames.specs.declared.kinds.PlcType.{PlcType}
use Rattle.wire_frames.specs.declared.kinds.PlcType.TheVariants as types
use Rattle.wire_frames.specs.declared.kinds.PlcValue.{PlcValue}
use Rattle.wire_frames.specs.declared.kinds.PlcValue.TheVariants as values

abbrev pub case_of : (registers : Bool) → PlcType → ℕ
case_of registers types.Bool = if registers then 1 else 2
case_of registers types.Byte = 3
case_of registers types.Word = 4
case_of registers types.Dword = 5
case_of registers types.Lword = 6
case_of registers types.Sint = 7
case_of registers types.Usint = 8
case_of registers types.Int = 9
case_of registers types.Uint = 10
case_of registers types.Dint = 11
case_of registers types.Udint = 12
case_of registers types.Lint = 13
case_of registers types.Ulint = 14
case_of registers types.Real = 15
case_of registers types.Lreal = 16

-- how many bytes a value takes in a list; a flag stands in none
abbrev pub bytes_of : PlcType → ℕ
bytes_of types.Bool = 0
bytes_of types.Byte = 1
bytes_of types.Word = 2
bytes_of types.Dword = 4
bytes_of types.Lword = 8
bytes_of types.Sint = 1
bytes_of types.Usint = 1
bytes_of types.Int = 2
bytes_of types.Uint = 2
bytes_of types.Dint = 4
bytes_of types.Udint = 4
bytes_of types.Lint = 8
bytes_of types.Ulint = 8
bytes_of types.Real = 4
bytes_of types.Lreal = 8

-- ---- values of a type

-- a whole number of so many bits
abbrev pub IsUnsigned : (bits : ℕ) → ℤ → Type 0
IsUnsigned bits n = (pos 0 ≤ℤ n) × (n ≤ℤ pos (2 ^ bits - 1))

-- the same in two's complement
abbrev pub IsSigned : (bits : ℕ) → ℤ → Type 0
IsSigned bits n = (negsuc (2 ^ (bits - 1) - 1) ≤ℤ n) × (n ≤ℤ pos (2 ^ (bits - 1) - 1))

abbrev pub IsWhole : PlcType → ℤ → Type 0
IsWhole types.Bool n = ⊥
IsWhole types.Byte n = IsUnsigned 8 n
IsWhole types.Word n = IsUnsigned 16 n
IsWhole types.Dword n = IsUnsigned 32 n
IsWhole types.Lword n = IsUnsigned 64 n
IsWhole types.Sint n = IsSigned 8 n
IsWhole types.Usint n = IsUnsigned 8 n
IsWhole types.Int n = IsSigned 16 n
IsWhole types.Uint n = IsUnsigned 16 n
IsWhole types.Dint n = IsSigned 32 n
IsWhole types.Udint n = IsUnsigned 32 n
IsWhole types.Lint n = IsSigned 64 n
IsWhole types.Ulint n = IsUnsigned 64 n
IsWhole types.Real n = ⊥
IsWhole types.Lreal n = ⊥

-- the bits of a floating number; 0 of a type that has none
abbrev pub float_bits : PlcType → ℕ
float_bits types.Real = 32
float_bits types.Lreal = 64
float_bits _ = 0

-- a value of this type, in its range
abbrev pub IsOf : PlcType → PlcValue → Type 0
IsOf kind (values.Bool flag) = kind ≡ types.Bool
IsOf kind (values.Whole n) = IsWhole kind n
IsOf kind (values.Raw bits width) = (0 < float_bits kind) × (width ≡ float_bits kind) × (bits < 2 ^ width)

-- values that an item of this type may have: one flag, or a list of at most 65,535 bytes
pub record AreData (kind : PlcType) (list : List PlcValue) : Type 0 where
  pub each : All (IsOf kind) list
  pub flag : kind ≡ types.Bool → length list ≡ 1
  pub room : length list * bytes_of kind ≤ 65535

-- ---- nodes

abbrev pub value_node : PlcValue → Node
value_node (values.Bool flag) = nodes.Flag flag
value_node (values.Whole n) = nodes.Num n
value_node (values.Raw bits width) = nodes.Raw bits width

-- what stands in a case: the reserved number and the flag, or the list
abbrev pub entries_of : (reserved : ℤ) → PlcType → List Node → List Node
entries_of reserved types.Bool all = nodes.Num reserved ∷ all
entries_of reserved _ all = nodes.List all ∷ []

abbrev pub data_node : (reserved : ℤ) → (registers : Bool) → PlcType → List PlcValue → Node
data_node reserved registers kind list = nodes.Group (case_of registers kind) (entries_of reserved kind (map value_node list))

-- a reserved number of 15 or 7 bits
abbrev pub IsReserved : (registers : Bool) → ℤ → Type 0
IsReserved registers n = IsUnsigned (if registers then 15 else 7) n

-- the node is a reading of `PlcData`, and has these values
pub record IsReading (node : Node) (list : List PlcValue) : Type 0 where
  pub kind : PlcType
  pub registers : Bool
  pub reserved : ℤ
  pub data_are : AreData kind list
  pub reserved_is : IsReserved registers reserved
  pub node_is : node ≡ data_node reserved registers kind list

-- ---- what can be written

-- a value of the kind that a type asks for, also one out of its range
abbrev pub IsKindOf : PlcType → PlcValue → Type 0
IsKindOf kind (values.Bool flag) = kind ≡ types.Bool
IsKindOf kind (values.Whole n) = (kind ≢ types.Bool) × (float_bits kind ≡ 0)
IsKindOf kind (values.Raw bits width) = (0 < float_bits kind) × (width ≡ float_bits kind)
