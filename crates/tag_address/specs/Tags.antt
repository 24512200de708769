-- Tags: texts that name an item.
use Rattle.std.specs.Prelude.{◌≡◌, ℕ, ◌+◌, ◌*◌, ◌<◌, ◌≤◌, ◌==◌, ◌⊎◌, if◌then◌else◌, List, [], ◌∷◌, ◌++◌, length, take, codes, decimal, count_by}
use Rattle.wire_frames.specs.declared.kinds.Area.{Area}
use Rattle.wire_frames.specs.declared.kinds.Area.TheVariants.{Coil, DiscreteInput, InputRegister, HoldingRegister, S7Input, S7Output, S7Flag, S7Block}
use Rattle.wire_frames.specs.declared.kinds.Item.{Item}
use Rattle.wire_frames.specs.declared.kinds.PlcType.{PlcType}
use Rattle.wire_frames.specs.declared.kinds.PlcType.TheVariants as types
use Rattle.tag_address.specs.declared.tags.TagKind.{TagKind}
use Rattle.tag_address.specs.declared.tags.TagKind.TheVariants as kinds
use Rattle.tag_address.specs.declared.tags.TagWhy.{TagWhy}
use Rattle.tag_address.specs.declared.tags.TagWhy.TheVariants as whys
use Rattle.tag_address.specs.Places.{IsRefusedAt}

abbrev pub colon : ℕ
colon = 58

abbrev pub open_bracket : ℕ
open_bracket = 91

abbrev pub close_bracket : ℕ
close_bracket = 93

-- ---- the table

-- how a tag begins, by its area; no tag is of the other areas so far
abbrev pub area_text : Area → List ℕ
area_text Coil = codes "coil:"
area_text DiscreteInput = codes "discrete-input:"
area_text InputRegister = codes "input-register:"
area_text HoldingRegister = codes "holding-register:"
area_text S7Input = []
area_text S7Output = []
area_text S7Flag = []
area_text S7Block = []

abbrev pub type_text : PlcType → List ℕ
type_text types.Bool = codes "BOOL"
type_text types.Byte = codes "BYTE"
type_text types.Word = codes "WORD"
type_text types.Dword = codes "DWORD"
type_text types.Lword = codes "LWORD"
type_text types.Sint = codes "SINT"
type_text types.Usint = codes "USINT"
type_text types.Int = codes "INT"
type_text types.Uint = codes "UINT"
type_text types.Dint = codes "DINT"
type_text types.Udint = codes "UDINT"
type_text types.Lint = codes "LINT"
type_text types.Ulint = codes "ULINT"
type_text types.Real = codes "REAL"
type_text types.Lreal = codes "LREAL"

-- how many registers, or coils or inputs, a value of a type takes: 16 bits of it each, and one for a flag; 0 where no register holds one
abbrev pub width_of : PlcType → ℕ
width_of types.Bool = 1
width_of types.Byte = 0
width_of types.Word = 1
width_of types.Dword = 2
width_of types.Lword = 4
width_of types.Sint = 0
width_of types.Usint = 0
width_of types.Int = 1
width_of types.Uint = 1
width_of types.Dint = 2
width_of types.Udint = 2
width_of types.Lint = 4
width_of types.Ulint = 4
width_of types.Real = 2
width_of types.Lreal = 4

-- which types and counts an area has: flags where it has single bits; in registers whole values, or one flag
abbrev pub Holds : Area → PlcType → ℕ → Type 0
Holds Coil kind count = kind ≡ types.Bool
Holds DiscreteInput kind count = kind ≡ types.Bool
Holds InputRegister kind count = (0 < width_of kind) × (kind ≡ types.Bool → count ≡ 1)
Holds HoldingRegister kind count = (0 < width_of kind) × (kind ≡ types.Bool → count ≡ 1)
Holds S7Input kind count = ⊥
Holds S7Output kind count = ⊥
Holds S7Flag kind count = ⊥
Holds S7Block kind count = ⊥

-- an item of Modbus: its area holds it, and ends at or before 65,536
pub record IsModbusItem (item : Item) : Type 0 where
  pub holds : Holds item.area item.kind item.count
  pub some : 1 ≤ item.count
  pub most : item.count ≤ 65535
  pub ends : item.start + width_of item.kind * item.count ≤ 65536
  pub block : item.block ≡ 0
  pub bit : item.bit ≡ 0

-- ---- texts

-- a count in brackets, which may be left out where it is 1
abbrev pub in_brackets : ℕ → List ℕ
in_brackets count = open_bracket ∷ (decimal count ++ close_bracket ∷ [])

abbrev pub IsCount : ℕ → List ℕ → Type 0
IsCount count text = (text ≡ in_brackets count) ⊎ ((count ≡ 1) × (text ≡ []))

-- the area, the number, which counts from 1, the type, and what stands behind it
abbrev pub with_count : Item → List ℕ → List ℕ
with_count item count = area_text item.area ++ (decimal (item.start + 1) ++ (colon ∷ (type_text item.kind ++ count)))

pub record IsModbusTag (text : List ℕ) (item : Item) : Type 0 where
  pub item_is : IsModbusItem item
  pub count : List ℕ
  pub count_is : IsCount item.count count
  pub text_is : text ≡ with_count item count

-- the text is a tag of this kind, and names this item; S7 has no tags so far
abbrev pub IsTag : TagKind → List ℕ → Item → Type 0
IsTag kinds.Modbus text item = IsModbusTag text item
IsTag kinds.S7 text item = ⊥

-- the one text of an item that is printed: a count of 1 isn't written
abbrev pub printed : Item → List ℕ
printed item = with_count item (if item.count == 1 then [] else in_brackets item.count)

-- ---- faults

abbrev pub colons : List ℕ → ℕ
colons text = count_by (λ b. b == colon) text

abbrev pub brackets : List ℕ → ℕ
brackets text = count_by (λ b. b == open_bracket) text

-- The part of a tag to which a byte belongs that stands behind this front; before the front stand `before` colons and `opened`
-- opening brackets. Behind a whole tag it is the end; before the first colon and at it the area; before the second and at it the
-- number; then the type, and behind an opening bracket the count.
abbrev pub IsPart : {A : Type 0} → (List ℕ → A → Type 0) → (before opened : ℕ) → List ℕ → TagWhy → Type 0
IsPart {A} L before opened front whys.Area = before + colons front ≡ 0
IsPart {A} L before opened front whys.Number = before + colons front ≡ 1
IsPart {A} L before opened front whys.Bit = ⊥
IsPart {A} L before opened front whys.Type = (before + colons front ≡ 2) × (opened + brackets front ≡ 0) × ((value : A) → L front value → ⊥)
IsPart {A} L before opened front whys.Size = ⊥
IsPart {A} L before opened front whys.Count = (before + colons front ≡ 2) × (opened + brackets front ≡ 1) × ((value : A) → L front value → ⊥)
IsPart {A} L before opened front whys.End = (value : A) × L front value

-- The text is no tag of this kind: it leaves them at this place, in this part. A text that ends too early has its fault at its end.
pub record IsRefused (kind : TagKind) (text : List ℕ) (place : ℕ) (why : TagWhy) : Type 0 where
  pub at : IsRefusedAt (IsTag kind) text place
  pub early : place ≡ length text → why ≡ whys.End
  pub part : place < length text → IsPart (IsTag kind) 0 0 (take place text) why
