-- What bits mean by a description: a clause for each kind of field, over the syntax tree and all bits of the
-- value. So far the simple fields of unsigned numbers have theirs. These give numbers also for widths outside 1 to 64, and for a
-- little order of no whole bytes: no description has such fields, and the calls ask for `CanRead`, which leaves them out.
use Rattle.std.specs.Prelude.{ℕ, ℤ, pos, ◌≡◌, ◌+◌, ◌%◌, ◌==◌, ◌⊎◌, Bool, List, [], ◌∷◌, length, take, drop, map, Option, Some, None, Result, Ok, Err, nat_lt, if◌then◌else◌, slice_get}
use Rattle.std.specs.List.{flat_map}
use Rattle.node_tree.specs.Bits.{big_number, little_number}
use Rattle.node_tree.specs.declared.nodes.Node.{Node}
use Rattle.node_tree.specs.declared.nodes.Node.TheVariants.{Num, Group}
use Rattle.node_tree.specs.declared.readings.Reading.{Reading}
use Rattle.node_tree.specs.declared.readings.Span.{Span}
use Rattle.node_tree.specs.declared.faults.ReadWhy.{ReadWhy}
use Rattle.node_tree.specs.declared.faults.ReadWhy.TheVariants.{TooLong}
use Rattle.mspec_tree.specs.declared.words.ByteOrder.{ByteOrder}
use Rattle.mspec_tree.specs.declared.words.ByteOrder.TheVariants.{Big, Little}
use Rattle.mspec_tree.specs.declared.words.Simple.TheVariants.{Uint}
use Rattle.mspec_tree.specs.declared.exprs.Ref.TheVariants.{Plain}
use Rattle.mspec_tree.specs.declared.fields.Field.{Field, out-Field}
use Rattle.mspec_tree.specs.declared.fields.Body.{Body, out-Body}
use Rattle.mspec_tree.specs.declared.fields.Body.TheOpen.{Body-F, Simple}
use Rattle.mspec_tree.specs.declared.fields.Case.{Case}
use Rattle.mspec_tree.specs.declared.defs.Def.{Def}
use Rattle.mspec_tree.specs.declared.defs.DefBody.{DefBody}
use Rattle.mspec_tree.specs.declared.defs.DefBody.TheVariants.{Plain as PlainFields}
use Rattle.mspec_tree.specs.declared.defs.Description.{Description}

-- why there is no value: its bits end too early, or those from this bit on aren't of the type
pub data Fault : Type 0 where
  Short : Fault
  Bad : (bit : ℕ) (why : ReadWhy) → Fault

-- a part of a value: its node, the position behind its last bit, and the bits of its nodes in preorder
pub record Part : Type 0 where
  pub node : Node
  pub end : ℕ
  pub spans : List Span

-- no value's number ends past this bit
abbrev pub bit_limit : ℕ
bit_limit = 524280

-- the number that bits spell in this order of bytes
abbrev pub number : ByteOrder → List Bool → ℕ
number Big bits = big_number bits
number Little bits = little_number bits

-- a number of so many bits at this position, as a part
abbrev pub number_part : (value width at : ℕ) → Part
number_part value width at =
    record { node = Num (pos value); end = at + width; spans = record { from = at; to = at + width } ∷ [] }

-- an unsigned number of so many bits at this position of the value
abbrev pub number_read : ByteOrder → (width at : ℕ) → List Bool → Result Part Fault
number_read order width at bits =
    if nat_lt bit_limit (at + width)
    then Err (Bad at TooLong)
    else if nat_lt (length bits) (at + width)
    then Err Short
    else Ok (number_part (number order (take width (drop at bits))) width at)

-- the order of bytes of a field of so many bits: its own, else its definition's where the bits are whole bytes,
-- else the most significant byte first
abbrev pub order_of : (own above : Option ByteOrder) (width : ℕ) → ByteOrder
order_of (Some order) above width = order
order_of None (Some order) width = if width % 8 == 0 then order else Big
order_of None None width = Big

-- what stands in a field at this position of the value, by the orders of bytes of the field and of its definition
abbrev pub BodyReads : Body-F Body Case Field → (own above : Option ByteOrder) → (at : ℕ) → List Bool → Result Part Fault → Type 0
BodyReads (Simple (Plain (Uint width))) own above at bits outcome =
    outcome ≡ number_read (order_of own above width) width at bits
BodyReads other own above at bits outcome = ⊥

abbrev pub FieldReads : Option ByteOrder → Field → (at : ℕ) → List Bool → Result Part Fault → Type 0
FieldReads above field at bits outcome =
    BodyReads (out-Body (out-Field field).body) (out-Field field).order above at bits outcome

-- fields one after another from this position on, up to the first that isn't there
abbrev pub FieldsRead : Option ByteOrder → List Field → (at : ℕ) → List Bool → Result (List Part) Fault → Type 0
FieldsRead above [] at bits outcome = outcome ≡ Ok []
FieldsRead above (field ∷ fields) at bits (Ok []) = ⊥
FieldsRead above (field ∷ fields) at bits (Ok (part ∷ parts)) =
    FieldReads above field at bits (Ok part) × FieldsRead above fields part.end bits (Ok parts)
FieldsRead above (field ∷ fields) at bits (Err fault) =
    FieldReads above field at bits (Err fault)
    ⊎ ((part : Part) × FieldReads above field at bits (Ok part) × FieldsRead above fields part.end bits (Err fault))

-- the position behind parts that begin at this one
abbrev pub end_of : (at : ℕ) → List Part → ℕ
end_of at [] = at
end_of at (part ∷ parts) = end_of part.end parts

-- the reading of a type whose fields have these parts
abbrev pub group_of : List Part → Reading
group_of parts = record {
  node = Group 0 (map (λ part. part.node) parts);
  bits = end_of 0 parts;
  spans = record { from = 0; to = end_of 0 parts } ∷ flat_map (λ part. part.spans) parts;
}

-- a type's value at the front of the bits, or why there is none
abbrev pub DefReads : Option ByteOrder → DefBody → List Bool → Result Reading Fault → Type 0
DefReads order (PlainFields fields) bits (Ok reading) =
    (parts : List Part) × FieldsRead order fields 0 bits (Ok parts) × (reading ≡ group_of parts)
DefReads order (PlainFields fields) bits (Err fault) = FieldsRead order fields 0 bits (Err fault)
DefReads order other bits outcome = ⊥

-- the value of the definition at this place with these arguments, at the front of the bits. So far a definition
-- with parameters has none, and arguments have no meaning.
abbrev pub Reads : Description → (def : ℕ) → (args : List ℤ) → List Bool → Result Reading Fault → Type 0
Reads d def args bits outcome =
    (found : Def)
    × (slice_get d.defs def ≡ Some found)
    × (found.params ≡ [])
    × (args ≡ [])
    × DefReads found.order found.body bits outcome
