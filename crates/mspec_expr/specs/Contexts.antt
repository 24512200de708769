-- Where a reading stands, and what it gives.
use Rattle.std.specs.Prelude.{ℕ, zero, suc, ℤ, pos, ◌+◌, ◌-◌, ◌/◌, ◌%◌, ◌^◌, ◌==◌, ◌-ℤ◌, Bool, false, not, List, [], ◌∷◌, ◌++◌, length, take, drop, sum, fold, bit_xor, nat_lt, nat_le, Option, Some, None, if◌then◌else◌}
use Rattle.node_tree.specs.Bits.{big_number, little_number}
use Rattle.node_tree.specs.declared.nodes.Node.{Node}
use Rattle.node_tree.specs.declared.nodes.Node.TheVariants.{Num, Flag, Raw}
use Rattle.node_tree.specs.declared.readings.Span.{Span}
use Rattle.node_tree.specs.declared.faults.EvalFault.{EvalFault}
use Rattle.node_tree.specs.declared.faults.EvalFault.TheVariants as fault
use Rattle.node_tree.specs.declared.faults.ReadWhy.{ReadWhy}
use Rattle.node_tree.specs.declared.faults.ReadWhy.TheVariants.{TooLong, NullAccess, CastFails, EnumAttr}
use Rattle.mspec_tree.specs.declared.words.ByteOrder.{ByteOrder}
use Rattle.mspec_tree.specs.declared.words.ByteOrder.TheVariants.{Big, Little}
use Rattle.mspec_tree.specs.declared.words.Simple.{Simple}
use Rattle.mspec_tree.specs.declared.words.Simple.TheVariants.{Bit, Byte, Uint, Int, Float}
use Rattle.mspec_tree.specs.declared.exprs.Expr.{Expr}
use Rattle.mspec_tree.specs.declared.defs.Description.{Description}
use Rattle.mspec_expr.specs.declared.kinds.Meant.{Meant}
use Rattle.mspec_expr.specs.Counted.{Counted, done, fails, faulted, required, ◌>>=◌, ◌>>◌}
use Rattle.mspec_expr.specs.Kinds.{width}
use Rattle.mspec_expr.specs.Values.{Seen, Sight}
use Rattle.mspec_expr.specs.Sizes.{node_limit, bit_limit, kept_value}

-- why bits are no value: they end too early, or those from this bit on aren't of the type
pub data Fault : Type 0 where
  Short : Fault
  Bad : (bit : ℕ) (why : ReadWhy) → Fault

abbrev pub Outcome : Type 0 → Type 0
Outcome A = Counted A Fault

-- a part of a value: its node, the position behind its last bit, and the bits of its nodes in preorder
pub record Part : Type 0 where
  pub node : Node
  pub end : ℕ
  pub spans : List Span

-- Where a reading stands: all bits, the position in them, and how many nodes of the value were begun. Of the type that is read:
-- its first bit, its last-item mark, its order of bytes, and the names that its expressions see. Of the group or list that is
-- open: its case, its entries, and the spans of these.
pub record Context : Type 0 where
  pub bits : List Bool
  pub position : ℕ
  pub nodes : ℕ
  pub first : ℕ
  pub last : Bool
  pub order : Option ByteOrder
  pub names : List Seen
  pub case : ℕ
  pub entries : List Node
  pub spans : List Span

-- at the first of all bits
abbrev pub at_start : List Bool → Context
at_start bits = record {
  bits = bits;
  position = 0;
  nodes = 0;
  first = 0;
  last = false;
  order = None;
  names = [];
  case = 0;
  entries = [];
  spans = [];
}

abbrev pub span : (from to : ℕ) → Span
span from to = record { from = from; to = to }

-- a fault at the position
abbrev pub bad : {A : Type 0} → Context → ReadWhy → Outcome A
bad context why = fails (Bad context.position why)

abbrev pub must : Bool → Context → ReadWhy → Outcome (Unit {0})
must holds context why = required holds (Bad context.position why)

-- ---- what an expression sees

-- the whole bytes at the front of bits
abbrev pub whole_bytes : ℕ → List Bool → List ℕ
whole_bytes zero bits = []
whole_bytes (suc bytes) bits = big_number (take 8 bits) ∷ whole_bytes bytes (drop 8 bits)

-- the whole bytes from the type's first bit to the position
abbrev pub bytes_before : Context → List ℕ
bytes_before context = whole_bytes ((context.position - context.first) / 8) (drop context.first context.bits)

abbrev pub sight : Context → Sight
sight context = record {
  names = context.names;
  position = context.position;
  first = context.first;
  length = 0;
  last = context.last;
  sum = 0;
  xor = 0;
}

-- a checksum's expression sees the sums too
abbrev pub sight_with_sums : Context → Sight
sight_with_sums context = record (sight context) {
  sum = sum (bytes_before context);
  xor = fold bit_xor 0 (bytes_before context);
}

abbrev pub read_why : EvalFault → ReadWhy
read_why fault.NullAccess = NullAccess
read_why fault.CastFails = CastFails
read_why fault.EnumAttr = EnumAttr

-- a number that leaves the widest range, on the way too, is the fault of an entry that isn't there
abbrev pub evaluated : Description → Expr → Sight → Context → Outcome ℤ
evaluated d e seen context = faulted (λ f. Bad context.position (read_why f)) (kept_value d e seen)

-- ---- numbers

-- the number that bits spell in this order of bytes
abbrev pub spelled : ByteOrder → List Bool → ℕ
spelled Big bits = big_number bits
spelled Little bits = little_number bits

-- a number's order of bytes: its field's own, else its definition's where its bits are whole bytes, else the most significant
-- byte first
abbrev pub number_order : (own above : Option ByteOrder) (width : ℕ) → ByteOrder
number_order (Some order) above width = order
number_order None (Some order) width = if width % 8 == 0 then order else Big
number_order None None width = Big

-- in two's complement
abbrev pub signed_number : (width number : ℕ) → ℤ
signed_number width number = if nat_lt number (2 ^ (width - 1)) then pos number else pos number -ℤ pos (2 ^ width)

-- the node of the number of this type that bits spell
abbrev pub spelled_node : Simple → ℕ → Node
spelled_node Bit number = Flag (not (number == 0))
spelled_node Byte number = Num (pos number)
spelled_node (Uint width) number = Num (pos number)
spelled_node (Int width) number = Num (signed_number width number)
spelled_node (Float width) number = Raw number width

-- so many bits at the position
abbrev pub bits_at : (width : ℕ) → Context → Outcome (List Bool)
bits_at width context = do
  must (nat_le (context.position + width) bit_limit) context TooLong
  required (nat_le (context.position + width) (length context.bits)) Short
  done (take width (drop context.position context.bits))

-- a node begins at the position
abbrev pub begun : Context → Outcome Context
begun context =
    must (nat_lt context.nodes node_limit) context TooLong >> done (record context { nodes = context.nodes + 1 })

-- the number of this type at the position, by its field's own order of bytes
abbrev pub number_read : (own : Option ByteOrder) → Simple → Context → Outcome Part
number_read own simple context = do
  begun context
  bits ← bits_at (width simple) context
  done (record {
    node = spelled_node simple (spelled (number_order own context.order (width simple)) bits);
    end = context.position + width simple;
    spans = span context.position (context.position + width simple) ∷ [];
  })

-- an entry that has no bits
abbrev pub bitless : Node → Context → Outcome Part
bitless node context = do
  begun context
  done (record { node = node; end = context.position; spans = span context.position context.position ∷ [] })

-- ---- groups and lists

-- behind a part, which becomes an entry
abbrev pub behind : Part → Context → Context
behind part context = record context {
  position = part.end;
  nodes = context.nodes + length part.spans;
  entries = context.entries ++ part.node ∷ [];
  spans = context.spans ++ part.spans;
}

abbrev pub seen_too : (name : List ℕ) → Meant → Node → Context → Context
seen_too name meant node context =
    record context { names = record { name = name; meant = meant; node = node } ∷ context.names }

-- a list begins
abbrev pub opened : Context → Outcome Context
opened context = begun context >>= (λ at. done (record at { entries = []; spans = [] }))

-- a group or list that began at this bit ends
abbrev pub closed : (from : ℕ) → (List Node → Node) → Context → Part
closed from made context = record {
  node = made context.entries;
  end = context.position;
  spans = span from context.position ∷ context.spans;
}
