-- Where a writing stands, and what it gives.
use Rattle.std.specs.Prelude.{ℕ, ℤ, pos, ◌+◌, ◌-◌, ◌/◌, ◌^◌, Bool, false, List, [], ◌∷◌, ◌++◌, length, drop, sum, fold, bit_xor, unsigned_abs, Option, None}
use Rattle.std.specs.Int.{int_rem_euclid}
use Rattle.node_tree.specs.Bits.{digit, number_bits, groups_reversed}
use Rattle.node_tree.specs.declared.nodes.Node.{Node, out-Node}
use Rattle.node_tree.specs.declared.nodes.Node.TheOpen.{Node-F}
use Rattle.node_tree.specs.declared.faults.WriteWhy.{WriteWhy}
use Rattle.node_tree.specs.declared.faults.WriteWhy.TheVariants.{Eval}
use Rattle.mspec_tree.specs.declared.words.ByteOrder.{ByteOrder}
use Rattle.mspec_tree.specs.declared.words.ByteOrder.TheVariants.{Big, Little}
use Rattle.mspec_tree.specs.declared.words.Simple.{Simple}
use Rattle.mspec_tree.specs.declared.exprs.Expr.{Expr}
use Rattle.mspec_tree.specs.declared.defs.Description.{Description}
use Rattle.mspec_expr.specs.Counted.{Counted, fails, faulted, required}
use Rattle.mspec_expr.specs.Kinds.{width}
use Rattle.mspec_expr.specs.Values.{NodeLayer, Seen, Sight}
use Rattle.mspec_expr.specs.Sizes.{kept_value}
use Rattle.mspec_expr.specs.Contexts.{number_order, whole_bytes}

-- why a node isn't written: the entry with this number in preorder
pub data Refusal : Type 0 where
  At : (entry : ℕ) (why : WriteWhy) → Refusal

abbrev pub Writing : Type 0 → Type 0
Writing A = Counted A Refusal

-- what an entry became: its bits, itself with all that was unset filled in, and how many nodes were given for it
pub record Piece : Type 0 where
  pub bits : List Bool
  pub filled : Node
  pub nodes : ℕ

-- Where a writing stands: the bits that were written, and the number of the next entry. Of the type that is written: its first bit,
-- its last-item mark, its order of bytes, its length in bytes; the filled entries that its expressions see, and what its implicit
-- expressions see in place of these: the consts so far, and the entries that were given. Of the group or list that is open: its own
-- number, the entries that are left, and the filled ones.
pub record Desk : Type 0 where
  pub bits : List Bool
  pub entry : ℕ
  pub first : ℕ
  pub last : Bool
  pub order : Option ByteOrder
  pub length : ℕ
  pub names : List Seen
  pub consts : List Seen
  pub given : List Seen
  pub group : ℕ
  pub left : List Node
  pub filled : List Node

-- before anything is written
abbrev pub at_start : Desk
at_start = record {
  bits = [];
  entry = 0;
  first = 0;
  last = false;
  order = None;
  length = 0;
  names = [];
  consts = [];
  given = [];
  group = 0;
  left = [];
  filled = [];
}

-- a refusal of the next entry
abbrev pub refused : {A : Type 0} → Desk → WriteWhy → Writing A
refused desk why = fails (At desk.entry why)

abbrev pub must : Bool → Desk → WriteWhy → Writing (Unit {0})
must holds desk why = required holds (At desk.entry why)

-- ---- what an expression sees

abbrev pub position : Desk → ℕ
position desk = length desk.bits

abbrev pub sight_of : List Seen → Desk → Sight
sight_of names desk = record {
  names = names;
  position = position desk;
  first = desk.first;
  length = 0;
  last = desk.last;
  sum = 0;
  xor = 0;
}

abbrev pub sight : Desk → Sight
sight desk = sight_of desk.names desk

-- an implicit expression sees what was given, and the length of the whole
abbrev pub implicit_sight : Desk → Sight
implicit_sight desk = record (sight_of (desk.consts ++ desk.given) desk) { length = desk.length }

-- the whole bytes that were written since the type's first bit
abbrev pub bytes_written : Desk → List ℕ
bytes_written desk = whole_bytes ((position desk - desk.first) / 8) (drop desk.first desk.bits)

-- a checksum's expression sees their sums too
abbrev pub sight_with_sums : Desk → Sight
sight_with_sums desk = record (sight desk) {
  sum = sum (bytes_written desk);
  xor = fold bit_xor 0 (bytes_written desk);
}

-- a number that leaves the widest range, on the way too, is the fault of an entry that isn't there
abbrev pub evaluated : Description → Expr → Sight → Desk → Writing ℤ
evaluated d e seen desk = faulted (λ f. At desk.entry (Eval f)) (kept_value d e seen)

-- ---- numbers

-- a number that bits of this width spell: a negative one in two's complement
abbrev pub unsigned : (width : ℕ) → ℤ → ℕ
unsigned width number = unsigned_abs (int_rem_euclid number (pos (2 ^ width)))

abbrev pub node_number : (width : ℕ) → NodeLayer → ℕ
node_number width (Node-F.Num number) = unsigned width number
node_number width (Node-F.Flag flag) = digit flag
node_number width (Node-F.Raw bits raw) = bits
node_number width other = 0

-- the bits that spell a number in this order of bytes
abbrev pub spelt : ByteOrder → (width number : ℕ) → List Bool
spelt Big width number = number_bits width number
spelt Little width number = groups_reversed (number_bits width number)

-- a node of this type, that is no longer unset
abbrev pub number_written : (own : Option ByteOrder) → Simple → Node → Desk → Piece
number_written own simple node desk = record {
  bits = spelt (number_order own desk.order (width simple)) (width simple) (node_number (width simple) (out-Node node));
  filled = node;
  nodes = 1;
}

-- an entry without bits
abbrev pub bitless : Node → Piece
bitless node = record { bits = []; filled = node; nodes = 1 }

-- behind an entry
abbrev pub behind : Piece → Desk → Desk
behind piece desk = record desk {
  bits = desk.bits ++ piece.bits;
  entry = desk.entry + piece.nodes;
  filled = desk.filled ++ piece.filled ∷ [];
}
