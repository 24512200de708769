-- What bits mean by a description: a clause for each kind of field. A group's own fields stand one after another; its parts that
-- are groups again are read one level deeper.
use Rattle.std.specs.Prelude.{ℕ, zero, suc, ℤ, pos, negsuc, ◌+◌, ◌*◌, ◌==◌, Bool, true, false, List, [], ◌∷◌, find, bytes_eq, nat_lt, nat_le, Option, Some, None, Result}
use Rattle.std.specs.Ordering.{int_eq}
use Rattle.node_tree.specs.Bits.{big_number}
use Rattle.node_tree.specs.declared.nodes.Node.{out-Node}
use Rattle.node_tree.specs.declared.nodes.Node.TheVariants.{Absent, Blob, Group, List as ListNode}
use Rattle.node_tree.specs.declared.readings.Reading.{Reading}
use Rattle.node_tree.specs.declared.faults.ReadWhy.{ReadWhy}
use Rattle.node_tree.specs.declared.faults.ReadWhy.TheVariants.{ConstMismatch, NoCase, CountRange, LengthOverrun, ZeroItem, ValueRange, ChecksumMismatch, TooDeep}
use Rattle.mspec_tree.specs.declared.words.ByteOrder.{ByteOrder}
use Rattle.mspec_tree.specs.declared.words.Key.{Key}
use Rattle.mspec_tree.specs.declared.words.Key.TheVariants.{Any, Lit as LitKey, Constant as ConstantKey}
use Rattle.mspec_tree.specs.declared.words.Lit.{Lit}
use Rattle.mspec_tree.specs.declared.words.Simple.{Simple}
use Rattle.mspec_tree.specs.declared.words.Simple.TheVariants.{Byte}
use Rattle.mspec_tree.specs.declared.exprs.Expr.{Expr}
use Rattle.mspec_tree.specs.declared.exprs.Ref.{Ref}
use Rattle.mspec_tree.specs.declared.exprs.Ref.TheVariants.{Plain, Named}
use Rattle.mspec_tree.specs.declared.fields.Field.{Field, out-Field}
use Rattle.mspec_tree.specs.declared.fields.Body.TheOpen.{Body-F}
use Rattle.mspec_tree.specs.declared.fields.Case.{Case, out-Case}
use Rattle.mspec_tree.specs.declared.defs.Constant.{Constant}
use Rattle.mspec_tree.specs.declared.defs.Param.{Param}
use Rattle.mspec_tree.specs.declared.defs.Description.{Description}
use Rattle.mspec_expr.specs.declared.kinds.Meant.TheVariants.{EnumOf}
use Rattle.mspec_expr.specs.Counted.{done, counted, faulted, in_turn, ◌>>=◌, ◌>>◌}
use Rattle.mspec_expr.specs.declared.kinds.Target.{Target}
use Rattle.mspec_expr.specs.declared.kinds.Target.TheVariants.{Enum as EnumTarget, Group as GroupTarget}
use Rattle.mspec_expr.specs.Kinds.{target_named, BodyLayer, layer, literal, of_kind, kind_node, ref_meant, field_meant, fields_of, constants_of, params_of, order_of, case_fields, number_is}
use Rattle.mspec_expr.specs.Values.{Thing, Entry, Seen, Worth, named, thing_number}
use Rattle.mspec_expr.specs.Sizes.{count_limit, depth_limit}
use Rattle.mspec_expr.specs.Contexts.{Fault, Bad, Outcome, Part, Context, at_start, bad, must, sight, sight_with_sums, read_why, evaluated, bits_at, begun, number_read, bitless, behind, seen_too, opened, closed, span}

-- ---- arguments

-- each is evaluated, and tested against its parameter, before the next
abbrev pub arguments : Description → List Expr → List Param → Context → Outcome (List ℤ)
arguments d (arg ∷ args) (param ∷ params) context = do
  number ← evaluated d arg (sight context) context
  must (of_kind d param.kind number) context ValueRange
  numbers ← arguments d args params context
  done (number ∷ numbers)
arguments d args params context = done []

-- the parameters, as names that are seen
abbrev pub params_seen : Description → List Param → List ℤ → List Seen
params_seen d (param ∷ params) (arg ∷ args) =
    record { name = param.name; meant = ref_meant d param.kind; node = kind_node d param.kind arg }
    ∷ params_seen d params args
params_seen d params args = []

-- ---- a value of a type

-- the value of the definition at a place, with these arguments and this last-item mark, at the position
abbrev pub Groups : Type 0
Groups = (def : ℕ) → (args : List ℤ) → (last : Bool) → Context → Outcome Part

abbrev pub target_read : Description → Groups → (own : Option ByteOrder) → List Expr → (last : Bool) → Target → Context → Outcome Part
target_read d groups own args last (EnumTarget def base) context = number_read own base context
target_read d groups own args last (GroupTarget def) context =
    arguments d args (params_of d def) context >>= (λ numbers. groups def numbers last context)

abbrev pub value_read : Description → Groups → (own : Option ByteOrder) → Ref → (last : Bool) → Context → Outcome Part
value_read d groups own (Plain simple) last context = number_read own simple context
value_read d groups own (Named place name args) last context =
    target_read d groups own args last (target_named d name) context

-- ---- arrays

-- a number of items or of bytes
abbrev pub in_count_range : ℤ → Context → Outcome ℕ
in_count_range (pos n) context = must (nat_le n count_limit) context CountRange >> done n
in_count_range (negsuc n) context = bad context CountRange

abbrev pub count_read : Description → Expr → Context → Outcome ℕ
count_read d count context = evaluated d count (sight context) context >>= (λ n. in_count_range n context)

-- an item, by its last-item mark
abbrev pub Items : Type 0
Items = (last : Bool) → Context → Outcome Part

abbrev pub has_bits : Context → Part → Outcome (Unit {0})
has_bits context item = must (nat_lt context.position item.end) context ZeroItem

-- so many items; the last one has the last-item mark
abbrev pub items_by_count : Items → (left : ℕ) → Context → Outcome Context
items_by_count items zero context = done context
items_by_count items (suc left) context = counted 1 (do
  item ← items (left == 0) context
  has_bits context item
  items_by_count items left (behind item context))

-- nothing more where the end is reached
abbrev pub unless : Bool → (Context → Outcome Context) → Context → Outcome Context
unless true more context = done context
unless false more context = more context

-- items up to this bit, in as many bits as are left at most
abbrev pub items_by_length : Items → (end left : ℕ) → Context → Outcome Context
items_by_length items end zero context = done context
items_by_length items end (suc left) context = unless (context.position == end) (λ at. counted 1 (do
  item ← items false at
  must (nat_le item.end end) at LengthOverrun
  has_bits at item
  items_by_length items end left (behind item at))) context

-- so many bytes
abbrev pub bytes_read : (left : ℕ) → Context → Outcome (List ℕ)
bytes_read zero context = done []
bytes_read (suc left) context = counted 1 (do
  bits ← bits_at 8 context
  bytes ← bytes_read left (record context { position = context.position + 8 })
  done (big_number bits ∷ bytes))

abbrev pub blob_read : (bytes : ℕ) → Context → Outcome Part
blob_read n context = do
  at ← begun context
  bytes ← bytes_read n at
  done (record {
    node = Blob bytes;
    end = context.position + 8 * n;
    spans = span context.position (context.position + 8 * n) ∷ [];
  })

abbrev pub list_by_count : Items → (count : ℕ) → Context → Outcome Part
list_by_count items n context = do
  at ← opened context
  end ← items_by_count items n at
  done (closed context.position ListNode end)

abbrev pub list_by_length : Items → (bytes : ℕ) → Context → Outcome Part
list_by_length items n context = do
  at ← opened context
  end ← items_by_length items (context.position + 8 * n) (8 * n) at
  done (closed context.position ListNode end)

abbrev pub array_by_count : Description → Groups → (own : Option ByteOrder) → Ref → (count : ℕ) → Context → Outcome Part
array_by_count d groups own (Plain Byte) n context = blob_read n context
array_by_count d groups own kind n context = list_by_count (value_read d groups own kind) n context

abbrev pub array_by_length : Description → Groups → (own : Option ByteOrder) → Ref → (bytes : ℕ) → Context → Outcome Part
array_by_length d groups own (Plain Byte) n context = blob_read n context
array_by_length d groups own kind n context = list_by_length (value_read d groups own kind) n context

-- ---- the kinds of fields

-- a number that must be this one
abbrev pub must_be : ℤ → Context → ReadWhy → Part → Outcome Part
must_be number context why part = must (number_is number (out-Node part.node)) context why >> done part

abbrev pub const_read : (own : Option ByteOrder) → Simple → Lit → Context → Outcome Part
const_read own simple value context = number_read own simple context >>= must_be (literal value) context ConstMismatch

abbrev pub virtual_read : Description → Ref → Expr → Context → Outcome Part
virtual_read d kind value context = do
  number ← evaluated d value (sight context) context
  must (of_kind d kind number) context ValueRange
  bitless (kind_node d kind number) context

-- a value, or none
abbrev pub present_read : Description → Groups → (own : Option ByteOrder) → Ref → (absent : Bool) → Context → Outcome Part
present_read d groups own kind true context = bitless Absent context
present_read d groups own kind false context = value_read d groups own kind false context

abbrev pub optional_read : Description → Groups → (own : Option ByteOrder) → Ref → Expr → Context → Outcome Part
optional_read d groups own kind condition context = do
  holds ← evaluated d condition (sight context) context
  present_read d groups own kind (int_eq holds (pos 0)) context

abbrev pub checksum_read : Description → (own : Option ByteOrder) → Simple → Expr → Context → Outcome Part
checksum_read d own simple value context = do
  number ← evaluated d value (sight_with_sums context) context
  part ← number_read own simple context
  must_be number context ChecksumMismatch part

abbrev pub padding_read : Description → (own : Option ByteOrder) → Simple → Expr → Context → Outcome Part
padding_read d own simple count context =
    count_read d count context >>= (λ n. list_by_count (λ last. number_read own simple) n context)

-- a field's value at the position. A switch isn't one: its case's fields are.
abbrev pub body_read : Description → Groups → (own : Option ByteOrder) → BodyLayer → Context → Outcome Part
body_read d groups own (Body-F.Simple kind) context = value_read d groups own kind false context
body_read d groups own (Body-F.Discriminator kind) context = value_read d groups own kind false context
body_read d groups own (Body-F.Const simple value) context = const_read own simple value context
body_read d groups own (Body-F.Reserved simple value) context = number_read own simple context
body_read d groups own (Body-F.Implicit kind value) context = value_read d groups own kind false context
body_read d groups own (Body-F.Virtual kind value) context = virtual_read d kind value context
body_read d groups own (Body-F.Optional kind condition) context = optional_read d groups own kind condition context
body_read d groups own (Body-F.Checksum simple value) context = checksum_read d own simple value context
body_read d groups own (Body-F.Padding simple value count) context = padding_read d own simple count context
body_read d groups own (Body-F.CountArray kind count) context =
    count_read d count context >>= (λ n. array_by_count d groups own kind n context)
body_read d groups own (Body-F.LengthArray kind bytes) context =
    count_read d bytes context >>= (λ n. array_by_length d groups own kind n context)
body_read d groups own (Body-F.Switch names cases) context = bad context NoCase

-- ---- a switch

-- the number of an enum's constant
abbrev pub constant_is : ℤ → Option Constant → Bool
constant_is number (Some constant) = int_eq number (literal constant.value)
constant_is number None = false

abbrev pub key_fits : Description → Key → Thing → Worth Bool
key_fits d Any thing = done true
key_fits d (LitKey value) thing = thing_number thing >>= (λ number. done (int_eq number (literal value)))
key_fits d (ConstantKey name) (Entry (EnumOf def) node) = thing_number (Entry (EnumOf def) node) >>= (λ number.
    done (constant_is number (find (λ constant. bytes_eq constant.name name) (constants_of d def))))
key_fits d (ConstantKey name) thing = done false

-- a name's number is wanted only where a key other than `*` is reached; keys behind one that doesn't fit aren't looked at
abbrev pub keys_fit : Description → List Key → (names : List (List ℕ)) → List Seen → Worth Bool
keys_fit d (key ∷ keys) (name ∷ names) seen = counted 1 (do
  thing ← named d name seen
  fits ← key_fits d key thing
  elim fits [ true ↦ keys_fit d keys names seen | false ↦ done false ])
keys_fit d keys names seen = done true

-- the number of the first case that fits, from this one on
abbrev pub first_case : Description → (names : List (List ℕ)) → List Seen → (number : ℕ) → List Case → Worth (Option ℕ)
first_case d names seen number [] = done None
first_case d names seen number (case ∷ cases) = counted 1 (do
  fits ← keys_fit d (out-Case case).keys names seen
  elim fits [ true ↦ done (Some number) | false ↦ first_case d names seen (number + 1) cases ])

abbrev pub case_or_none : Context → Option ℕ → Outcome ℕ
case_or_none context (Some number) = done number
case_or_none context None = bad context NoCase

abbrev pub case_read : Description → (names : List (List ℕ)) → List Case → Context → Outcome ℕ
case_read d names cases context =
    faulted (λ f. Bad context.position (read_why f)) (first_case d names context.names 1 cases) >>= case_or_none context

-- ---- fields, one after another

abbrev pub field_read : Description → Groups → Field → Context → Outcome Context
field_read d groups field context = counted 1 (do
  part ← body_read d groups (out-Field field).order (layer field) context
  done (seen_too (out-Field field).name (field_meant d field) part.node (behind part context)))

-- behind a switch its case's fields aren't seen
abbrev pub switch_read : Description → Groups → (names : List (List ℕ)) → List Case → Context → Outcome Context
switch_read d groups names cases context = counted 1 (do
  case ← case_read d names cases context
  end ← in_turn (field_read d groups) (case_fields case cases) context
  done (record end { case = case; names = context.names }))

abbrev pub any_field_read : Description → Groups → Field → BodyLayer → Context → Outcome Context
any_field_read d groups field (Body-F.Switch names cases) context = switch_read d groups names cases context
any_field_read d groups field other context = field_read d groups field context

-- ---- groups

-- a group of the definition at a place begins
abbrev pub group_begun : Description → (def : ℕ) → (args : List ℤ) → (last : Bool) → Context → Context
group_begun d def args last at = record at {
  first = at.position;
  last = last;
  order = order_of d def;
  names = params_seen d (params_of d def) args;
  case = 0;
  entries = [];
  spans = [];
}

abbrev pub group_read : Description → Groups → Groups
group_read d groups def args last context = do
  at ← begun context
  end ← in_turn (λ field. any_field_read d groups field (layer field)) (fields_of d def) (group_begun d def args last at)
  done (closed context.position (Group end.case) end)

-- groups in one another to this depth
abbrev pub read_to : (depth : ℕ) → Description → Groups
read_to zero d def args last context = begun context >>= (λ at. bad at TooDeep)
read_to (suc depth) d def args last context = group_read d (read_to depth d) def args last context

-- ---- the whole value

abbrev pub whole : Part → Reading
whole part = record { node = part.node; bits = part.end; spans = part.spans }

-- the value of the definition at a place with these arguments, at the front of the bits, and the parts used
abbrev pub reading : Description → (def : ℕ) → (args : List ℤ) → List Bool → Outcome Reading
reading d def args bits = read_to depth_limit d def args false (at_start bits) >>= (λ part. done (whole part))

-- what the bits are: a reading, or why there is none
abbrev pub reads : Description → (def : ℕ) → (args : List ℤ) → List Bool → Result Reading Fault
reads d def args bits = (reading d def args bits).outcome
