-- What a node is as bits, by a description: a clause for each kind of field. A group's fields are written one after another, as they
-- are read. All that can be refused without writing is refused first, each cause for the whole node before the next.
use Rattle.std.specs.Prelude.{ℕ, zero, suc, ℤ, pos, negsuc, ◌+◌, ◌-◌, ◌*◌, ◌%◌, ◌==◌, ◌&&◌, ◌||◌, Bool, true, false, not, List, [], ◌∷◌, ◌++◌, length, take, drop, replicate, nat_lt, nat_le, Option, Some, None, Result}
use Rattle.std.specs.List.{flat_map}
use Rattle.std.specs.Ordering.{int_eq}
use Rattle.node_tree.specs.Bits.{bits_of}
use Rattle.node_tree.specs.declared.nodes.Node.{Node, out-Node}
use Rattle.node_tree.specs.declared.nodes.Node.TheOpen.{Node-F}
use Rattle.node_tree.specs.declared.nodes.Node.TheVariants.{Group, List as ListNode}
use Rattle.node_tree.specs.declared.faults.WriteWhy.{WriteWhy}
use Rattle.node_tree.specs.declared.faults.WriteWhy.TheVariants.{LocalDisagrees, CountDisagrees, CaseDisagrees, ValueRange, Shape, ZeroItem, Eval, Unaligned, TooLong, TooDeep}
use Rattle.mspec_tree.specs.declared.words.ByteOrder.{ByteOrder}
use Rattle.mspec_tree.specs.declared.words.Lit.{Lit}
use Rattle.mspec_tree.specs.declared.words.Simple.{Simple}
use Rattle.mspec_tree.specs.declared.words.Simple.TheVariants.{Byte}
use Rattle.mspec_tree.specs.declared.exprs.Expr.{Expr}
use Rattle.mspec_tree.specs.declared.exprs.Ref.{Ref}
use Rattle.mspec_tree.specs.declared.exprs.Ref.TheVariants.{Plain, Named}
use Rattle.mspec_tree.specs.declared.fields.Field.{Field, out-Field}
use Rattle.mspec_tree.specs.declared.fields.Body.TheOpen.{Body-F}
use Rattle.mspec_tree.specs.declared.fields.Case.{Case}
use Rattle.mspec_tree.specs.declared.defs.Param.{Param}
use Rattle.mspec_tree.specs.declared.defs.Description.{Description}
use Rattle.mspec_expr.specs.Counted.{done, fails, counted, faulted, required, in_turn, ◌>>=◌, ◌>>◌}
use Rattle.mspec_expr.specs.declared.kinds.Target.{Target}
use Rattle.mspec_expr.specs.declared.kinds.Target.TheVariants.{Enum as EnumTarget, Group as GroupTarget}
use Rattle.mspec_expr.specs.Kinds.{target_named, BodyLayer, layer, literal, literal_node, number_node, ref_simple, of_type, of_kind, kind_node, field_meant, items_meant, fields_of, params_of, order_of, case_fields, number_is}
use Rattle.mspec_expr.specs.Values.{NodeLayer, Seen, bytes_over, is_absent}
use Rattle.mspec_expr.specs.Sizes.{Measure, measure, entry_bits, node_limit, bit_limit, count_limit, depth_limit}
use Rattle.mspec_expr.specs.Reads.{params_seen, first_case}
use Rattle.mspec_expr.specs.Visits.{Visit, visits, nodes_in, has_wrong_form, has_wrong_number, is_too_deep, first_entry}
use Rattle.mspec_expr.specs.Desks.{Refusal, At, Writing, Piece, Desk, at_start, position, refused, must, sight, implicit_sight, sight_with_sums, evaluated, number_written, bitless, behind}

-- ---- arguments

-- each is evaluated, and tested against its parameter, before the next
abbrev pub arguments : Description → List Expr → List Param → Desk → Writing (List ℤ)
arguments d (arg ∷ args) (param ∷ params) desk = do
  number ← evaluated d arg (sight desk) desk
  must (of_kind d param.kind number) desk ValueRange
  numbers ← arguments d args params desk
  done (number ∷ numbers)
arguments d args params desk = done []

-- ---- a value of a type

-- a group of the definition at a place, with these arguments and this last-item mark
abbrev pub Groups : Type 0
Groups = (def : ℕ) → (args : List ℤ) → (last : Bool) → Node → Desk → Writing Piece

abbrev pub target_written : Description → Groups → (own : Option ByteOrder) → List Expr → (last : Bool) → Target → Node → Desk → Writing Piece
target_written d groups own args last (EnumTarget def base) node desk = done (number_written own base node desk)
target_written d groups own args last (GroupTarget def) node desk =
    arguments d args (params_of d def) desk >>= (λ numbers. groups def numbers last node desk)

abbrev pub value_written : Description → Groups → (own : Option ByteOrder) → Ref → (last : Bool) → Node → Desk → Writing Piece
value_written d groups own (Plain simple) last node desk = done (number_written own simple node desk)
value_written d groups own (Named place name args) last node desk =
    target_written d groups own args last (target_named d name) node desk

-- ---- arrays

abbrev pub in_count_range : ℤ → Desk → Writing ℕ
in_count_range (pos n) desk = must (nat_le n count_limit) desk CountDisagrees >> done n
in_count_range (negsuc n) desk = refused desk CountDisagrees

abbrev pub count_wanted : Description → Expr → Desk → Writing ℕ
count_wanted d count desk = evaluated d count (sight desk) desk >>= (λ n. in_count_range n desk)

-- an item, by its last-item mark
abbrev pub Items : Type 0
Items = (last : Bool) → Node → Desk → Writing Piece

abbrev pub has_bits : Desk → Piece → Writing (Unit {0})
has_bits desk piece = must (nat_lt 0 (length piece.bits)) desk ZeroItem

-- items one after another; where `counted`, the last one has the last-item mark
abbrev pub items_written : Items → (marked : Bool) → List Node → Desk → Writing Desk
items_written items marked [] desk = done desk
items_written items marked (node ∷ nodes) desk = counted 1 (do
  piece ← items (marked && length nodes == 0) node desk
  has_bits desk piece
  items_written items marked nodes (behind piece desk))

-- what a list or a group became, that was begun at the desk `from` and ended at the desk `end`
abbrev pub joined : (made : List Node → Node) → (from end : Desk) → Piece
joined made from end = record {
  bits = drop (length from.bits) end.bits;
  filled = made end.filled;
  nodes = end.entry - from.entry;
}

abbrev pub list_written : Items → (marked : Bool) → List Node → Desk → Writing Piece
list_written items marked nodes desk = do
  end ← items_written items marked nodes (record desk { entry = desk.entry + 1; filled = [] })
  done (joined ListNode desk end)

abbrev pub blob_written : List ℕ → Node → Piece
blob_written bytes node = record { bits = bits_of bytes; filled = node; nodes = 1 }

-- an array that has as many items as it must have
abbrev pub array_written : Description → Groups → (own : Option ByteOrder) → Ref → (marked : Bool) → Node → NodeLayer → Desk → Writing Piece
array_written d groups own kind marked node (Node-F.List items) desk =
    list_written (value_written d groups own kind) marked items desk
array_written d groups own kind marked node (Node-F.Blob bytes) desk = done (blob_written bytes node)
array_written d groups own kind marked node other desk = refused desk Shape

abbrev pub items_in : NodeLayer → ℕ
items_in (Node-F.List items) = length items
items_in (Node-F.Blob bytes) = length bytes
items_in other = 0

abbrev pub count_array_written : Description → Groups → (own : Option ByteOrder) → Ref → Expr → Node → Desk → Writing Piece
count_array_written d groups own kind count node desk = do
  n ← count_wanted d count desk
  must (items_in (out-Node node) == n) desk CountDisagrees
  array_written d groups own kind true node (out-Node node) desk

abbrev pub length_array_written : Description → Groups → (own : Option ByteOrder) → Ref → Expr → Node → Desk → Writing Piece
length_array_written d groups own kind bytes node desk = do
  n ← count_wanted d bytes desk
  must (entry_bits d (items_meant d false kind) node == 8 * n) desk CountDisagrees
  array_written d groups own kind false node (out-Node node) desk

-- ---- the kinds of fields

-- an entry is unset, or is this number
abbrev pub agrees : ℤ → NodeLayer → Bool
agrees number Node-F.Unset = true
agrees number other = number_is number other

-- a number that was set is of its type
abbrev pub set_number_fits : Simple → NodeLayer → Bool
set_number_fits simple (Node-F.Num number) = of_type simple number
set_number_fits simple other = true

abbrev pub const_written : (own : Option ByteOrder) → Simple → Lit → Node → Desk → Writing Piece
const_written own simple value node desk =
    must (agrees (literal value) (out-Node node)) desk LocalDisagrees
    >> done (number_written own simple (literal_node value) desk)

-- as it stands where it was set
abbrev pub reserved_written : (own : Option ByteOrder) → Simple → Lit → Node → NodeLayer → Desk → Writing Piece
reserved_written own simple value node Node-F.Unset desk = done (number_written own simple (literal_node value) desk)
reserved_written own simple value node other desk =
    must (set_number_fits simple other) desk ValueRange >> done (number_written own simple node desk)

abbrev pub kind_written : (own : Option ByteOrder) → Option Simple → ℤ → Desk → Piece
kind_written own (Some simple) number desk = number_written own simple (number_node simple number) desk
kind_written own None number desk = bitless (number_node Byte number)

abbrev pub implicit_written : Description → (own : Option ByteOrder) → Ref → Expr → Node → Desk → Writing Piece
implicit_written d own kind value node desk = do
  number ← evaluated d value (implicit_sight desk) desk
  must (of_kind d kind number) desk ValueRange
  must (agrees number (out-Node node)) desk LocalDisagrees
  done (kind_written own (ref_simple d kind) number desk)

abbrev pub virtual_written : Description → Ref → Expr → Node → Desk → Writing Piece
virtual_written d kind value node desk = do
  number ← evaluated d value (sight desk) desk
  must (of_kind d kind number) desk ValueRange
  must (agrees number (out-Node node)) desk LocalDisagrees
  done (bitless (kind_node d kind number))

-- absent exactly where the condition is false
abbrev pub optional_written : Description → Groups → (own : Option ByteOrder) → Ref → Expr → Node → Desk → Writing Piece
optional_written d groups own kind condition node desk = do
  holds ← evaluated d condition (sight desk) desk
  elim (int_eq holds (pos 0)) [
    | true ↦ must (is_absent (out-Node node)) desk CountDisagrees >> done (bitless node)
    | false ↦ must (not (is_absent (out-Node node))) desk CountDisagrees >>= (λ _.
        value_written d groups own kind false node desk)
  ]

abbrev pub checksum_written : Description → (own : Option ByteOrder) → Simple → Expr → Node → Desk → Writing Piece
checksum_written d own simple value node desk = do
  number ← evaluated d value (sight_with_sums desk) desk
  must (agrees number (out-Node node)) desk LocalDisagrees
  must (of_type simple number) desk ValueRange
  done (number_written own simple (number_node simple number) desk)

-- a number of a padding
abbrev pub padding_item : (own : Option ByteOrder) → Simple → Items
padding_item own simple last node desk =
    must (set_number_fits simple (out-Node node)) desk ValueRange >> done (number_written own simple node desk)

-- where it is unset, so many literals
abbrev pub padding_items : (own : Option ByteOrder) → Simple → Lit → (count : ℕ) → NodeLayer → Desk → Writing Piece
padding_items own simple value n Node-F.Unset desk =
    list_written (padding_item own simple) false (replicate n (literal_node value)) desk
    >>= (λ piece. done (record piece { nodes = 1 }))
padding_items own simple value n (Node-F.List items) desk =
    must (length items == n) desk CountDisagrees >>= (λ _. list_written (padding_item own simple) false items desk)
padding_items own simple value n other desk = refused desk Shape

abbrev pub padding_written : Description → (own : Option ByteOrder) → Simple → Lit → Expr → Node → Desk → Writing Piece
padding_written d own simple value count node desk =
    count_wanted d count desk >>= (λ n. padding_items own simple value n (out-Node node) desk)

-- an entry of a field that has this in it. A switch has none: its case's fields have.
abbrev pub body_written : Description → Groups → (own : Option ByteOrder) → BodyLayer → Node → Desk → Writing Piece
body_written d groups own (Body-F.Simple kind) node desk = value_written d groups own kind false node desk
body_written d groups own (Body-F.Discriminator kind) node desk = value_written d groups own kind false node desk
body_written d groups own (Body-F.Const simple value) node desk = const_written own simple value node desk
body_written d groups own (Body-F.Reserved simple value) node desk =
    reserved_written own simple value node (out-Node node) desk
body_written d groups own (Body-F.Implicit kind value) node desk = implicit_written d own kind value node desk
body_written d groups own (Body-F.Virtual kind value) node desk = virtual_written d kind value node desk
body_written d groups own (Body-F.Optional kind condition) node desk =
    optional_written d groups own kind condition node desk
body_written d groups own (Body-F.Checksum simple value) node desk = checksum_written d own simple value node desk
body_written d groups own (Body-F.Padding simple value count) node desk =
    padding_written d own simple value count node desk
body_written d groups own (Body-F.CountArray kind count) node desk =
    count_array_written d groups own kind count node desk
body_written d groups own (Body-F.LengthArray kind bytes) node desk =
    length_array_written d groups own kind bytes node desk
body_written d groups own (Body-F.Switch names cases) node desk = refused desk Shape

-- ---- what was given

-- an implicit expression sees the entries of these kinds, earlier or later
abbrev pub is_given : BodyLayer → Bool
is_given (Body-F.Simple kind) = true
is_given (Body-F.Discriminator kind) = true
is_given (Body-F.Optional kind condition) = true
is_given (Body-F.CountArray kind count) = true
is_given (Body-F.LengthArray kind bytes) = true
is_given other = false

abbrev pub is_const : BodyLayer → Bool
is_const (Body-F.Const simple value) = true
is_const other = false

abbrev pub seen_as : Description → Field → Node → Seen
seen_as d field node = record { name = (out-Field field).name; meant = field_meant d field; node = node }

abbrev pub seen_where : Bool → Seen → List Seen
seen_where true seen = seen ∷ []
seen_where false seen = []

-- how many entries of a group's case stand at a field's place
abbrev pub case_entries : (case : ℕ) → BodyLayer → ℕ
case_entries case (Body-F.Switch names cases) = length (case_fields case cases)
case_entries case other = 1

-- the given entries of these fields, without those of a switch's case
abbrev pub given_in : Description → (case : ℕ) → List Field → List Node → List Seen
given_in d case [] nodes = []
given_in d case (field ∷ fields) nodes =
    flat_map (λ node. seen_where (is_given (layer field)) (seen_as d field node)) (take 1 nodes)
    ++ given_in d case fields (drop (case_entries case (layer field)) nodes)

-- ---- fields, one after another

abbrev pub after_field : Description → Field → List Node → Piece → Desk → Desk
after_field d field left piece desk = record (behind piece desk) {
  left = left;
  names = seen_as d field piece.filled ∷ desk.names;
  consts = seen_where (is_const (layer field)) (seen_as d field piece.filled) ++ desk.consts;
}

abbrev pub entry_written : Description → Groups → Field → List Node → Desk → Writing Desk
entry_written d groups field [] desk = done desk
entry_written d groups field (node ∷ left) desk = counted 1 (do
  piece ← body_written d groups (out-Field field).order (layer field) node desk
  done (after_field d field left piece desk))

abbrev pub field_written : Description → Groups → Field → Desk → Writing Desk
field_written d groups field desk = entry_written d groups field desk.left desk

abbrev pub is_case : (case : ℕ) → Option ℕ → Bool
is_case case (Some number) = number == case
is_case case None = false

-- the case that was given is the one that its keys choose; behind a switch its case's fields aren't seen
abbrev pub switch_written : Description → Groups → (names : List (List ℕ)) → List Case → (case : ℕ) → Desk → Writing Desk
switch_written d groups names cases case desk = counted 1 (do
  chosen ← faulted (λ f. At desk.group (Eval f)) (first_case d names desk.names 1 cases)
  required (is_case case chosen) (At desk.group CaseDisagrees)
  end ← in_turn (field_written d groups) (case_fields case cases)
      (record desk { given = given_in d 0 (case_fields case cases) desk.left ++ desk.given })
  done (record end { names = desk.names; consts = desk.consts; given = desk.given }))

abbrev pub any_field_written : Description → Groups → (case : ℕ) → Field → BodyLayer → Desk → Writing Desk
any_field_written d groups case field (Body-F.Switch names cases) desk = switch_written d groups names cases case desk
any_field_written d groups case field other desk = field_written d groups field desk

-- ---- groups

abbrev pub group_begun : Description → (def : ℕ) → (args : List ℤ) → (last : Bool) → (case : ℕ) → List Node → Node → Desk → Desk
group_begun d def args last case entries node desk = record {
  bits = desk.bits;
  entry = desk.entry + 1;
  first = position desk;
  last = last;
  order = order_of d def;
  length = bytes_over (measure d def last node).bits;
  names = params_seen d (params_of d def) args;
  consts = params_seen d (params_of d def) args;
  given = given_in d case (fields_of d def) entries;
  group = desk.entry;
  left = entries;
  filled = [];
}

abbrev pub group_written : Description → Groups → (def : ℕ) → (args : List ℤ) → (last : Bool) → Node → NodeLayer → Desk → Writing Piece
group_written d groups def args last node (Node-F.Group case entries) desk = do
  end ← in_turn (λ field. any_field_written d groups case field (layer field)) (fields_of d def)
      (group_begun d def args last case entries node desk)
  done (joined (Group case) desk end)
group_written d groups def args last node other desk = refused desk Shape

-- groups in one another to this depth
abbrev pub write_to : (depth : ℕ) → Description → Groups
write_to zero d def args last node desk = refused desk TooDeep
write_to (suc depth) d def args last node desk =
    group_written d (write_to depth d) def args last node (out-Node node) desk

-- ---- the whole value

abbrev pub at_entry : WriteWhy → Option ℕ → Writing (Unit {0})
at_entry why None = done tt
at_entry why (Some entry) = fails (At entry why)

-- no entry is so, else this refusal of the first that is
abbrev pub no_entry : (Visit → Bool) → WriteWhy → List Visit → Writing (Unit {0})
no_entry test why all = at_entry why (first_entry test all)

-- the whole value isn't so, else this refusal of it
abbrev pub not_whole : Bool → WriteWhy → Writing (Unit {0})
not_whole holds why = required (not holds) (At 0 why)

-- more bits than a value may have, or more nodes once its unset paddings are filled
abbrev pub is_too_big : Measure → (nodes : ℕ) → Bool
is_too_big measure nodes = nat_lt bit_limit measure.bits || nat_lt node_limit (nodes + measure.items)

-- The value of the definition at a place with these arguments, as bits, with all that was unset filled in. There are seven refusals,
-- in this order; each but the sixth looks at the whole value before the next one.
abbrev pub writing : Description → (def : ℕ) → (args : List ℤ) → Node → Writing Piece
writing d def args node = do
  not_whole (nat_lt node_limit (nodes_in node)) TooLong
  no_entry (has_wrong_form d) Shape (visits d def node)
  no_entry is_too_deep TooDeep (visits d def node)
  not_whole (is_too_big (measure d def false node) (nodes_in node)) TooLong
  no_entry has_wrong_number ValueRange (visits d def node)
  piece ← write_to depth_limit d def args false node at_start
  not_whole (not (length piece.bits % 8 == 0)) Unaligned
  done piece

-- the bits, or why there are none
abbrev pub writes : Description → (def : ℕ) → (args : List ℤ) → Node → Result (List Bool) Refusal
writes d def args node = (writing d def args node >>= (λ piece. done piece.bits)).outcome

-- the value with all that was unset filled in, where it is written
abbrev pub filled : Description → (def : ℕ) → (args : List ℤ) → Node → Result Node Refusal
filled d def args node = (writing d def args node >>= (λ piece. done piece.filled)).outcome
