-- How many bits a value has, and how many items its unset paddings get, as it is given: also with a wrong case, or a wrong count of
-- items. With the sizes of entries, what an expression is worth is whole.
use Rattle.std.specs.Prelude.{ℕ, zero, suc, ℤ, pos, negsuc, ◌+◌, ◌*◌, Bool, true, false, List, [], ◌∷◌, length, nat_le, Result, Ok, Err, if◌then◌else◌}
use Rattle.std.specs.List.{list_all}
use Rattle.node_tree.specs.declared.nodes.Node.{Node, out-Node}
use Rattle.node_tree.specs.declared.nodes.Node.TheOpen.{Node-F}
use Rattle.node_tree.specs.declared.faults.EvalFault.{EvalFault}
use Rattle.mspec_tree.specs.declared.words.Simple.{Simple}
use Rattle.mspec_tree.specs.declared.exprs.Expr.{Expr}
use Rattle.mspec_tree.specs.declared.fields.Field.{Field, out-Field}
use Rattle.mspec_tree.specs.declared.fields.Body.TheOpen.{Body-F}
use Rattle.mspec_tree.specs.declared.defs.Description.{Description}
use Rattle.mspec_expr.specs.declared.kinds.ItemOf.TheVariants.{Bits, GroupOf as ItemGroups}
use Rattle.mspec_expr.specs.declared.kinds.Meant.{Meant}
use Rattle.mspec_expr.specs.declared.kinds.Meant.TheVariants.{Number as NumberKind, Flag as FlagKind, EnumOf, GroupOf, ListOf, Bytes, Raw}
use Rattle.mspec_expr.specs.Kinds.{BodyLayer, layer, width, ref_width, in_range, own_range, range_width, base_of, fields_of, case_fields, field_meant, ref_meant, items_meant}
use Rattle.mspec_expr.specs.Values.{NodeLayer, Seen, Sight, Worths, Worth, deepest, kept_at, worth_by, number}

-- no value has more nodes than this, and no number of a value ends past this bit
abbrev pub node_limit : ℕ
node_limit = 16777216

abbrev pub bit_limit : ℕ
bit_limit = 524280

-- no more groups stand in one another
abbrev pub depth_limit : ℕ
depth_limit = 32

-- no array by count has more items than this, no array by length more bytes, and no padding more numbers
abbrev pub count_limit : ℕ
count_limit = 65535

-- how many bits, and how many items of unset paddings
pub record Measure : Type 0 where
  pub bits : ℕ
  pub items : ℕ

abbrev pub nothing : Measure
nothing = record { bits = 0; items = 0 }

abbrev pub of_bits : ℕ → Measure
of_bits bits = record { bits = bits; items = 0 }

abbrev pub together : Measure → Measure → Measure
together a b = record { bits = a.bits + b.bits; items = a.items + b.items }

-- the measure of a group of the definition at a place, by its last-item mark
abbrev pub Measures : Type 0
Measures = (def : ℕ) → (last : Bool) → Node → Measure

-- items that are groups; in an array by count the last one has the last-item mark
abbrev pub items_measure : Measures → (def : ℕ) (counted : Bool) → List Node → Measure
items_measure measures def counted [] = nothing
items_measure measures def counted (item ∷ []) = measures def counted item
items_measure measures def counted (item ∷ next ∷ items) =
    together (measures def false item) (items_measure measures def counted (next ∷ items))

-- an entry, by what it is
abbrev pub entry_measure : Description → Measures → Meant → (node : Node) → NodeLayer → Measure
entry_measure d measures (NumberKind range) node (Node-F.Num number) = of_bits (range_width range)
entry_measure d measures FlagKind node (Node-F.Flag flag) = of_bits 1
entry_measure d measures (EnumOf def) node (Node-F.Num number) = of_bits (width (base_of d def))
entry_measure d measures Raw node (Node-F.Raw bits width) = of_bits width
entry_measure d measures (GroupOf def taken) node (Node-F.Group case entries) = measures def false node
entry_measure d measures (ListOf (Bits bits)) node (Node-F.List items) = of_bits (bits * length items)
entry_measure d measures (ListOf (ItemGroups def counted)) node (Node-F.List items) =
    items_measure measures def counted items
entry_measure d measures Bytes node (Node-F.Blob bytes) = of_bits (8 * length bytes)
entry_measure d measures meant node other = nothing

abbrev pub meant_measure : Description → Measures → Meant → Node → Measure
meant_measure d measures meant node = entry_measure d measures meant node (out-Node node)

-- ---- the count of an unset padding

-- a number is of its range, and a count no greater than the greatest
abbrev pub is_within : Description → Meant → NodeLayer → Bool
is_within d (NumberKind range) (Node-F.Num number) = in_range range number
is_within d (EnumOf def) (Node-F.Num number) = in_range (own_range (base_of d def)) number
is_within d meant (Node-F.List items) = nat_le (length items) node_limit
is_within d meant (Node-F.Blob bytes) = nat_le (length bytes) node_limit
is_within d meant other = true

-- what a padding sees: names, and the last-item mark
abbrev pub padding_sight : List Seen → (last : Bool) → Sight
padding_sight names last =
    record { names = names; position = 0; first = 0; length = 0; last = last; sum = 0; xor = 0 }

-- the count that a padding's expression gives, 0 where it gives none; each number on the way stays inside the widest range
abbrev pub count_or_none : Result ℤ EvalFault → ℕ
count_or_none (Ok (pos n)) = if nat_le n count_limit then n else 0
count_or_none (Ok (negsuc n)) = 0
count_or_none (Err fault) = 0

abbrev pub given_count : Description → (within : Bool) → List Seen → (last : Bool) → Expr → ℕ
given_count d true names last count =
    count_or_none (number (kept_at deepest d (λ meant node. 0) count (padding_sight names last))).outcome
given_count d false names last count = 0

-- Where a number or a count that it sees is out of its range, used or not, a padding has no numbers.
abbrev pub padding_count : Description → List Seen → (last : Bool) → Expr → ℕ
padding_count d names last count =
    given_count d (list_all (λ seen. is_within d seen.meant (out-Node seen.node)) names) names last count

-- a padding sees the earlier fields of these kinds
abbrev pub is_seen_by_padding : BodyLayer → Bool
is_seen_by_padding (Body-F.Simple kind) = true
is_seen_by_padding (Body-F.Discriminator kind) = true
is_seen_by_padding (Body-F.CountArray kind count) = true
is_seen_by_padding (Body-F.LengthArray kind length) = true
is_seen_by_padding other = false

-- ---- fields, one after another

abbrev pub padding_measure : Description → List Seen → (last : Bool) → Simple → Expr → NodeLayer → Measure
padding_measure d names last simple count (Node-F.List items) = of_bits (width simple * length items)
padding_measure d names last simple count Node-F.Unset =
    let n : ℕ = padding_count d names last count in record { bits = width simple * n; items = n }
padding_measure d names last simple count other = nothing

-- an entry of a field that has this in it
abbrev pub body_measure : Description → Measures → List Seen → (last : Bool) → BodyLayer → Node → Measure
body_measure d measures names last (Body-F.Simple kind) node = meant_measure d measures (ref_meant d kind) node
body_measure d measures names last (Body-F.Discriminator kind) node = meant_measure d measures (ref_meant d kind) node
body_measure d measures names last (Body-F.Const simple value) node = of_bits (width simple)
body_measure d measures names last (Body-F.Reserved simple value) node = of_bits (width simple)
body_measure d measures names last (Body-F.Implicit kind value) node = of_bits (ref_width d kind)
body_measure d measures names last (Body-F.Virtual kind value) node = nothing
body_measure d measures names last (Body-F.Optional kind condition) node = meant_measure d measures (ref_meant d kind) node
body_measure d measures names last (Body-F.Checksum simple value) node = of_bits (width simple)
body_measure d measures names last (Body-F.Padding simple value count) node =
    padding_measure d names last simple count (out-Node node)
body_measure d measures names last (Body-F.CountArray kind count) node =
    meant_measure d measures (items_meant d true kind) node
body_measure d measures names last (Body-F.LengthArray kind length) node =
    meant_measure d measures (items_meant d false kind) node
body_measure d measures names last (Body-F.Switch names' cases) node = nothing

-- the entries of a group that are left, the names that a padding sees, and the measure so far
pub record Measuring : Type 0 where
  pub left : List Node
  pub names : List Seen
  pub sum : Measure

abbrev pub seen_if : Bool → Seen → List Seen → List Seen
seen_if true seen names = seen ∷ names
seen_if false seen names = names

abbrev pub measure_entry : Description → Measures → (last : Bool) → Field → List Node → Measuring → Measuring
measure_entry d measures last field [] m = m
measure_entry d measures last field (node ∷ nodes) m = record {
  left = nodes;
  names = seen_if (is_seen_by_padding (layer field))
      (record { name = (out-Field field).name; meant = field_meant d field; node = node }) m.names;
  sum = together m.sum (body_measure d measures m.names last (layer field) node);
}

abbrev pub measure_entries : Description → Measures → (last : Bool) → List Field → Measuring → Measuring
measure_entries d measures last [] m = m
measure_entries d measures last (field ∷ fields) m =
    measure_entries d measures last fields (measure_entry d measures last field m.left m)

-- behind a switch its case's fields aren't seen
abbrev pub measure_field : Description → Measures → (last : Bool) (case : ℕ) → Field → BodyLayer → Measuring → Measuring
measure_field d measures last case field (Body-F.Switch names cases) m =
    record (measure_entries d measures last (case_fields case cases) m) { names = m.names }
measure_field d measures last case field other m = measure_entry d measures last field m.left m

abbrev pub measure_fields : Description → Measures → (last : Bool) (case : ℕ) → List Field → Measuring → Measuring
measure_fields d measures last case [] m = m
measure_fields d measures last case (field ∷ fields) m =
    measure_fields d measures last case fields (measure_field d measures last case field (layer field) m)

-- ---- a group

abbrev pub group_measure : Description → Measures → (def : ℕ) → (last : Bool) → NodeLayer → Measure
group_measure d measures def last (Node-F.Group case entries) =
    (measure_fields d measures last case (fields_of d def) (record { left = entries; names = []; sum = nothing })).sum
group_measure d measures def last other = nothing

-- A value has at most as many groups in one another as nodes.
abbrev pub measure_to : (depth : ℕ) → Description → Measures
measure_to zero d def last node = nothing
measure_to (suc depth) d def last node = group_measure d (measure_to depth d) def last (out-Node node)

abbrev pub measure : Description → Measures
measure d = measure_to node_limit d

-- how many bits a value of the definition at this place has, that is no last item
abbrev pub size : Description → (def : ℕ) → Node → ℕ
size d def node = (measure d def false node).bits

-- how many bits an entry has, by what it is
abbrev pub entry_bits : Description → Meant → Node → ℕ
entry_bits d meant node = (meant_measure d (measure d) meant node).bits

-- what an expression stands for, to who sees this much
abbrev pub worth : Description → Worths
worth d = worth_by d (entry_bits d)

-- an expression's number, a flag counting 0 or 1
abbrev pub value : Description → Expr → Sight → Worth ℤ
value d e sight = number (worth d e sight)

-- the same where each number on the way stays inside the widest range: what readings and writings reckon with
abbrev pub kept_worth : Description → Worths
kept_worth d = kept_at deepest d (entry_bits d)

abbrev pub kept_value : Description → Expr → Sight → Worth ℤ
kept_value d e sight = number (kept_worth d e sight)
