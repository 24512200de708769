-- What an expression is worth: a number, a flag, a part of a value, or why there is none. Numbers are unbounded. What isn't
-- needed isn't asked: the other side of `&&` and `||`, the other branch of a condition.
use Rattle.std.specs.Prelude.{ℕ, zero, suc, ℤ, pos, neg_ℤ, ◌+ℤ◌, ◌-ℤ◌, ◌*ℤ◌, ◌+◌, ◌-◌, ◌/◌, ◌^◌, ◌&&◌, Bool, true, false, not, List, [], ◌∷◌, length, Option, Some, None, slice_get, option_to_list, ◌||◌, find, bytes_eq, int_lt, int_le, int_div, int_rem, unsigned_abs, bit_and, bit_or, if◌then◌else◌, Result, Ok, Err}
use Rattle.std.specs.Ordering.{int_eq}
use Rattle.std.specs.List.{flat_map}
use Rattle.node_tree.specs.Bits.{digit}
use Rattle.node_tree.specs.declared.nodes.Node.{Node, out-Node}
use Rattle.node_tree.specs.declared.nodes.Node.TheOpen.{Node-F}
use Rattle.node_tree.specs.declared.nodes.Node.TheVariants.{Num}
use Rattle.node_tree.specs.declared.faults.EvalFault.{EvalFault}
use Rattle.node_tree.specs.declared.faults.EvalFault.TheVariants.{NullAccess, CastFails, EnumAttr}
use Rattle.mspec_tree.specs.Depth.{depth_limit}
use Rattle.mspec_tree.specs.declared.words.Lit.{Lit}
use Rattle.mspec_tree.specs.declared.words.Op.{Op}
use Rattle.mspec_tree.specs.declared.words.Op.TheVariants as op
use Rattle.mspec_tree.specs.declared.exprs.Expr.{Expr, out-Expr}
use Rattle.mspec_tree.specs.declared.exprs.Shape.{Shape, out-Shape}
use Rattle.mspec_tree.specs.declared.exprs.Shape.TheOpen.{Shape-F}
use Rattle.mspec_tree.specs.declared.fields.Field.{Field, out-Field}
use Rattle.mspec_tree.specs.declared.defs.Constant.{Constant}
use Rattle.mspec_tree.specs.declared.defs.Param.{Param}
use Rattle.mspec_tree.specs.declared.defs.Description.{Description}
use Rattle.mspec_expr.specs.declared.kinds.Meant.{Meant}
use Rattle.mspec_expr.specs.declared.kinds.Meant.TheVariants.{GroupOf, EnumOf}
use Rattle.mspec_expr.specs.Counted.{Counted, done, fails, counted, required, ◌>>=◌, ◌>>◌}
use Rattle.mspec_expr.specs.Kinds.{in_range, literal, literal_node, widest, def_named, fields_of, constants_of, params_of, cases_of, case_name, entry_fields, field_meant, ref_meant}

abbrev pub NodeLayer : Type 0
NodeLayer = Node-F Node

-- a name that an expression sees: what it is, and its node
pub record Seen : Type 0 where
  pub name : List ℕ
  pub meant : Meant
  pub node : Node

-- all that an expression sees: its names; the position, and the first bit of the type that has it, in bits; the length in bytes of
-- the type's value; the last-item mark; the sum and the exclusive or of the bytes from the type's first bit on
pub record Sight : Type 0 where
  pub names : List Seen
  pub position : ℕ
  pub first : ℕ
  pub length : ℕ
  pub last : Bool
  pub sum : ℕ
  pub xor : ℕ

-- what an expression stands for: a number, where a flag counts 0 or 1; an entry, with what it is; an enum itself
pub data Thing : Type 0 where
  Number : (number : ℤ) → Thing
  Entry : (meant : Meant) (node : Node) → Thing
  EnumName : (def : ℕ) → Thing

abbrev pub Worth : Type 0 → Type 0
Worth A = Counted A EvalFault

-- ---- what stands in an entry

abbrev pub node_number : NodeLayer → Worth ℤ
node_number (Node-F.Num number) = done number
node_number (Node-F.Flag flag) = done (pos (digit flag))
node_number other = fails NullAccess

abbrev pub thing_number : Thing → Worth ℤ
thing_number (Number number) = done number
thing_number (Entry meant node) = node_number (out-Node node)
thing_number (EnumName def) = fails NullAccess

abbrev pub is_absent : NodeLayer → Bool
is_absent Node-F.Absent = true
is_absent other = false

abbrev pub thing_is_absent : Thing → Bool
thing_is_absent (Entry meant node) = is_absent (out-Node node)
thing_is_absent other = false

abbrev pub node_count : NodeLayer → Worth ℕ
node_count (Node-F.List items) = done (length items)
node_count (Node-F.Blob bytes) = done (length bytes)
node_count other = fails NullAccess

abbrev pub thing_count : Thing → Worth ℕ
thing_count (Entry meant node) = node_count (out-Node node)
thing_count other = fails NullAccess

-- how many bits an entry has
abbrev pub thing_bits : (sizes : Meant → Node → ℕ) → Thing → ℕ
thing_bits sizes (Entry meant node) = sizes meant node
thing_bits sizes other = 0

-- bits in bytes, rounded up
abbrev pub bytes_over : (bits : ℕ) → ℕ
bytes_over bits = (bits + 7) / 8

-- ---- names and paths

abbrev pub enum_named : Option ℕ → Worth Thing
enum_named (Some def) = done (EnumName def)
enum_named None = fails NullAccess

-- a name that is seen hides an enum of that name
abbrev pub seen_or_enum : Description → List ℕ → Option Seen → Worth Thing
seen_or_enum d name (Some seen) = done (Entry seen.meant seen.node)
seen_or_enum d name None = enum_named (def_named d name)

abbrev pub named : Description → List ℕ → List Seen → Worth Thing
named d name names = seen_or_enum d name (find (λ seen. bytes_eq seen.name name) names)

-- the entry that a group has for a name
abbrev pub entry_named : List Field → List Node → List ℕ → Option (Field × Node)
entry_named [] nodes name = None
entry_named (field ∷ fields) [] name = None
entry_named (field ∷ fields) (node ∷ nodes) name =
    if bytes_eq (out-Field field).name name then Some (field, node) else entry_named fields nodes name

abbrev pub entry_thing : Description → Option (Field × Node) → Worth Thing
entry_thing d (Some found) = done (Entry (field_meant d found.0) found.1)
entry_thing d None = fails NullAccess

-- the attributes at this place of the constants with this number
abbrev pub attributes : (place : ℕ) (number : ℤ) → List Constant → List Lit
attributes place number constants =
    flat_map
    (λ constant. if int_eq (literal constant.value) number then option_to_list (slice_get constant.attrs place) else [])
    constants

abbrev pub first_attribute : Description → Param → List Lit → Worth Thing
first_attribute d param [] = fails EnumAttr
first_attribute d param (value ∷ values) = done (Entry (ref_meant d param.kind) (literal_node value))

-- the attribute of this name that a number of an enum has: that of the first constant that gives the number one
abbrev pub attribute_of : Description → (def : ℕ) (number : ℤ) → List ℕ → List Param → (place : ℕ) → Worth Thing
attribute_of d def number name [] place = fails EnumAttr
attribute_of d def number name (param ∷ params) place =
    if bytes_eq param.name name
    then first_attribute d param (attributes place number (constants_of d def))
    else attribute_of d def number name params (place + 1)

-- the constant of this name
abbrev pub constant_of : (def : ℕ) → Option Constant → Worth Thing
constant_of def (Some constant) = done (Entry (EnumOf def) (Num (literal constant.value)))
constant_of def None = fails EnumAttr

-- a name behind a dot: a field of a group, or an attribute of a number of an enum
abbrev pub dotted_entry : Description → Meant → NodeLayer → List ℕ → Worth Thing
dotted_entry d (GroupOf def taken) (Node-F.Group case entries) name =
    entry_thing d (entry_named (entry_fields case (fields_of d def)) entries name)
dotted_entry d (EnumOf def) (Node-F.Num number) name = attribute_of d def number name (params_of d def) 0
dotted_entry d meant other name = fails NullAccess

abbrev pub dotted : Description → List ℕ → Thing → Worth Thing
dotted d name (Number number) = fails NullAccess
dotted d name (Entry meant node) = dotted_entry d meant (out-Node node) name
dotted d name (EnumName def) = constant_of def (find (λ constant. bytes_eq constant.name name) (constants_of d def))

-- a value as one of the case of this name
abbrev pub cast_entry : Description → (def : ℕ) (node : Node) → NodeLayer → List ℕ → Worth Thing
cast_entry d def node (Node-F.Group case entries) name =
    required (bytes_eq (case_name case (cases_of d def)) name) CastFails >> done (Entry (GroupOf def case) node)
cast_entry d def node other name = fails NullAccess

abbrev pub cast : Description → List ℕ → Thing → Worth Thing
cast d name (Entry (GroupOf def taken) node) = cast_entry d def node (out-Node node) name
cast d name other = fails NullAccess

-- ---- operators

abbrev pub number : Worth Thing → Worth ℤ
number one = one >>= thing_number

-- a flag counts 0 or 1
abbrev pub truth : Worth Thing → Worth Bool
truth one = number one >>= (λ n. done (not (int_eq n (pos 0))))

abbrev pub flag : Bool → Worth Thing
flag holds = done (Number (pos (digit holds)))

-- the operators that take both their numbers; division truncates toward zero, and a remainder has the dividend's sign
abbrev pub reckoned : Op → ℤ → ℤ → ℤ
reckoned op.Add a b = a +ℤ b
reckoned op.Sub a b = a -ℤ b
reckoned op.Mul a b = a *ℤ b
reckoned op.Div a b = int_div a b
reckoned op.Rem a b = int_rem a b
reckoned op.Shl a b = a *ℤ pos (2 ^ unsigned_abs b)
reckoned op.Shr a b = int_div a (pos (2 ^ unsigned_abs b))
reckoned op.BitAnd a b = pos (bit_and (unsigned_abs a) (unsigned_abs b))
reckoned op.BitOr a b = pos (bit_or (unsigned_abs a) (unsigned_abs b))
reckoned op.Lt a b = pos (digit (int_lt a b))
reckoned op.Le a b = pos (digit (int_le a b))
reckoned op.Gt a b = pos (digit (int_lt b a))
reckoned op.Ge a b = pos (digit (int_le b a))
reckoned op.Eq a b = pos (digit (int_eq a b))
reckoned op.Ne a b = pos (digit (not (int_eq a b)))
reckoned op.Or a b = pos (digit (not (int_eq a (pos 0)) || not (int_eq b (pos 0))))
reckoned op.And a b = pos (digit (not (int_eq a (pos 0)) && not (int_eq b (pos 0))))

-- what each expression stands for, to who sees this much
abbrev pub Worths : Type 0
Worths = Expr → Sight → Worth Thing

-- both sides, the left one first
abbrev pub both : Worths → Op → Expr → Expr → Sight → Worth Thing
both worth o a b sight = number (worth a sight) >>= (λ x. number (worth b sight) >>= (λ y. done (Number (reckoned o x y))))

-- the second side only where the first doesn't decide
abbrev pub or_second : Worths → Bool → Expr → Sight → Worth Thing
or_second worth true b sight = flag true
or_second worth false b sight = truth (worth b sight) >>= flag

abbrev pub and_second : Worths → Bool → Expr → Sight → Worth Thing
and_second worth true b sight = truth (worth b sight) >>= flag
and_second worth false b sight = flag false

abbrev pub branch : Worths → Bool → Expr → Expr → Sight → Worth Thing
branch worth true a b sight = worth a sight
branch worth false a b sight = worth b sight

-- `null` stands beside an optional field, which is asked whether it is absent
abbrev pub is_null_shape : Shape-F Shape Expr → Bool
is_null_shape Shape-F.Null = true
is_null_shape other = false

abbrev pub is_null : Expr → Bool
is_null e = is_null_shape (out-Shape (out-Expr e).shape)

abbrev pub absent : Worths → Expr → Sight → Worth Bool
absent worth a sight = counted 1 (worth a sight >>= (λ thing. done (thing_is_absent thing)))

abbrev pub equal : Worths → (left right : Bool) → Expr → Expr → Sight → Worth Bool
equal worth true right a b sight = absent worth b sight
equal worth false true a b sight = absent worth a sight
equal worth false false a b sight =
    number (worth a sight) >>= (λ x. number (worth b sight) >>= (λ y. done (int_eq x y)))

abbrev pub two : Worths → Op → Expr → Expr → Sight → Worth Thing
two worth op.Or a b sight = truth (worth a sight) >>= (λ first. or_second worth first b sight)
two worth op.And a b sight = truth (worth a sight) >>= (λ first. and_second worth first b sight)
two worth op.Eq a b sight = equal worth (is_null a) (is_null b) a b sight >>= flag
two worth op.Ne a b sight = equal worth (is_null a) (is_null b) a b sight >>= (λ same. flag (not same))
two worth o a b sight = both worth o a b sight

-- ---- an expression, by its outermost form

abbrev pub shape_worth : Description → (sizes : Meant → Node → ℕ) → Worths → Shape-F Shape Expr → Sight → Worth Thing
shape_worth d sizes worth (Shape-F.Lit value) sight = done (Number (literal value))
shape_worth d sizes worth Shape-F.Null sight = fails NullAccess
shape_worth d sizes worth (Shape-F.Name name) sight = named d name sight.names
shape_worth d sizes worth Shape-F.CurPos sight = done (Number (pos ((sight.position - sight.first) / 8)))
shape_worth d sizes worth Shape-F.Length sight = done (Number (pos sight.length))
shape_worth d sizes worth Shape-F.LastItem sight = flag sight.last
shape_worth d sizes worth Shape-F.SumBytes sight = done (Number (pos sight.sum))
shape_worth d sizes worth Shape-F.XorBytes sight = done (Number (pos sight.xor))
shape_worth d sizes worth (Shape-F.Dot a name) sight = worth a sight >>= dotted d name
shape_worth d sizes worth (Shape-F.LengthOf a) sight =
    worth a sight >>= (λ thing. done (Number (pos (bytes_over (thing_bits sizes thing)))))
shape_worth d sizes worth (Shape-F.Count a) sight = worth a sight >>= thing_count >>= (λ n. done (Number (pos n)))
shape_worth d sizes worth (Shape-F.Cast a name) sight = worth a sight >>= cast d name
shape_worth d sizes worth (Shape-F.Not a) sight = truth (worth a sight) >>= (λ holds. flag (not holds))
shape_worth d sizes worth (Shape-F.Neg a) sight = number (worth a sight) >>= (λ n. done (Number (neg_ℤ n)))
shape_worth d sizes worth (Shape-F.Two o a b) sight = two worth o a b sight
shape_worth d sizes worth (Shape-F.If c a b) sight = truth (worth c sight) >>= (λ holds. branch worth holds a b sight)

-- an expression of at most this depth, where entries have these sizes
abbrev pub worth_at : (depth : ℕ) → Description → (sizes : Meant → Node → ℕ) → Worths
worth_at zero d sizes e sight = fails NullAccess
worth_at (suc depth) d sizes e sight =
    counted 1 (shape_worth d sizes (worth_at depth d sizes) (out-Shape (out-Expr e).shape) sight)

-- no description has a deeper one
abbrev pub deepest : ℕ
deepest = depth_limit

abbrev pub worth_by : Description → (sizes : Meant → Node → ℕ) → Worths
worth_by d sizes = worth_at deepest d sizes

-- ---- numbers that stay inside the widest range

-- a thing, unless it is a number that leaves the widest range
abbrev pub kept_if : Result ℤ EvalFault → Thing → Worth Thing
kept_if (Ok number) thing = if in_range widest number then done thing else fails NullAccess
kept_if (Err fault) thing = done thing

abbrev pub kept : Thing → Worth Thing
kept thing = kept_if (thing_number thing).outcome thing

-- What an expression is worth where each number on the way stays inside the widest range. In a description that is accepted
-- none leaves it, so this is the same there; elsewhere it is a number that a program can have.
abbrev pub kept_at : (depth : ℕ) → Description → (sizes : Meant → Node → ℕ) → Worths
kept_at zero d sizes e sight = fails NullAccess
kept_at (suc depth) d sizes e sight =
    counted 1 (shape_worth d sizes (kept_at depth d sizes) (out-Shape (out-Expr e).shape) sight >>= kept)
