-- What an expression is, and the numbers that it may be, in a scope; and all that is wrong with it. An expression of which something
-- is wrong has the fault with the least place, and at one place the one that stands first in `ExprWhy` but for names and kinds,
-- which come before ranges.
use Rattle.std.specs.Prelude.{ℕ, zero, suc, ℤ, pos, neg_ℤ, slice_get, ◌+ℤ◌, ◌-ℤ◌, ◌*ℤ◌, ◌+◌, ◌-◌, ◌^◌, ◌==◌, ◌&&◌, ◌||◌, Bool, true, false, not, List, [], ◌∷◌, ◌++◌, max, find, bytes_eq, nat_lt, int_lt, int_le, int_div, unsigned_abs, Option, Some, None, Result, Ok, Err, if◌then◌else◌}
use Rattle.std.specs.Int.{int_min, int_max}
use Rattle.mspec_tree.specs.declared.words.Place.{Place}
use Rattle.mspec_tree.specs.declared.words.Lit.{Lit}
use Rattle.mspec_tree.specs.declared.words.Lit.TheVariants.{Num, Flag}
use Rattle.mspec_tree.specs.declared.words.Op.{Op}
use Rattle.mspec_tree.specs.declared.words.Op.TheVariants as op
use Rattle.mspec_tree.specs.declared.exprs.Expr.{Expr, out-Expr}
use Rattle.mspec_tree.specs.declared.exprs.Shape.{Shape, out-Shape}
use Rattle.mspec_tree.specs.declared.exprs.Shape.TheOpen.{Shape-F}
use Rattle.mspec_tree.specs.declared.fields.Field.{Field, out-Field}
use Rattle.mspec_tree.specs.declared.fields.Body.{Body}
use Rattle.mspec_tree.specs.declared.fields.Body.TheOpen.{Body-F}
use Rattle.mspec_tree.specs.declared.fields.Case.{Case, out-Case}
use Rattle.mspec_tree.specs.declared.defs.Constant.{Constant}
use Rattle.mspec_tree.specs.declared.defs.Param.{Param}
use Rattle.mspec_tree.specs.declared.defs.Def.{Def}
use Rattle.mspec_tree.specs.declared.defs.DefBody.{DefBody}
use Rattle.mspec_tree.specs.declared.defs.DefBody.TheVariants.{Switched}
use Rattle.mspec_tree.specs.declared.defs.Description.{Description}
use Rattle.mspec_expr.specs.declared.kinds.Range.{Range}
use Rattle.mspec_expr.specs.declared.kinds.Fault.{Fault}
use Rattle.mspec_expr.specs.declared.kinds.ExprWhy.{ExprWhy}
use Rattle.mspec_expr.specs.declared.kinds.ExprWhy.TheVariants.{TooWide, DivisorMayBeZero, OperandRange, UnknownName, KindMismatch}
use Rattle.mspec_expr.specs.declared.kinds.ItemOf.{ItemOf}
use Rattle.mspec_expr.specs.declared.kinds.ItemOf.TheVariants.{Bits, GroupOf as ItemGroups}
use Rattle.mspec_expr.specs.declared.kinds.Meant.{Meant}
use Rattle.mspec_expr.specs.declared.kinds.Meant.TheVariants.{Number, Flag as FlagKind, EnumOf, GroupOf, ListOf, Bytes, Raw, Null}
use Rattle.mspec_expr.specs.declared.scopes.Scope.{Scope}
use Rattle.mspec_expr.specs.declared.scopes.MeantName.{MeantName}
use Rattle.mspec_expr.specs.declared.kinds.Target.{Target}
use Rattle.mspec_expr.specs.declared.kinds.Target.TheVariants.{Enum as EnumTarget}
use Rattle.mspec_expr.specs.Kinds.{literal, layer, binary_digits, no_range, own_range, base_of, target_named, fields_of, constants_of, params_of, cases_of, entry_fields, field_meant, ref_meant}
use Rattle.mspec_expr.specs.Values.{deepest}
pub use Rattle.mspec_expr.specs.Kinds.{widest}

-- ---- ranges of numbers

abbrev pub range : ℤ → ℤ → Range
range low high = record { low = low; high = high }

abbrev pub lies_in : Range → Range → Bool
lies_in outer inner = int_le outer.low inner.low && int_le inner.high outer.high

-- a range that holds a number, and no number past the widest
abbrev pub is_proper : Range → Bool
is_proper r = int_le r.low r.high && lies_in widest r

-- what isn't a proper range is none
abbrev pub proper : Range → Option Range
proper r = if is_proper r then Some r else None

abbrev pub is_negative : Range → Bool
is_negative r = int_lt r.low (pos 0)

abbrev pub holds_zero : Range → Bool
holds_zero r = int_le r.low (pos 0) && int_le (pos 0) r.high

-- the greater size of its ends
abbrev pub greatest_size : Range → ℕ
greatest_size r = max (unsigned_abs r.low) (unsigned_abs r.high)

-- from the least to the greatest of these four
abbrev pub over : (p q r s : ℤ) → Range
over p q r s = range (int_min (int_min p q) (int_min r s)) (int_max (int_max p q) (int_max r s))

abbrev pub power : ℤ → ℤ
power k = pos (2 ^ unsigned_abs k)

abbrev pub quotients : (negative : Bool) → Range → Range → Option Range
quotients true a b = Some (range (neg_ℤ (pos (greatest_size a))) (pos (greatest_size a)))
quotients false a b =
    if holds_zero b then None else Some (range (int_div a.low b.high) (int_div a.high b.low))

abbrev pub remainders : (negative : Bool) → Range → Range
remainders true b = range (neg_ℤ (pos (greatest_size b - 1))) (pos (greatest_size b - 1))
remainders false b = range (pos 0) (pos (greatest_size b - 1))

-- where neither operand may be negative
abbrev pub unless_negative : Range → Range → Range → Option Range
unless_negative a b r = if is_negative a || is_negative b then None else Some r

-- the numbers that an operator may give of those of its operands, where they are defined
abbrev pub two_range : Op → Range → Range → Option Range
two_range op.Add a b = Some (range (a.low +ℤ b.low) (a.high +ℤ b.high))
two_range op.Sub a b = Some (range (a.low -ℤ b.high) (a.high -ℤ b.low))
two_range op.Mul a b = Some (over (a.low *ℤ b.low) (a.low *ℤ b.high) (a.high *ℤ b.low) (a.high *ℤ b.high))
two_range op.Div a b = quotients (is_negative a || is_negative b) a b
two_range op.Rem a b = Some (remainders (is_negative a) b)
two_range op.BitAnd a b = unless_negative a b (range (pos 0) (int_min a.high b.high))
two_range op.BitOr a b =
    unless_negative a b (range (pos 0) (pos (2 ^ binary_digits (unsigned_abs (int_max a.high b.high)) - 1)))
two_range op.Shl a b = unless_negative a b (range (a.low *ℤ power b.low) (a.high *ℤ power b.high))
two_range op.Shr a b = unless_negative a b (range (int_div a.low (power b.high)) (int_div a.high (power b.low)))
two_range other a b = None

abbrev pub divides : Op → Bool
divides op.Div = true
divides op.Rem = true
divides other = false

abbrev pub shifts : Op → Bool
shifts op.Shl = true
shifts op.Shr = true
shifts other = false

-- an operator whose operands mustn't be negative
abbrev pub takes_no_negative : Op → Bool
takes_no_negative op.BitAnd = true
takes_no_negative op.BitOr = true
takes_no_negative o = shifts o

-- ---- what is wrong

abbrev pub wrong_if : Bool → Place → ExprWhy → List Fault
wrong_if true place why = record { place = place; why = why } ∷ []
wrong_if false place why = []

abbrev pub leaves : Option Range → Bool
leaves (Some r) = not (lies_in widest r)
leaves None = false

-- what is wrong with the numbers of an operator's operands
abbrev pub two_wrong : Op → Range → Range → Place → List Fault
two_wrong o a b place =
    wrong_if (leaves (two_range o a b)) place TooWide
    ++ wrong_if (divides o && holds_zero b) place DivisorMayBeZero
    ++ wrong_if
    (takes_no_negative o && (is_negative a || is_negative b) || shifts o && int_lt (pos 63) b.high)
    place OperandRange

-- ---- what an expression is

-- What an expression is, if it is anything. `optional` is whether it is an optional field. And all that is wrong in it.
pub record Judged : Type 0 where
  pub meant : Option Meant
  pub optional : Bool
  pub faults : List Fault

-- it is this, without a fault of its own
abbrev pub is : Meant → List Fault → Judged
is meant faults = record { meant = Some meant; optional = false; faults = faults }

abbrev pub field_is : Meant → (optional : Bool) → List Fault → Judged
field_is meant optional faults = record { meant = Some meant; optional = optional; faults = faults }

-- it is nothing, for this reason
abbrev pub nothing : Place → ExprWhy → List Fault → Judged
nothing place why faults =
    record { meant = None; optional = false; faults = record { place = place; why = why } ∷ faults }

-- it is nothing, since a part of it is nothing
abbrev pub unknown : List Fault → Judged
unknown faults = record { meant = None; optional = false; faults = faults }

-- it is a number of this range, unless none is defined or something is wrong with it
abbrev pub number_is : Option Range → (own faults : List Fault) → Judged
number_is (Some r) [] faults = is (Number r) faults
number_is defined own faults = is (Number no_range) (own ++ faults)

-- the range of a number or of an enum's numbers, if it has one
abbrev pub numbers_of : Description → Meant → Option Range
numbers_of d (Number r) = proper r
numbers_of d (EnumOf def) = proper (own_range (base_of d def))
numbers_of d other = None

abbrev pub meant_numbers : Description → Option Meant → Option Range
meant_numbers d (Some meant) = numbers_of d meant
meant_numbers d None = None

abbrev pub judged_numbers : Description → Judged → Option Range
judged_numbers d a = meant_numbers d a.meant

-- an operand that is nothing is of every kind
abbrev pub is_kind : (Meant → Bool) → Option Meant → Bool
is_kind test (Some meant) = test meant
is_kind test None = true

abbrev pub is_number : Meant → Bool
is_number (Number r) = true
is_number (EnumOf def) = true
is_number other = false

abbrev pub is_flag : Meant → Bool
is_flag FlagKind = true
is_flag other = false

abbrev pub is_array : Meant → Bool
is_array (ListOf item) = true
is_array Bytes = true
is_array other = false

abbrev pub is_group : Meant → Bool
is_group (GroupOf def case) = true
is_group other = false

abbrev pub is_null : Meant → Bool
is_null Null = true
is_null other = false

-- ---- names and paths

abbrev pub found_name : Place → Option MeantName → Judged
found_name place (Some found) = field_is found.meant found.optional []
found_name place None = nothing place UnknownName []

abbrev pub name_in : Scope → List ℕ → Option MeantName
name_in scope name = find (λ seen. bytes_eq seen.name name) scope.names

-- the enum of this name, where no field or parameter of the name is seen
abbrev pub enum_unless : Option MeantName → Target → Option ℕ
enum_unless None (EnumTarget def base) = Some def
enum_unless found target = None

abbrev pub enum_of_shape : Description → Scope → Shape-F Shape Expr → Option ℕ
enum_of_shape d scope (Shape-F.Name name) = enum_unless (name_in scope name) (target_named d name)
enum_of_shape d scope other = None

abbrev pub has_constant : Option Constant → Bool
has_constant (Some constant) = true
has_constant None = false

abbrev pub constant_is : Place → (def : ℕ) → Bool → Judged
constant_is place def true = is (EnumOf def) []
constant_is place def false = nothing place UnknownName []

-- in an implicit expression a path goes through fields that are given
abbrev pub is_given : Body-F Body Case Field → Bool
is_given (Body-F.Simple kind) = true
is_given (Body-F.Discriminator kind) = true
is_given (Body-F.Optional kind condition) = true
is_given (Body-F.CountArray kind count) = true
is_given (Body-F.LengthArray kind bytes) = true
is_given other = false

abbrev pub is_optional : Body-F Body Case Field → Bool
is_optional (Body-F.Optional kind condition) = true
is_optional other = false

-- a field of this name among these, if a path may go through it
abbrev pub field_named : (implicit : Bool) → List ℕ → List Field → Option Field
field_named implicit name fields =
    find (λ field. bytes_eq (out-Field field).name name && (not implicit || is_given (layer field))) fields

abbrev pub found_field : Description → Place → List Fault → Option Field → Judged
found_field d place faults (Some field) = field_is (field_meant d field) (is_optional (layer field)) faults
found_field d place faults None = nothing place UnknownName faults

abbrev pub attribute_is : Description → Place → List Fault → Option Param → Judged
attribute_is d place faults (Some param) = is (ref_meant d param.kind) faults
attribute_is d place faults None = nothing place UnknownName faults

-- the fields of a value of a type that is taken as one of this case
abbrev pub seen_fields : Description → (def case : ℕ) → List Field
seen_fields d def case = entry_fields case (fields_of d def)

abbrev pub dotted_meant : Description → Scope → Place → List ℕ → List Fault → Option Meant → Judged
dotted_meant d scope place name faults (Some (GroupOf def case)) =
    found_field d place faults (field_named scope.words.length name (seen_fields d def case))
dotted_meant d scope place name faults (Some (EnumOf def)) =
    attribute_is d place faults (find (λ param. bytes_eq param.name name) (params_of d def))
dotted_meant d scope place name faults (Some other) = nothing place UnknownName faults
dotted_meant d scope place name faults None = unknown faults

-- what each expression is in the scope
abbrev pub Judges : Type 0
Judges = Expr → Judged

abbrev pub dotted : Judges → Description → Scope → Place → Expr → List ℕ → Option ℕ → Judged
dotted judges d scope place a name (Some def) =
    constant_is place def (has_constant (find (λ constant. bytes_eq constant.name name) (constants_of d def)))
dotted judges d scope place a name None = dotted_meant d scope place name (judges a).faults (judges a).meant

-- a value of a `discriminatedType` as one of its cases
abbrev pub is_switched : DefBody → Bool
is_switched (Switched fields) = true
is_switched other = false

abbrev pub def_is_switched : Option Def → Bool
def_is_switched (Some found) = is_switched found.body
def_is_switched None = false

abbrev pub case_from : (number : ℕ) → List ℕ → List Case → Option ℕ
case_from number name [] = None
case_from number name (case ∷ cases) =
    if bytes_eq (out-Case case).name name then Some number else case_from (number + 1) name cases

abbrev pub case_is : Place → (def : ℕ) → List Fault → Option ℕ → Judged
case_is place def faults (Some case) = is (GroupOf def case) faults
case_is place def faults None = nothing place UnknownName faults

abbrev pub cast_group : Description → Place → List ℕ → List Fault → (def : ℕ) → (switched : Bool) → Judged
cast_group d place name faults def true = case_is place def faults (case_from 1 name (cases_of d def))
cast_group d place name faults def false = nothing place KindMismatch faults

abbrev pub cast_meant : Description → Place → List ℕ → List Fault → Option Meant → Judged
cast_meant d place name faults (Some (GroupOf def case)) =
    cast_group d place name faults def (def_is_switched (slice_get d.defs def))
cast_meant d place name faults (Some other) = nothing place KindMismatch faults
cast_meant d place name faults None = unknown faults

-- ---- operators

-- operands of these kinds, else a fault of the operator
abbrev pub kind_wrong : (right : Bool) → Place → List Fault
kind_wrong right place = wrong_if (not right) place KindMismatch

abbrev pub measured : Place → (right : Bool) → Range → Judged → Judged
measured place right r a = is (Number r) (kind_wrong right place ++ a.faults)

-- a word whose number or flag is the same wherever it may stand
abbrev pub word : Place → (allowed : Bool) → Meant → Judged
word place allowed meant = is meant (wrong_if (not allowed) place UnknownName)

abbrev pub negated_range : Option Range → Option Range
negated_range (Some r) = Some (range (neg_ℤ r.high) (neg_ℤ r.low))
negated_range None = None

abbrev pub negated : Description → Place → Judged → Judged
negated d place a = number_is (negated_range (judged_numbers d a))
    (kind_wrong (is_kind is_number a.meant) place ++ wrong_if (leaves (negated_range (judged_numbers d a))) place TooWide)
    a.faults

-- an operator that takes and gives numbers
abbrev pub reckoned_ranges : Place → Op → (wrong faults : List Fault) → Option Range → Option Range → Judged
reckoned_ranges place o wrong faults (Some a) (Some b) =
    number_is (two_range o a b) (wrong ++ two_wrong o a b place) faults
reckoned_ranges place o wrong faults a b = number_is None wrong faults

abbrev pub both_numbers : Judged → Judged → Bool
both_numbers a b = is_kind is_number a.meant && is_kind is_number b.meant

abbrev pub reckoned : Description → Place → Op → Judged → Judged → Judged
reckoned d place o a b =
    reckoned_ranges place o (kind_wrong (both_numbers a b) place) (a.faults ++ b.faults) (judged_numbers d a) (judged_numbers d b)

abbrev pub both_flags : Judged → Judged → Bool
both_flags a b = is_kind is_flag a.meant && is_kind is_flag b.meant

-- two numbers or enum values, two flags, or an optional field and `null`
abbrev pub are_compared : Judged → Judged → Bool
are_compared a b =
    both_numbers a b || both_flags a b || a.optional && is_kind is_null b.meant || is_kind is_null a.meant && b.optional

abbrev pub two_judged : Description → Place → Op → Judged → Judged → Judged
two_judged d place op.Or a b = is FlagKind (kind_wrong (both_flags a b) place ++ a.faults ++ b.faults)
two_judged d place op.And a b = is FlagKind (kind_wrong (both_flags a b) place ++ a.faults ++ b.faults)
two_judged d place op.Eq a b = is FlagKind (kind_wrong (are_compared a b) place ++ a.faults ++ b.faults)
two_judged d place op.Ne a b = is FlagKind (kind_wrong (are_compared a b) place ++ a.faults ++ b.faults)
two_judged d place op.Lt a b = is FlagKind (kind_wrong (both_numbers a b) place ++ a.faults ++ b.faults)
two_judged d place op.Le a b = is FlagKind (kind_wrong (both_numbers a b) place ++ a.faults ++ b.faults)
two_judged d place op.Gt a b = is FlagKind (kind_wrong (both_numbers a b) place ++ a.faults ++ b.faults)
two_judged d place op.Ge a b = is FlagKind (kind_wrong (both_numbers a b) place ++ a.faults ++ b.faults)
two_judged d place o a b = reckoned d place o a b

-- ---- branches

-- both at once: what they are together, where they are of one kind
abbrev pub hull : Range → Range → Range
hull a b = range (int_min a.low b.low) (int_max a.high b.high)

abbrev pub hull_of : Option Range → Option Range → Range
hull_of (Some a) (Some b) = hull a b
hull_of a b = no_range

abbrev pub same_item : ItemOf → ItemOf → Bool
same_item (Bits a) (Bits b) = a == b
same_item (ItemGroups a counted) (ItemGroups b other) = a == b
same_item a b = false

abbrev pub joined : Meant → Meant → Option Meant
joined (Number a) (Number b) = Some (Number (hull_of (proper a) (proper b)))
joined FlagKind FlagKind = Some FlagKind
joined (EnumOf a) (EnumOf b) = if a == b then Some (EnumOf a) else None
joined (GroupOf a case) (GroupOf b other) = if a == b then Some (GroupOf a (if case == other then case else 0)) else None
joined (ListOf a) (ListOf b) = if same_item a b then Some (ListOf a) else None
joined Bytes Bytes = Some Bytes
joined Raw Raw = Some Raw
joined a b = None

abbrev pub branches_joined : Place → List Fault → Option Meant → Judged
branches_joined place faults (Some meant) = is meant faults
branches_joined place faults None = nothing place KindMismatch faults

abbrev pub branches : Place → List Fault → Option Meant → Option Meant → Judged
branches place faults (Some a) (Some b) = branches_joined place faults (joined a b)
branches place faults a b = unknown faults

abbrev pub chosen : Place → Judged → Judged → Judged → Judged
chosen place c a b =
    branches place (kind_wrong (is_kind is_flag c.meant) place ++ c.faults ++ a.faults ++ b.faults) a.meant b.meant

-- ---- an expression, by its outermost form

abbrev pub literal_is : Place → Lit → Judged
literal_is place (Num negative size) =
    number_is (Some (range (literal (Num negative size)) (literal (Num negative size))))
    (wrong_if (leaves (Some (range (literal (Num negative size)) (literal (Num negative size))))) place TooWide) []
literal_is place (Flag flag) = is FlagKind []

abbrev pub up_to : ℕ → Range
up_to high = range (pos 0) (pos high)

abbrev pub shape_judged : Judges → Description → Scope → Place → Shape-F Shape Expr → Judged
shape_judged judges d scope place (Shape-F.Lit value) = literal_is place value
shape_judged judges d scope place Shape-F.Null = is Null []
shape_judged judges d scope place (Shape-F.Name name) = found_name place (name_in scope name)
shape_judged judges d scope place Shape-F.CurPos = word place true (Number (up_to 65535))
shape_judged judges d scope place Shape-F.Length = word place scope.words.length (Number (up_to 65535))
shape_judged judges d scope place Shape-F.LastItem = word place scope.words.last_item FlagKind
shape_judged judges d scope place Shape-F.SumBytes = word place scope.words.sums (Number (up_to 16711425))
shape_judged judges d scope place Shape-F.XorBytes = word place scope.words.sums (Number (up_to 255))
shape_judged judges d scope place (Shape-F.Dot a name) =
    dotted judges d scope place a name (enum_of_shape d scope (out-Shape (out-Expr a).shape))
shape_judged judges d scope place (Shape-F.LengthOf a) =
    measured place ((judges a).optional || is_kind (λ meant. is_group meant || is_array meant) (judges a).meant)
    (up_to 65535) (judges a)
shape_judged judges d scope place (Shape-F.Count a) =
    measured place (is_kind is_array (judges a).meant) (up_to 16777216) (judges a)
shape_judged judges d scope place (Shape-F.Cast a name) = cast_meant d place name (judges a).faults (judges a).meant
shape_judged judges d scope place (Shape-F.Not a) =
    is FlagKind (kind_wrong (is_kind is_flag (judges a).meant) place ++ (judges a).faults)
shape_judged judges d scope place (Shape-F.Neg a) = negated d place (judges a)
shape_judged judges d scope place (Shape-F.Two o a b) = two_judged d place o (judges a) (judges b)
shape_judged judges d scope place (Shape-F.If c a b) = chosen place (judges c) (judges a) (judges b)

-- an expression of at most this depth
abbrev pub judged_at : (depth : ℕ) → Description → Scope → Judges
judged_at zero d scope e = nothing (out-Expr e).place KindMismatch []
judged_at (suc depth) d scope e =
    shape_judged (judged_at depth d scope) d scope (out-Expr e).place (out-Shape (out-Expr e).shape)

abbrev pub judged : Description → Scope → Judges
judged d scope = judged_at deepest d scope

-- ---- the answer

-- names come before kinds, and these before ranges
abbrev pub rank : ExprWhy → ℕ
rank UnknownName = 0
rank KindMismatch = 1
rank TooWide = 2
rank DivisorMayBeZero = 3
rank OperandRange = 4

abbrev pub place_before : Place → Place → Bool
place_before a b = nat_lt a.line b.line || a.line == b.line && nat_lt a.column b.column

abbrev pub fault_before : Fault → Fault → Bool
fault_before a b =
    place_before a.place b.place || not (place_before b.place a.place) && nat_lt (rank a.why) (rank b.why)

abbrev pub first_fault : Fault → List Fault → Fault
first_fault fault [] = fault
first_fault fault (other ∷ faults) = first_fault (if fault_before other fault then other else fault) faults

-- what is nothing has a fault
abbrev pub answer : Place → Option Meant → List Fault → Result Meant Fault
answer place meant (fault ∷ faults) = Err (first_fault fault faults)
answer place (Some meant) [] = Ok meant
answer place None [] = Err (record { place = place; why = KindMismatch })

-- what an expression is in a scope, or its first fault
abbrev pub range_found : Description → Scope → Expr → Result Meant Fault
range_found d scope e = answer (out-Expr e).place (judged d scope e).meant (judged d scope e).faults
