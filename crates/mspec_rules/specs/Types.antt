-- What is wrong with the types of fields, parameters and enums: their names and kinds, widths, orders of bytes, and how many arguments
-- they are given. A type's name means the first definition of that name.
use Rattle.std.specs.Prelude.{ℕ, ◌%◌, ◌==◌, ◌&&◌, ◌||◌, not, Bool, true, false, List, [], ◌∷◌, ◌++◌, length, find, bytes_eq, Option, Some, None}
use Rattle.mspec_tree.specs.declared.words.Place.{Place}
use Rattle.mspec_tree.specs.declared.words.ByteOrder.{ByteOrder}
use Rattle.mspec_tree.specs.declared.words.ByteOrder.TheVariants.{Big, Little}
use Rattle.mspec_tree.specs.declared.words.Simple.{Simple}
use Rattle.mspec_tree.specs.declared.words.Simple.TheVariants.{Bit, Byte, Uint, Int, Float}
use Rattle.mspec_tree.specs.declared.exprs.Ref.{Ref}
use Rattle.mspec_tree.specs.declared.exprs.Ref.TheVariants as refs
use Rattle.mspec_tree.specs.declared.fields.Field.{Field, out-Field}
use Rattle.mspec_tree.specs.declared.fields.Body.TheOpen.{Body-F}
use Rattle.mspec_tree.specs.declared.defs.Param.{Param}
use Rattle.mspec_tree.specs.declared.defs.Def.{Def}
use Rattle.mspec_tree.specs.declared.defs.DefBody.{DefBody}
use Rattle.mspec_tree.specs.declared.defs.DefBody.TheVariants as defs
use Rattle.mspec_tree.specs.declared.defs.Description.{Description}
use Rattle.mspec_expr.specs.declared.kinds.ExprWhy.TheVariants.{KindMismatch}
use Rattle.mspec_expr.specs.Kinds.{BodyLayer, layer, is_width, ref_simple, width}
use Rattle.mspec_rules.specs.declared.wrongs.Wrong.{Wrong}
use Rattle.mspec_rules.specs.declared.wrongs.Rule.TheVariants as rules
use Rattle.mspec_rules.specs.declared.wrongs.CheckWhy.TheVariants.{Expr as ExprWrong, UnknownType, WidthRange, LittleWidth, Arguments}
use Rattle.mspec_rules.specs.Wrongs.{wrong_if}

-- ---- the type of a field

-- a type that is written with its own word, where nothing else may stand
abbrev pub body_simple : BodyLayer → Option Simple
body_simple (Body-F.Const simple value) = Some simple
body_simple (Body-F.Reserved simple value) = Some simple
body_simple (Body-F.Checksum simple value) = Some simple
body_simple (Body-F.Padding simple value count) = Some simple
body_simple other = None

-- a type that may be named
abbrev pub body_ref : BodyLayer → Option Ref
body_ref (Body-F.Simple kind) = Some kind
body_ref (Body-F.Discriminator kind) = Some kind
body_ref (Body-F.Implicit kind value) = Some kind
body_ref (Body-F.Virtual kind value) = Some kind
body_ref (Body-F.Optional kind condition) = Some kind
body_ref (Body-F.CountArray kind count) = Some kind
body_ref (Body-F.LengthArray kind bytes) = Some kind
body_ref other = None

-- a field whose type may be a group or a float
abbrev pub takes_groups : BodyLayer → Bool
takes_groups (Body-F.Simple kind) = true
takes_groups (Body-F.Optional kind condition) = true
takes_groups (Body-F.CountArray kind count) = true
takes_groups (Body-F.LengthArray kind bytes) = true
takes_groups other = false

-- what is wrong with a type, if there is one
abbrev pub where_some : {A : Type 0} → (A → List Wrong) → Option A → List Wrong
where_some rule (Some found) = rule found
where_some rule None = []

-- ---- which types stand in which places

abbrev pub def_of : Description → List ℕ → Option Def
def_of d name = find (λ def. bytes_eq def.name name) d.defs

abbrev pub is_enum : DefBody → Bool
is_enum (defs.Enum base constants) = true
is_enum other = false

abbrev pub is_data_io : DefBody → Bool
is_data_io (defs.DataIo field) = true
is_data_io other = false

abbrev pub is_float : Simple → Bool
is_float (Float bits) = true
is_float other = false

-- a type's name stands for a definition: for an enum, or where groups may stand for anything but a `dataIo`
abbrev pub stands : (groups : Bool) → DefBody → Bool
stands true body = not (is_data_io body)
stands false body = is_enum body

abbrev pub named_kind : (groups : Bool) → Place → Option Def → List Wrong
named_kind groups place None = wrong_if true place rules.Types UnknownType
named_kind groups place (Some def) =
    wrong_if (not (stands groups def.body)) place rules.Types (ExprWrong KindMismatch)

abbrev pub simple_kind : (groups : Bool) → (at : Place) → Simple → List Wrong
simple_kind groups at simple = wrong_if (not groups && is_float simple) at rules.Types (ExprWrong KindMismatch)

abbrev pub ref_kind : Description → (groups : Bool) → (at : Place) → Ref → List Wrong
ref_kind d groups at (refs.Plain simple) = simple_kind groups at simple
ref_kind d groups at (refs.Named place name args) = named_kind groups place (def_of d name)

abbrev pub field_kind : Description → Field → List Wrong
field_kind d field =
    where_some (simple_kind false (out-Field field).place) (body_simple (layer field))
    ++ where_some (ref_kind d (takes_groups (layer field)) (out-Field field).place) (body_ref (layer field))

-- ---- widths

abbrev pub has_width : Simple → Bool
has_width Bit = true
has_width Byte = true
has_width (Uint bits) = is_width bits
has_width (Int bits) = is_width bits
has_width (Float bits) = bits == 16 || bits == 32 || bits == 64

abbrev pub simple_width : (at : Place) → Simple → List Wrong
simple_width at simple = wrong_if (not (has_width simple)) at rules.Widths WidthRange

abbrev pub ref_width_wrong : (at : Place) → Ref → List Wrong
ref_width_wrong at (refs.Plain simple) = simple_width at simple
ref_width_wrong at (refs.Named place name args) = []

abbrev pub field_width : Field → List Wrong
field_width field =
    where_some (simple_width (out-Field field).place) (body_simple (layer field))
    ++ where_some (ref_width_wrong (out-Field field).place) (body_ref (layer field))

-- an enum's numbers are bytes or integers
abbrev pub is_base : Simple → Bool
is_base Byte = true
is_base (Uint bits) = true
is_base (Int bits) = true
is_base other = false

abbrev pub base_wrongs : (at : Place) → Simple → List Wrong
base_wrongs at base =
    wrong_if (not (is_base base)) at rules.Widths (ExprWrong KindMismatch) ++ simple_width at base

-- ---- the order of bytes

-- the type of a field's numbers, or of its items: an enum's are of its base, and a group has none
abbrev pub number_of_ref : Description → Option Ref → Option Simple
number_of_ref d (Some kind) = ref_simple d kind
number_of_ref d None = None

abbrev pub number_or : Description → BodyLayer → Option Simple → Option Simple
number_or d body (Some simple) = Some simple
number_or d body None = number_of_ref d (body_ref body)

abbrev pub number_type : Description → BodyLayer → Option Simple
number_type d body = number_or d body (body_simple body)

abbrev pub is_little : Option ByteOrder → Bool
is_little (Some Little) = true
is_little (Some Big) = false
is_little None = false

abbrev pub is_whole : Option Simple → Bool
is_whole (Some simple) = width simple % 8 == 0
is_whole None = true

abbrev pub field_order : Description → Field → List Wrong
field_order d field =
    wrong_if (is_little (out-Field field).order && not (is_whole (number_type d (layer field))))
    (out-Field field).place rules.Orders LittleWidth

-- ---- arguments

-- a value of an enum takes none: its parameters are the types of its attributes
abbrev pub takes_count : Def → DefBody → ℕ
takes_count def (defs.Enum base constants) = 0
takes_count def other = length def.params

abbrev pub miscounts : (args : ℕ) → Option Def → Bool
miscounts args (Some def) = not (args == takes_count def def.body)
miscounts args None = false

abbrev pub ref_count : Description → Ref → List Wrong
ref_count d (refs.Plain simple) = []
ref_count d (refs.Named place name args) =
    wrong_if (miscounts (length args) (def_of d name)) place rules.Arguments Arguments

abbrev pub field_count : Description → Field → List Wrong
field_count d field = where_some (ref_count d) (body_ref (layer field))

-- ---- parameters

abbrev pub param_wrongs : Description → Param → List Wrong
param_wrongs d param = ref_kind d false param.place param.kind ++ ref_width_wrong param.place param.kind
