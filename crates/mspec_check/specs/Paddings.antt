-- What a padding's expression may have: literals, operators, `lastItem`, earlier simple or discriminator fields, and `COUNT` of
-- earlier arrays.
use Rattle.std.specs.Prelude.{ℕ, zero, suc, Bool, true, false, ◌&&◌, not, List, [], ◌∷◌, ◌++◌, Option, Some, None, find, bytes_eq}
use Rattle.mspec_tree.specs.declared.words.Place.{Place}
use Rattle.mspec_tree.specs.declared.exprs.Expr.{Expr, out-Expr}
use Rattle.mspec_tree.specs.declared.exprs.Shape.{Shape, out-Shape}
use Rattle.mspec_tree.specs.declared.exprs.Shape.TheOpen.{Shape-F}
use Rattle.mspec_tree.specs.declared.fields.Field.{Field, out-Field}
use Rattle.mspec_tree.specs.declared.fields.Body.TheOpen.{Body-F}
use Rattle.mspec_tree.specs.declared.defs.Param.{Param}
use Rattle.mspec_expr.specs.Kinds.{BodyLayer, layer}
use Rattle.mspec_expr.specs.Values.{deepest}
use Rattle.mspec_rules.specs.declared.wrongs.Rule.TheVariants as rule
use Rattle.mspec_rules.specs.declared.wrongs.CheckWhy.TheVariants as why
use Rattle.mspec_rules.specs.declared.wrongs.Wrong.{Wrong}
use Rattle.mspec_rules.specs.Wrongs.{wrong, wrong_if}
use Rattle.mspec_check.specs.declared.paddings.Role.{Role}
use Rattle.mspec_check.specs.declared.paddings.Role.TheVariants.{Value, Array, Other}
use Rattle.mspec_check.specs.Scopes.{Around, is_named}

-- ---- names

abbrev pub role_of : BodyLayer → Role
role_of (Body-F.Simple kind) = Value
role_of (Body-F.Discriminator kind) = Value
role_of (Body-F.CountArray kind count) = Array
role_of (Body-F.LengthArray kind bytes) = Array
role_of other = Other

abbrev pub role_among : Option Param → Option Field → Option Role
role_among (Some param) field = Some Other
role_among None (Some field) = Some (role_of (layer field))
role_among None None = None

-- an earlier field of this name
abbrev pub field_before : (name : List ℕ) → List Field → Option Field
field_before name earlier = find (λ field. is_named (layer field) && bytes_eq (out-Field field).name name) earlier

-- what a name is that is seen
abbrev pub role_named : Around → (name : List ℕ) → Option Role
role_named around name =
    role_among (find (λ param. bytes_eq param.name name) around.params) (field_before name around.earlier)

abbrev pub is_value : Option Role → Bool
is_value (Some Value) = true
is_value other = false

-- a name that isn't seen is no fault of the `COUNT` above it
abbrev pub may_be_array : Option Role → Bool
may_be_array (Some Array) = true
may_be_array (Some role) = false
may_be_array None = true

abbrev pub is_counted : Around → Shape-F Shape Expr → Bool
is_counted around (Shape-F.Name name) = may_be_array (role_named around name)
is_counted around other = false

-- ---- parts

abbrev pub something_else : Place → Wrong
something_else place = wrong place rule.Paddings why.PaddingScope

abbrev pub else_unless : Bool → Place → List Wrong
else_unless right place = wrong_if (not right) place rule.Paddings why.PaddingScope

-- the parts of each expression that are something else
abbrev pub Parts : Type 0
Parts = Expr → List Wrong

abbrev pub shape_parts : Parts → Around → Place → Shape-F Shape Expr → List Wrong
shape_parts parts around place (Shape-F.Lit value) = []
shape_parts parts around place Shape-F.LastItem = []
shape_parts parts around place (Shape-F.Name name) = else_unless (is_value (role_named around name)) place
shape_parts parts around place (Shape-F.Count a) =
    else_unless (is_counted around (out-Shape (out-Expr a).shape)) place
shape_parts parts around place (Shape-F.Not a) = parts a
shape_parts parts around place (Shape-F.Neg a) = parts a
shape_parts parts around place (Shape-F.Two o a b) = parts a ++ parts b
shape_parts parts around place (Shape-F.If c a b) = parts c ++ parts a ++ parts b
shape_parts parts around place (Shape-F.Dot a name) = something_else place ∷ parts a
shape_parts parts around place (Shape-F.LengthOf a) = something_else place ∷ parts a
shape_parts parts around place (Shape-F.Cast a name) = something_else place ∷ parts a
shape_parts parts around place other = something_else place ∷ []

-- an expression of at most this depth
abbrev pub parts_at : (depth : ℕ) → Around → Parts
parts_at zero around e = []
parts_at (suc depth) around e =
    shape_parts (parts_at depth around) around (out-Expr e).place (out-Shape (out-Expr e).shape)

abbrev pub padding_wrongs : Around → Parts
padding_wrongs around = parts_at deepest around
