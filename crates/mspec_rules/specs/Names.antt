-- What has the name of something before it. Two definitions have two names, two constants of an enum, two parameters, two cases of a
-- `discriminatedType`, two fields of a type or of a case with its parent, and a field and a parameter.
use Rattle.std.specs.Prelude.{ℕ, suc, ◌==◌, ◌&&◌, ◌||◌, Bool, true, false, List, [], ◌∷◌, ◌++◌, map, bytes_eq}
use Rattle.std.specs.List.{flat_map, list_any}
use Rattle.mspec_tree.specs.declared.words.Place.{Place}
use Rattle.mspec_tree.specs.declared.fields.Field.{Field, out-Field}
use Rattle.mspec_tree.specs.declared.fields.Body.TheOpen.{Body-F}
use Rattle.mspec_tree.specs.declared.fields.Case.{Case, out-Case}
use Rattle.mspec_tree.specs.declared.defs.Constant.{Constant}
use Rattle.mspec_tree.specs.declared.defs.Param.{Param}
use Rattle.mspec_tree.specs.declared.defs.Def.{Def}
use Rattle.mspec_tree.specs.declared.defs.DefBody.{DefBody}
use Rattle.mspec_tree.specs.declared.defs.DefBody.TheVariants.{Plain, Switched, DataIo, Enum}
use Rattle.mspec_tree.specs.declared.defs.Description.{Description}
use Rattle.mspec_expr.specs.Kinds.{BodyLayer, layer}
use Rattle.mspec_rules.specs.declared.wrongs.Wrong.{Wrong}
use Rattle.mspec_rules.specs.declared.wrongs.Rule.TheVariants.{Names}
use Rattle.mspec_rules.specs.declared.wrongs.CheckWhy.TheVariants.{DoubledName}
use Rattle.mspec_rules.specs.Wrongs.{wrong_if}

-- something with a name, which stands at a place: in the case of this number, or outside of all where it is 0
pub record Named : Type 0 where
  pub name : List ℕ
  pub place : Place
  pub case : ℕ

abbrev pub named : List ℕ → Place → (case : ℕ) → Named
named name place case = record { name = name; place = place; case = case }

-- two stand in one list: they aren't in two cases
abbrev pub meets : (case other : ℕ) → Bool
meets case other = other == 0 || case == 0 || case == other

-- something has this name, and stands in one list with what is in this case
abbrev pub clashes : (name : List ℕ) → (case : ℕ) → Named → Bool
clashes name case other = meets case other.case && bytes_eq other.name name

-- each that has the name of one before it
abbrev pub doubled : (before : List Named) → List Named → List Wrong
doubled before [] = []
doubled before (one ∷ more) =
    wrong_if (list_any (clashes one.name one.case) before) one.place Names DoubledName ++ doubled (before ++ one ∷ []) more

-- ---- the names of each list, in order

abbrev pub def_names : List Def → List Named
def_names defs = map (λ (def : Def). named def.name def.named 0) defs

abbrev pub param_names : List Param → List Named
param_names params = map (λ (param : Param). named param.name param.place 0) params

abbrev pub constant_names : List Constant → List Named
constant_names constants = map (λ (constant : Constant). named constant.name constant.place 0) constants

-- a reserved field and a switch have no name
abbrev pub is_nameless : BodyLayer → Bool
is_nameless (Body-F.Reserved simple value) = true
is_nameless (Body-F.Switch names cases) = true
is_nameless other = false

abbrev pub unless_nameless : Bool → Named → List Named
unless_nameless true one = []
unless_nameless false one = one ∷ []

abbrev pub field_names : (case : ℕ) → Field → List Named
field_names case field =
    unless_nameless (is_nameless (layer field)) (named (out-Field field).name (out-Field field).named case)

-- the fields of these cases, the first of which has this number
abbrev pub cases_names : (case : ℕ) → List Case → List Named
cases_names case [] = []
cases_names case (one ∷ cases) = flat_map (field_names case) (out-Case one).fields ++ cases_names (suc case) cases

-- the fields of a switch's cases stand in its place
abbrev pub entry_names_in : Field → BodyLayer → List Named
entry_names_in field (Body-F.Switch names cases) = cases_names 1 cases
entry_names_in field other = field_names 0 field

abbrev pub entry_names : Field → List Named
entry_names field = entry_names_in field (layer field)

abbrev pub case_names : List Case → List Named
case_names cases = map (λ (case : Case). named (out-Case case).name (out-Case case).named 0) cases

-- ---- what is wrong

-- the parameters and fields of a definition
abbrev pub fields_doubled : List Param → List Field → List Wrong
fields_doubled params fields = doubled [] (param_names params ++ flat_map entry_names fields)

-- the cases of a switch
abbrev pub switch_doubled_in : BodyLayer → List Wrong
switch_doubled_in (Body-F.Switch names cases) = doubled [] (case_names cases)
switch_doubled_in other = []

abbrev pub switch_doubled : Field → List Wrong
switch_doubled field = switch_doubled_in (layer field)

-- the cases of a `dataIo` may share a name
abbrev pub body_doubled : List Param → DefBody → List Wrong
body_doubled params (Plain fields) = fields_doubled params fields
body_doubled params (Switched fields) =
    fields_doubled params fields ++ flat_map switch_doubled fields
body_doubled params (DataIo field) = fields_doubled params (field ∷ [])
body_doubled params (Enum base constants) =
    doubled [] (param_names params) ++ doubled [] (constant_names constants)

abbrev pub def_doubled : Def → List Wrong
def_doubled def = body_doubled def.params def.body

abbrev pub name_wrongs : Description → List Wrong
name_wrongs d = doubled [] (def_names d.defs) ++ flat_map def_doubled d.defs
