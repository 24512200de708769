-- The first definition, parameter, case, field or node of an expression past a limit.
use Rattle.std.specs.Prelude.{ℕ, zero, suc, List, [], ◌∷◌, ◌++◌, map, slice_get, Option, Some, None}
use Rattle.std.specs.List.{flat_map}
use Rattle.mspec_tree.specs.Depth.{depth_limit}
use Rattle.mspec_tree.specs.declared.words.Place.{Place}
use Rattle.mspec_tree.specs.declared.exprs.Expr.{Expr, out-Expr}
use Rattle.mspec_tree.specs.declared.exprs.Shape.{Shape, out-Shape}
use Rattle.mspec_tree.specs.declared.exprs.Shape.TheOpen.{Shape-F}
use Rattle.mspec_tree.specs.declared.exprs.Ref.{Ref}
use Rattle.mspec_tree.specs.declared.exprs.Ref.TheVariants as refs
use Rattle.mspec_tree.specs.declared.fields.Field.{Field, out-Field}
use Rattle.mspec_tree.specs.declared.fields.Body.TheOpen.{Body-F}
use Rattle.mspec_tree.specs.declared.fields.Case.{Case, out-Case}
use Rattle.mspec_tree.specs.declared.defs.Param.{Param}
use Rattle.mspec_tree.specs.declared.defs.Def.{Def}
use Rattle.mspec_tree.specs.declared.defs.Description.{Description}
use Rattle.mspec_expr.specs.Kinds.{BodyLayer, layer, entry_fields, fields_in, first_cases}
use Rattle.mspec_rules.specs.declared.wrongs.Wrong.{Wrong}
use Rattle.mspec_rules.specs.declared.wrongs.Rule.TheVariants.{Limits}
use Rattle.mspec_rules.specs.declared.wrongs.CheckWhy.TheVariants.{Limit}
use Rattle.mspec_rules.specs.Wrongs.{wrong}
use Rattle.mspec_rules.specs.Types.{body_ref}

abbrev pub most_defs : ℕ
most_defs = 1024

abbrev pub most_fields : ℕ
most_fields = 256

abbrev pub most_cases : ℕ
most_cases = 256

abbrev pub most_params : ℕ
most_params = 16

abbrev pub most_parts : ℕ
most_parts = 65536

abbrev pub limit_at : Option Place → List Wrong
limit_at (Some place) = wrong place Limits Limit ∷ []
limit_at None = []

-- the first of these past so many
abbrev pub past : (most : ℕ) → List Place → List Wrong
past most places = limit_at (slice_get places most)

-- ---- fields of one case with its parent, cases, parameters

abbrev pub field_places : List Field → List Place
field_places fields = map (λ field. (out-Field field).place) fields

-- each of these cases, the first of which has this number, with its parent, the parent's fields on both sides
abbrev pub case_limits : List Field → (case : ℕ) → List Case → List Wrong
case_limits fields case [] = []
case_limits fields case (one ∷ cases) =
    past most_fields (field_places (entry_fields case fields)) ++ case_limits fields (suc case) cases

-- the fields outside of switches by themselves, and with each case
abbrev pub field_limits : List Field → List Wrong
field_limits fields =
    past most_fields (field_places (entry_fields 0 fields)) ++ case_limits fields 1 (first_cases fields)

abbrev pub switch_limit_in : BodyLayer → List Wrong
switch_limit_in (Body-F.Switch names cases) = past most_cases (map (λ case. (out-Case case).place) cases)
switch_limit_in other = []

abbrev pub switch_limit : Field → List Wrong
switch_limit field = switch_limit_in (layer field)

abbrev pub param_limit : List Param → List Wrong
param_limit params = past most_params (map (λ param. param.place) params)

abbrev pub def_limits : Def → List Wrong
def_limits def =
    param_limit def.params ++ field_limits (fields_in def.body) ++ flat_map switch_limit (fields_in def.body)

-- ---- fields and nodes of expressions together, in the order of the text

-- one layer of an expression, by the places of its operands
abbrev pub NodesOf : Type 0
NodesOf = Expr → List Place

abbrev pub shape_nodes : NodesOf → (place : Place) → Shape-F Shape Expr → List Place
shape_nodes nodes place (Shape-F.Dot of name) = nodes of ++ place ∷ []
shape_nodes nodes place (Shape-F.LengthOf of) = nodes of ++ place ∷ []
shape_nodes nodes place (Shape-F.Count of) = place ∷ nodes of
shape_nodes nodes place (Shape-F.Cast of name) = place ∷ nodes of
shape_nodes nodes place (Shape-F.Not of) = place ∷ nodes of
shape_nodes nodes place (Shape-F.Neg of) = place ∷ nodes of
shape_nodes nodes place (Shape-F.Two operator a b) = nodes a ++ place ∷ nodes b
shape_nodes nodes place (Shape-F.If condition a b) = nodes condition ++ place ∷ (nodes a ++ nodes b)
shape_nodes nodes place other = place ∷ []

-- the nodes of an expression of at most so many levels; what is deeper has none
abbrev pub nodes_to : (levels : ℕ) → Expr → List Place
nodes_to zero e = []
nodes_to (suc levels) e = shape_nodes (nodes_to levels) (out-Expr e).place (out-Shape (out-Expr e).shape)

abbrev pub nodes : Expr → List Place
nodes e = nodes_to depth_limit e

-- the arguments of a type
abbrev pub ref_nodes : Option Ref → List Place
ref_nodes (Some (refs.Named place name args)) = flat_map nodes args
ref_nodes (Some (refs.Plain simple)) = []
ref_nodes None = []

-- the expression of a field
abbrev pub body_expr : BodyLayer → Option Expr
body_expr (Body-F.Implicit kind value) = Some value
body_expr (Body-F.Virtual kind value) = Some value
body_expr (Body-F.Optional kind condition) = Some condition
body_expr (Body-F.Checksum simple value) = Some value
body_expr (Body-F.Padding simple value count) = Some count
body_expr (Body-F.CountArray kind count) = Some count
body_expr (Body-F.LengthArray kind bytes) = Some bytes
body_expr other = None

abbrev pub expr_nodes : Option Expr → List Place
expr_nodes (Some e) = nodes e
expr_nodes None = []

abbrev pub field_parts : Field → List Place
field_parts field = (out-Field field).place ∷ (ref_nodes (body_ref (layer field)) ++ expr_nodes (body_expr (layer field)))

-- a switch and its keys don't count, the fields of its cases do
abbrev pub entry_parts_in : Field → BodyLayer → List Place
entry_parts_in field (Body-F.Switch names cases) = flat_map (λ case. flat_map field_parts (out-Case case).fields) cases
entry_parts_in field other = field_parts field

abbrev pub entry_parts : Field → List Place
entry_parts field = entry_parts_in field (layer field)

abbrev pub def_parts : Def → List Place
def_parts def = flat_map entry_parts (fields_in def.body)

abbrev pub parts : Description → List Place
parts d = flat_map def_parts d.defs

-- ---- all limits

abbrev pub limit_wrongs : Description → List Wrong
limit_wrongs d =
    past most_defs (map (λ def. def.place) d.defs) ++ flat_map def_limits d.defs ++ past most_parts (parts d)
