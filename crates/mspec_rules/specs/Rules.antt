-- All that is wrong with a description by the rules that need no ranges of expressions.
use Rattle.std.specs.Prelude.{ℕ, List, [], ◌∷◌, ◌++◌}
use Rattle.std.specs.List.{flat_map}
use Rattle.mspec_tree.specs.declared.fields.Field.{Field}
use Rattle.mspec_tree.specs.declared.fields.Body.TheOpen.{Body-F}
use Rattle.mspec_tree.specs.declared.fields.Case.{Case, out-Case}
use Rattle.mspec_tree.specs.declared.defs.Def.{Def}
use Rattle.mspec_tree.specs.declared.defs.DefBody.{DefBody}
use Rattle.mspec_tree.specs.declared.defs.DefBody.TheVariants.{Plain, Switched, DataIo, Enum}
use Rattle.mspec_tree.specs.declared.defs.Description.{Description}
use Rattle.mspec_expr.specs.Kinds.{BodyLayer, layer}
use Rattle.mspec_rules.specs.declared.wrongs.Wrong.{Wrong}
use Rattle.mspec_rules.specs.Names.{name_wrongs}
use Rattle.mspec_rules.specs.Types.{base_wrongs, field_count, field_kind, field_order, field_width, param_wrongs}
use Rattle.mspec_rules.specs.Literals.{constant_wrongs, field_literal}
use Rattle.mspec_rules.specs.Switches.{key_count, switch_count}
use Rattle.mspec_rules.specs.Limits.{limit_wrongs}

-- a field by itself
abbrev pub field_wrongs : Description → Field → List Wrong
field_wrongs d field =
    field_kind d field ++ field_width field ++ field_order d field ++ field_literal field ++ field_count d field

abbrev pub case_wrongs : Description → (names : List (List ℕ)) → Case → List Wrong
case_wrongs d names case = key_count names case ++ flat_map (field_wrongs d) (out-Case case).fields

-- a field, or the cases of a switch
abbrev pub entry_wrongs_in : Description → Field → BodyLayer → List Wrong
entry_wrongs_in d field (Body-F.Switch names cases) = flat_map (case_wrongs d names) cases
entry_wrongs_in d field other = field_wrongs d field

abbrev pub entry_wrongs : Description → Field → List Wrong
entry_wrongs d field = entry_wrongs_in d field (layer field)

abbrev pub body_wrongs : Description → Def → DefBody → List Wrong
body_wrongs d def (Plain fields) = flat_map (entry_wrongs d) fields
body_wrongs d def (Switched fields) = switch_count def.named fields ++ flat_map (entry_wrongs d) fields
body_wrongs d def (DataIo field) = entry_wrongs d field
body_wrongs d def (Enum base constants) =
    base_wrongs def.place base ++ flat_map (constant_wrongs d base def.params) constants

abbrev pub def_wrongs : Description → Def → List Wrong
def_wrongs d def = flat_map (param_wrongs d) def.params ++ body_wrongs d def def.body

-- in any order: which one is told goes by their places
abbrev pub type_wrongs : Description → List Wrong
type_wrongs d = limit_wrongs d ++ flat_map (def_wrongs d) d.defs ++ name_wrongs d
