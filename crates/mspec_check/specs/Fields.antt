-- What is wrong with the fields of a description by the rules on expressions: a clause for each kind of field.
use Rattle.std.specs.Prelude.{ℕ, List, [], ◌++◌}
use Rattle.std.specs.List.{flat_map}
use Rattle.mspec_tree.specs.declared.words.Place.{Place}
use Rattle.mspec_tree.specs.declared.exprs.Expr.{Expr}
use Rattle.mspec_tree.specs.declared.exprs.Ref.{Ref}
use Rattle.mspec_tree.specs.declared.fields.Field.{out-Field}
use Rattle.mspec_tree.specs.declared.fields.Body.TheOpen.{Body-F}
use Rattle.mspec_tree.specs.declared.fields.Case.{Case, out-Case}
use Rattle.mspec_tree.specs.declared.defs.Def.{Def}
use Rattle.mspec_tree.specs.declared.defs.Description.{Description}
use Rattle.mspec_expr.specs.Kinds.{BodyLayer, fields_in, layer, ref_meant, simple_meant}
use Rattle.mspec_rules.specs.declared.wrongs.Wrong.{Wrong}
use Rattle.mspec_check.specs.declared.wants.Want.TheVariants.{Numbers, Flags}
use Rattle.mspec_rules.specs.Types.{body_ref, where_some}
use Rattle.mspec_check.specs.Arguments.{ref_wrongs}
use Rattle.mspec_check.specs.Expressions.{expr_wrongs}
use Rattle.mspec_check.specs.Paddings.{padding_wrongs}
use Rattle.mspec_check.specs.Scopes.{Around, Placed, checksum_words, names_before, no_words, padding_words, placed, seen_before, seen_given}
use Rattle.mspec_check.specs.Switches.{keys_wrongs, names_wrongs}
use Rattle.mspec_check.specs.Wants.{want_of}

-- ---- a field

-- the arguments of its type
abbrev pub type_arguments : Description → Around → BodyLayer → List Wrong
type_arguments d around body = where_some (ref_wrongs d (seen_before d around no_words)) (body_ref body)

abbrev pub implicit_wrongs : Description → Around → Ref → Expr → List Wrong
implicit_wrongs d around kind value = expr_wrongs d (seen_given d around) (want_of (ref_meant d kind)) value

-- a padding's count is a number, and has nothing else than it may
abbrev pub count_wrongs : Description → Around → Expr → List Wrong
count_wrongs d around count =
    expr_wrongs d (seen_before d around padding_words) Numbers count ++ padding_wrongs around count

-- its own expression: an implicit, virtual or checksum one is of its field's type, a condition is a flag, a count or a length a number
abbrev pub own_expression : Description → Around → BodyLayer → List Wrong
own_expression d around (Body-F.Implicit kind value) = implicit_wrongs d around kind value
own_expression d around (Body-F.Virtual kind value) =
    expr_wrongs d (seen_before d around no_words) (want_of (ref_meant d kind)) value
own_expression d around (Body-F.Optional kind condition) =
    expr_wrongs d (seen_before d around no_words) Flags condition
own_expression d around (Body-F.Checksum simple value) =
    expr_wrongs d (seen_before d around checksum_words) (want_of (simple_meant simple)) value
own_expression d around (Body-F.Padding simple value count) = count_wrongs d around count
own_expression d around (Body-F.CountArray kind count) =
    expr_wrongs d (seen_before d around no_words) Numbers count
own_expression d around (Body-F.LengthArray kind bytes) =
    expr_wrongs d (seen_before d around no_words) Numbers bytes
own_expression d around other = []

abbrev pub field_wrongs : Description → Around → BodyLayer → List Wrong
field_wrongs d around body = type_arguments d around body ++ own_expression d around body

-- ---- a switch

-- Its cases' fields stand behind those before the switch. A field behind the switch doesn't see them.
abbrev pub case_wrongs : Description → Around → (names : List (List ℕ)) → Case → List Wrong
case_wrongs d around names case =
    keys_wrongs d (names_before d around.params around.earlier) names case
    ++ flat_map
    (λ at. field_wrongs d at.around (layer at.field))
    (placed around.params around.earlier around.later (out-Case case).fields)

abbrev pub switch_wrongs : Description → Around → Place → (names : List (List ℕ)) → List Case → List Wrong
switch_wrongs d around place names cases =
    names_wrongs (names_before d around.params around.earlier) place names
    ++ flat_map (case_wrongs d around names) cases

-- ---- a description

abbrev pub any_field_wrongs : Description → Around → Place → BodyLayer → List Wrong
any_field_wrongs d around place (Body-F.Switch names cases) = switch_wrongs d around place names cases
any_field_wrongs d around place other = field_wrongs d around other

abbrev pub placed_wrongs : Description → Placed → List Wrong
placed_wrongs d at = any_field_wrongs d at.around (out-Field at.field).place (layer at.field)

abbrev pub def_wrongs : Description → Def → List Wrong
def_wrongs d def = flat_map (placed_wrongs d) (placed def.params [] [] (fields_in def.body))

-- all that is wrong with a description by the rules on expressions, on a switch's names and keys, and on the kinds of arguments
abbrev pub scope_wrongs : Description → List Wrong
scope_wrongs d = flat_map (def_wrongs d) d.defs
