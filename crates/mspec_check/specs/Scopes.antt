-- What the expressions of a description see.
use Rattle.std.specs.Prelude.{Bool, true, false, ◌||◌, List, [], ◌∷◌, ◌++◌, map}
use Rattle.std.specs.List.{filter}
use Rattle.mspec_tree.specs.declared.fields.Field.{Field, out-Field}
use Rattle.mspec_tree.specs.declared.fields.Body.TheOpen.{Body-F}
use Rattle.mspec_tree.specs.declared.defs.Param.{Param}
use Rattle.mspec_tree.specs.declared.defs.Description.{Description}
use Rattle.mspec_expr.specs.declared.scopes.MeantName.{MeantName}
use Rattle.mspec_expr.specs.declared.scopes.Scope.{Scope}
use Rattle.mspec_expr.specs.declared.scopes.Words.{Words}
use Rattle.mspec_expr.specs.Kinds.{BodyLayer, layer, field_meant, ref_meant}
use Rattle.mspec_expr.specs.Ranges.{is_given, is_optional}

-- ---- where a field stands

-- The parameters of a field's definition, and the fields before it and behind it in the text: those of its own list, and of its
-- parent's where it stands in a case.
pub record Around : Type 0 where
  pub params : List Param
  pub earlier : List Field
  pub later : List Field

-- a field with what stands around it
pub record Placed : Type 0 where
  pub around : Around
  pub field : Field

-- each of these fields, behind those that are earlier and before those that are later
abbrev pub placed : List Param → (earlier later : List Field) → List Field → List Placed
placed params earlier later [] = []
placed params earlier later (field ∷ fields) =
    record {
      around = record { params = params; earlier = earlier; later = fields ++ later };
      field = field;
    }
    ∷ placed params (earlier ++ field ∷ []) later fields

-- ---- names

-- a reserved field and a switch have no name
abbrev pub is_named : BodyLayer → Bool
is_named (Body-F.Reserved simple value) = false
is_named (Body-F.Switch names cases) = false
is_named other = true

abbrev pub is_const : BodyLayer → Bool
is_const (Body-F.Const simple value) = true
is_const other = false

-- a const field, or one that is given: what an implicit expression sees of the fields before it
abbrev pub is_known : BodyLayer → Bool
is_known body = is_const body || is_given body

abbrev pub param_seen : Description → Param → MeantName
param_seen d param = record { name = param.name; meant = ref_meant d param.kind; optional = false }

abbrev pub params_seen : Description → List Param → List MeantName
params_seen d params = map (param_seen d) params

abbrev pub field_seen : Description → Field → MeantName
field_seen d field =
    record { name = (out-Field field).name; meant = field_meant d field; optional = is_optional (layer field) }

-- those of the fields that are seen
abbrev pub fields_seen : Description → (is_seen : BodyLayer → Bool) → List Field → List MeantName
fields_seen d is_seen fields = map (field_seen d) (filter (λ field. is_seen (layer field)) fields)

-- the parameters and the earlier named fields
abbrev pub names_before : Description → List Param → (earlier : List Field) → List MeantName
names_before d params earlier = params_seen d params ++ fields_seen d is_named earlier

-- in place of these: the parameters, the earlier const fields, and the given fields, earlier or later
abbrev pub names_given : Description → Around → List MeantName
names_given d around =
    params_seen d around.params ++ fields_seen d is_known around.earlier ++ fields_seen d is_given around.later

-- ---- words

abbrev pub no_words : Words
no_words = record { length = false; last_item = false; sums = false }

-- `lengthInBytes` by itself stands in implicit expressions only
abbrev pub implicit_words : Words
implicit_words = record { length = true; last_item = false; sums = false }

-- `lastItem` in padding only
abbrev pub padding_words : Words
padding_words = record { length = false; last_item = true; sums = false }

-- `SUM_BYTES` and `XOR_BYTES` in checksum only
abbrev pub checksum_words : Words
checksum_words = record { length = false; last_item = false; sums = true }

-- ---- scopes

-- what an expression of a field sees that has these words
abbrev pub seen_before : Description → Around → Words → Scope
seen_before d around words = record { names = names_before d around.params around.earlier; words = words }

abbrev pub seen_given : Description → Around → Scope
seen_given d around = record { names = names_given d around; words = implicit_words }
