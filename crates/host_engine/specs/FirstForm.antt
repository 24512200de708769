-- The first form of a description: one type, whose fields are unsigned numbers of 8, 16, 32 or 64 bits.
use Rattle.std.specs.Prelude.{ℕ, ◌==◌, ◌||◌, ◌&&◌, Bool, true, false, not, is_none, List, [], ◌∷◌, length, nat_le, IsTrue}
use Rattle.std.specs.List.{list_all, list_any}
use Rattle.std.specs.Str.{bytes_eq}
use Rattle.mspec_tree.specs.declared.words.Simple.{Simple}
use Rattle.mspec_tree.specs.declared.words.Simple.TheVariants.{Uint}
use Rattle.mspec_tree.specs.declared.exprs.Ref.{Ref}
use Rattle.mspec_tree.specs.declared.exprs.Ref.TheVariants.{Plain as PlainRef}
use Rattle.mspec_tree.specs.declared.fields.Field.{Field, out-Field}
use Rattle.mspec_tree.specs.declared.fields.Case.{Case}
use Rattle.mspec_tree.specs.declared.fields.Body.{Body, out-Body}
use Rattle.mspec_tree.specs.declared.fields.Body.TheOpen.{Body-F, Simple as SimpleBody}
use Rattle.mspec_tree.specs.declared.defs.Def.{Def}
use Rattle.mspec_tree.specs.declared.defs.DefBody.{DefBody}
use Rattle.mspec_tree.specs.declared.defs.DefBody.TheVariants.{Plain}
use Rattle.mspec_tree.specs.declared.defs.Description.{Description}
use Rattle.host_engine.specs.Texts.{Describes}

-- ---- fields

abbrev pub is_width : ℕ → Bool
is_width width = width == 8 || width == 16 || width == 32 || width == 64

abbrev pub is_plain_number : Simple → Bool
is_plain_number (Uint width) = is_width width
is_plain_number other = false

abbrev pub is_plain_ref : Ref → Bool
is_plain_ref (PlainRef simple) = is_plain_number simple
is_plain_ref other = false

abbrev pub is_plain_body : Body-F Body Case Field → Bool
is_plain_body (SimpleBody ref) = is_plain_ref ref
is_plain_body other = false

-- a `simple` field of such a number, without an order of bytes of its own
abbrev pub is_plain_field : Field → Bool
is_plain_field field = is_none (out-Field field).order && is_plain_body (out-Body (out-Field field).body)

-- a field has this name
abbrev pub is_taken : List Field → (name : List ℕ) → Bool
is_taken fields name = list_any (λ field. bytes_eq (out-Field field).name name) fields

-- no field has the name of one before it
abbrev pub names_differ : List Field → Bool
names_differ [] = true
names_differ (field ∷ fields) = not (is_taken fields (out-Field field).name) && names_differ fields

-- ---- descriptions

-- 1 to 256 such fields, whose names differ from each other
abbrev pub are_plain_fields : List Field → Bool
are_plain_fields fields =
    not (length fields == 0) && nat_le (length fields) 256 && list_all is_plain_field fields && names_differ fields

abbrev pub has_plain_fields : DefBody → Bool
has_plain_fields (Plain fields) = are_plain_fields fields
has_plain_fields other = false

-- a `type` without parameters and without an order of bytes
abbrev pub is_plain_def : Def → Bool
is_plain_def def = (length def.params == 0) && is_none def.order && has_plain_fields def.body

abbrev pub are_first_form : List Def → Bool
are_first_form (def ∷ []) = is_plain_def def
are_first_form other = false

-- one such definition
abbrev pub is_first_form : Description → Bool
is_first_form d = are_first_form d.defs

-- the text has this tree, and it is in the first form
abbrev pub FirstForm : List ℕ → Description → Type 0
FirstForm text d = Describes text d × IsTrue (is_first_form d)
