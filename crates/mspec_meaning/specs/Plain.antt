-- The descriptions that can be read so far: a type without parameters whose fields are unsigned numbers of 8, 16, 32 or 64
-- bits, in any order of bytes.
use Rattle.std.specs.Prelude.{ℕ, ℤ, ◌≡◌, ◌⊎◌, List, [], Some, slice_get}
use Rattle.std.specs.List.{AllByRecursion}
use Rattle.mspec_tree.specs.declared.words.Simple.TheVariants.{Uint}
use Rattle.mspec_tree.specs.declared.exprs.Ref.TheVariants.{Plain}
use Rattle.mspec_tree.specs.declared.fields.Field.{Field, out-Field}
use Rattle.mspec_tree.specs.declared.fields.Body.{Body, out-Body}
use Rattle.mspec_tree.specs.declared.fields.Body.TheOpen.{Body-F, Simple}
use Rattle.mspec_tree.specs.declared.fields.Case.{Case}
use Rattle.mspec_tree.specs.declared.defs.Def.{Def}
use Rattle.mspec_tree.specs.declared.defs.DefBody.{DefBody}
use Rattle.mspec_tree.specs.declared.defs.DefBody.TheVariants.{Plain as PlainFields}
use Rattle.mspec_tree.specs.declared.defs.Description.{Description}

abbrev pub IsWidth : ℕ → Type 0
IsWidth width = (width ≡ 8) ⊎ (width ≡ 16) ⊎ (width ≡ 32) ⊎ (width ≡ 64)

-- a simple field of this width
abbrev pub HasWidth : Body-F Body Case Field → ℕ → Type 0
HasWidth (Simple (Plain (Uint written))) width = (written ≡ width) × IsWidth width
HasWidth other width = ⊥

-- a simple field of an unsigned number of such a width
abbrev pub IsPlainField : Field → Type 0
IsPlainField field = (width : ℕ) × HasWidth (out-Body (out-Field field).body) width

abbrev pub ArePlain : List Field → Type 0
ArePlain fields = AllByRecursion IsPlainField fields

abbrev pub HasPlainFields : DefBody → Type 0
HasPlainFields (PlainFields fields) = ArePlain fields
HasPlainFields other = ⊥

-- the definition at this place can be read with these arguments
abbrev pub CanRead : Description → (def : ℕ) → (args : List ℤ) → Type 0
CanRead d def args =
    (found : Def)
    × (slice_get d.defs def ≡ Some found)
    × (found.params ≡ [])
    × (args ≡ [])
    × HasPlainFields found.body
