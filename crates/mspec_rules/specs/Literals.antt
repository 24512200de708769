-- Literals that aren't of their type's kind and range.
use Rattle.std.specs.Prelude.{ℕ, ◌&&◌, ◌||◌, not, Bool, true, false, List, [], ◌∷◌, Option, Some, None}
use Rattle.mspec_tree.specs.declared.words.Place.{Place}
use Rattle.mspec_tree.specs.declared.words.Lit.{Lit}
use Rattle.mspec_tree.specs.declared.words.Lit.TheVariants.{Num, Flag}
use Rattle.mspec_tree.specs.declared.words.Simple.{Simple}
use Rattle.mspec_tree.specs.declared.words.Simple.TheVariants.{Bit, Byte, Uint, Int, Float}
use Rattle.mspec_tree.specs.declared.fields.Field.{Field, out-Field}
use Rattle.mspec_tree.specs.declared.fields.Body.TheOpen.{Body-F}
use Rattle.mspec_tree.specs.declared.defs.Constant.{Constant}
use Rattle.mspec_tree.specs.declared.defs.Param.{Param}
use Rattle.mspec_tree.specs.declared.defs.Description.{Description}
use Rattle.mspec_expr.specs.Kinds.{BodyLayer, layer, in_range, is_width, own_range, ref_simple, signed, width}
use Rattle.mspec_rules.specs.declared.wrongs.Wrong.{Wrong}
use Rattle.mspec_rules.specs.declared.wrongs.Rule.TheVariants.{Literals}
use Rattle.mspec_rules.specs.declared.wrongs.CheckWhy.TheVariants.{ConstRange}
use Rattle.mspec_rules.specs.Wrongs.{wrong_if}
use Rattle.mspec_rules.specs.Types.{is_base}

-- A flag is a literal of `bit`, a number one of an integer type in whose range it lies. A type whose width is itself at fault has no range,
-- and each number is one of it.
abbrev pub lit_fits : Simple → Lit → Bool
lit_fits Bit (Flag flag) = true
lit_fits simple (Flag flag) = false
lit_fits simple (Num negative size) =
    is_base simple && (not (is_width (width simple)) || in_range (own_range simple) (signed negative size))

abbrev pub lit_wrongs : (at : Place) → Simple → Lit → List Wrong
lit_wrongs at simple lit = wrong_if (not (lit_fits simple lit)) at Literals ConstRange

abbrev pub body_literal : (at : Place) → BodyLayer → List Wrong
body_literal at (Body-F.Const simple value) = lit_wrongs at simple value
body_literal at (Body-F.Reserved simple value) = lit_wrongs at simple value
body_literal at (Body-F.Padding simple value count) = lit_wrongs at simple value
body_literal at other = []

abbrev pub field_literal : Field → List Wrong
field_literal field = body_literal (out-Field field).place (layer field)

-- an attribute fits its parameter; one whose parameter's type has no numbers isn't at fault, since that type is
abbrev pub attr_fits : Option Simple → Lit → Bool
attr_fits (Some simple) lit = lit_fits simple lit
attr_fits None lit = true

-- there may be fewer attributes than parameters, and none past them
abbrev pub attrs_fit : Description → List Param → List Lit → Bool
attrs_fit d params [] = true
attrs_fit d [] (lit ∷ attrs) = false
attrs_fit d (param ∷ params) (lit ∷ attrs) = attr_fits (ref_simple d param.kind) lit && attrs_fit d params attrs

abbrev pub constant_wrongs : Description → (base : Simple) → List Param → Constant → List Wrong
constant_wrongs d base params constant =
    wrong_if (not (lit_fits base constant.value && attrs_fit d params constant.attrs)) constant.place Literals ConstRange
