-- Which arguments a definition takes.
use Rattle.std.specs.Prelude.{ℕ, ℤ, ◌&&◌, Bool, true, false, List, [], ◌∷◌, Option, Some, None, slice_get}
use Rattle.mspec_tree.specs.declared.defs.Def.{Def}
use Rattle.mspec_tree.specs.declared.defs.DefBody.{DefBody}
use Rattle.mspec_tree.specs.declared.defs.DefBody.TheVariants.{Enum}
use Rattle.mspec_tree.specs.declared.defs.Param.{Param}
use Rattle.mspec_tree.specs.declared.defs.Description.{Description}
use Rattle.mspec_expr.specs.Kinds.{of_kind}

-- one argument for each parameter, each in its type's range; a flag is 0 or 1, and an enum value in its base's range
abbrev pub each_fits : Description → List Param → List ℤ → Bool
each_fits d [] [] = true
each_fits d (param ∷ params) (arg ∷ args) = of_kind d param.kind arg && each_fits d params args
each_fits d params args = false

-- an enum has no values of its own
abbrev pub has_values : DefBody → Bool
has_values (Enum base constants) = false
has_values other = true

abbrev pub def_takes : Description → List ℤ → Option Def → Bool
def_takes d args (Some found) = has_values found.body && each_fits d found.params args
def_takes d args None = false

-- the definition at this place has values, and takes these arguments
abbrev pub takes : Description → (def : ℕ) → List ℤ → Bool
takes d def args = def_takes d args (slice_get d.defs def)
