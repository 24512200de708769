-- What a reading of a plain type looks like.
use Rattle.std.specs.Prelude.{ℕ, pos, ◌≡◌, List, length, map, Some, slice_get}
use Rattle.node_tree.specs.declared.nodes.Node.{Node}
use Rattle.node_tree.specs.declared.nodes.Node.TheVariants.{Num, Group}
use Rattle.mspec_tree.specs.declared.fields.Field.{Field}
use Rattle.mspec_tree.specs.declared.defs.Def.{Def}
use Rattle.mspec_tree.specs.declared.defs.DefBody.TheVariants.{Plain as PlainFields}
use Rattle.mspec_tree.specs.declared.defs.Description.{Description}

-- a group of unsigned numbers, one for each field of the definition at this place; which ones `Reads` says
pub record HasNumbers (d : Description) (def : ℕ) (node : Node) : Type 0 where
  pub found : Def
  pub fields : List Field
  pub numbers : List ℕ
  pub at : slice_get d.defs def ≡ Some found
  pub plain : found.body ≡ PlainFields fields
  pub group : node ≡ Group 0 (map (λ n. Num (pos n)) numbers)
  pub each : length numbers ≡ length fields
