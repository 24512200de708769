-- What views show.
use Rattle.std.specs.Prelude.{ℕ, List, [], ◌∷◌, Option, Some, None, find, if◌then◌else◌}
use Rattle.std.specs.Option.{option_map}
use Rattle.std.specs.Borrow.{Bor}
use Rattle.std.specs.Str.{bytes_eq}
use Rattle.node_tree.specs.declared.nodes.Node.{Node}
use Rattle.mspec_tree.specs.declared.fields.Field.{Field, out-Field}
use Rattle.mspec_tree.specs.declared.defs.Description.{Description}
use Rattle.mspec_expr.specs.declared.kinds.Meant.{Meant}
use Rattle.mspec_expr.specs.Kinds.{field_meant}
use Rattle.mspec_expr.specs.Values.{Seen, Sight}
use Rattle.mspec_eval.specs.declared.views.Facts.{Facts}
use Rattle.mspec_eval.specs.declared.paddings.Visible.{Visible, Nothing, More'}

abbrev pub shown : Option (Meant × Bor Node) → Option (Meant × Node)
shown found = option_map (λ pair. (pair.0, pair.1.now)) found

abbrev pub pair_of : Option (Bor Field × Bor Node) → Option (Field × Node)
pair_of found = option_map (λ pair. (pair.0.now, pair.1.now)) found

-- what the first of this name is, with its node
abbrev pub pair_in : List ℕ → List Seen → Option (Meant × Node)
pair_in name names = option_map (λ seen. (seen.meant, seen.node)) (find (λ seen. bytes_eq seen.name name) names)

abbrev pub facts_of : Sight → Facts
facts_of sight = record {
  position = sight.position;
  first = sight.first;
  length = sight.length;
  last = sight.last;
  sum = sight.sum;
  xor = sight.xor;
}

-- the fields before a padding, as it sees them
abbrev pub seen_of : Description → Visible → List Seen
seen_of d Nothing = []
seen_of d (More' field node at rest) =
    record { name = (out-Field field.now).name; meant = field_meant d field.now; node = node.now } ∷ seen_of d rest

abbrev pub visible_in : Visible → List ℕ → Option (Field × Node)
visible_in Nothing name = None
visible_in (More' field node at rest) name =
    if bytes_eq (out-Field field.now).name name then Some (field.now, node.now) else visible_in rest name
