use Rattle.std.proofs.Common.{◌≡◌, List, drop}
use Rattle.std.specs.List.{flat_map}
use Rattle.mspec_tree.specs.declared.words.Place.{Place}
use Rattle.mspec_rules.specs.declared.parts.Count.{Count}
use Rattle.mspec_rules.specs.Counts.{counted}
use Rattle.mspec_rules.proofs.parts.count_all.Given as goal

abbrev pub invariant-loop-item : goal.invariant-loop-item
invariant-loop-item g l =
    (places : _ → List Place)
    → ((so_far : Count) (item : _) (next : Count) → goal.F-post g l.counts so_far item next → next ≡ counted so_far (places item.now))
    → counted l.fn.count (flat_map places l.items) ≡ counted l.next (flat_map places (drop l.item-index l.items))
