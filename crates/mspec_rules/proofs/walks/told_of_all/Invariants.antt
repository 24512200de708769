use Rattle.std.proofs.Common.{◌≡◌, List, Option, drop, Bor}
use Rattle.std.specs.List.{flat_map}
use Rattle.mspec_rules.specs.declared.wrongs.Wrong.{Wrong}
use Rattle.mspec_rules.specs.Wrongs.{earlier, found}
use Rattle.mspec_rules.proofs.walks.told_of_all.Given as goal

abbrev pub invariant-loop-item : goal.invariant-loop-item
invariant-loop-item g l =
    (wrongs : _ → List Wrong)
    → ((so_far : Option Wrong) (item : _) (next : Option Wrong) → goal.F-post g l.told so_far item next → next ≡ earlier so_far (found (wrongs item.now)))
    → earlier l.fn.first (found (flat_map wrongs l.items)) ≡ earlier l.next (found (flat_map wrongs (drop l.item-index l.items)))
