use Rattle.std.proofs.Common.{◌≡◌, [], ◌∷◌, ◌++◌, drop, take}
use Rattle.std.specs.List.{flat_map}
use Rattle.mspec_rules.specs.Names.{doubled, named}
use Rattle.mspec_rules.specs.Wrongs.{earlier, found}
use Rattle.mspec_rules.proofs.titles.titles_doubled.Given as goal

abbrev pub invariant-loop-i : goal.invariant-loop-i
invariant-loop-i g l =
    let names = λ (one : _). named (g.T.Titled.title_of one) (g.T.Titled.site_of one) 0 ∷ [] in
    earlier l.fn.first (found (doubled [] (flat_map names l.items)))
    ≡ earlier l.next (found (doubled ([] ++ flat_map names (take l.i l.items)) (flat_map names (drop l.i l.items))))
