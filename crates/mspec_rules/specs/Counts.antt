-- A count down to nothing over places: the first that it can't count any more, or how many are left.
use Rattle.std.specs.Prelude.{ℕ, zero, suc, List, [], ◌∷◌, Option, Some, None}
use Rattle.mspec_tree.specs.declared.words.Place.{Place}
use Rattle.mspec_rules.specs.declared.parts.Count.{Count}
use Rattle.mspec_rules.specs.declared.parts.Count.TheVariants.{At, Left}

abbrev pub one_more : Count → Place → Count
one_more (At found) place = At found
one_more (Left zero) place = At place
one_more (Left (suc left)) place = Left left

abbrev pub counted : Count → List Place → Count
counted count [] = count
counted count (place ∷ places) = counted (one_more count place) places

abbrev pub reached : Count → Option Place
reached (At found) = Some found
reached (Left left) = None
