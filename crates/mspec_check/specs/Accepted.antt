-- Which descriptions are accepted.
use Rattle.std.specs.Prelude.{◌≡◌, List, [], ◌++◌, Some}
use Rattle.mspec_tree.specs.declared.defs.Description.{Description}
use Rattle.mspec_rules.specs.declared.wrongs.Wrong.{Wrong}
use Rattle.mspec_rules.specs.Rules.{type_wrongs}
use Rattle.mspec_rules.specs.Wrongs.{found}
use Rattle.mspec_check.specs.Fields.{scope_wrongs}
use Rattle.mspec_check.specs.declared.checking.CheckFault.{CheckFault}
use Rattle.mspec_check.specs.declared.checking.CheckFault.TheVariants.{At, NoMemory}

-- all that is wrong with a description, by all rules
abbrev pub wrongs : Description → List Wrong
wrongs d = type_wrongs d ++ scope_wrongs d

-- none of the rules is broken
abbrev pub Accepted : Description → Type 0
Accepted d = wrongs d ≡ []

-- The fault that is told is that of all that is wrong at the least place, and at one place by the lowest rule. Where memory is
-- wanting nothing is said.
abbrev pub Tells : Description → CheckFault → Type 0
Tells d (At place why) = (wrong : Wrong) × (found (wrongs d) ≡ Some wrong) × (wrong.place ≡ place) × (wrong.why ≡ why)
Tells d NoMemory = Unit {0}
