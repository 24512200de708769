-- How many switches a definition has, and how many keys their cases have.
use Rattle.std.specs.Prelude.{ℕ, ◌==◌, not, Bool, true, false, List, length, nat_lt, count_by}
use Rattle.mspec_tree.specs.declared.words.Place.{Place}
use Rattle.mspec_tree.specs.declared.fields.Field.{Field}
use Rattle.mspec_tree.specs.declared.fields.Body.TheOpen.{Body-F}
use Rattle.mspec_tree.specs.declared.fields.Case.{Case, out-Case}
use Rattle.mspec_expr.specs.Kinds.{BodyLayer, layer}
use Rattle.mspec_rules.specs.declared.wrongs.Wrong.{Wrong}
use Rattle.mspec_rules.specs.declared.wrongs.Rule.TheVariants.{Switches}
use Rattle.mspec_rules.specs.declared.wrongs.CheckWhy.TheVariants.{SwitchCount}
use Rattle.mspec_rules.specs.Wrongs.{wrong_if}

abbrev pub is_switch_in : BodyLayer → Bool
is_switch_in (Body-F.Switch names cases) = true
is_switch_in other = false

abbrev pub is_switch : Field → Bool
is_switch field = is_switch_in (layer field)

-- a `discriminatedType` has one switch
abbrev pub switch_count : (named : Place) → List Field → List Wrong
switch_count named fields = wrong_if (not (count_by is_switch fields == 1)) named Switches SwitchCount

-- a case has at most one key for each name
abbrev pub key_count : (names : List (List ℕ)) → Case → List Wrong
key_count names case =
    wrong_if (nat_lt (length names) (length (out-Case case).keys)) (out-Case case).place Switches SwitchCount
