-- What is wrong with the names of a switch and the keys of its cases. How many keys there are is a rule of its own.
use Rattle.std.specs.Prelude.{ℕ, Bool, true, false, not, List, Option, Some, None, find, bytes_eq}
use Rattle.std.specs.List.{list_all, zip}
use Rattle.mspec_tree.specs.declared.words.Place.{Place}
use Rattle.mspec_tree.specs.declared.words.Key.{Key}
use Rattle.mspec_tree.specs.declared.words.Key.TheVariants.{Any, Lit as LitKey, Constant as ConstantKey}
use Rattle.mspec_tree.specs.declared.words.Lit.TheVariants.{Num, Flag}
use Rattle.mspec_tree.specs.declared.fields.Case.{Case, out-Case}
use Rattle.mspec_tree.specs.declared.defs.Description.{Description}
use Rattle.mspec_expr.specs.declared.kinds.ExprWhy.TheVariants.{UnknownName}
use Rattle.mspec_expr.specs.declared.kinds.Meant.{Meant}
use Rattle.mspec_expr.specs.declared.kinds.Meant.TheVariants.{Number, EnumOf, Flag as FlagKind}
use Rattle.mspec_expr.specs.declared.scopes.MeantName.{MeantName}
use Rattle.mspec_expr.specs.Kinds.{constants_of}
use Rattle.mspec_expr.specs.Ranges.{has_constant}
use Rattle.mspec_rules.specs.declared.wrongs.Rule.TheVariants as rule
use Rattle.mspec_rules.specs.declared.wrongs.CheckWhy.TheVariants as why
use Rattle.mspec_rules.specs.declared.wrongs.Wrong.{Wrong}
use Rattle.mspec_rules.specs.Wrongs.{wrong_if}

abbrev pub seen_named : (seen : List MeantName) → (name : List ℕ) → Option MeantName
seen_named seen name = find (λ one. bytes_eq one.name name) seen

-- ---- names

abbrev pub is_some_name : Option MeantName → Bool
is_some_name (Some seen) = true
is_some_name None = false

abbrev pub is_seen : (seen : List MeantName) → (name : List ℕ) → Bool
is_seen seen name = is_some_name (seen_named seen name)

-- a switch's names are parameters or earlier named fields of its definition; they have no place, so the fault stands at the bracket
abbrev pub names_wrongs : (seen : List MeantName) → Place → (names : List (List ℕ)) → List Wrong
names_wrongs seen place names = wrong_if (not (list_all (is_seen seen) names)) place rule.Scopes (why.Expr UnknownName)

-- ---- keys

abbrev pub is_constant : Description → (def : ℕ) → (name : List ℕ) → Bool
is_constant d def name = has_constant (find (λ constant. bytes_eq constant.name name) (constants_of d def))

-- a key is of its name's kind, a constant one of its name's enum
abbrev pub meant_takes : Description → Meant → Key → Bool
meant_takes d meant Any = true
meant_takes d (Number range) (LitKey (Num negative size)) = true
meant_takes d FlagKind (LitKey (Flag flag)) = true
meant_takes d (EnumOf def) (ConstantKey name) = is_constant d def name
meant_takes d meant key = false

-- a name that isn't seen is no fault of its keys
abbrev pub name_takes : Description → Option MeantName → Key → Bool
name_takes d (Some seen) key = meant_takes d seen.meant key
name_takes d None key = true

-- keys stand for the switch's names in order
abbrev pub keys_fit : Description → (seen : List MeantName) → (names : List (List ℕ)) → List Key → Bool
keys_fit d seen names keys = list_all (λ pair. name_takes d (seen_named seen pair.0) pair.1) (zip names keys)

abbrev pub keys_wrongs : Description → (seen : List MeantName) → (names : List (List ℕ)) → Case → List Wrong
keys_wrongs d seen names case =
    wrong_if (not (keys_fit d seen names (out-Case case).keys)) (out-Case case).place rule.Keys why.CaseKey
