-- What is told of two parts is the earlier one of what is told of each, and nothing is told only where nothing is wrong.
use Rattle.std.proofs.Common.{◌≡◌, List, [], ◌∷◌, ◌++◌, Option, Some, None, refl}
use Rattle.mspec_rules.specs.declared.wrongs.Wrong.{Wrong}
use Rattle.mspec_rules.specs.Found.{found-append}
use Rattle.mspec_rules.specs.Wrongs.{earlier, found}

pub found_both : (xs ys : List Wrong) → found (xs ++ ys) ≡ earlier (found xs) (found ys)
found_both xs ys = found-append xs ys

pub none_found : (xs : List Wrong) → found xs ≡ None → xs ≡ []
none_found [] e = refl
none_found (x ∷ xs) e = go (found xs) e
  where
    go : (rest : Option Wrong) → earlier (Some x) rest ≡ None → x ∷ xs ≡ []
    go None e = absurd (cc)
    go (Some y) e = absurd (cc)
