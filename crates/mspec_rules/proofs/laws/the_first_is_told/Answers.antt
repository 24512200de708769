use Rattle.mspec_rules.specs.Found.{found-append}
use Rattle.mspec_rules.proofs.FirstLaws.{first_found, none_found, only_found}
use Rattle.mspec_rules.proofs.laws.the_first_is_told.Goals as goal

pub returns : goal.returns
returns c = record { first = first_found; only = only_found; none = none_found; joined = found-append }
