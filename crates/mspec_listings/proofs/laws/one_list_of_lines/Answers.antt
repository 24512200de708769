use Rattle.mspec_listings.proofs.ReadLaw.{one_reading}
use Rattle.mspec_listings.proofs.laws.one_list_of_lines.Goals as goal

pub returns : goal.returns
returns c = λ some other p q e. one_reading some other p q e
