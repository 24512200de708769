use Rattle.mspec_meaning.proofs.OneOutcome.{one_outcome}
use Rattle.mspec_meaning.proofs.laws.one_reading.Goals as goal

pub returns : goal.returns
returns c = one_outcome
