use Rattle.mspec_meaning.proofs.TotalLaws.{some_outcome}
use Rattle.mspec_meaning.proofs.laws.some_reading.Goals as goal

pub returns : goal.returns
returns c = λ d def args bits can. some_outcome d def args can bits
