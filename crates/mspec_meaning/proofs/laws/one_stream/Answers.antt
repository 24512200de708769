use Rattle.mspec_meaning.proofs.OneStream.{one_list}
use Rattle.mspec_meaning.proofs.laws.one_stream.Goals as goal

pub returns : goal.returns
returns c = one_list
