use Rattle.mspec_expr.proofs.OneStream.{one_list, some_list}
use Rattle.mspec_expr.proofs.laws.one_stream.Goals as goal

pub returns-clause-one : goal.returns-clause-one
returns-clause-one c = one_list

pub returns-clause-some : goal.returns-clause-some
returns-clause-some c = some_list
