use Rattle.mspec_expr.proofs.DepthLaw.{same_worth}
use Rattle.mspec_expr.proofs.laws.depth_is_enough.Goals as goal

pub returns : goal.returns
returns c = same_worth
