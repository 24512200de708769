use Rattle.mspec_expr.proofs.RangeKept.{same_value, same_worth}
use Rattle.mspec_expr.proofs.laws.values_stay_inside.Goals as goal

pub returns-clause-worths : goal.returns-clause-worths
returns-clause-worths c = same_worth

pub returns-clause-values : goal.returns-clause-values
returns-clause-values c = same_value
