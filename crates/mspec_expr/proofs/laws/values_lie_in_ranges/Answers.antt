use Rattle.mspec_expr.proofs.RangeInside.{inside}
use Rattle.mspec_expr.proofs.RangeLaw.{in_range}
use Rattle.mspec_expr.proofs.laws.values_lie_in_ranges.Goals as goal

pub returns-clause-values : goal.returns-clause-values
returns-clause-values c = in_range

pub returns-clause-ranges : goal.returns-clause-ranges
returns-clause-ranges c = inside
