use Rattle.mspec_expr.proofs.DigitLaws.{digits_exact}
use Rattle.mspec_expr.proofs.powers.binary_digits.Goals as goal

pub returns-else-number-eq0-clause-value : goal.returns-else-number-eq0-clause-value
returns-else-number-eq0-clause-value c =
    digits_exact c.args.number c.ilog2.result c.ilog2.ensures.power_le c.ilog2.ensures.next_power_gt
