use Rattle.mspec_expr.proofs.MoreBits.{same_reading, same_refusal}
use Rattle.mspec_expr.proofs.laws.more_bits.Goals as goal

pub returns-clause-read : goal.returns-clause-read
returns-clause-read c = same_reading

pub returns-clause-bad : goal.returns-clause-bad
returns-clause-bad c = same_refusal
