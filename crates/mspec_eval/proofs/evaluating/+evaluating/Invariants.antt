use Rattle.std.proofs.Common.{◌+◌, ◌*◌}
use Rattle.mspec_eval.proofs.evaluating.+evaluating.Given as goal

abbrev pub decreases-worth : goal.decreases-worth
decreases-worth g l = 4 * l.levels

abbrev pub decreases-number : goal.decreases-number
decreases-number g l = 4 * l.levels + 1

abbrev pub decreases-equal : goal.decreases-equal
decreases-equal g l = 4 * l.levels + 2

abbrev pub decreases-two : goal.decreases-two
decreases-two g l = 4 * l.levels + 3
