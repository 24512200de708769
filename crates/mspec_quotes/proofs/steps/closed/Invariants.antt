use Rattle.std.proofs.Common.{◌≡◌, ◌≤◌, length}
use Rattle.mspec_tree.specs.Depth.{depth, depth_limit}
use Rattle.mspec_quotes.specs.Machine.{whole, closed}
use Rattle.mspec_quotes.proofs.steps.closed.Given as goal

abbrev pub invariant-loop-last : goal.invariant-loop-last
invariant-loop-last l = record {
  same : closed l.strength l.fn.opens l.fn.operand ≡ closed l.strength l.opens l.operand;
  fits : whole l.opens (depth l.operand) ≤ depth_limit;
}

abbrev pub decreases-loop-last : goal.decreases-loop-last
decreases-loop-last l = length l.opens
