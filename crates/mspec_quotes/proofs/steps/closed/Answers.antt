use Rattle.std.proofs.Common.{◌≤◌, List, subst}
use Rattle.mspec_tree.specs.Depth.{depth, depth_limit}
use Rattle.mspec_quotes.specs.declared.pending.Open.{Open}
use Rattle.mspec_quotes.specs.Machine.{whole}
use Rattle.mspec_quotes.proofs.RoomLaws.{close-low}
use Rattle.mspec_quotes.proofs.steps.closed.Goals as goal

pub closed_by-requires-clause-low : goal.closed_by-requires-clause-low
closed_by-requires-clause-low c =
    let e = c.in-Some.ensures in
    let fits = subst (λ (o : List Open). whole o (depth c.loop-last.operand) ≤ depth_limit) e.0 c.loop-last.invariant.fits in
    rw e.1 (close-low c.in-Some.last c.pop_closed.new.self (depth c.loop-last.operand) fits)
