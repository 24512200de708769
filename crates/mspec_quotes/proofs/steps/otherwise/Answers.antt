use Rattle.std.proofs.Common.{◌≤◌, List, subst}
use Rattle.mspec_tree.specs.Depth.{depth, depth_limit}
use Rattle.mspec_quotes.specs.declared.pending.Open.{Open}
use Rattle.mspec_quotes.specs.Machine.{whole}
use Rattle.mspec_quotes.proofs.Depths.{depth-some}
use Rattle.mspec_quotes.proofs.RoomLaws.{below-fits}
use Rattle.mspec_quotes.proofs.steps.otherwise.Goals as goal

pub opened-requires-clause-fits : goal.opened-requires-clause-fits
opened-requires-clause-fits c =
    let fits = subst (λ (o : List Open). whole o (depth c.args.operand) ≤ depth_limit) c.in-Some.ensures.0 c.requires in
    below-fits c.in-Some.last c.pop.new.self (depth c.args.operand) (depth-some c.args.operand) fits
