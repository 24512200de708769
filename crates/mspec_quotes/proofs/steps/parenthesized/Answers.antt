use Rattle.std.proofs.Common.{◌≤◌, List, subst}
use Rattle.mspec_tree.specs.Depth.{depth, depth_limit}
use Rattle.mspec_quotes.specs.declared.pending.Open.{Open}
use Rattle.mspec_quotes.specs.Machine.{whole}
use Rattle.mspec_quotes.proofs.RoomLaws.{close-low}
use Rattle.mspec_quotes.proofs.steps.parenthesized.Goals as goal

pub closed_by-requires-clause-low : goal.closed_by-requires-clause-low
closed_by-requires-clause-low c =
    let e = c.in-Some-Count-default.ensures in
    let fits = subst (λ (o : List Open). whole o (depth c.args.operand) ≤ depth_limit) e.0 c.requires in
    rw e.1 (close-low c.in-Some-Count-default.field-0-0 c.pop.new.self (depth c.args.operand) fits)
