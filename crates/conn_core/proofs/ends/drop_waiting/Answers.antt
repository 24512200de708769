use Rattle.std.proofs.Common.{ap, arith, length}
use Rattle.conn_core.proofs.EndLemmas.{due_few}
use Rattle.conn_core.proofs.ends.drop_waiting.Goals as goal

pub overflow_add-count : goal.overflow_add-count
overflow_add-count c =
    let few = due_few c.args.now c.args.leases.now.waiting in
    let waiting = c.requires.waiting in
    let counted = c.due.invariant.counted in
    let rest = ap length c.in-Some.ensures.rest in
    omega arith
