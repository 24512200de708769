use Rattle.std.proofs.Common.{◌∙◌, sym, ap, arith, length}
use Rattle.txn_core.specs.RowTables.{any_row, has_lease}
use Rattle.wire_frames.specs.declared.ends.EndKind.TheVariants.{LeaseGone}
use Rattle.conn_core.specs.KeptEnds.{leases_ended}
use Rattle.conn_core.proofs.EndLemmas.{due_few, ended_count, live_few}
use Rattle.conn_core.proofs.ends.drop_held.Goals as goal

pub overflow_add-rows : goal.overflow_add-rows
overflow_add-rows c =
    let ends = ended_count (has_lease c.in-Some.lease) LeaseGone c.due.requests in
    let few = live_few any_row c.args.requests.now c.requires.table in
    let counted = c.lose_lease-rows.ensures.count in
    let live = c.due.invariant.live in
    omega arith

pub overflow_add-count : goal.overflow_add-count
overflow_add-count c =
    let few = due_few c.args.now c.args.leases.now.held in
    let held = c.requires.lawful.held in
    let share = c.requires.lawful.share in
    let counted = c.due.invariant.counted in
    let rest = ap length c.in-Some.ensures.rest in
    omega arith

pub due-preserved : goal.due-preserved
due-preserved c =
    let next = c.in-Some.ensures.rest in
    let ends = ended_count (has_lease c.in-Some.lease) LeaseGone c.due.requests in
    let long = ap length next in
    let counted = c.lose_lease-rows.ensures.count in
    record {
      table = c.lose_lease-rows.ensures.table;
      ends = rw (c.drop_lease.ensures.dropped, c.lose_lease-rows.ensures.requests) (ap (λ ns. leases_ended LeaseGone ns c.due.requests) (sym next) ∙ c.due.invariant.ends);
      left = rw c.drop_lease.ensures.dropped (c.in-Some.ensures.dropped ∙ c.due.invariant.left);
      live = rw c.lose_lease-rows.ensures.requests (let live = c.due.invariant.live in omega arith);
      counted = rw c.drop_lease.ensures.dropped (let was = c.due.invariant.counted in omega arith);
    }
