use Rattle.std.proofs.Common.{◌≡◌, sym, ap, ◌∙◌, arith}
use Rattle.lease_core.specs.LeaseTables.{LeaseTable}
use Rattle.txn_core.specs.RowTables.{any_row, count_where, is_due}
use Rattle.wire_frames.specs.declared.ends.EndKind.TheVariants.{Expired}
use Rattle.conn_core.specs.declared.table.KeptTable.{KeptTable}
use Rattle.conn_core.specs.KeptSteps.{ticked_requests}
use Rattle.conn_core.proofs.EndLemmas.{ended_count}
use Rattle.conn_core.proofs.TickLemmas.{none_due_left, quiet_requests, same_counts, same_kept, zero_nothing}
use Rattle.conn_core.proofs.table.KeptTable.tick.Goals as goal

pub returns-then-rows-ne0-clause-count : goal.returns-then-rows-ne0-clause-count
returns-then-rows-ne0-clause-count c =
    let k : KeptTable = c.args.self.now in
    let after : ticked_requests c.args.now k ≡ c.drop_held-lost.new.requests = rw (← c.expire-expired.ensures.requests) (sym c.drop_held-lost.ensures.requests) in
    let live = ap (count_where any_row) after in
    let ends = ended_count (is_due c.args.now) Expired k.requests in
    let expired = ap (count_where any_row) c.expire-expired.ensures.requests in
    let waiters = ap (λ (l : LeaseTable). l.waiting) c.drop_held-lost.ensures.leases in
    same_counts _ _ _ _ _ _
    (let one = c.drop_held-lost.ensures.rows in let two = c.expire-expired.ensures.count in omega arith)
    c.drop_held-lost.ensures.count
    (rw waiters at c.drop_waiting-waiters.ensures.count)

pub returns-then-rows-ne0-clause-kept_rows : goal.returns-then-rows-ne0-clause-kept_rows
returns-then-rows-ne0-clause-kept_rows c = c.drop_held-lost.ensures.kept_table

pub returns-else-waiters-ne0-clause-count : goal.returns-else-waiters-ne0-clause-count
returns-else-waiters-ne0-clause-count c =
    let k : KeptTable = c.args.self.now in
    let after : ticked_requests c.args.now k ≡ c.drop_held-lost.new.requests = rw (← c.expire-expired.ensures.requests) (sym c.drop_held-lost.ensures.requests) in
    let live = ap (count_where any_row) after in
    let ends = ended_count (is_due c.args.now) Expired k.requests in
    let expired = ap (count_where any_row) c.expire-expired.ensures.requests in
    let waiters = ap (λ (l : LeaseTable). l.waiting) c.drop_held-lost.ensures.leases in
    same_counts _ _ _ _ _ _
    (let one = c.drop_held-lost.ensures.rows in let two = c.expire-expired.ensures.count in omega arith)
    c.drop_held-lost.ensures.count
    (rw waiters at c.drop_waiting-waiters.ensures.count)

pub returns-else-waiters-ne0-clause-table : goal.returns-else-waiters-ne0-clause-table
returns-else-waiters-ne0-clause-table c =
    let k : KeptTable = c.args.self.now in
    let after : ticked_requests c.args.now k ≡ c.drop_held-lost.new.requests = rw (← c.expire-expired.ensures.requests) (sym c.drop_held-lost.ensures.requests) in
    let none : count_where (is_due c.args.now) k.requests ≡ 0 = (let two = c.expire-expired.ensures.count in let zero = c.if-rows-ne0.false in omega arith) in
    let requests = sym after ∙ quiet_requests c.args.now k c.requires.rows none (sym c.drop_held-lost.ensures.count ∙ c.if-leases-ne0.false) in
    let held = none_due_left c.args.now k.leases.held (sym c.drop_held-lost.ensures.count ∙ c.if-leases-ne0.false) in
    let kept : c.drop_held-lost.new.leases ≡ k.leases = c.drop_held-lost.ensures.leases ∙ ap (λ xs. record k.leases { held = xs }) held in
    let waiting = none_due_left c.args.now k.leases.waiting (rw (ap (λ (l : LeaseTable). l.waiting) kept) at (sym c.drop_waiting-waiters.ensures.count ∙ c.if-waiters-ne0.false)) in
    let left : c.drop_waiting-waiters.new.leases ≡ k.leases = rw kept at c.drop_waiting-waiters.ensures.leases ∙ ap (λ xs. record k.leases { waiting = xs }) waiting in
    rw (zero_nothing _ _ _ c.if-rows-ne0.false c.if-leases-ne0.false c.if-waiters-ne0.false) (same_kept k _ _ _ _ requests left)
