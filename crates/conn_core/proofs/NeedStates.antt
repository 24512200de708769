-- How much of the journal's room each event needs less than was kept for it.
use Rattle.std.proofs.Common.{◌≡◌, ℕ, zero, suc, ◌+◌, ◌*◌, ◌-◌, ◌≤◌, Bool, true, false, cond, List, [], ◌∷◌, length, refl, ◌∙◌, arith, Option, Some, None}
use Rattle.std.specs.Prelude.{max, ◌&&◌, ◌||◌, ◌==◌, IsTrue, count_by}
use Rattle.std.specs.List.{list_any}
use Rattle.std.proofs.lemmas.List.{length-map}
use Rattle.std.proofs.lemmas.List.Sums.{count_by-le-length}
use Rattle.lease_core.specs.LeaseSteps.{dropped, due_dropped}
use Rattle.lease_core.specs.LeaseTables.{IsLeaseTable, due_numbers, is_known}
use Rattle.txn_core.specs.RowLaws.{count_cons}
use Rattle.txn_core.specs.RowSteps.{ended_all, ended_phase, in_phase}
use Rattle.txn_core.specs.RowTables.{IsRowTable, Row, RowTable, any_row, count_where, has_id, has_lease, has_live, is_due, is_live_and, is_queued}
use Rattle.wire_frames.specs.declared.ends.EndKind.TheVariants as kinds
use Rattle.wire_frames.specs.declared.ends.Reason.{Reason}
use Rattle.conn_core.specs.KeptEnds.{leases_ended}
use Rattle.conn_core.specs.KeptStates.{close_needs, needs_of}
use Rattle.conn_core.specs.KeptSteps.{asked_kept, cancelled_kept, kept_count, released_kept, ticked_kept, ticked_requests}
use Rattle.conn_core.specs.Steps.{is_nothing}
use Rattle.conn_core.specs.declared.table.KeptTable.{KeptTable}
use Rattle.conn_core.proofs.EndLemmas.{ended_count}
use Rattle.conn_core.proofs.NeedLemmas.{asked_count, dropped_count, due_count, granted_count, queued_count}

-- what ends, of all requests
record Fewer {X E : Type 0} (before after : RowTable X E) : Type 0 where
  rows : length after.rows ≡ length before.rows
  live : count_where any_row after ≤ count_where any_row before
  queued : count_by is_queued after.rows ≤ count_by is_queued before.rows

ends_fewer : {X E : Type 0} (p : Row X E → Bool) (kind : E) (t : RowTable X E) → Fewer t (ended_all p kind t)
ends_fewer p kind t = record {
  rows = length-map t.rows (in_phase (ended_phase p kind));
  live = let ends = ended_count p kind t in omega arith;
  queued = let ends = queued_count p kind t in omega arith;
}

leases_fewer : {X E : Type 0} (kind : E) (numbers : List ℕ) (t : RowTable X E) → Fewer t (leases_ended kind numbers t)
leases_fewer kind [] t = record { rows = refl; live = omega arith; queued = omega arith }
leases_fewer kind (n ∷ ns) t =
    let one = ends_fewer (has_lease n) kind t in
    let rest = leases_fewer kind ns (ended_all (has_lease n) kind t) in
    record {
      rows = rest.rows ∙ one.rows;
      live = let a = one.live in let b = rest.live in omega arith;
      queued = let a = one.queued in let b = rest.queued in omega arith;
    }

pub asked_needs : (actor now : ℕ) (k : KeptTable) → needs_of (asked_kept actor now k) ≡ needs_of k + 1
asked_needs actor now k = let more = asked_count k.leases actor (max k.clock now) in omega arith

pub released_needs : (number now : ℕ) (k : KeptTable) → IsTrue (is_known k.leases number) → needs_of (released_kept number now k) + 1 ≤ needs_of k
released_needs number now k known =
    let less = dropped_count k.leases number known in
    let same = granted_count (dropped k.leases number) (max k.clock now) in
    let ends = ends_fewer (has_lease number) kinds.LeaseGone k.requests in
    let rows = ends.rows in let live = ends.live in let queued = ends.queued in
    omega arith

any_step : {R : Type 0} (p : R → Bool) (x : R) (xs : List R) (b : Bool) → (b || list_any p xs) ≡ true → (list_any p xs ≡ true → 1 ≤ count_by p xs) → 1 ≤ cond b 1 0 + count_by p xs
any_step p x xs true e rest = omega arith
any_step p x xs false e rest = let more = rest e in omega arith

any_count : {R : Type 0} (p : R → Bool) (xs : List R) → list_any p xs ≡ true → 1 ≤ count_by p xs
any_count p [] e = cc
any_count p (x ∷ xs) e = rw (count_cons p x xs) (any_step p x xs (p x) e (any_count p xs))

pub live_some : {X E : Type 0} (id : ℕ) (t : RowTable X E) (kind : E) → IsTrue (has_live id t) → 1 ≤ count_where any_row t
live_some id t kind live =
    let some = any_count (is_live_and (has_id id)) t.rows live in
    let count = ended_count (has_id id) kind t in
    omega arith

pub cancelled_needs : (id : ℕ) (k : KeptTable) → IsTrue (has_live id k.requests) → needs_of (cancelled_kept id k) + 1 ≤ needs_of k
cancelled_needs id k live =
    let some = any_count (is_live_and (has_id id)) k.requests.rows live in
    let count = ended_count (has_id id) kinds.Cancelled k.requests in
    let ends = ends_fewer (has_id id) kinds.Cancelled k.requests in
    let rows = ends.rows in let queued = ends.queued in
    omega arith

nothing_cases : (a b c : ℕ) → ((a == 0) && ((b == 0) && (c == 0))) ≡ false → 1 ≤ a + b + c
nothing_cases zero zero zero e = cc
nothing_cases zero zero (suc c) e = omega arith
nothing_cases zero (suc b) c e = omega arith
nothing_cases (suc a) b c e = omega arith

pub ticked_needs : (now : ℕ) (k : KeptTable) → is_nothing (kept_count now k) ≡ false → needs_of (ticked_kept now k) + 1 ≤ needs_of k
ticked_needs now k due =
    let some = nothing_cases (count_where any_row k.requests - count_where any_row (ticked_requests now k)) (length (due_numbers now k.leases.held)) (length (due_numbers now k.leases.waiting)) due in
    let less = due_count k.leases now in
    let same = granted_count (due_dropped k.leases now) (max k.clock now) in
    let first = ends_fewer (is_due now) kinds.Expired k.requests in
    let rest = leases_fewer kinds.LeaseGone (due_numbers now k.leases.held) (ended_all (is_due now) kinds.Expired k.requests) in
    let rows = first.rows in let live = first.live in let queued = first.queued in
    let rows_then = rest.rows in let live_then = rest.live in let queued_then = rest.queued in
    omega arith

close_few : (closed : Option Reason) → close_needs closed ≤ 1
close_few None = omega arith
close_few (Some reason) = omega arith

-- what is kept can cause so many entries at most
pub needs_few : (k : KeptTable) → IsRowTable k.requests → IsLeaseTable k.leases → needs_of k ≤ 3 * length k.requests.rows + 129
needs_few k rows leases =
    let live = count_by-le-length (is_live_and any_row) k.requests.rows in
    let queued = count_by-le-length is_queued k.requests.rows in
    let held = leases.held in let share = leases.share in let waiting = leases.waiting in
    let close = close_few k.closed in
    omega arith
