-- How much of the journal's room is needed less once a request is sent, taken out or answered.
use Rattle.std.proofs.Common.{◌≡◌, ℕ, ◌+◌, ◌≤◌, Bool, true, false, List, ◌∷◌, ◌++◌, length, refl, sym, ap, ◌∙◌, Some, Ok, arith, length-append}
use Rattle.std.specs.Prelude.{◌&&◌, count_by, filter, if◌then◌else◌}
use Rattle.std.proofs.lemmas.Bool.{eq-eqb}
use Rattle.std.proofs.lemmas.List.{length-map}
use Rattle.txn_core.specs.PlainRows.{sent_id}
use Rattle.txn_core.specs.RowLaws.{count_append, count_cons, count_map, counts_add, counts_same, one}
use Rattle.txn_core.specs.RowSteps.{after_or, answer_of, ended_phase, in_phase, replied, sent, sent_next, sent_phase, stays, table_or, taken, without}
use Rattle.txn_core.specs.RowTables.{IsRowTable, Row, RowTable, any_row, count_where, has_id, is_live_and, is_queued, is_queued_and, phase_live, phase_queued}
use Rattle.txn_core.specs.declared.phases.Phase.{Phase}
use Rattle.txn_core.specs.declared.phases.Phase.TheVariants.{Queued, Sent, Ended}
use Rattle.wire_frames.specs.declared.ends.EndKind.{EndKind}
use Rattle.conn_core.specs.KeptStates.{needs_of}
use Rattle.conn_core.specs.declared.table.KeptTable.{KeptTable}
use Rattle.conn_core.proofs.EndLemmas.{ended_count}
use Rattle.conn_core.proofs.NeedLemmas.{queued_count}
use Rattle.conn_core.proofs.RowStands.{rows_left, send_row, take_row}

-- a count with one item in the middle
pub count_middle : {R : Type 0} (p : R → Bool) (xs : List R) (x : R) (ys : List R) → count_by p (xs ++ x ∷ ys) ≡ count_by p xs + (one (p x) + count_by p ys)
count_middle p xs x ys = count_append p xs (x ∷ ys) ∙ ap (λ n. count_by p xs + n) (count_cons p x ys)

-- ---- a request is sent

sent_lives : {E : Type 0} (phase : Phase E) (b : Bool) → (phase_live (if phase_queued phase && b then Sent else phase) && true) ≡ (phase_live phase && true)
sent_lives Queued true = refl
sent_lives Queued false = refl
sent_lives Sent b = refl
sent_lives (Ended kind) b = refl

sent_queues : {E : Type 0} (phase : Phase E) (b : Bool) → one (phase_queued (if phase_queued phase && b then Sent else phase)) + one (phase_queued phase && b) ≡ one (phase_queued phase)
sent_queues Queued true = refl
sent_queues Queued false = refl
sent_queues Sent b = refl
sent_queues (Ended kind) b = refl

sent_live_count : {X E : Type 0} (id : ℕ) (t : RowTable X E) → count_where any_row (sent id t) ≡ count_where any_row t
sent_live_count id t =
    count_map (is_live_and any_row) (in_phase (sent_phase id)) t.rows
    ∙ counts_same (λ row. is_live_and any_row (in_phase (sent_phase id) row)) (is_live_and any_row) t.rows (λ row. sent_lives row.phase (has_id id row))

sent_queued_count : {X E : Type 0} (id : ℕ) (t : RowTable X E) → count_by is_queued (sent id t).rows + count_by (is_queued_and (has_id id)) t.rows ≡ count_by is_queued t.rows
sent_queued_count id t =
    ap (λ n. n + count_by (is_queued_and (has_id id)) t.rows) (count_map is_queued (in_phase (sent_phase id)) t.rows)
    ∙ counts_add (λ row. is_queued (in_phase (sent_phase id) row)) (is_queued_and (has_id id)) is_queued t.rows (λ row. sent_queues row.phase (has_id id row))

both_pass : (a b : Bool) → a ≡ true → b ≡ true → (a && b) ≡ true
both_pass true true e f = refl
both_pass true false e f = f
both_pass false b e f = e

pub sent_needs : (k m : KeptTable) (id : ℕ) → IsRowTable k.requests → sent_id (sent_next k.requests) ≡ Some id → m.requests ≡ after_or k.requests (sent_next k.requests) → m.leases ≡ k.leases → m.closed ≡ k.closed → needs_of m + 1 ≤ needs_of k
sent_needs k m id table next requests leases closed =
    let s = send_row k.requests id table next in
    let is : m.requests ≡ sent s.row.id k.requests = requests ∙ ap (after_or k.requests) s.taken in
    let p = is_queued_and {X = Unit {0}} {E = EndKind} (has_id s.row.id) in
    let long = length-map k.requests.rows (in_phase (sent_phase s.row.id)) in
    let live = sent_live_count s.row.id k.requests in
    let queued = sent_queued_count s.row.id k.requests in
    let here : one (p s.row) ≡ 1 = ap one (both_pass (is_queued s.row) (has_id s.row.id s.row) s.queued (eq-eqb s.row.id s.row.id refl)) in
    let some = ap (count_by p) s.rows ∙ count_middle p s.before s.row s.after in
    rw (is, leases, closed) (omega arith)

-- ---- a request is taken out

ended_counts : {E : Type 0} (phase : Phase E) (kind : E) → phase ≡ Ended kind → (one (phase_live phase && true) ≡ 0) × (one (phase_queued phase) ≡ 0)
ended_counts phase kind e = rw e (refl, refl)

record Left (before after : RowTable (Unit {0}) EndKind) : Type 0 where
  rows : length after.rows + 1 ≡ length before.rows
  live : count_where any_row after ≡ count_where any_row before
  queued : count_by is_queued after.rows ≡ count_by is_queued before.rows

taken_left : (t : RowTable (Unit {0}) EndKind) (owner id : ℕ) (kind : EndKind) → IsRowTable t → answer_of (taken owner id t) ≡ Ok kind → Left t (table_or t (taken owner id t))
taken_left t owner id kind table h =
    let s = take_row t owner id kind table h in
    let left : (without owner id t).rows ≡ s.before ++ s.after = ap (λ n. (without owner n t).rows) (sym s.same) ∙ ap (filter (stays owner s.row.id)) s.rows ∙ rows_left owner s.before s.row s.after s.only_one s.out in
    let none = ended_counts s.row.phase kind s.ended in
    let live_left = ap (count_by (is_live_and any_row)) left ∙ count_append (is_live_and any_row) s.before s.after in
    let live_was = ap (count_by (is_live_and any_row)) s.rows ∙ count_middle (is_live_and any_row) s.before s.row s.after in
    let queued_left = ap (count_by is_queued) left ∙ count_append is_queued s.before s.after in
    let queued_was = ap (count_by is_queued) s.rows ∙ count_middle is_queued s.before s.row s.after in
    let not_live = none.0 in
    let not_queued = none.1 in
    rw s.taken (record {
      rows = omega (arith, ap (length {A = Row (Unit {0}) EndKind}) left, length-append s.before s.after, ap (length {A = Row (Unit {0}) EndKind}) s.rows, length-append s.before (s.row ∷ s.after));
      live = omega arith;
      queued = omega arith;
    })

pub taken_needs : (k m : KeptTable) (owner id : ℕ) (kind : EndKind) → IsRowTable k.requests → answer_of (taken owner id k.requests) ≡ Ok kind → m.requests ≡ table_or k.requests (taken owner id k.requests) → m.leases ≡ k.leases → m.closed ≡ k.closed → needs_of m + 1 ≤ needs_of k
taken_needs k m owner id kind table h requests leases closed =
    let left = taken_left k.requests owner id kind table h in
    let rows = left.rows in let live = left.live in let queued = left.queued in
    rw (requests, leases, closed) (omega arith)

pub taken_rows : (k m : KeptTable) (owner id : ℕ) (kind : EndKind) → IsRowTable k.requests → answer_of (taken owner id k.requests) ≡ Ok kind → m.requests ≡ table_or k.requests (taken owner id k.requests) → length m.requests.rows + 1 ≡ length k.requests.rows
taken_rows k m owner id kind table h requests = rw requests (taken_left k.requests owner id kind table h).rows

pub taken_live : (k : KeptTable) (owner id : ℕ) (kind : EndKind) → IsRowTable k.requests → answer_of (taken owner id k.requests) ≡ Ok kind → count_where any_row (table_or k.requests (taken owner id k.requests)) ≡ count_where any_row k.requests
taken_live k owner id kind table h = (taken_left k.requests owner id kind table h).live

-- ---- a request is answered

pub replied_live : {X E : Type 0} (id : ℕ) (kind : E) (t : RowTable X E) → count_where any_row (replied id kind t) ≤ count_where any_row t
replied_live id kind t = let ends = ended_count (has_id id) kind t in omega arith

pub replied_needs : (k m : KeptTable) (id : ℕ) (kind : EndKind) → m.requests ≡ replied id kind k.requests → m.leases ≡ k.leases → m.closed ≡ k.closed → needs_of m ≤ needs_of k
replied_needs k m id kind requests leases closed =
    let long = length-map k.requests.rows (in_phase (ended_phase (has_id id) kind)) in
    let live = ended_count (has_id id) kind k.requests in
    let queued = queued_count (has_id id) kind k.requests in
    rw (requests, leases, closed) (omega arith)
