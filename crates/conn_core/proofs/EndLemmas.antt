-- How many requests are live, before and after some of them end.
use Rattle.std.proofs.Common.{◌≡◌, ℕ, ◌+◌, ◌≤◌, Bool, true, false, List, length, refl, ap, ◌∙◌, arith, Option, Some, None, Ok}
use Rattle.std.specs.List.{find}
use Rattle.std.specs.Option.{ok_or, option_map}
use Rattle.txn_core.specs.FirstPlaces.{any_found, found_at}
use Rattle.std.specs.Prelude.{IsTrue, ◌==◌, ◌&&◌, filter, if◌then◌else◌}
use Rattle.std.proofs.lemmas.List.Sums.{count_by-le-length}
use Rattle.std.proofs.lemmas.List.{length-map}
use Rattle.lease_core.specs.LeaseLaws.{length_filter}
use Rattle.lease_core.specs.LeaseTables.{Lease, due_numbers, is_due, number_of}
use Rattle.wire_frames.specs.declared.ends.EndKind.{EndKind}
use Rattle.conn_core.specs.KeptSteps.{cancel_answer}
use Rattle.txn_core.specs.RowLaws.{count_map, counts_add, one}
use Rattle.txn_core.specs.RowSteps.{ended_all, ended_phase, in_phase}
use Rattle.txn_core.specs.RowTables.{IsRowTable, Row, RowTable, any_row, count_where, has_id, has_live, is_live_and, is_row_of, phase_live, phase_of, rows_limit}
use Rattle.txn_core.specs.declared.phases.Phase.{Phase}
use Rattle.txn_core.specs.declared.phases.Phase.TheVariants.{Queued, Sent, Ended}

live_step : {E : Type 0} (kind : E) (phase : Phase E) (b : Bool) → one (phase_live (if phase_live phase && b then Ended kind else phase) && true) + one (phase_live phase && b) ≡ one (phase_live phase && true)
live_step kind Queued true = refl
live_step kind Queued false = refl
live_step kind Sent true = refl
live_step kind Sent false = refl
live_step kind (Ended k) b = refl

-- those that end aren't live any more, the others are
pub ended_count : {X E : Type 0} (p : Row X E → Bool) (kind : E) (t : RowTable X E) → count_where any_row (ended_all p kind t) + count_where p t ≡ count_where any_row t
ended_count p kind t =
    ap (λ n. n + count_where p t) (count_map (is_live_and any_row) (in_phase (ended_phase p kind)) t.rows)
    ∙ counts_add (λ row. is_live_and any_row (in_phase (ended_phase p kind) row)) (is_live_and p) (is_live_and any_row) t.rows (λ row. live_step kind row.phase (p row))

-- as many as are kept, at most
pub live_few : {X E : Type 0} (p : Row X E → Bool) (t : RowTable X E) → IsRowTable t → count_where p t ≤ rows_limit
live_few p t table = let few = table.rows in omega (arith, count_by-le-length (is_live_and p) t.rows)

pub due_few : (now : ℕ) (leases : List Lease) → length (due_numbers now leases) ≤ length leases
due_few now leases = omega (arith, length-map (filter (is_due now) leases) number_of, length_filter (is_due now) leases)

both_true : (a b : Bool) → (a && b) ≡ true → a ≡ true
both_true true b e = refl
both_true false b e = e

live_cases : {X E : Type 0} (actor id : ℕ) (t : RowTable X E) (found : Option (Row X E)) (phase : Phase E) → find (is_row_of actor id) t.rows ≡ found → option_map (λ (row : Row X E). row.phase) found ≡ Some phase → phase_live phase ≡ true → has_live id t ≡ true
live_cases actor id t None phase e f live = cc
live_cases actor id t (Some row) phase e f live =
    let first = found_at (is_row_of actor id) t.rows row e in
    let same : row.phase ≡ phase = cc in
    let lives : phase_live row.phase ≡ true = ap phase_live same ∙ live in
    let named = both_true (has_id id row) (row.owner == actor) first.1.passes in
    any_found (is_row_of actor id) (is_live_and (has_id id)) t.rows row e (rw (lives, named) refl)

-- the actor's request that is queued or sent is a live one
pub live_found : {X E : Type 0} (actor id : ℕ) (t : RowTable X E) (phase : Phase E) → phase_of actor id t ≡ Some phase → phase_live phase ≡ true → IsTrue (has_live id t)
live_found actor id t phase e live = live_cases actor id t (find (is_row_of actor id) t.rows) phase refl e live

pub live_unless : {E : Type 0} (phase : Phase E) → ((kind : E) → phase ≡ Ended kind → ⊥) → phase_live phase ≡ true
live_unless Queued not_ended = refl
live_unless Sent not_ended = refl
live_unless (Ended kind) not_ended = absurd (not_ended kind refl)

pub some_of : {A R : Type 0} (o : Option A) (refusal : R) (x : A) → ok_or o refusal ≡ Ok x → o ≡ Some x
some_of None refusal x e = cc
some_of (Some y) refusal x e = cc

pub live_answer : (phase : Phase EndKind) → ((kind : EndKind) → phase ≡ Ended kind → ⊥) → cancel_answer (Some phase) ≡ Ok tt
live_answer Queued not_ended = refl
live_answer Sent not_ended = refl
live_answer (Ended kind) not_ended = absurd (not_ended kind refl)
