-- What an event needs of the journal's room, and what it leaves.
use Rattle.std.proofs.Common.{◌≡◌, ℕ, zero, suc, ◌+◌, ◌-◌, ◌≤◌, Bool, true, false, cond, List, [], ◌∷◌, length, take, drop, map, refl, ap, ◌∙◌, arith, length-append}
use Rattle.std.specs.Prelude.{◌&&◌, ◌||◌, IsTrue, count_by, filter, if◌then◌else◌, not}
use Rattle.std.specs.List.{list_any}
use Rattle.std.proofs.lemmas.List.{length-map}
use Rattle.lease_core.specs.LeaseSteps.{asked, dropped, due_dropped, granted_all, held_from, is_held_at_once, is_other, next_lease, outlasts}
use Rattle.lease_core.specs.LeaseTables.{Lease, LeaseTable, deadline_of, due_numbers, has_number, is_due as is_due_lease, is_known, number_of}
use Rattle.txn_core.specs.RowLaws.{count_map, counts_add, one}
use Rattle.txn_core.specs.RowSteps.{ended_all, ended_phase, in_phase}
use Rattle.txn_core.specs.RowTables.{Row, RowTable, is_queued, is_queued_and, phase_live, phase_queued}
use Rattle.txn_core.specs.declared.phases.Phase.{Phase}
use Rattle.txn_core.specs.declared.phases.Phase.TheVariants.{Queued, Sent, Ended}

-- ---- requests

queued_step : {E : Type 0} (kind : E) (phase : Phase E) (b : Bool) → one (phase_queued (if phase_live phase && b then Ended kind else phase)) + one (phase_queued phase && b) ≡ one (phase_queued phase)
queued_step kind Queued true = refl
queued_step kind Queued false = refl
queued_step kind Sent true = refl
queued_step kind Sent false = refl
queued_step kind (Ended k) b = refl

pub queued_count : {X E : Type 0} (p : Row X E → Bool) (kind : E) (t : RowTable X E) → count_by is_queued (ended_all p kind t).rows + count_by (is_queued_and p) t.rows ≡ count_by is_queued t.rows
queued_count p kind t =
    ap (λ n. n + count_by (is_queued_and p) t.rows) (count_map is_queued (in_phase (ended_phase p kind)) t.rows)
    ∙ counts_add (λ row. is_queued (in_phase (ended_phase p kind) row)) (is_queued_and p) is_queued t.rows (λ row. queued_step kind row.phase (p row))

-- ---- leases

abbrev pub lease_count : LeaseTable → ℕ
lease_count l = length l.held + length l.waiting

cut : {X : Type 0} (n : ℕ) (xs : List X) → length (take n xs) + length (drop n xs) ≡ length xs
cut zero xs = omega arith
cut (suc n) [] = refl
cut (suc n) (x ∷ xs) = let rest = cut n xs in omega arith

-- grants move waiters to the held leases
pub granted_count : (l : LeaseTable) (now : ℕ) → lease_count (granted_all l now) ≡ lease_count l
granted_count l now =
    let room = l.share - length l.held in
    let parts = cut room l.waiting in
    omega (arith, length-append l.held (map (held_from now l) (take room l.waiting)), length-map (take room l.waiting) (held_from now l))

other_step : (n : ℕ) (x : Lease) (xs : List Lease) (b : Bool) → (length (filter (is_other n) xs) ≤ length xs) → length (cond (not b) (x ∷ filter (is_other n) xs) (filter (is_other n) xs)) ≤ length (x ∷ xs)
other_step n x xs true h = omega arith
other_step n x xs false h = omega arith

others_fewer : (n : ℕ) (xs : List Lease) → length (filter (is_other n) xs) ≤ length xs
others_fewer n [] = omega arith
others_fewer n (x ∷ xs) = other_step n x xs (has_number n x) (others_fewer n xs)

gone_step : (n : ℕ) (x : Lease) (xs : List Lease) (b : Bool) → (b || list_any (has_number n) xs) ≡ true → (list_any (has_number n) xs ≡ true → length (filter (is_other n) xs) + 1 ≤ length xs) → length (cond (not b) (x ∷ filter (is_other n) xs) (filter (is_other n) xs)) + 1 ≤ length (x ∷ xs)
gone_step n x xs true e rest = let fewer = others_fewer n xs in omega arith
gone_step n x xs false e rest = let fewer = rest e in omega arith

one_gone : (n : ℕ) (xs : List Lease) → list_any (has_number n) xs ≡ true → length (filter (is_other n) xs) + 1 ≤ length xs
one_gone n [] e = cc
one_gone n (x ∷ xs) e = gone_step n x xs (has_number n x) e (one_gone n xs)

dropped_cases : (l : LeaseTable) (n : ℕ) (b : Bool) → list_any (has_number n) l.held ≡ b → (b || list_any (has_number n) l.waiting) ≡ true → lease_count (dropped l n) + 1 ≤ lease_count l
dropped_cases l n true is e = let held = one_gone n l.held is in let waiting = others_fewer n l.waiting in omega arith
dropped_cases l n false is e = let held = others_fewer n l.held in let waiting = one_gone n l.waiting e in omega arith

-- a lease that is known goes
pub dropped_count : (l : LeaseTable) (n : ℕ) → IsTrue (is_known l n) → lease_count (dropped l n) + 1 ≤ lease_count l
dropped_count l n e = dropped_cases l n (list_any (has_number n) l.held) refl e

due_step : (now : ℕ) (x : Lease) (xs : List Lease) (b : Bool) → length (filter (outlasts now) xs) + length (due_numbers now xs) ≡ length xs → length (cond (not b) (x ∷ filter (outlasts now) xs) (filter (outlasts now) xs)) + length (map number_of (cond b (x ∷ filter (is_due_lease now) xs) (filter (is_due_lease now) xs))) ≡ length (x ∷ xs)
due_step now x xs true h = omega arith
due_step now x xs false h = omega arith

left_count : (now : ℕ) (xs : List Lease) → length (filter (outlasts now) xs) + length (due_numbers now xs) ≡ length xs
left_count now [] = refl
left_count now (x ∷ xs) = due_step now x xs (is_due_lease now x) (left_count now xs)

-- those that are due go
pub due_count : (l : LeaseTable) (now : ℕ) → lease_count (due_dropped l now) + length (due_numbers now l.held) + length (due_numbers now l.waiting) ≡ lease_count l
due_count l now = let held = left_count now l.held in let waiting = left_count now l.waiting in omega arith

-- a lease that is asked is one more
asked_cases : (l : LeaseTable) (owner now : ℕ) (b : Bool) → is_held_at_once l ≡ b → lease_count (asked l owner now) ≡ lease_count l + 1
asked_cases l owner now true is = rw is (omega (arith, length-append l.held (next_lease l owner (deadline_of now l.lease_ms) ∷ [])))
asked_cases l owner now false is = rw is (omega (arith, length-append l.waiting (next_lease l owner (deadline_of now l.wait_ms) ∷ [])))

pub asked_count : (l : LeaseTable) (owner now : ℕ) → lease_count (asked l owner now) ≡ lease_count l + 1
asked_count l owner now = asked_cases l owner now (is_held_at_once l) refl
