-- What each step leaves of a table, and what it adds.
use Rattle.std.proofs.Common.{◌≡◌, ℕ, zero, suc, ◌+◌, ◌-◌, ◌<◌, ◌≤◌, Bool, true, false, cond, List, [], ◌∷◌, ◌++◌, length, map, take, drop, refl, sym, ap, subst, ◌∙◌, arith, Some, length-append}
use Rattle.std.specs.Prelude.{◌&&◌, ◌==◌, count_by, filter, if◌then◌else◌, is_none}
use Rattle.std.proofs.lemmas.Bool.{eq-eqb, eqb-false}
use Rattle.std.proofs.lemmas.Bool.Decides.{nat_tests}
use Rattle.std.proofs.lemmas.List.{length-map, map-append}
use Rattle.lease_core.specs.LeaseLaws.{length_filter}
use Rattle.lease_core.specs.LeaseSteps.{asked, dropped, due_dropped, granted_all, held_from, is_held_at_once, is_other, next_lease, outlasts}
use Rattle.lease_core.specs.LeaseTables.{LeaseTable, deadline_of, has_room, waiters_limit}
use Rattle.txn_core.specs.PlainRows.{sent_id}
use Rattle.txn_core.specs.RowLaws.{count_append, count_cons, count_filter, count_map, counts_add, ids_same, one, rising_filter, rising_push}
use Rattle.txn_core.specs.RowSteps.{Draft, ended_all, ended_phase, in_phase, in_phases, queued_row, replied, sent, sent_next, sent_phase, settled, stays, with_row, without}
use Rattle.txn_core.specs.RowTables.{IsRising, Row, RowTable, has_id, has_lease, ids_of, is_full, is_queued, is_sent, is_sent_and, phase_live, phase_sent, phase_queued, rows_limit}
use Rattle.txn_core.specs.declared.phases.Phase.{Phase}
use Rattle.txn_core.specs.declared.phases.Phase.TheVariants.{Queued, Sent, Ended}
use Rattle.wire_frames.specs.declared.ends.EndKind.TheVariants as kinds
use Rattle.wire_frames.specs.declared.ends.Outcome.{Outcome}
use Rattle.conn_core.specs.Steps.{bare, end_all, end_leases}
use Rattle.conn_core.specs.Tables.{Handed}
use Rattle.conn_core.proofs.MoveNeeds.{count_middle}
use Rattle.conn_core.proofs.RowStands.{SendsRow, send_rising}
use Rattle.txn_core.specs.RowEnds.{phases_at}

-- ---- what requests keep

-- the part of a table of requests that no step but an acceptance changes, and the bounds of its rows
pub record IsWithin (t : RowTable Handed Outcome) : Type 0 where
  pub rows : length t.rows ≤ rows_limit
  pub sent : count_by is_sent t.rows ≤ t.window
  pub ids : IsRising 0 t.drawn (ids_of t.rows)

pub record Keeps (t u : RowTable Handed Outcome) : Type 0 where
  pub window : u.window ≡ t.window
  pub references : u.references ≡ t.references
  pub drawn : u.drawn ≡ t.drawn
  pub within : IsWithin t → IsWithin u

pub keeps_self : (t : RowTable Handed Outcome) → Keeps t t
keeps_self t = record { window = refl; references = refl; drawn = refl; within = λ w. w }

pub keeps_then : (t u v : RowTable Handed Outcome) → Keeps t u → Keeps u v → Keeps t v
keeps_then t u v h k = record {
  window = k.window ∙ h.window;
  references = k.references ∙ h.references;
  drawn = k.drawn ∙ h.drawn;
  within = λ w. k.within (h.within w);
}

sent_step : {E : Type 0} (kind : E) (phase : Phase E) (b : Bool) → one (phase_sent (if phase_live phase && b then Ended kind else phase)) + one (phase_sent phase && b) ≡ one (phase_sent phase)
sent_step kind Queued true = refl
sent_step kind Queued false = refl
sent_step kind Sent true = refl
sent_step kind Sent false = refl
sent_step kind (Ended k) b = refl

ended_sent : (p : Row Handed Outcome → Bool) (outcome : Outcome) (rows : List (Row Handed Outcome)) → count_by is_sent (in_phases (ended_phase p outcome) rows) + count_by (is_sent_and p) rows ≡ count_by is_sent rows
ended_sent p outcome rows =
    ap (λ n. n + count_by (is_sent_and p) rows) (count_map is_sent (in_phase (ended_phase p outcome)) rows)
    ∙ counts_add (λ row. is_sent (in_phase (ended_phase p outcome) row)) (is_sent_and p) is_sent rows (λ row. sent_step outcome row.phase (p row))

phased_within : (p : Row Handed Outcome → Bool) (outcome : Outcome) (t u : RowTable Handed Outcome) → u.rows ≡ in_phases (ended_phase p outcome) t.rows → u.window ≡ t.window → u.drawn ≡ t.drawn → IsWithin t → IsWithin u
phased_within p outcome t u rows window drawn w =
    let long = length-map t.rows (in_phase (ended_phase p outcome)) in
    let few = w.rows in
    let sent = ended_sent p outcome t.rows in
    let was = w.sent in
    record {
      rows = rw rows (omega arith);
      sent = rw (rows, window) (omega arith);
      ids = rw (rows, drawn, ids_same (ended_phase p outcome) t.rows) w.ids;
    }

pub ended_keeps : (p : Row Handed Outcome → Bool) (outcome : Outcome) (t : RowTable Handed Outcome) → Keeps t (ended_all p outcome t)
ended_keeps p outcome t = record { window = refl; references = refl; drawn = refl; within = phased_within p outcome t (ended_all p outcome t) refl refl refl }

pub replied_keeps : (id : ℕ) (outcome : Outcome) (t : RowTable Handed Outcome) → Keeps t (replied id outcome t)
replied_keeps id outcome t = record { window = refl; references = refl; drawn = refl; within = phased_within (has_id id) outcome t (replied id outcome t) refl refl refl }

pub leases_keep : (numbers : List ℕ) (t : RowTable Handed Outcome) → Keeps t (end_leases numbers t)
leases_keep [] t = keeps_self t
leases_keep (n ∷ ns) t =
    let next = end_all (has_lease n) kinds.LeaseGone t in
    keeps_then t next (end_leases ns next) (ended_keeps (has_lease n) (bare kinds.LeaseGone) t) (leases_keep ns next)

pub settled_keeps : (reference : ℕ) (t : RowTable Handed Outcome) → Keeps t (settled reference t)
settled_keeps reference t = record { window = refl; references = refl; drawn = refl; within = λ w. record { rows = w.rows; sent = w.sent; ids = w.ids } }

fewer_rows : {R : Type 0} (p : R → Bool) (x : R) (xs : List R) (b : Bool) → length (filter p xs) ≤ length xs → length (cond b (x ∷ filter p xs) (filter p xs)) ≤ length (x ∷ xs)
fewer_rows p x xs true h = omega arith
fewer_rows p x xs false h = omega arith

pub filter_length : {R : Type 0} (p : R → Bool) (xs : List R) → length (filter p xs) ≤ length xs
filter_length p [] = omega arith
filter_length p (x ∷ xs) = fewer_rows p x xs (p x) (filter_length p xs)

both_le : (a b : Bool) → one (a && b) ≤ one b
both_le true b = omega arith
both_le false true = omega arith
both_le false false = omega arith

counts_le : {R : Type 0} (a b : R → Bool) (xs : List R) → ((x : R) → one (a x) ≤ one (b x)) → count_by a xs ≤ count_by b xs
counts_le a b [] h = omega arith
counts_le a b (x ∷ xs) h = let here = h x in let rest = counts_le a b xs h in let left = count_cons a x xs in let right = count_cons b x xs in omega arith

pub without_keeps : (owner id : ℕ) (t : RowTable Handed Outcome) → Keeps t (without owner id t)
without_keeps owner id t = record {
  window = refl;
  references = refl;
  drawn = refl;
  within = λ w. record {
    rows = let few = filter_length (stays owner id) t.rows in let was = w.rows in omega arith;
    sent =
        let count = count_filter is_sent (stays owner id) t.rows in
        let few = counts_le (λ row. stays owner id row && is_sent row) is_sent t.rows (λ row. both_le (stays owner id row) (is_sent row)) in
        let was = w.sent in
        omega arith;
    ids = rising_filter (stays owner id) 0 t.drawn t.rows w.ids;
  };
}

sent_not : (b : Bool) (phase : Phase Outcome) → (if b && false then Sent else phase) ≡ phase
sent_not true phase = refl
sent_not false phase = refl

sent_else : (id : ℕ) (row : Row Handed Outcome) → has_id id row ≡ false → sent_phase id row ≡ row.phase
sent_else id row out = ap (λ b. if is_queued row && b then Sent else row.phase) out ∙ sent_not (is_queued row) row.phase

sent_now : (row : Row Handed Outcome) → is_queued row ≡ true → sent_phase row.id row ≡ Sent
sent_now row queued = rw (queued, eq-eqb row.id row.id refl) refl

queued_unsent : {E : Type 0} (phase : Phase E) → phase_queued phase ≡ true → one (phase_sent phase) ≡ 0
queued_unsent Queued e = refl
queued_unsent Sent e = cc
queued_unsent (Ended kind) e = cc

-- the queued request that is sent is one more that is sent and live
sent_one : (t : RowTable Handed Outcome) (id : ℕ) (s : SendsRow t id) → count_by is_sent (sent s.row.id t).rows ≡ count_by is_sent t.rows + 1
sent_one t id s =
    let phase = sent_phase {X = Handed} {E = Outcome} s.row.id in
    let is : (sent s.row.id t).rows ≡ s.before ++ in_phase phase s.row ∷ s.after = ap (in_phases phase) s.rows ∙ phases_at phase s.before s.after s.row s.only_one (sent_else s.row.id) in
    let now = ap (count_by is_sent) is ∙ count_middle is_sent s.before (in_phase phase s.row) s.after in
    let was = ap (count_by is_sent) s.rows ∙ count_middle is_sent s.before s.row s.after in
    let here : one (is_sent (in_phase phase s.row)) ≡ 1 = ap (λ f. one (phase_sent f)) (sent_now s.row s.queued) in
    let there : one (is_sent s.row) ≡ 0 = queued_unsent s.row.phase s.queued in
    omega arith

pub sent_within : (t : RowTable Handed Outcome) (id : ℕ) → sent_id (sent_next t) ≡ Some id → count_by is_sent t.rows < t.window → IsWithin t → IsWithin (sent id t)
sent_within t id next room w =
    let s = send_rising t id w.ids next in
    let P : ℕ → Type 0 = λ n. IsWithin (sent n t) in
    let more = sent_one t id s in
    let long = length-map t.rows (in_phase (sent_phase {X = Handed} {E = Outcome} s.row.id)) in
    let few = w.rows in
    subst P s.same (record {
      rows = omega arith;
      sent = omega arith;
      ids = rw (ids_same (sent_phase s.row.id) t.rows) w.ids;
    })

pub added_within : (draft : Draft Handed) (t : RowTable Handed Outcome) (reference : ℕ) (rest : List ℕ) → is_full t ≡ false → IsWithin t → IsWithin (with_row draft t reference rest)
added_within draft t reference rest full w =
    let row : Row Handed Outcome = queued_row draft (t.drawn + 1) reference in
    let long = length-append t.rows (row ∷ []) in
    let apart = eqb-false (length t.rows) rows_limit full in
    let few = w.rows in
    let count = count_append is_sent t.rows (row ∷ []) in
    let none : count_by is_sent (row ∷ []) ≡ 0 = refl in
    let was = w.sent in
    record {
      rows = omega arith;
      sent = omega arith;
      ids = let pushed = rising_push 0 t.drawn (ids_of t.rows) w.ids in let P : List ℕ → Type 0 = IsRising 0 (t.drawn + 1) in subst P (sym (map-append (λ (r : Row Handed Outcome). r.id) t.rows (row ∷ []))) pushed;
    }

-- ---- leases

pub record IsHeld (l : LeaseTable) : Type 0 where
  pub held : length l.held ≤ l.share
  pub waiting : length l.waiting ≤ waiters_limit

taken_few : {X : Type 0} (n : ℕ) (xs : List X) → length (take n xs) ≤ n
taken_few zero xs = omega arith
taken_few (suc n) [] = omega arith
taken_few (suc n) (x ∷ xs) = let rest = taken_few n xs in omega arith

dropped_few : {X : Type 0} (n : ℕ) (xs : List X) → length (drop n xs) ≤ length xs
dropped_few zero xs = omega arith
dropped_few (suc n) [] = omega arith
dropped_few (suc n) (x ∷ xs) = let rest = dropped_few n xs in omega arith

pub granted_held : (l : LeaseTable) (now : ℕ) → IsHeld l → IsHeld (granted_all l now)
granted_held l now h =
    let room = l.share - length l.held in
    let few = taken_few room l.waiting in
    let long = length-append l.held (map (held_from now l) (take room l.waiting)) in
    let same = length-map (take room l.waiting) (held_from now l) in
    let was = h.held in
    let left = dropped_few room l.waiting in
    let wait = h.waiting in
    record { held = omega arith; waiting = omega arith }

pub dropped_held : (l : LeaseTable) (n : ℕ) → IsHeld l → IsHeld (dropped l n)
dropped_held l n h =
    let held = length_filter (is_other n) l.held in
    let waiting = length_filter (is_other n) l.waiting in
    let was = h.held in let wait = h.waiting in
    record { held = omega arith; waiting = omega arith }

pub due_held_few : (l : LeaseTable) (now : ℕ) → IsHeld l → IsHeld (due_dropped l now)
due_held_few l now h =
    let held = length_filter (outlasts now) l.held in
    let waiting = length_filter (outlasts now) l.waiting in
    let was = h.held in let wait = h.waiting in
    record { held = omega arith; waiting = omega arith }

asked_held_if : (l : LeaseTable) (owner now : ℕ) (room none : Bool) → has_room l ≡ room → (length l.waiting == 0) ≡ none → length l.waiting < waiters_limit → IsHeld l → IsHeld (asked l owner now)
asked_held_if l owner now true true room none few h =
    let is : is_held_at_once l ≡ true = rw (room, none) refl in
    let space : length l.held < l.share = grind (arith, nat_tests) in
    let wait = h.waiting in
    rw is (record { held = omega (arith, length-append l.held (next_lease l owner (deadline_of now l.lease_ms) ∷ [])); waiting = wait })
asked_held_if l owner now true false room none few h =
    let is : is_held_at_once l ≡ false = rw (room, none) refl in
    rw is (record { held = h.held; waiting = omega (arith, length-append l.waiting (next_lease l owner (deadline_of now l.wait_ms) ∷ [])) })
asked_held_if l owner now false none room is_none few h =
    let is : is_held_at_once l ≡ false = rw room refl in
    rw is (record { held = h.held; waiting = omega (arith, length-append l.waiting (next_lease l owner (deadline_of now l.wait_ms) ∷ [])) })

pub asked_held : (l : LeaseTable) (owner now : ℕ) → length l.waiting < waiters_limit → IsHeld l → IsHeld (asked l owner now)
asked_held l owner now few h = asked_held_if l owner now (has_room l) (length l.waiting == 0) refl refl few h

pub asked_drawn_if : (l : LeaseTable) (owner now : ℕ) (b : Bool) → is_held_at_once l ≡ b → ((asked l owner now).drawn ≡ l.drawn + 1) × ((asked l owner now).share ≡ l.share)
asked_drawn_if l owner now true is = rw is (refl, refl)
asked_drawn_if l owner now false is = rw is (refl, refl)
