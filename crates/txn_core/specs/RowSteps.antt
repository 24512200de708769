-- What each call does to the rows of a request table.
use Rattle.std.specs.Prelude.{◌≡◌, ◌⊎◌, ℕ, ◌+◌, Bool, true, false, ◌&&◌, not, nat_lt, if◌then◌else◌, List, [], ◌∷◌, ◌++◌, Option, Some, None, Result, Ok, Err, count_by, filter, map}
use Rattle.std.specs.List.{find}
use Rattle.txn_core.specs.RowTables.{Row, RowTable, has_id, has_reference, is_ended, is_full, is_live_and, is_quarantined, is_queued, is_queued_and, is_row_of, is_sent, is_sent_and, phase_of}
use Rattle.txn_core.specs.declared.phases.AddRefusal.{AddRefusal}
use Rattle.txn_core.specs.declared.phases.AddRefusal.TheVariants as add_refusals
use Rattle.txn_core.specs.declared.phases.Arrival.{Arrival}
use Rattle.txn_core.specs.declared.phases.Arrival.TheVariants as arrivals
use Rattle.txn_core.specs.declared.phases.Phase.{Phase}
use Rattle.txn_core.specs.declared.phases.Phase.TheVariants.{Queued, Sent, Ended}
use Rattle.txn_core.specs.declared.phases.TakeRefusal.{TakeRefusal}
use Rattle.txn_core.specs.declared.phases.TakeRefusal.TheVariants as take_refusals

-- ---- a step that may be refused gives a table and an answer

abbrev pub answer_of : {T A R : Type 0} → Result (T × A) R → Result A R
answer_of (Ok p) = Ok p.1
answer_of (Err refusal) = Err refusal

-- the table after it, which stays where it is refused
abbrev pub table_or : {T A R : Type 0} → T → Result (T × A) R → T
table_or t (Ok p) = p.0
table_or t (Err refusal) = t

-- ---- a request is added, queued under the first free reference

-- whose it is, and until when
pub record Draft (X : Type 0) : Type 0 where
  pub owner : ℕ
  pub lease : ℕ
  pub deadline : ℕ
  pub what : X

abbrev pub queued_row : {X E : Type 0} → Draft X → (id reference : ℕ) → Row X E
queued_row draft id reference = record {
  id = id;
  owner = draft.owner;
  lease = draft.lease;
  reference = reference;
  deadline = draft.deadline;
  phase = Queued;
  what = draft.what;
}

abbrev pub with_row : {X E : Type 0} → Draft X → RowTable X E → ℕ → List ℕ → RowTable X E
with_row draft t reference rest = record t {
  rows = t.rows ++ queued_row draft (t.drawn + 1) reference ∷ [];
  free = rest;
  drawn = t.drawn + 1;
}

abbrev pub added_under : {X E : Type 0} → Draft X → RowTable X E → List ℕ → Result (RowTable X E × (ℕ × ℕ)) AddRefusal
added_under draft t [] = Err add_refusals.NoReference
added_under draft t (reference ∷ rest) = Ok (with_row draft t reference rest, (t.drawn + 1, reference))

-- the table with the request, and its id and reference
abbrev pub added : {X E : Type 0} → Draft X → RowTable X E → Result (RowTable X E × (ℕ × ℕ)) AddRefusal
added draft t = if is_full t then Err add_refusals.Full else added_under draft t t.free

-- ---- the queued request with the least id is sent

-- the rows, each in the phase that it comes to
abbrev pub in_phase : {X E : Type 0} → (Row X E → Phase E) → Row X E → Row X E
in_phase phase row = record row { phase = phase row }

abbrev pub in_phases : {X E : Type 0} → (Row X E → Phase E) → List (Row X E) → List (Row X E)
in_phases phase rows = map (in_phase phase) rows

abbrev pub sent_phase : {X E : Type 0} → ℕ → Row X E → Phase E
sent_phase id row = if is_queued_and (has_id id) row then Sent else row.phase

-- the queued row with this id is sent
abbrev pub sent : {X E : Type 0} → ℕ → RowTable X E → RowTable X E
sent id t = record t { rows = in_phases (sent_phase id) t.rows }

abbrev pub sent_from : {X E : Type 0} → RowTable X E → Option (Row X E) → Option (RowTable X E × Row X E)
sent_from t None = None
sent_from t (Some row) = Some (sent row.id t, row)

-- the table after it, and the row that was sent: none, where no row is queued or the window is full
abbrev pub sent_next : {X E : Type 0} → RowTable X E → Option (RowTable X E × Row X E)
sent_next t = if nat_lt (count_by is_sent t.rows) t.window then sent_from t (find is_queued t.rows) else None

-- the table after it
abbrev pub after_or : {T A : Type 0} → T → Option (T × A) → T
after_or t None = t
after_or t (Some p) = p.0

-- ---- a reply comes in

-- the row that waits for a reply with this reference
abbrev pub awaiting : {X E : Type 0} → ℕ → RowTable X E → Option (Row X E)
awaiting reference t = find (is_sent_and (has_reference reference)) t.rows

abbrev pub arrival_for : {X E : Type 0} → ℕ → RowTable X E → Option (Row X E) → Arrival
arrival_for reference t (Some row) = arrivals.Row row.id
arrival_for reference t None = if is_quarantined reference t then arrivals.Late else arrivals.Stray

abbrev pub arrival_of : {X E : Type 0} → ℕ → RowTable X E → Arrival
arrival_of reference t = arrival_for reference t (awaiting reference t)

-- a late reply takes its reference out of quarantine: it is free again, at the back
abbrev pub settled : {X E : Type 0} → ℕ → RowTable X E → RowTable X E
settled reference t = record t { free = t.free ++ reference ∷ [] }

-- ---- requests end

abbrev pub ended_phase : {X E : Type 0} → (Row X E → Bool) → E → Row X E → Phase E
ended_phase p kind row = if is_live_and p row then Ended kind else row.phase

-- the references of the rows that pass
abbrev pub references_of : {X E : Type 0} → (Row X E → Bool) → List (Row X E) → List ℕ
references_of p rows = map (λ row. row.reference) (filter p rows)

-- The live rows that pass end without a reply. The references of the queued ones are free again, at the back by rising id;
-- those of the sent ones stay out, so that they are in quarantine.
abbrev pub ended_all : {X E : Type 0} → (Row X E → Bool) → E → RowTable X E → RowTable X E
ended_all p kind t = record t {
  rows = in_phases (ended_phase p kind) t.rows;
  free = t.free ++ references_of (is_queued_and p) t.rows;
}

-- The live row with this id ends by its reply, and its reference is free again, at the back.
abbrev pub replied : {X E : Type 0} → ℕ → E → RowTable X E → RowTable X E
replied id kind t = record t {
  rows = in_phases (ended_phase (has_id id) kind) t.rows;
  free = t.free ++ references_of (is_live_and (has_id id)) t.rows;
}

-- the live row with this id ends
abbrev pub ended : {X E : Type 0} → ℕ → Bool → E → RowTable X E → RowTable X E
ended id true kind t = replied id kind t
ended id false kind t = ended_all (has_id id) kind t

-- ---- an ended request is taken out

abbrev pub stays : {X E : Type 0} → (owner id : ℕ) → Row X E → Bool
stays owner id row = not (is_ended row && is_row_of owner id row)

abbrev pub without : {X E : Type 0} → (owner id : ℕ) → RowTable X E → RowTable X E
without owner id t = record t { rows = filter (stays owner id) t.rows }

abbrev pub taken_from : {X E : Type 0} → (owner id : ℕ) → RowTable X E → Option (Phase E) → Result (RowTable X E × E) TakeRefusal
taken_from owner id t None = Err take_refusals.NoRequest
taken_from owner id t (Some Queued) = Err take_refusals.Pending
taken_from owner id t (Some Sent) = Err take_refusals.Pending
taken_from owner id t (Some (Ended kind)) = Ok (without owner id t, kind)

abbrev pub taken : {X E : Type 0} → (owner id : ℕ) → RowTable X E → Result (RowTable X E × E) TakeRefusal
taken owner id t = taken_from owner id t (phase_of owner id t)

-- an answer is what was wanted, or want of memory
abbrev pub IsGivenOrNoMemory : {A R : Type 0} → R → Result A R → Result A R → Type 0
IsGivenOrNoMemory no_memory result wanted = (result ≡ wanted) ⊎ (result ≡ Err no_memory)
