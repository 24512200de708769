-- Rows of which each frame has bytes, and no outcome has a row without values. What is done with rows keeps them so.
use Rattle.std.proofs.Common.{◌≢◌, ℕ, Bool, true, false, cond, List, [], ◌∷◌, Option, Some, None}
use Rattle.std.specs.Prelude.{filter, find, if◌then◌else◌}
use Rattle.std.specs.List.{AllByRecursion}
use Rattle.txn_core.specs.RowSteps.{ended_phase, in_phase, in_phases, sent_phase}
use Rattle.txn_core.specs.RowTables.{Row, is_live_and, is_queued_and, has_id}
use Rattle.txn_core.specs.declared.phases.Phase.{Phase}
use Rattle.txn_core.specs.declared.phases.Phase.TheVariants.{Queued, Sent, Ended}
use Rattle.wire_frames.specs.declared.ends.Outcome.{Outcome}
use Rattle.conn_core.specs.Tables.{Handed}

abbrev pub HasRows : Outcome → Type 0
HasRows outcome = AllByRecursion (λ values. values ≢ []) outcome.values

abbrev pub IsWordyPhase : Phase Outcome → Type 0
IsWordyPhase Queued = Unit {0}
IsWordyPhase Sent = Unit {0}
IsWordyPhase (Ended outcome) = HasRows outcome

pub record IsWordy (row : Row Handed Outcome) : Type 0 where
  pub frame : row.what.frame ≢ []
  pub phase : IsWordyPhase row.phase

abbrev pub AreWordy : List (Row Handed Outcome) → Type 0
AreWordy rows = AllByRecursion IsWordy rows

-- ---- rows come to other phases

pub phases_wordy : (phase : Row Handed Outcome → Phase Outcome) → ((row : Row Handed Outcome) → IsWordyPhase row.phase → IsWordyPhase (phase row)) → (rows : List (Row Handed Outcome)) → AreWordy rows → AreWordy (in_phases phase rows)
phases_wordy phase keeps [] h = tt
phases_wordy phase keeps (row ∷ rows) h =
    let here : IsWordy (in_phase phase row) = record { frame = h.0.frame; phase = keeps row h.0.phase } in
    (here, phases_wordy phase keeps rows h.1)

if_phase : (b : Bool) (one other : Phase Outcome) → IsWordyPhase one → IsWordyPhase other → IsWordyPhase (if b then one else other)
if_phase true one other h k = h
if_phase false one other h k = k

pub ended_wordy : (p : Row Handed Outcome → Bool) (outcome : Outcome) (rows : List (Row Handed Outcome)) → HasRows outcome → AreWordy rows → AreWordy (in_phases (ended_phase p outcome) rows)
ended_wordy p outcome rows some h = phases_wordy (ended_phase p outcome) (λ row k. if_phase (is_live_and p row) (Ended outcome) row.phase some k) rows h

pub sent_wordy : (id : ℕ) (rows : List (Row Handed Outcome)) → AreWordy rows → AreWordy (in_phases (sent_phase id) rows)
sent_wordy id rows h = phases_wordy (sent_phase id) (λ row k. if_phase (is_queued_and (has_id id) row) Sent row.phase tt k) rows h

-- ---- rows are found, and taken out

cond_wordy : (b : Bool) (row : Row Handed Outcome) (rows : List (Row Handed Outcome)) → IsWordy row → AreWordy rows → AreWordy (cond b (row ∷ rows) rows)
cond_wordy true row rows h k = (h, k)
cond_wordy false row rows h k = k

pub filter_wordy : (p : Row Handed Outcome → Bool) (rows : List (Row Handed Outcome)) → AreWordy rows → AreWordy (filter p rows)
filter_wordy p [] h = tt
filter_wordy p (row ∷ rows) h = cond_wordy (p row) row (filter p rows) h.0 (filter_wordy p rows h.1)

-- a row, if there is one
abbrev pub IsWordyIfAny : Option (Row Handed Outcome) → Type 0
IsWordyIfAny None = Unit {0}
IsWordyIfAny (Some row) = IsWordy row

cond_any : (b : Bool) (one other : Option (Row Handed Outcome)) → IsWordyIfAny one → IsWordyIfAny other → IsWordyIfAny (cond b one other)
cond_any true one other h k = h
cond_any false one other h k = k

pub find_wordy : (p : Row Handed Outcome → Bool) (rows : List (Row Handed Outcome)) → AreWordy rows → IsWordyIfAny (find p rows)
find_wordy p [] h = tt
find_wordy p (row ∷ rows) h = cond_any (p row) (Some row) (find p rows) h.0 (find_wordy p rows h.1)
