-- Over the raw wire each frame that is written has bytes, and each outcome that is collected has values in each of its rows.
use Rattle.std.proofs.Common.{◌≡◌, ◌≢◌, ℕ, ◌==◌, Bool, true, false, List, [], ◌∷◌, Option, Some, None, Result, Ok, Err, length, refl, ap, arith}
use Rattle.std.specs.Prelude.{IfOk, MatchOption, find, if◌then◌else◌, nat_lt, count_by, is_some}
use Rattle.std.specs.Option.{option_map}
use Rattle.lease_core.specs.LeaseTables.{due_numbers, state_of, waiters_limit}
use Rattle.txn_core.specs.RowSteps.{added_under, answer_of, awaiting, sent_from, sent_next, stays, taken_from}
use Rattle.txn_core.specs.RowTables.{Row, any_row, has_id, has_lease, is_due, is_full, is_quarantined, is_queued, is_row_of, is_sent, phase_of}
use Rattle.txn_core.specs.declared.phases.Phase.{Phase}
use Rattle.txn_core.specs.declared.phases.Phase.TheVariants.{Queued, Sent, Ended}
use Rattle.node_tree.specs.declared.readings.Reading.{Reading}
use Rattle.wire_frames.specs.RawFrames.{asked_payload, done_bytes, payload_fit, payload_of, raw_frame, raw_meaning}
use Rattle.wire_frames.specs.declared.ends.EndKind.{EndKind}
use Rattle.wire_frames.specs.declared.ends.EndKind.TheVariants as kinds
use Rattle.wire_frames.specs.declared.ends.FrameWhy.{FrameWhy}
use Rattle.wire_frames.specs.declared.ends.Outcome.{Outcome}
use Rattle.wire_frames.specs.declared.ends.Reason.{Reason}
use Rattle.wire_frames.specs.declared.ends.Reason.TheVariants as reasons
use Rattle.wire_frames.specs.declared.raw.RawWire.{RawWire}
use Rattle.conn_core.specs.Journals.{after_entries, after_step, table_of}
use Rattle.conn_core.specs.States.{State, table_in}
use Rattle.conn_core.specs.Steps as steps
use Rattle.conn_core.specs.Steps.{Request, Started, arrived, bare, cancel_as, close, closed_by, collect, collected_as, counted, draft_of, end_all, end_leases, ended_by, is_nothing, received, reference_to_try, sending_as, started, started_as, step, take_send, taken as taken_step, taken_some, tick, tick_count, ticked, when_open, with_frame, without_request}
use Rattle.conn_core.specs.Tables.{Connection, Handed, Requests, Table, at_moment, holds, opening}
use Rattle.conn_core.specs.declared.answers.SendRefusal.TheVariants as send_refusals
use Rattle.conn_core.specs.declared.answers.Ticked.{Ticked}
use Rattle.conn_core.specs.declared.entries.Answer.{Answer}
use Rattle.conn_core.specs.declared.entries.Entry.{Entry}
use Rattle.conn_core.specs.declared.entries.Event.{Event}
use Rattle.conn_core.specs.declared.entries.Event.TheVariants.{AskLease, Release, Submit, TakeSend, Frame, Cancel, Collect, Tick, Close, Shutdown}
use Rattle.conn_core.specs.declared.settings.Settings.{Settings}
use Rattle.answer_texts.proofs.WordLemmas.{all-append}
use Rattle.script_replay.specs.Replays.{raw}
use Rattle.script_replay.proofs.RowWords.{AreWordy, HasRows, IsWordy, IsWordyIfAny, IsWordyPhase, ended_wordy, filter_wordy, find_wordy, sent_wordy}

-- a table of such rows
abbrev pub IsWordyTable : Table → Type 0
IsWordyTable t = AreWordy t.requests.rows

-- such a table and an answer, unless there is a refusal
abbrev GivesWordy : {A E : Type 0} → Result (Table × A) E → Type 0
GivesWordy (Ok p) = IsWordyTable p.0
GivesWordy (Err refusal) = Unit {0}

open_gives : {A E : Type 0} (refusal : Reason → E) (closed : Option Reason) (next : Result (Table × A) E) → GivesWordy next → GivesWordy (when_open refusal closed next)
open_gives refusal None next h = h
open_gives refusal (Some reason) next h = tt

if_gives : {A E : Type 0} (b : Bool) (one other : Result (Table × A) E) → GivesWordy one → GivesWordy other → GivesWordy (if b then one else other)
if_gives true one other h k = h
if_gives false one other h k = k

-- ---- requests end

ends : (p : Row Handed Outcome → Bool) (kind : EndKind) (requests : Requests) → AreWordy requests.rows → AreWordy (end_all p kind requests).rows
ends p kind requests h = ended_wordy p (bare kind) requests.rows tt h

leases_end : (numbers : List ℕ) (requests : Requests) → AreWordy requests.rows → AreWordy (end_leases numbers requests).rows
leases_end [] requests h = h
leases_end (number ∷ numbers) requests h =
    leases_end numbers (end_all (has_lease number) kinds.LeaseGone requests) (ends (has_lease number) kinds.LeaseGone requests h)

-- ---- a request is handed in: a raw frame has its head

frame_some : (payload : List ℕ) (reference : ℕ) → raw_frame payload reference ≢ []
frame_some payload reference = λ empty. let none : length (raw_frame payload reference) ≡ 0 = ap length empty in omega arith

added_gives : (q : Request) (t : Table) (frame : List ℕ) (free : List ℕ) → frame ≢ [] → IsWordyTable t → GivesWordy (started_as t frame (added_under (draft_of q t.clock frame) t.requests free))
added_gives q t frame [] some h = tt
added_gives q t frame (reference ∷ rest) some h = all-append IsWordy t.requests.rows _ h (record { frame = some; phase = tt }, tt)

started_gives : (q : Request) (t : Table) (frame : List ℕ) (full : Bool) → frame ≢ [] → IsWordyTable t → is_full t.requests ≡ full → GivesWordy (started q frame t)
started_gives q t frame true some h is = rw is tt
started_gives q t frame false some h is = rw is (added_gives q t frame t.requests.free some h)

submit_gives : (q : Request) (t : Table) → IsWordyTable t → GivesWordy (steps.submit raw_meaning t q)
submit_gives q t h =
    let frame = raw_frame (asked_payload q.ask) (reference_to_try t) in
    open_gives _ t.closed _ (
    if_gives (holds q.actor q.lease t) _ _
    (if_gives (is_full t.requests) _ _ tt
    (if_gives (nat_lt raw_meaning.limit (raw_meaning.size q.ask)) _ _ tt (started_gives q (at_moment q.moment t) frame (is_full t.requests) (frame_some (asked_payload q.ask) (reference_to_try t)) h refl)))
    tt)

-- ---- a request is sent

-- the rows after it, and the row that was sent
abbrev IsWordySending : Option (Requests × Row Handed Outcome) → Type 0
IsWordySending None = Unit {0}
IsWordySending (Some p) = AreWordy p.0.rows × IsWordy p.1

sent_gives : (requests : Requests) (found : Option (Row Handed Outcome)) → AreWordy requests.rows → IsWordyIfAny found → IsWordySending (sent_from requests found)
sent_gives requests None h k = tt
sent_gives requests (Some row) h k = (sent_wordy row.id requests.rows h, k)

if_sending : (b : Bool) (one other : Option (Requests × Row Handed Outcome)) → IsWordySending one → IsWordySending other → IsWordySending (if b then one else other)
if_sending true one other h k = h
if_sending false one other h k = k

next_gives : (requests : Requests) → AreWordy requests.rows → IsWordySending (sent_next requests)
next_gives requests h =
    if_sending (nat_lt (count_by is_sent requests.rows) requests.window) _ _ (sent_gives requests (find is_queued requests.rows) h (find_wordy is_queued requests.rows h)) tt

sending_gives : (t : Table) (o : Option (Requests × Row Handed Outcome)) → IsWordySending o → GivesWordy (sending_as t o)
sending_gives t None h = tt
sending_gives t (Some p) h = h.0

-- ---- a frame comes: what a raw payload is read as has no row without values

payload_rows : (payload : List ℕ) → HasRows (payload_fit payload)
payload_rows [] = tt
payload_rows (b ∷ []) = (λ e. cc, tt)
payload_rows (b ∷ c ∷ []) =
    elim (b == 255) as (λ v. HasRows (if v then record { kind = kinds.Remote c; values = [] } else done_bytes (b ∷ c ∷ []))) [ true ↦ tt | false ↦ (λ e. cc, tt) ]
payload_rows (b ∷ c ∷ d ∷ rest) = (λ e. cc, tt)

stray_or_late : (b : Bool) (reference : ℕ) (t : Table) → IsWordyTable t → is_quarantined reference t.requests ≡ b → IsWordyTable (without_request reference t).0
stray_or_late true reference t h is = rw is h
stray_or_late false reference t h is = rw is h

arrived_wordy : (reference : ℕ) (reading : Reading) (t : Table) (found : Option (Row Handed Outcome)) → IsWordyTable t → IsWordyTable (arrived raw_meaning reference reading t found).0
arrived_wordy reference reading t None h = stray_or_late (is_quarantined reference t.requests) reference t h refl
arrived_wordy reference reading t (Some row) h =
    ended_wordy (has_id row.id) (payload_fit (payload_of reading.node)) t.requests.rows (payload_rows (payload_of reading.node)) h

received_wordy : (t : Table) (bytes : List ℕ) (reading : Result Reading FrameWhy) → IsWordyTable t → IsWordyTable (received raw_meaning t bytes reading).0
received_wordy t bytes (Err why) h = ends any_row _ t.requests h
received_wordy t bytes (Ok reading) h =
    let reference = raw_meaning.reference_of bytes in arrived_wordy reference reading (counted t) (awaiting reference t.requests) h

-- ---- cancellations, collections and ticks

cancel_gives : (id : ℕ) (t : Table) (phase : Option (Phase Outcome)) → IsWordyTable t → GivesWordy (cancel_as id t phase)
cancel_gives id t None h = tt
cancel_gives id t (Some Queued) h = ends (has_id id) kinds.Cancelled t.requests h
cancel_gives id t (Some Sent) h = ends (has_id id) kinds.Cancelled t.requests h
cancel_gives id t (Some (Ended outcome)) h = tt

collect_gives : (actor id : ℕ) (t : Table) (phase : Option (Phase Outcome)) → IsWordyTable t → GivesWordy (collected_as t (taken_from actor id t.requests phase))
collect_gives actor id t None h = tt
collect_gives actor id t (Some Queued) h = tt
collect_gives actor id t (Some Sent) h = tt
collect_gives actor id t (Some (Ended outcome)) h = filter_wordy (stays actor id) t.requests.rows h

ticked_wordy : (now : ℕ) (t : Table) → IsWordyTable t → IsWordyTable (ticked now t)
ticked_wordy now t h =
    leases_end (due_numbers now t.leases.held) (end_all (is_due now) kinds.Expired t.requests) (ends (is_due now) kinds.Expired t.requests h)

-- ---- all events

taken_wordy : {A E : Type 0} (t : Table) (f : A → Answer) (r : Result (Table × A) E) → IsWordyTable t → GivesWordy r → IsWordyTable (after_step t (taken_step f r))
taken_wordy t f (Ok p) h k = k
taken_wordy t f (Err refusal) h k = h

tick_wordy : (f : Ticked → Answer) (nothing : Bool) (t : Table) (now : ℕ) → IsWordyTable t → is_nothing (tick_count now t) ≡ nothing → IsWordyTable (after_step t (taken_some f (tick t now)))
tick_wordy f true t now h is = rw is h
tick_wordy f false t now h is = rw is (ticked_wordy now (at_moment now t) h)

-- a connection of the raw wire
abbrev over_raw : Settings → Connection
over_raw s = record { wire = raw_meaning; settings = s }

step_wordy : (s : Settings) (t : Table) (actor : ℕ) (event : Event) → IsWordyTable t → IsWordyTable (after_step t (step (over_raw s) t actor event))
step_wordy s t actor (AskLease now) h =
    taken_wordy t _ (steps.ask_lease t actor now) h
    (open_gives _ t.closed _ (if_gives (nat_lt (length t.leases.waiting) waiters_limit) _ _ h tt))
step_wordy s t actor (Release lease now) h =
    taken_wordy t _ (steps.release t actor lease now) h
    (open_gives _ t.closed _ (if_gives (is_some (state_of t.leases actor lease)) _ _ (ends (has_lease lease) kinds.LeaseGone t.requests h) tt))
step_wordy s t actor (Submit lease ask timeout now) h =
    let request : Request = record { actor = actor; lease = lease; ask = ask; timeout = timeout; moment = now } in
    taken_wordy t _ (steps.submit raw_meaning t request) h (submit_gives request t h)
step_wordy s t actor TakeSend h =
    taken_wordy t _ (take_send t) h (open_gives _ t.closed _ (sending_gives t (sent_next t.requests) (next_gives t.requests h)))
step_wordy s t actor (Frame bytes) h =
    taken_wordy t _ (steps.apply_frame raw_meaning t bytes) h
    (open_gives _ t.closed _ (received_wordy t bytes (raw_meaning.reading_of bytes) h))
step_wordy s t actor (Cancel id) h =
    taken_wordy t _ (steps.cancel t actor id) h (cancel_gives id t (phase_of actor id t.requests) h)
step_wordy s t actor (Collect id) h =
    taken_wordy t _ (collect t actor id) h (collect_gives actor id t (phase_of actor id t.requests) h)
step_wordy s t actor (Tick now) h = tick_wordy _ (is_nothing (tick_count now t)) t now h refl
step_wordy s t actor (Close reason) h =
    taken_wordy t _ (close t reason) h (open_gives _ t.closed _ (ends any_row (kinds.Lost reason) t.requests h))
step_wordy s t actor Shutdown h =
    taken_wordy t _ (close t reasons.Asked) h (open_gives _ t.closed _ (ends any_row (kinds.Lost reasons.Asked) t.requests h))

entries_wordy : (s : Settings) (t : Table) (entries : List Entry) → IsWordyTable t → IsWordyTable (after_entries (over_raw s) t entries)
entries_wordy s t [] h = h
entries_wordy s t (e ∷ es) h = entries_wordy s (after_step t (step (over_raw s) t e.actor e.event)) es (step_wordy s t e.actor e.event h)

state_wordy : (st : State RawWire) → IsWordyTable (table_in raw st)
unfolding table_of
state_wordy st = entries_wordy st.key.settings (opening st.key.settings) st.journal tt

-- ---- what is handed out

sending_some : (t : Table) (closed : Option Reason) (o : Option (Requests × Row Handed Outcome)) → IsWordySending o → IfOk (answer_of (when_open send_refusals.Closed closed (sending_as t o))) (λ sending. sending.frame ≢ [])
sending_some t (Some reason) o h = tt
sending_some t None None h = tt
sending_some t None (Some p) h = h.1.frame

pub sent_some : (st : State RawWire) → IfOk (answer_of (take_send (table_in raw st))) (λ sending. sending.frame ≢ [])
sent_some st =
    let t = table_in raw st in
    sending_some t t.closed (sent_next t.requests) (next_gives t.requests (state_wordy st))

phase_wordy : (found : Option (Row Handed Outcome)) → IsWordyIfAny found → MatchOption (option_map (λ row. row.phase) found) (Unit {0}) IsWordyPhase
phase_wordy None h = tt
phase_wordy (Some row) h = h.phase

outcome_some : (actor id : ℕ) (t : Table) (phase : Option (Phase Outcome)) → MatchOption phase (Unit {0}) IsWordyPhase → IfOk (answer_of (collected_as t (taken_from actor id t.requests phase))) HasRows
outcome_some actor id t None h = tt
outcome_some actor id t (Some Queued) h = tt
outcome_some actor id t (Some Sent) h = tt
outcome_some actor id t (Some (Ended outcome)) h = h

pub collected_some : (st : State RawWire) (actor id : ℕ) → IfOk (answer_of (collect (table_in raw st) actor id)) HasRows
collected_some st actor id =
    let t = table_in raw st in
    outcome_some actor id t (phase_of actor id t.requests) (phase_wordy (find (is_row_of actor id) t.requests.rows) (find_wordy (is_row_of actor id) t.requests.rows (state_wordy st)))
