-- What each event does to a table, or why it is refused. The tests stand in the order in which they are made.
use Rattle.std.specs.Prelude.{ℕ, ◌+◌, ◌-◌, Bool, ◌&&◌, ◌==◌, nat_lt, is_some, if◌then◌else◌, List, [], ◌∷◌, length, unwrap_or, Option, Some, None, Result, Ok, Err}
use Rattle.lease_core.specs.LeaseSteps.{asked, asked_answer, cleared, dropped, due_dropped, granted_all}
use Rattle.lease_core.specs.LeaseTables.{deadline_of, due_numbers, state_of, waiters_limit}
use Rattle.lease_core.specs.declared.answers.LeaseAnswer.{LeaseAnswer}
use Rattle.lease_core.specs.declared.answers.LeaseAnswer.TheVariants as lease_answers
use Rattle.txn_core.specs.RowSteps.{Draft, added, awaiting, ended_all, replied, sent_next, settled}
use Rattle.txn_core.specs.RowSteps as rows
use Rattle.txn_core.specs.RowTables.{Row, any_row, count_where, has_id, has_lease, is_due, is_full, is_quarantined, next_reference, phase_of}
use Rattle.txn_core.specs.declared.phases.AddRefusal.{AddRefusal}
use Rattle.txn_core.specs.declared.phases.AddRefusal.TheVariants as add_refusals
use Rattle.txn_core.specs.declared.phases.Phase.{Phase}
use Rattle.txn_core.specs.declared.phases.Phase.TheVariants.{Queued, Sent, Ended}
use Rattle.txn_core.specs.declared.phases.TakeRefusal.{TakeRefusal}
use Rattle.node_tree.specs.declared.readings.Reading.{Reading}
use Rattle.wire_frames.specs.WireMeaning.{WireMeaning, Refused}
use Rattle.wire_frames.specs.declared.asks.Ask.{Ask}
use Rattle.wire_frames.specs.declared.ends.EndKind.{EndKind}
use Rattle.wire_frames.specs.declared.ends.EndKind.TheVariants as kinds
use Rattle.wire_frames.specs.declared.ends.FrameWhy.{FrameWhy}
use Rattle.wire_frames.specs.declared.ends.Outcome.{Outcome}
use Rattle.wire_frames.specs.declared.ends.Reason.{Reason}
use Rattle.wire_frames.specs.declared.ends.Reason.TheVariants as reasons
use Rattle.conn_core.specs.Tables.{Connection, Handed, Requests, Table, at_moment, holds}
use Rattle.conn_core.specs.declared.answers.Accepted.{Accepted}
use Rattle.conn_core.specs.declared.answers.AskRefusal.{AskRefusal}
use Rattle.conn_core.specs.declared.answers.AskRefusal.TheVariants as ask_refusals
use Rattle.conn_core.specs.declared.answers.CancelRefusal.{CancelRefusal}
use Rattle.conn_core.specs.declared.answers.CancelRefusal.TheVariants as cancel_refusals
use Rattle.conn_core.specs.declared.answers.FrameAnswer.{FrameAnswer}
use Rattle.conn_core.specs.declared.answers.FrameAnswer.TheVariants as frame_answers
use Rattle.conn_core.specs.declared.answers.FrameRefusal.{FrameRefusal}
use Rattle.conn_core.specs.declared.answers.FrameRefusal.TheVariants as frame_refusals
use Rattle.conn_core.specs.declared.answers.LeaseRefusal.{LeaseRefusal}
use Rattle.conn_core.specs.declared.answers.LeaseRefusal.TheVariants as lease_refusals
use Rattle.conn_core.specs.declared.answers.SendRefusal.{SendRefusal}
use Rattle.conn_core.specs.declared.answers.SendRefusal.TheVariants as send_refusals
use Rattle.conn_core.specs.declared.answers.Sending.{Sending}
use Rattle.conn_core.specs.declared.answers.SubmitRefusal.{SubmitRefusal}
use Rattle.conn_core.specs.declared.answers.SubmitRefusal.TheVariants as submit_refusals
use Rattle.conn_core.specs.declared.answers.Ticked.{Ticked}
use Rattle.conn_core.specs.declared.entries.Answer.{Answer}
use Rattle.conn_core.specs.declared.entries.Answer.TheVariants as answers
use Rattle.conn_core.specs.declared.entries.Event.{Event}
use Rattle.conn_core.specs.declared.entries.Event.TheVariants.{AskLease, Release, Submit, TakeSend, Frame, Cancel, Collect, Tick, Close, Shutdown}

-- ---- parts of steps

-- first of all, a closed table answers why it was closed
abbrev pub when_open : {A E : Type 0} → (Reason → E) → Option Reason → Result A E → Result A E
when_open refusal None next = next
when_open refusal (Some reason) next = Err (refusal reason)

-- an outcome that no reply brings
abbrev pub bare : EndKind → Outcome
bare kind = record { kind = kind; values = [] }

-- the live requests that pass end without a reply, in this way
abbrev pub end_all : (Row Handed Outcome → Bool) → EndKind → Requests → Requests
end_all p kind requests = ended_all p (bare kind) requests

-- a lease goes, and with it its live requests; waiters are granted while there is room
abbrev pub released : ℕ → Table → Table
released number t = record t {
  requests = end_all (has_lease number) kinds.LeaseGone t.requests;
  leases = granted_all (dropped t.leases number) t.clock;
}

-- the table is closed: every live request is lost with the reason, leases and waiters are dropped
abbrev pub closed_by : Reason → Table → Table
closed_by reason t = record t {
  requests = end_all any_row (kinds.Lost reason) t.requests;
  leases = cleared t.leases;
  closed = Some reason;
}

-- ---- AskLease: at most so many wait

abbrev pub with_lease : ℕ → Table → Table
with_lease actor t = record t { leases = asked t.leases actor t.clock }

abbrev pub ask_lease : Table → (actor now : ℕ) → Result (Table × LeaseAnswer) AskRefusal
ask_lease t actor now =
    when_open ask_refusals.Closed t.closed (
    if nat_lt (length t.leases.waiting) waiters_limit
    then Ok (with_lease actor (at_moment now t), asked_answer t.leases)
    else Err ask_refusals.QueueFull)

-- ---- Release: of a lease that the actor holds or waits for

abbrev pub release : Table → (actor number now : ℕ) → Result (Table × Unit {0}) LeaseRefusal
release t actor number now =
    when_open lease_refusals.Closed t.closed (
    if is_some (state_of t.leases actor number)
    then Ok (released number (at_moment now t), tt)
    else Err lease_refusals.NoLease)

-- ---- Submit: what a caller hands in

pub record Request : Type 0 where
  pub actor : ℕ
  pub lease : ℕ
  pub ask : Ask
  pub timeout : ℕ
  pub moment : ℕ

-- the request that was accepted, with the frame that carries it
pub record Started : Type 0 where
  pub id : ℕ
  pub reference : ℕ
  pub frame : List ℕ

abbrev pub draft_of : Request → (clock : ℕ) → List ℕ → Draft Handed
draft_of q clock frame = record {
  owner = q.actor;
  lease = q.lease;
  deadline = deadline_of clock q.timeout;
  what = record { ask = q.ask; frame = frame };
}

abbrev pub add_refusal : AddRefusal → SubmitRefusal
add_refusal add_refusals.Full = submit_refusals.TableFull
add_refusal add_refusals.NoReference = submit_refusals.NoReference
add_refusal add_refusals.NoMemory = submit_refusals.NoMemory

abbrev pub started_as : Table → List ℕ → Result (Requests × (ℕ × ℕ)) AddRefusal → Result (Table × Started) SubmitRefusal
started_as t frame (Ok p) = Ok (record t { requests = p.0 }, record { id = p.1.0; reference = p.1.1; frame = frame })
started_as t frame (Err refusal) = Err (add_refusal refusal)

-- a row is queued, where there is a free reference for it
abbrev pub started : Request → List ℕ → Table → Result (Table × Started) SubmitRefusal
started q frame t = started_as t frame (added (draft_of q t.clock frame) t.requests)

-- the frame that carries the ask, where it can be written and the ask's size is within the limit; only then is the reference drawn
abbrev pub with_frame : WireMeaning → Table → Request → Result (List ℕ) Refused → Result (Table × Started) SubmitRefusal
with_frame wire t q (Err refused) = Err (submit_refusals.Unwritable refused.entry refused.why)
with_frame wire t q (Ok frame) =
    if nat_lt wire.limit (wire.size q.ask)
    then Err (submit_refusals.TooLarge (wire.size q.ask) wire.limit)
    else started q frame (at_moment q.moment t)

-- the reference that a request would go out under, 1 where none is free
abbrev pub reference_to_try : Table → ℕ
reference_to_try t = unwrap_or (next_reference t.requests) 1

abbrev pub submit : WireMeaning → Table → Request → Result (Table × Started) SubmitRefusal
submit wire t q =
    when_open submit_refusals.Closed t.closed (
    if holds q.actor q.lease t
    then (if is_full t.requests then Err submit_refusals.TableFull else with_frame wire t q (wire.frame_of q.ask (reference_to_try t)))
    else Err submit_refusals.NoLease)

-- ---- TakeSend: the queued request with the least id is sent, unless the window is full

abbrev pub sending_as : Table → Option (Requests × Row Handed Outcome) → Result (Table × Sending) SendRefusal
sending_as t None = Err send_refusals.Nothing
sending_as t (Some p) =
    Ok (record t { requests = p.0 }, record { id = p.1.id; reference = p.1.reference; frame = p.1.what.frame })

abbrev pub take_send : Table → Result (Table × Sending) SendRefusal
take_send t = when_open send_refusals.Closed t.closed (sending_as t (sent_next t.requests))

-- ---- Frame: the request that was sent under its reference and hasn't ended ends by the fit; else a quarantined reference is free
-- again, and the frame is late; else it is stray

abbrev pub without_request : ℕ → Table → Table × FrameAnswer
without_request reference t =
    if is_quarantined reference t.requests
    then (record t { requests = settled reference t.requests }, frame_answers.Late reference)
    else (t, frame_answers.Stray reference)

abbrev pub ended_by : (id : ℕ) → Outcome → Table → Table × FrameAnswer
ended_by id outcome t = (record t { requests = replied id outcome t.requests }, frame_answers.Ended id outcome.kind)

abbrev pub arrived : WireMeaning → (reference : ℕ) → Reading → Table → Option (Row Handed Outcome) → Table × FrameAnswer
arrived wire reference reading t None = without_request reference t
arrived wire reference reading t (Some row) = ended_by row.id (wire.fit row.what.ask reading) t

-- each frame has a number, from 0
abbrev pub counted : Table → Table
counted t = record t { frames = t.frames + 1 }

-- a frame that can't be read closes the table
abbrev pub received : WireMeaning → Table → List ℕ → Result Reading FrameWhy → Table × FrameAnswer
received wire t bytes (Err why) =
    (closed_by (reasons.Undecodable t.frames why) (counted t), frame_answers.Undecodable t.frames why)
received wire t bytes (Ok reading) =
    let reference = wire.reference_of bytes in
    arrived wire reference reading (counted t) (awaiting reference t.requests)

abbrev pub apply_frame : WireMeaning → Table → List ℕ → Result (Table × FrameAnswer) FrameRefusal
apply_frame wire t bytes = when_open frame_refusals.Closed t.closed (Ok (received wire t bytes (wire.reading_of bytes)))

-- ---- Cancel: the actor's live request ends

abbrev pub cancelled : (id : ℕ) → Table → Table
cancelled id t = record t { requests = end_all (has_id id) kinds.Cancelled t.requests }

abbrev pub cancel_as : (id : ℕ) → Table → Option (Phase Outcome) → Result (Table × Unit {0}) CancelRefusal
cancel_as id t None = Err cancel_refusals.NoRequest
cancel_as id t (Some Queued) = Ok (cancelled id t, tt)
cancel_as id t (Some Sent) = Ok (cancelled id t, tt)
cancel_as id t (Some (Ended outcome)) = Err (cancel_refusals.AlreadyEnded outcome.kind)

abbrev pub cancel : Table → (actor id : ℕ) → Result (Table × Unit {0}) CancelRefusal
cancel t actor id = cancel_as id t (phase_of actor id t.requests)

-- ---- Collect: the actor's ended request is removed and its outcome handed out

abbrev pub collected_as : Table → Result (Requests × Outcome) TakeRefusal → Result (Table × Outcome) TakeRefusal
collected_as t (Ok p) = Ok (record t { requests = p.0 }, p.1)
collected_as t (Err refusal) = Err refusal

abbrev pub collect : Table → (actor id : ℕ) → Result (Table × Outcome) TakeRefusal
collect t actor id = collected_as t (rows.taken actor id t.requests)

-- ---- Tick: what is due at the moment goes, whatever the clock says

-- the live requests of leases, lease after lease
abbrev pub end_leases : List ℕ → Requests → Requests
end_leases [] requests = requests
end_leases (number ∷ numbers) requests = end_leases numbers (end_all (has_lease number) kinds.LeaseGone requests)

-- Requests that are due end first, and then those of each due lease; due leases and waiters go; then waiters are granted while
-- there is room.
abbrev pub ticked : (now : ℕ) → Table → Table
ticked now t = record t {
  requests = end_leases (due_numbers now t.leases.held) (end_all (is_due now) kinds.Expired t.requests);
  leases = granted_all (due_dropped t.leases now) t.clock;
}

abbrev pub live_count : Table → ℕ
live_count t = count_where any_row t.requests

-- how many requests ended, and how many leases and waiters were due
abbrev pub tick_count : (now : ℕ) → Table → Ticked
tick_count now t = record {
  rows = live_count t - live_count (ticked now t);
  leases = length (due_numbers now t.leases.held);
  waiters = length (due_numbers now t.leases.waiting);
}

abbrev pub is_nothing : Ticked → Bool
is_nothing count = (count.rows == 0) && ((count.leases == 0) && (count.waiters == 0))

-- where nothing is due it is no event
abbrev pub tick : Table → (now : ℕ) → Option (Table × Ticked)
tick t now =
    let count = tick_count now t in
    if is_nothing count then None else Some (ticked now (at_moment now t), count)

-- ---- Close and Shutdown

abbrev pub close : Table → Reason → Result (Table × Unit {0}) Reason
close t reason = when_open (λ stands. stands) t.closed (Ok (closed_by reason t, tt))

-- ---- all events

-- what a caller is told of a request that was accepted
abbrev pub accepted_of : {E : Type 0} → Result Started E → Result Accepted E
accepted_of (Ok s) = Ok (record { id = s.id; reference = s.reference })
accepted_of (Err refusal) = Err refusal

-- how an entry writes the answers
abbrev pub asked_entry : LeaseAnswer → Answer
asked_entry (lease_answers.Granted lease) = answers.Granted lease
asked_entry (lease_answers.Waiting lease place) = answers.Waiting lease place

abbrev pub frame_entry : FrameAnswer → Answer
frame_entry (frame_answers.Ended id kind) = answers.Ended id kind
frame_entry (frame_answers.Late reference) = answers.Late reference
frame_entry (frame_answers.Stray reference) = answers.Stray reference
frame_entry (frame_answers.Undecodable index why) = answers.Undecodable index why

-- an event that isn't refused gives a table and an answer
abbrev pub taken : {A E : Type 0} → (A → Answer) → Result (Table × A) E → Option (Table × Answer)
taken f (Ok p) = Some (p.0, f p.1)
taken f (Err refusal) = None

abbrev pub taken_some : {A : Type 0} → (A → Answer) → Option (Table × A) → Option (Table × Answer)
taken_some f (Some p) = Some (p.0, f p.1)
taken_some f None = None

-- The step of the table: what an event by an actor gives, or None where it is refused.
abbrev pub step : Connection → Table → (actor : ℕ) → Event → Option (Table × Answer)
step c t actor (AskLease now) = taken asked_entry (ask_lease t actor now)
step c t actor (Release lease now) = taken (λ _. answers.Released) (release t actor lease now)
step c t actor (Submit lease ask timeout now) =
    taken (λ s. answers.Accepted s.id s.reference s.frame)
    (submit c.wire t (record { actor = actor; lease = lease; ask = ask; timeout = timeout; moment = now }))
step c t actor TakeSend = taken (λ sending. answers.Sent sending.id) (take_send t)
step c t actor (Frame bytes) = taken frame_entry (apply_frame c.wire t bytes)
step c t actor (Cancel id) = taken (λ _. answers.Cancelled) (cancel t actor id)
step c t actor (Collect id) = taken (λ outcome. answers.Collected outcome.kind) (collect t actor id)
step c t actor (Tick now) = taken_some (λ count. answers.Ticked count.rows count.leases count.waiters) (tick t now)
step c t actor (Close reason) = taken (λ _. answers.Closed) (close t reason)
step c t actor Shutdown = taken (λ _. answers.Closed) (close t reasons.Asked)
