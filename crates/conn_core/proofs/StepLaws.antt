-- What holds of the table after any legal journal, by its entries one after another.
use Rattle.std.proofs.Common.{◌≡◌, ◌⊎◌, inl, inr, ℕ, zero, suc, ◌+◌, ◌<◌, ◌≤◌, Bool, true, false, List, [], ◌∷◌, ◌++◌, length, take, refl, sym, ap, subst, ◌∙◌, arith, Option, Some, None, Ok, Err, append_assoc, length-append}
use Rattle.std.specs.Prelude.{Result, ◌==◌, ◌&&◌, max, count_by, if◌then◌else◌, is_some, is_none, nat_lt}
use Rattle.std.specs.List.{find, slice_get}
use Rattle.std.proofs.lemmas.Bool.Decides.{nat_tests}
use Rattle.lease_core.specs.LeaseSteps.{asked_answer, cleared, dropped, due_dropped, is_held_at_once}
use Rattle.lease_core.specs.LeaseTables.{LeaseTable, due_numbers, no_leases, state_of, waiters_limit}
use Rattle.lease_core.specs.declared.answers.LeaseAnswer.{LeaseAnswer}
use Rattle.txn_core.specs.PlainRows.{sent_id}
use Rattle.txn_core.specs.RowLaws.{count_append, count_cons, one}
use Rattle.txn_core.specs.RowSteps.{added_under, awaiting, replied, sent, sent_from, sent_next, settled, taken_from, with_row, without}
use Rattle.txn_core.specs.RowTables.{Row, any_row, has_id, has_lease, is_due, is_full, is_quarantined, is_queued, is_sent, phase_of}
use Rattle.txn_core.specs.declared.phases.AddRefusal.TheVariants as add_refusals
use Rattle.txn_core.specs.declared.phases.Phase.{Phase}
use Rattle.txn_core.specs.declared.phases.Phase.TheVariants.{Queued, Sent, Ended}
use Rattle.node_tree.specs.declared.readings.Reading.{Reading}
use Rattle.wire_frames.specs.WireMeaning.{Refused, WireMeaning}
use Rattle.wire_frames.specs.declared.asks.Ask.{Ask}
use Rattle.wire_frames.specs.declared.ends.EndKind.TheVariants as kinds
use Rattle.wire_frames.specs.declared.ends.FrameWhy.{FrameWhy}
use Rattle.wire_frames.specs.declared.ends.Outcome.{Outcome}
use Rattle.wire_frames.specs.declared.ends.Reason.{Reason}
use Rattle.wire_frames.specs.declared.ends.Reason.TheVariants as reasons
use Rattle.conn_core.specs.Entries.{asks_in, clock_by, clock_from, clock_of, closing_reason, event_reason, frame_reason, frames_in, is_ask, is_frame, is_submit, requests_in}
use Rattle.conn_core.specs.EntryLaw.{AreSteps}
use Rattle.conn_core.specs.Journals.{Legal, is_worn, table_of, turn_if, turn_of, wears, worn_entry}
use Rattle.conn_core.specs.Journals as journals
use Rattle.conn_core.specs.KeptStates.{ClosesAs, IsState}
use Rattle.conn_core.specs.LeasePlaces.{leases_after, leases_by, leases_from, leases_of}
use Rattle.conn_core.specs.TableLaw.{TableLaw}
use Rattle.conn_core.specs.Steps.{Request, Started, apply_frame, arrived, ask_lease, asked_entry, bare, cancel, cancel_as, cancelled, close, closed_by, collect, collected_as, counted, draft_of, end_all, end_leases, frame_entry, received, reference_to_try, release, released, sending_as, started, started_as, step, submit, take_send, taken, taken_some, tick, tick_count, ticked, when_open, with_frame, with_lease, is_nothing}
use Rattle.conn_core.specs.Tables.{Connection, Handed, Requests, Table, at_moment, holds}
use Rattle.conn_core.specs.declared.answers.AskRefusal.TheVariants as asks
use Rattle.conn_core.specs.declared.answers.FrameAnswer.{FrameAnswer}
use Rattle.conn_core.specs.declared.answers.FrameRefusal.TheVariants as frames
use Rattle.conn_core.specs.declared.answers.LeaseRefusal.TheVariants as lease_refusals
use Rattle.conn_core.specs.declared.answers.SendRefusal.TheVariants as sends
use Rattle.conn_core.specs.declared.answers.Sending.{Sending}
use Rattle.conn_core.specs.declared.answers.SubmitRefusal.TheVariants as submits
use Rattle.conn_core.specs.declared.answers.Ticked.{Ticked}
use Rattle.conn_core.specs.declared.entries.Answer.{Answer}
use Rattle.conn_core.specs.declared.entries.Answer.TheVariants as answers
use Rattle.conn_core.specs.declared.entries.Entry.{Entry}
use Rattle.conn_core.specs.declared.entries.Event.{Event}
use Rattle.conn_core.specs.declared.entries.Event.TheVariants as events
use Rattle.conn_core.specs.declared.kept.Kept.{Kept}
use Rattle.conn_core.proofs.FrameLemmas.{settled_if}
use Rattle.conn_core.proofs.MoveDoes.{closes_same}
use Rattle.conn_core.proofs.StepFacts.{IsHeld, IsWithin, Keeps, added_within, asked_drawn_if, asked_held, dropped_held, due_held_few, ended_keeps, granted_held, keeps_self, keeps_then, leases_keep, replied_keeps, sent_within, settled_keeps, without_keeps}
use Rattle.conn_core.proofs.TurnLemmas.{closes_open, table_more}

-- ---- an event that isn't refused

-- what an event leaves of the table, and what it adds
pub record Follows (t : Table) (e : Entry) (u : Table) : Type 0 where
  pub clock : u.clock ≡ clock_by t.clock e.event
  pub leases : u.leases ≡ leases_after u.clock t.leases e
  pub frames : u.frames ≡ t.frames + one (is_frame e.event)
  pub requests : u.requests.drawn ≡ t.requests.drawn + one (is_submit e.event)
  pub asks : u.leases.drawn ≡ t.leases.drawn + one (is_ask e.event)
  pub closed : ((t.closed ≡ None) × (u.closed ≡ closing_reason e)) ⊎ ((u.closed ≡ t.closed) × (closing_reason e ≡ None))
  pub window : u.requests.window ≡ t.requests.window
  pub references : u.requests.references ≡ t.requests.references
  pub share : u.leases.share ≡ t.leases.share
  pub within : IsWithin t.requests → IsWithin u.requests
  pub held : IsHeld t.leases → IsHeld u.leases

-- a step that was taken, by its answer
pub record Took {A R : Type 0} (f : A → Answer) (w : Result (Table × A) R) (u : Table) (answer : Answer) : Type 0 where
  pub given : A
  pub is : w ≡ Ok (u, given)
  pub told : f given ≡ answer

pub pair_parts : {A B : Type 0} (p q : A × B) → p ≡ q → (p.0 ≡ q.0) × (p.1 ≡ q.1)
pair_parts {A} {B} p q e = (ap (λ (x : A × B). x.0) e, ap (λ (x : A × B). x.1) e)

pub took : {A R : Type 0} (f : A → Answer) (w : Result (Table × A) R) (u : Table) (answer : Answer) → taken f w ≡ Some (u, answer) → Took f w u answer
took f (Err r) u answer e = cc
took {A} {R} f (Ok p) u answer e =
    let one_pair : Table × Answer = (p.0, f p.1) in
    let two_pair : Table × Answer = (u, answer) in
    let same : one_pair ≡ two_pair = cc in
    let both = pair_parts one_pair two_pair same in
    record { given = p.1; is = ap (λ (x : Table). let r : Result (Table × A) R = Ok (x, p.1) in r) both.0; told = both.1 }

ok_table : {A R : Type 0} (p q : Table × A) (r s : Result (Table × A) R) → r ≡ Ok p → s ≡ Ok q → r ≡ s → p.0 ≡ q.0
ok_table {A} p q r s e f g = let same : p ≡ q = cc in ap (λ (x : Table × A). x.0) same

-- the table of a step that isn't refused
pub open_took : {A R : Type 0} (refusal : Reason → R) (closed : Option Reason) (next : Result (Table × A) R) (p : Table × A) → when_open refusal closed next ≡ Ok p → (closed ≡ None) × (next ≡ Ok p)
open_took refusal None next p e = (refl, e)
open_took refusal (Some reason) next p e = cc

pub if_took : {A R : Type 0} (b : Bool) (next : Table × A) (r : R) (p : Table × A) → (if b then Ok next else Err r) ≡ Ok p → (b ≡ true) × (next.0 ≡ p.0)
if_took {A} {R} true next r p e = let o : Result (Table × A) R = Ok next in let q : Result (Table × A) R = Ok p in (refl, ok_table next p o q refl refl e)
if_took false next r p e = cc

same_table : (t : Table) (e : Entry) (u v : Table) → u ≡ v → Follows t e u → Follows t e v
same_table t e u v is h = let P : Table → Type 0 = Follows t e in subst P is h

-- ---- AskLease

asked_follows : (t : Table) (actor now : ℕ) (answer : Answer) → length t.leases.waiting < waiters_limit → Follows t (record { actor = actor; event = events.AskLease now; answer = answer }) (with_lease actor (at_moment now t))
asked_follows t actor now answer few =
    let drawn = asked_drawn_if t.leases actor (max t.clock now) (is_held_at_once t.leases) refl in
    record {
      clock = refl;
      leases = refl;
      frames = omega arith;
      requests = omega arith;
      asks = drawn.0;
      closed = inr (refl, refl);
      window = refl;
      references = refl;
      share = drawn.1;
      within = λ w. w;
      held = asked_held t.leases actor (max t.clock now) few;
    }

ask_follows : (c : Connection) (t u : Table) (actor now : ℕ) (answer : Answer) → step c t actor (events.AskLease now) ≡ Some (u, answer) → Follows t (record { actor = actor; event = events.AskLease now; answer = answer }) u
ask_follows c t u actor now answer e =
    let took_it = took asked_entry (ask_lease t actor now) u answer e in
    let next : Table × LeaseAnswer = (with_lease actor (at_moment now t), asked_answer t.leases) in
    let opened = open_took asks.Closed t.closed _ (u, took_it.given) took_it.is in
    let both = if_took (nat_lt (length t.leases.waiting) waiters_limit) next asks.QueueFull (u, took_it.given) opened.1 in
    let test = both.0 in
    let few : length t.leases.waiting < waiters_limit = grind (arith, nat_tests) in
    same_table t _ (with_lease actor (at_moment now t)) u both.1 (asked_follows t actor now answer few)

-- ---- Release

released_follows : (t : Table) (actor number now : ℕ) (answer : Answer) → Follows t (record { actor = actor; event = events.Release number now; answer = answer }) (released number (at_moment now t))
released_follows t actor number now answer =
    let ends = ended_keeps (has_lease number) (bare kinds.LeaseGone) t.requests in
    record {
      clock = refl;
      leases = refl;
      frames = omega arith;
      requests = omega arith;
      asks = omega arith;
      closed = inr (refl, refl);
      window = refl;
      references = refl;
      share = refl;
      within = ends.within;
      held = λ h. granted_held (dropped t.leases number) (max t.clock now) (dropped_held t.leases number h);
    }

release_follows : (c : Connection) (t u : Table) (actor number now : ℕ) (answer : Answer) → step c t actor (events.Release number now) ≡ Some (u, answer) → Follows t (record { actor = actor; event = events.Release number now; answer = answer }) u
release_follows c t u actor number now answer e =
    let took_it = took (λ (x : Unit {0}). answers.Released) (release t actor number now) u answer e in
    let next : Table × Unit {0} = (released number (at_moment now t), tt) in
    let opened = open_took lease_refusals.Closed t.closed _ (u, took_it.given) took_it.is in
    let both = if_took (is_some (state_of t.leases actor number)) next lease_refusals.NoLease (u, took_it.given) opened.1 in
    same_table t _ (released number (at_moment now t)) u both.1 (released_follows t actor number now answer)

-- ---- Submit

-- the row that is queued
pub record Queues (wire : WireMeaning) (t : Table) (q : Request) (u : Table) (s : Started) : Type 0 where
  pub frame : List ℕ
  pub reference : ℕ
  pub rest : List ℕ
  pub unclosed : t.closed ≡ None
  pub holding : holds q.actor q.lease t ≡ true
  pub full : is_full t.requests ≡ false
  pub free : t.requests.free ≡ reference ∷ rest
  pub framed : wire.frame_of q.ask (reference_to_try t) ≡ Ok frame
  pub small : nat_lt wire.limit (wire.size q.ask) ≡ false
  pub started_is : (let given : Started = record { id = t.requests.drawn + 1; reference = reference; frame = frame } in s ≡ given)
  pub table : u ≡ record (at_moment q.moment t) { requests = with_row (draft_of q (max t.clock q.moment) frame) t.requests reference rest }

queue_free : (wire : WireMeaning) (t : Table) (q : Request) (u : Table) (s : Started) (frame free : List ℕ) → t.closed ≡ None → holds q.actor q.lease t ≡ true → is_full t.requests ≡ false → t.requests.free ≡ free → wire.frame_of q.ask (reference_to_try t) ≡ Ok frame → nat_lt wire.limit (wire.size q.ask) ≡ false → started_as (at_moment q.moment t) frame (added_under (draft_of q (max t.clock q.moment) frame) t.requests free) ≡ Ok (u, s) → Queues wire t q u s
queue_free wire t q u s frame [] unclosed holding full free framed small e = cc
queue_free wire t q u s frame (reference ∷ rest) unclosed holding full free framed small e =
    let next : Table = record (at_moment q.moment t) { requests = with_row (draft_of q (max t.clock q.moment) frame) t.requests reference rest } in
    let given : Started = record { id = t.requests.drawn + 1; reference = reference; frame = frame } in
    let p : Table × Started = (next, given) in
    let r : Table × Started = (u, s) in
    let same : p ≡ r = cc in
    let both = pair_parts p r same in
    record {
      frame = frame;
      reference = reference;
      rest = rest;
      unclosed = unclosed;
      holding = holding;
      full = full;
      free = free;
      framed = framed;
      small = small;
      started_is = sym both.1;
      table = sym both.0;
    }

queue_full : (wire : WireMeaning) (t : Table) (q : Request) (u : Table) (s : Started) (frame : List ℕ) (large : Bool) → t.closed ≡ None → holds q.actor q.lease t ≡ true → is_full t.requests ≡ false → wire.frame_of q.ask (reference_to_try t) ≡ Ok frame → nat_lt wire.limit (wire.size q.ask) ≡ large → (if large then Err (submits.TooLarge (wire.size q.ask) wire.limit) else started q frame (at_moment q.moment t)) ≡ Ok (u, s) → Queues wire t q u s
queue_full wire t q u s frame true unclosed holding full framed large e = cc
queue_full wire t q u s frame false unclosed holding full framed large e =
    queue_free wire t q u s frame t.requests.free unclosed holding full refl framed large (sym (ap (λ b. started_as (at_moment q.moment t) frame (if b then Err add_refusals.Full else added_under (draft_of q (max t.clock q.moment) frame) t.requests t.requests.free)) full) ∙ e)

queue_framed : (wire : WireMeaning) (t : Table) (q : Request) (u : Table) (s : Started) (w : Result (List ℕ) Refused) → t.closed ≡ None → holds q.actor q.lease t ≡ true → is_full t.requests ≡ false → wire.frame_of q.ask (reference_to_try t) ≡ w → with_frame wire t q w ≡ Ok (u, s) → Queues wire t q u s
queue_framed wire t q u s (Err refused) unclosed holding full framed e = cc
queue_framed wire t q u s (Ok frame) unclosed holding full framed e = queue_full wire t q u s frame (nat_lt wire.limit (wire.size q.ask)) unclosed holding full framed refl e

queue_cases : (wire : WireMeaning) (t : Table) (q : Request) (u : Table) (s : Started) (held full : Bool) → t.closed ≡ None → holds q.actor q.lease t ≡ held → is_full t.requests ≡ full → (if held then (if full then Err submits.TableFull else with_frame wire t q (wire.frame_of q.ask (reference_to_try t))) else Err submits.NoLease) ≡ Ok (u, s) → Queues wire t q u s
queue_cases wire t q u s false full unclosed holding many e = cc
queue_cases wire t q u s true true unclosed holding many e = cc
queue_cases wire t q u s true false unclosed holding many e = queue_framed wire t q u s (wire.frame_of q.ask (reference_to_try t)) unclosed holding many refl e

pub queues : (wire : WireMeaning) (t : Table) (q : Request) (u : Table) (s : Started) → submit wire t q ≡ Ok (u, s) → Queues wire t q u s
queues wire t q u s e =
    let opened = open_took submits.Closed t.closed _ (u, s) e in
    queue_cases wire t q u s (holds q.actor q.lease t) (is_full t.requests) opened.0 refl refl opened.1

queued_follows : (t : Table) (q : Request) (frame : List ℕ) (reference : ℕ) (rest : List ℕ) (answer : Answer) → is_full t.requests ≡ false → Follows t (record { actor = q.actor; event = events.Submit q.lease q.ask q.timeout q.moment; answer = answer }) (record (at_moment q.moment t) { requests = with_row (draft_of q (max t.clock q.moment) frame) t.requests reference rest })
queued_follows t q frame reference rest answer full = record {
  clock = refl;
  leases = refl;
  frames = omega arith;
  requests = refl;
  asks = omega arith;
  closed = inr (refl, refl);
  window = refl;
  references = refl;
  share = refl;
  within = added_within (draft_of q (max t.clock q.moment) frame) t.requests reference rest full;
  held = λ h. h;
}

submit_follows : (c : Connection) (t u : Table) (actor lease : ℕ) (ask : Ask) (timeout now : ℕ) (answer : Answer) → step c t actor (events.Submit lease ask timeout now) ≡ Some (u, answer) → Follows t (record { actor = actor; event = events.Submit lease ask timeout now; answer = answer }) u
submit_follows c t u actor lease ask timeout now answer e =
    let q : Request = record { actor = actor; lease = lease; ask = ask; timeout = timeout; moment = now } in
    let took_it = took (λ (s : Started). answers.Accepted s.id s.reference s.frame) (submit c.wire t q) u answer e in
    let row = queues c.wire t q u took_it.given took_it.is in
    same_table t _ _ u (sym row.table) (queued_follows t q row.frame row.reference row.rest answer row.full)

-- ---- TakeSend

pub record Sends (t u : Table) (sending : Sending) : Type 0 where
  pub row : Row Handed Outcome
  pub unclosed : t.closed ≡ None
  pub room : nat_lt (count_by is_sent t.requests.rows) t.requests.window ≡ true
  pub found : find is_queued t.requests.rows ≡ Some row
  pub next : sent_id (sent_next t.requests) ≡ Some row.id
  pub sending_is : (let given : Sending = record { id = row.id; reference = row.reference; frame = row.what.frame } in sending ≡ given)
  pub table : u ≡ record t { requests = sent row.id t.requests }

send_found_cases : (t u : Table) (sending : Sending) (o : Option (Row Handed Outcome)) → t.closed ≡ None → nat_lt (count_by is_sent t.requests.rows) t.requests.window ≡ true → find is_queued t.requests.rows ≡ o → sending_as t (sent_from t.requests o) ≡ Ok (u, sending) → Sends t u sending
send_found_cases t u sending None unclosed room found e = cc
send_found_cases t u sending (Some row) unclosed room found e =
    let next : Table = record t { requests = sent row.id t.requests } in
    let given : Sending = record { id = row.id; reference = row.reference; frame = row.what.frame } in
    let p : Table × Sending = (next, given) in
    let r : Table × Sending = (u, sending) in
    let same : p ≡ r = cc in
    let both = pair_parts p r same in
    record {
      row = row;
      unclosed = unclosed;
      room = room;
      found = found;
      next = ap (λ b. sent_id (if b then sent_from t.requests (find is_queued t.requests.rows) else None)) room ∙ ap (λ o. sent_id (sent_from t.requests o)) found;
      sending_is = sym both.1;
      table = sym both.0;
    }

send_room_cases : (t u : Table) (sending : Sending) (b : Bool) → t.closed ≡ None → nat_lt (count_by is_sent t.requests.rows) t.requests.window ≡ b → sending_as t (if b then sent_from t.requests (find is_queued t.requests.rows) else None) ≡ Ok (u, sending) → Sends t u sending
send_room_cases t u sending false unclosed room e = cc
send_room_cases t u sending true unclosed room e = send_found_cases t u sending (find is_queued t.requests.rows) unclosed room refl e

pub sends_as : (t u : Table) (sending : Sending) → take_send t ≡ Ok (u, sending) → Sends t u sending
sends_as t u sending e =
    let opened = open_took sends.Closed t.closed _ (u, sending) e in
    send_room_cases t u sending (nat_lt (count_by is_sent t.requests.rows) t.requests.window) opened.0 refl opened.1

send_follows : (c : Connection) (t u : Table) (actor : ℕ) (answer : Answer) → step c t actor events.TakeSend ≡ Some (u, answer) → Follows t (record { actor = actor; event = events.TakeSend; answer = answer }) u
send_follows c t u actor answer e =
    let took_it = took (λ (s : Sending). answers.Sent s.id) (take_send t) u answer e in
    let s = sends_as t u took_it.given took_it.is in
    let test = s.room in
    let room : count_by is_sent t.requests.rows < t.requests.window = grind (arith, nat_tests) in
    let next : Table = record t { requests = sent s.row.id t.requests } in
    same_table t _ next u (sym s.table) (record {
      clock = refl;
      leases = refl;
      frames = omega arith;
      requests = omega arith;
      asks = omega arith;
      closed = inr (refl, refl);
      window = refl;
      references = refl;
      share = refl;
      within = sent_within t.requests s.row.id s.next room;
      held = λ h. h;
    })

-- ---- requests alone change

requests_follow : (t : Table) (requests : Requests) (actor : ℕ) (event : Event) (answer : Answer) → Keeps t.requests requests → clock_by t.clock event ≡ t.clock → (let e : Entry = record { actor = actor; event = event; answer = answer } in leases_after t.clock t.leases e ≡ t.leases) → one (is_frame event) ≡ 0 → one (is_submit event) ≡ 0 → one (is_ask event) ≡ 0 → event_reason event answer ≡ None → Follows t (record { actor = actor; event = event; answer = answer }) (record t { requests = requests })
requests_follow t requests actor event answer keeps clock leases no_frame no_submit no_ask open_event =
    let drawn = keeps.drawn in
    record {
      clock = sym clock;
      leases = sym leases;
      frames = omega arith;
      requests = omega arith;
      asks = omega arith;
      closed = inr (refl, open_event);
      window = keeps.window;
      references = keeps.references;
      share = refl;
      within = keeps.within;
      held = λ h. h;
    }

-- ---- Cancel and Collect

cancel_table : (t u : Table) (actor id : ℕ) (o : Option (Phase Outcome)) (given : Unit {0}) → phase_of actor id t.requests ≡ o → cancel_as id t o ≡ Ok (u, given) → u ≡ cancelled id t
cancel_table t u actor id None given found e = cc
cancel_table t u actor id (Some Queued) given found e = let p : Table × Unit {0} = (cancelled id t, tt) in let r : Table × Unit {0} = (u, given) in let same : p ≡ r = cc in sym (pair_parts p r same).0
cancel_table t u actor id (Some Sent) given found e = let p : Table × Unit {0} = (cancelled id t, tt) in let r : Table × Unit {0} = (u, given) in let same : p ≡ r = cc in sym (pair_parts p r same).0
cancel_table t u actor id (Some (Ended outcome)) given found e = cc

pub cancel_is_table : (t u : Table) (actor id : ℕ) (given : Unit {0}) → cancel t actor id ≡ Ok (u, given) → u ≡ cancelled id t
cancel_is_table t u actor id given e = cancel_table t u actor id (phase_of actor id t.requests) given refl e

cancel_follows : (c : Connection) (t u : Table) (actor id : ℕ) (answer : Answer) → step c t actor (events.Cancel id) ≡ Some (u, answer) → Follows t (record { actor = actor; event = events.Cancel id; answer = answer }) u
cancel_follows c t u actor id answer e =
    let took_it = took (λ (x : Unit {0}). answers.Cancelled) (cancel t actor id) u answer e in
    same_table t _ (cancelled id t) u (sym (cancel_is_table t u actor id took_it.given took_it.is))
    (requests_follow t (end_all (has_id id) kinds.Cancelled t.requests) actor (events.Cancel id) answer (ended_keeps (has_id id) (bare kinds.Cancelled) t.requests) refl refl refl refl refl refl)

collect_table : (t u : Table) (actor id : ℕ) (o : Option (Phase Outcome)) (given : Outcome) → phase_of actor id t.requests ≡ o → collected_as t (taken_from actor id t.requests o) ≡ Ok (u, given) → (u ≡ record t { requests = without actor id t.requests }) × (phase_of actor id t.requests ≡ Some (Ended given))
collect_table t u actor id None given found e = cc
collect_table t u actor id (Some Queued) given found e = cc
collect_table t u actor id (Some Sent) given found e = cc
collect_table t u actor id (Some (Ended outcome)) given found e =
    let next : Table = record t { requests = without actor id t.requests } in
    let p : Table × Outcome = (next, outcome) in
    let r : Table × Outcome = (u, given) in
    let same : p ≡ r = cc in
    let both = pair_parts p r same in
    (sym both.0, found ∙ ap (λ (o : Outcome). Some (Ended o)) both.1)

pub collect_is_table : (t u : Table) (actor id : ℕ) (given : Outcome) → collect t actor id ≡ Ok (u, given) → (u ≡ record t { requests = without actor id t.requests }) × (phase_of actor id t.requests ≡ Some (Ended given))
collect_is_table t u actor id given e = collect_table t u actor id (phase_of actor id t.requests) given refl e

collect_follows : (c : Connection) (t u : Table) (actor id : ℕ) (answer : Answer) → step c t actor (events.Collect id) ≡ Some (u, answer) → Follows t (record { actor = actor; event = events.Collect id; answer = answer }) u
collect_follows c t u actor id answer e =
    let took_it = took (λ (o : Outcome). answers.Collected o.kind) (collect t actor id) u answer e in
    let both = collect_is_table t u actor id took_it.given took_it.is in
    same_table t _ _ u (sym both.0)
    (requests_follow t (without actor id t.requests) actor (events.Collect id) answer (without_keeps actor id t.requests) refl refl refl refl refl refl)

-- ---- Tick

ticked_follows : (t : Table) (actor now : ℕ) (answer : Answer) → Follows t (record { actor = actor; event = events.Tick now; answer = answer }) (ticked now (at_moment now t))
ticked_follows t actor now answer =
    let expired = end_all (is_due now) kinds.Expired t.requests in
    let first = ended_keeps (is_due now) (bare kinds.Expired) t.requests in
    let numbers = due_numbers now t.leases.held in
    let keeps = keeps_then t.requests expired (end_leases numbers expired) first (leases_keep numbers expired) in
    let drawn = keeps.drawn in
    record {
      clock = refl;
      leases = refl;
      frames = omega arith;
      requests = omega arith;
      asks = omega arith;
      closed = inr (refl, refl);
      window = keeps.window;
      references = keeps.references;
      share = refl;
      within = keeps.within;
      held = λ h. granted_held (due_dropped t.leases now) (max t.clock now) (due_held_few t.leases now h);
    }

tick_table : (t u : Table) (now : ℕ) (count : Ticked) (b : Bool) → (let p : Table × Ticked = (ticked now (at_moment now t), tick_count now t) in let r : Table × Ticked = (u, count) in (if b then None else Some p) ≡ Some r) → u ≡ ticked now (at_moment now t)
tick_table t u now count true e = cc
tick_table t u now count false e = let p : Table × Ticked = (ticked now (at_moment now t), tick_count now t) in let r : Table × Ticked = (u, count) in let same : p ≡ r = cc in sym (pair_parts p r same).0

pub took_some : {A : Type 0} (f : A → Answer) (w : Option (Table × A)) (u : Table) (answer : Answer) → taken_some f w ≡ Some (u, answer) → (given : A) × (w ≡ Some (u, given)) × (f given ≡ answer)
took_some f None u answer e = cc
took_some {A} f (Some p) u answer e =
    let one_pair : Table × Answer = (p.0, f p.1) in
    let two_pair : Table × Answer = (u, answer) in
    let same : one_pair ≡ two_pair = cc in
    let both = pair_parts one_pair two_pair same in
    (p.1, ap (λ (x : Table). let r : Option (Table × A) = Some (x, p.1) in r) both.0, both.1)

pub tick_is_table : (t u : Table) (now : ℕ) (count : Ticked) → tick t now ≡ Some (u, count) → u ≡ ticked now (at_moment now t)
tick_is_table t u now count e = tick_table t u now count (is_nothing (tick_count now t)) e

tick_follows : (c : Connection) (t u : Table) (actor now : ℕ) (answer : Answer) → step c t actor (events.Tick now) ≡ Some (u, answer) → Follows t (record { actor = actor; event = events.Tick now; answer = answer }) u
tick_follows c t u actor now answer e =
    let took_it = took_some (λ (n : Ticked). answers.Ticked n.rows n.leases n.waiters) (tick t now) u answer e in
    same_table t _ (ticked now (at_moment now t)) u (sym (tick_is_table t u now took_it.0 took_it.1)) (ticked_follows t actor now answer)

-- ---- Close and Shutdown

closed_follows : (t : Table) (actor : ℕ) (event : Event) (answer : Answer) (reason : Reason) → t.closed ≡ None → event_reason event answer ≡ Some reason → clock_by t.clock event ≡ t.clock → one (is_frame event) ≡ 0 → one (is_submit event) ≡ 0 → one (is_ask event) ≡ 0 → Follows t (record { actor = actor; event = event; answer = answer }) (closed_by reason t)
closed_follows t actor event answer reason unclosed closing clock no_frame no_submit no_ask =
    let ends = ended_keeps any_row (bare (kinds.Lost reason)) t.requests in
    record {
      clock = sym clock;
      leases = sym (ap (λ o. if is_some o then cleared t.leases else leases_by t.clock actor event t.leases) closing);
      frames = omega arith;
      requests = omega arith;
      asks = omega arith;
      closed = inl (unclosed, sym closing);
      window = refl;
      references = refl;
      share = refl;
      within = ends.within;
      held = λ h. record { held = omega arith; waiting = omega arith };
    }

pub close_table : (t u : Table) (reason : Reason) (given : Unit {0}) → close t reason ≡ Ok (u, given) → (t.closed ≡ None) × (u ≡ closed_by reason t)
close_table t u reason given e =
    let opened = open_took (λ r. r) t.closed _ (u, given) e in
    let p : Table × Unit {0} = (closed_by reason t, tt) in
    let o : Result (Table × Unit {0}) Reason = Ok p in
    let q : Result (Table × Unit {0}) Reason = Ok (u, given) in
    (opened.0, sym (ok_table p (u, given) o q refl refl opened.1))

close_follows : (c : Connection) (t u : Table) (actor : ℕ) (reason : Reason) (answer : Answer) → step c t actor (events.Close reason) ≡ Some (u, answer) → Follows t (record { actor = actor; event = events.Close reason; answer = answer }) u
close_follows c t u actor reason answer e =
    let took_it = took (λ (x : Unit {0}). answers.Closed) (close t reason) u answer e in
    let both = close_table t u reason took_it.given took_it.is in
    same_table t _ (closed_by reason t) u (sym both.1) (closed_follows t actor (events.Close reason) answer reason both.0 refl refl refl refl refl)

shutdown_follows : (c : Connection) (t u : Table) (actor : ℕ) (answer : Answer) → step c t actor events.Shutdown ≡ Some (u, answer) → Follows t (record { actor = actor; event = events.Shutdown; answer = answer }) u
shutdown_follows c t u actor answer e =
    let took_it = took (λ (x : Unit {0}). answers.Closed) (close t reasons.Asked) u answer e in
    let both = close_table t u reasons.Asked took_it.given took_it.is in
    same_table t _ (closed_by reasons.Asked t) u (sym both.1) (closed_follows t actor events.Shutdown answer reasons.Asked both.0 refl refl refl refl refl)

-- ---- Frame

frame_keeps : (t : Table) (requests : Requests) (actor : ℕ) (bytes : List ℕ) (answer : Answer) → Keeps t.requests requests → frame_reason answer ≡ None → Follows t (record { actor = actor; event = events.Frame bytes; answer = answer }) (record (counted t) { requests = requests })
frame_keeps t requests actor bytes answer keeps open_frame =
    let drawn = keeps.drawn in
    record {
      clock = refl;
      leases = sym (ap (λ o. if is_some o then cleared t.leases else t.leases) open_frame);
      frames = refl;
      requests = omega arith;
      asks = omega arith;
      closed = inr (refl, open_frame);
      window = keeps.window;
      references = keeps.references;
      share = refl;
      within = keeps.within;
      held = λ h. h;
    }

late_or_stray : (t : Table) (actor : ℕ) (bytes : List ℕ) (reference : ℕ) (b : Bool) → (let p = settled_if reference (counted t) b in Follows t (record { actor = actor; event = events.Frame bytes; answer = frame_entry p.1 }) p.0)
late_or_stray t actor bytes reference true = frame_keeps t (settled reference t.requests) actor bytes (answers.Late reference) (settled_keeps reference t.requests) refl
late_or_stray t actor bytes reference false = frame_keeps t t.requests actor bytes (answers.Stray reference) (keeps_self t.requests) refl

arrived_follows : (wire : WireMeaning) (t : Table) (actor : ℕ) (bytes : List ℕ) (reference : ℕ) (reading : Reading) (found : Option (Row Handed Outcome)) → Follows t (record { actor = actor; event = events.Frame bytes; answer = frame_entry (arrived wire reference reading (counted t) found).1 }) (arrived wire reference reading (counted t) found).0
arrived_follows wire t actor bytes reference reading None = late_or_stray t actor bytes reference (is_quarantined reference t.requests)
arrived_follows wire t actor bytes reference reading (Some row) =
    let outcome = wire.fit row.what.ask reading in
    frame_keeps t (replied row.id outcome t.requests) actor bytes (answers.Ended row.id outcome.kind) (replied_keeps row.id outcome t.requests) refl

received_follows : (wire : WireMeaning) (t : Table) (actor : ℕ) (bytes : List ℕ) (reading : Result Reading FrameWhy) → t.closed ≡ None → Follows t (record { actor = actor; event = events.Frame bytes; answer = frame_entry (received wire t bytes reading).1 }) (received wire t bytes reading).0
received_follows wire t actor bytes (Ok reading) unclosed = arrived_follows wire t actor bytes (wire.reference_of bytes) reading (awaiting (wire.reference_of bytes) t.requests)
received_follows wire t actor bytes (Err why) unclosed =
    let reason = reasons.Undecodable t.frames why in
    let ends = ended_keeps any_row (bare (kinds.Lost reason)) t.requests in
    record {
      clock = refl;
      leases = refl;
      frames = refl;
      requests = omega arith;
      asks = omega arith;
      closed = inl (unclosed, refl);
      window = refl;
      references = refl;
      share = refl;
      within = ends.within;
      held = λ h. record { held = omega arith; waiting = omega arith };
    }

frame_follows : (c : Connection) (t u : Table) (actor : ℕ) (bytes : List ℕ) (answer : Answer) → step c t actor (events.Frame bytes) ≡ Some (u, answer) → Follows t (record { actor = actor; event = events.Frame bytes; answer = answer }) u
frame_follows c t u actor bytes answer e =
    let took_it = took frame_entry (apply_frame c.wire t bytes) u answer e in
    let opened = open_took frames.Closed t.closed _ (u, took_it.given) took_it.is in
    let p = received c.wire t bytes (c.wire.reading_of bytes) in
    let r : Table × FrameAnswer = (u, took_it.given) in
    let same : p ≡ r = cc in
    let both = pair_parts p r same in
    let P : Table → Answer → Type 0 = λ x a. Follows t (record { actor = actor; event = events.Frame bytes; answer = a }) x in
    let Q : Table → Type 0 = λ x. P x (frame_entry p.1) in
    let R : Answer → Type 0 = λ a. P u a in
    subst R (ap frame_entry both.1 ∙ took_it.told) (subst Q both.0 (received_follows c.wire t actor bytes (c.wire.reading_of bytes) opened.0))

-- ---- any event

pub follows : (c : Connection) (t u : Table) (actor : ℕ) (event : Event) (answer : Answer) → step c t actor event ≡ Some (u, answer) → Follows t (record { actor = actor; event = event; answer = answer }) u
follows c t u actor (events.AskLease now) answer e = ask_follows c t u actor now answer e
follows c t u actor (events.Release lease now) answer e = release_follows c t u actor lease now answer e
follows c t u actor (events.Submit lease ask timeout now) answer e = submit_follows c t u actor lease ask timeout now answer e
follows c t u actor events.TakeSend answer e = send_follows c t u actor answer e
follows c t u actor (events.Frame bytes) answer e = frame_follows c t u actor bytes answer e
follows c t u actor (events.Cancel id) answer e = cancel_follows c t u actor id answer e
follows c t u actor (events.Collect id) answer e = collect_follows c t u actor id answer e
follows c t u actor (events.Tick now) answer e = tick_follows c t u actor now answer e
follows c t u actor (events.Close reason) answer e = close_follows c t u actor reason answer e
follows c t u actor events.Shutdown answer e = shutdown_follows c t u actor answer e

-- ---- a legal journal, entry by entry

pub data Walked (c : Connection) : List Entry → Type 0 where
  begun : Walked c []
  walked : (journal : List Entry) (e : Entry) (u : Table) → Walked c journal → step c (table_of c journal) e.actor e.event ≡ Some (u, e.answer) → Walked c (journal ++ e ∷ [])

pub open_of : (b : Bool) (closed : Option Reason) → (b && is_none closed) ≡ true → closed ≡ None
open_of true None e = refl
open_of true (Some reason) e = cc
open_of false closed e = cc

pub worn_steps : (c : Connection) (t : Table) (actor : ℕ) → t.closed ≡ None → step c t actor (worn_entry actor).event ≡ Some (closed_by reasons.Worn t, answers.Closed)
worn_steps c t actor unclosed = rw unclosed refl

walk_turn : (c : Connection) (journal : List Entry) (e : Entry) (t : Table) (b : Bool) → Walked c journal → step c (table_of c journal) e.actor e.event ≡ Some (t, e.answer) → wears c.settings (length journal + 1) t ≡ b → Walked c (journal ++ turn_if b e)
walk_turn c journal e t false before stepped is = walked journal e t before stepped
walk_turn c journal e t true before stepped is =
    let once = walked journal e t before stepped in
    let unclosed = open_of (length journal + 1 == c.settings.journal) t.closed is in
    let now : table_of c (journal ++ e ∷ []) ≡ t = table_more c journal e t stepped in
    let worn = worn_entry e.actor in
    let twice = walked (journal ++ e ∷ []) worn (closed_by reasons.Worn t) once (rw now (worn_steps c t e.actor unclosed)) in
    let P : List Entry → Type 0 = Walked c in
    subst P (append_assoc journal (e ∷ []) (worn ∷ [])) twice

pub legal_walked : (c : Connection) (journal : List Entry) → Legal c journal → Walked c journal
legal_walked c _ journals.opened = begun
legal_walked c _ (journals.turned journal e t legal not_worn stepped) = walk_turn c journal e t (wears c.settings (length journal + 1) t) (legal_walked c journal legal) stepped refl

-- ---- sums over a journal

clock_more : (clock : ℕ) (xs : List Entry) (e : Entry) → clock_from clock (xs ++ e ∷ []) ≡ clock_by (clock_from clock xs) e.event
clock_more clock [] e = refl
clock_more clock (x ∷ xs) e = clock_more (clock_by clock x.event) xs e

leases_more : (clock : ℕ) (l : LeaseTable) (xs : List Entry) (e : Entry) → leases_from clock l (xs ++ e ∷ []) ≡ leases_after (clock_by (clock_from clock xs) e.event) (leases_from clock l xs) e
leases_more clock l [] e = refl
leases_more clock l (x ∷ xs) e = leases_more (clock_by clock x.event) (leases_after (clock_by clock x.event) l x) xs e

count_last : (p : Entry → Bool) (xs : List Entry) (e : Entry) → count_by p (xs ++ e ∷ []) ≡ count_by p xs + one (p e)
count_last p xs e = count_append p xs (e ∷ []) ∙ ap (λ n. count_by p xs + n) (count_cons p e []) ∙ (omega arith)

-- what holds of the table after a journal
pub record WalkLaw (c : Connection) (journal : List Entry) (t : Table) : Type 0 where
  pub clock : t.clock ≡ clock_of journal
  pub leases : t.leases ≡ leases_of c.settings journal
  pub frames : t.frames ≡ frames_in journal
  pub requests : t.requests.drawn ≡ requests_in journal
  pub asks : t.leases.drawn ≡ asks_in journal
  pub closed : ClosesAs journal t.closed
  pub window : t.requests.window ≡ c.settings.window
  pub references : t.requests.references ≡ c.settings.references
  pub share : t.leases.share ≡ c.settings.share
  pub within : IsWithin t.requests
  pub held : IsHeld t.leases

opening_law : (c : Connection) → WalkLaw c [] (table_of c [])
unfolding table_of
opening_law c = record {
  clock = refl;
  leases = refl;
  frames = refl;
  requests = refl;
  asks = refl;
  closed = λ reason. (λ is. cc, λ w. let at = w.2 in cc);
  window = refl;
  references = refl;
  share = refl;
  within = record { rows = omega arith; sent = omega arith; ids = omega arith };
  held = record { held = omega arith; waiting = omega arith };
}

closed_more : (journal : List Entry) (e : Entry) (was now : Option Reason) → ClosesAs journal was → ((was ≡ None) × (now ≡ closing_reason e)) ⊎ ((now ≡ was) × (closing_reason e ≡ None)) → ClosesAs (journal ++ e ∷ []) now
closed_more journal e was now h (inl both) = let P : Option Reason → Type 0 = ClosesAs journal in closes_open journal e now (subst P both.0 h) both.1
closed_more journal e was now h (inr both) = let P : Option Reason → Type 0 = ClosesAs journal in closes_same journal e now (subst P (sym both.0) h) both.1

pub law_more : (c : Connection) (journal : List Entry) (e : Entry) (u : Table) → WalkLaw c journal (table_of c journal) → step c (table_of c journal) e.actor e.event ≡ Some (u, e.answer) → WalkLaw c (journal ++ e ∷ []) u
law_more c journal e u law stepped =
    let t = table_of c journal in
    let f = follows c t u e.actor e.event e.answer stepped in
    let clock : u.clock ≡ clock_of (journal ++ e ∷ []) = f.clock ∙ ap (λ n. clock_by n e.event) law.clock ∙ sym (clock_more 0 journal e) in
    let first = no_leases c.settings.share c.settings.lease_ms c.settings.wait_ms in
    let leases : u.leases ≡ leases_of c.settings (journal ++ e ∷ []) =
    f.leases ∙ ap (λ n. leases_after n t.leases e) (f.clock ∙ ap (λ n. clock_by n e.event) law.clock)
    ∙ ap (λ l. leases_after (clock_by (clock_of journal) e.event) l e) law.leases ∙ sym (leases_more 0 first journal e) in
    let frames : u.frames ≡ frames_in (journal ++ e ∷ []) = f.frames ∙ ap (λ n. n + one (is_frame e.event)) law.frames ∙ sym (count_last (λ x. is_frame x.event) journal e) in
    let requests : u.requests.drawn ≡ requests_in (journal ++ e ∷ []) = f.requests ∙ ap (λ n. n + one (is_submit e.event)) law.requests ∙ sym (count_last (λ x. is_submit x.event) journal e) in
    let asked_count : u.leases.drawn ≡ asks_in (journal ++ e ∷ []) = f.asks ∙ ap (λ n. n + one (is_ask e.event)) law.asks ∙ sym (count_last (λ x. is_ask x.event) journal e) in
    let window = f.window ∙ law.window in
    let references = f.references ∙ law.references in
    let share = f.share ∙ law.share in
    let closed = closed_more journal e t.closed u.closed law.closed f.closed in
    let within = f.within law.within in
    let held = f.held law.held in
    record { clock = clock; leases = leases; frames = frames; requests = requests; asks = asked_count; closed = closed; window = window; references = references; share = share; within = within; held = held }

pub walk_law : (c : Connection) (journal : List Entry) → Walked c journal → WalkLaw c journal (table_of c journal)
walk_law c _ begun = opening_law c
walk_law c _ (walked journal e u before stepped) =
    let P : Table → Type 0 = WalkLaw c (journal ++ e ∷ []) in
    subst P (sym (table_more c journal e u stepped)) (law_more c journal e u (walk_law c journal before) stepped)

-- no more rows are sent and live than the window has
pub state_sent : (c : Connection) (kept : Kept) → IsState c kept → count_by is_sent (table_of c kept.journal.items).requests.rows ≤ (table_of c kept.journal.items).requests.window
state_sent c kept state = (walk_law c kept.journal.items (legal_walked c kept.journal.items state.legal)).within.sent

-- ---- the law of the table

pub table_law : (c : Connection) (journal : List Entry) → Legal c journal → TableLaw c journal
table_law c journal legal =
    let law = walk_law c journal (legal_walked c journal legal) in
    let t = table_of c journal in
    let held = law.held.held in
    let share = law.share in
    let sent = law.within.sent in
    let window = law.window in
    record {
      clock = law.clock;
      leases = law.leases;
      closed = law.closed;
      frames = law.frames;
      requests = law.requests;
      asks = law.asks;
      bounds = record { rows = law.within.rows; waiting = law.held.waiting; held = omega arith; sent = omega arith };
    }

-- ---- each entry is a step

pub get_place : {X : Type 0} (xs : List X) (x y : X) (k : ℕ) → slice_get (xs ++ x ∷ []) k ≡ Some y → ((k < length xs) × (slice_get xs k ≡ Some y)) ⊎ ((k ≡ length xs) × (x ≡ y))
get_place [] x y zero e = inr (refl, cc)
get_place [] x y (suc k) e = cc
get_place (z ∷ zs) x y zero e = inl (omega arith, e)
get_place (z ∷ zs) x y (suc k) e = elim (get_place zs x y k e) [ inl both ↦ inl (let low = both.0 in omega arith, both.1) | inr both ↦ inr (let same = both.0 in omega arith, both.1) ]

pub take_more : {X : Type 0} (xs : List X) (x : X) (k : ℕ) → k ≤ length xs → take k (xs ++ x ∷ []) ≡ take k xs
take_more xs x zero low = refl
take_more [] x (suc k) low = absurd (omega arith)
take_more (y ∷ ys) x (suc k) low = ap (λ zs. y ∷ zs) (take_more ys x k (omega arith))

pub take_whole : {X : Type 0} (xs : List X) (k : ℕ) → k ≡ length xs → take k xs ≡ xs
take_whole [] zero e = refl
take_whole [] (suc k) e = refl
take_whole (x ∷ xs) zero e = absurd (omega arith)
take_whole (x ∷ xs) (suc k) e = ap (λ zs. x ∷ zs) (take_whole xs k (omega arith))

pub walked_steps : (c : Connection) (journal : List Entry) → Walked c journal → AreSteps c journal
walked_steps c _ begun = λ k e at. cc
walked_steps c _ (walked journal e u before stepped) = λ k x at.
    let earlier = walked_steps c journal before in
    let P : List Entry → List Entry → Type 0 = λ xs ys. step c (table_of c xs) x.actor x.event ≡ Some (table_of c ys, x.answer) in
    elim (get_place journal e x k at) [
      | inl both ↦ (let low = both.0 in let Q : List Entry → Type 0 = λ xs. P xs (take (k + 1) (journal ++ e ∷ [])) in subst Q (sym (take_more journal e k (omega arith))) (let R : List Entry → Type 0 = λ ys. P (take k journal) ys in subst R (sym (take_more journal e (k + 1) (omega arith))) (earlier k x both.1)))
      | inr both ↦ (
          let same = both.0 in
          let long = length-append journal (e ∷ []) in
          let before_is : take k (journal ++ e ∷ []) ≡ journal = take_more journal e k (omega arith) ∙ take_whole journal k same in
          let after_is : take (k + 1) (journal ++ e ∷ []) ≡ journal ++ e ∷ [] = take_whole (journal ++ e ∷ []) (k + 1) (omega arith) in
          let S : Entry → Type 0 = λ y. step c (table_of c (take k (journal ++ e ∷ []))) y.actor y.event ≡ Some (table_of c (take (k + 1) (journal ++ e ∷ [])), y.answer) in
          subst S both.1 (rw (before_is, after_is, table_more c journal e u stepped) stepped))
    ]
