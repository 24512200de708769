-- The rows of any legal journal's table, by its entries one after another.
use Rattle.std.proofs.Common.{◌≡◌, ℕ, ◌+◌, ◌<◌, Bool, true, false, List, [], ◌∷◌, ◌++◌, length, take, refl, sym, ap, subst, ◌∙◌, arith, Option, Some, None, Ok, Err, length-append}
use Rattle.std.specs.Prelude.{Result, is_some, max, nat_lt, unwrap_or}
use Rattle.std.specs.List.{find, slice_get}
use Rattle.std.specs.Option.{option_map}
use Rattle.std.proofs.lemmas.Bool.Decides.{nat_tests}
use Rattle.lease_core.specs.LeaseLaws.{asked_lawful, cleared_lawful, dropped_lawful, due_dropped_lawful, granted_all_lawful, no_leases_lawful}
use Rattle.lease_core.specs.LeaseSteps.{asked_answer, cleared, dropped, due_dropped, is_held_at_once}
use Rattle.lease_core.specs.LeaseTables.{IsLeaseTable, deadline_of, state_of, waiters_limit}
use Rattle.lease_core.specs.declared.answers.LeaseAnswer.{LeaseAnswer}
use Rattle.txn_core.specs.RowSteps.{answer_of, awaiting, queued_row, stays}
use Rattle.txn_core.specs.RowTables.{Row, is_quarantined, is_row_of, phase_of}
use Rattle.txn_core.specs.declared.phases.Phase.{Phase}
use Rattle.node_tree.specs.declared.readings.Reading.{Reading}
use Rattle.wire_frames.specs.declared.asks.Ask.{Ask}
use Rattle.wire_frames.specs.declared.ends.FrameWhy.{FrameWhy}
use Rattle.wire_frames.specs.declared.ends.Outcome.{Outcome}
use Rattle.wire_frames.specs.declared.ends.Reason.{Reason}
use Rattle.wire_frames.specs.declared.ends.Reason.TheVariants as reasons
use Rattle.conn_core.specs.Entries.{clock_of, closing_reason}
use Rattle.conn_core.specs.Journals.{table_of}
use Rattle.conn_core.specs.LeasePlaces.{leases_of}
use Rattle.conn_core.specs.Steps.{Request, Started, apply_frame, arrived, ask_lease, asked_entry, cancel, cancelled, close, closed_by, collect, counted, draft_of, frame_entry, received, reference_to_try, release, released, step, submit, take_send, tick, ticked, with_lease}
use Rattle.conn_core.specs.Tables.{Connection, Handed, IsSettings, Table, at_moment}
use Rattle.conn_core.specs.declared.answers.AskRefusal.TheVariants as asks
use Rattle.conn_core.specs.declared.answers.FrameAnswer.{FrameAnswer}
use Rattle.conn_core.specs.declared.answers.FrameRefusal.TheVariants as frames
use Rattle.conn_core.specs.declared.answers.LeaseRefusal.TheVariants as lease_refusals
use Rattle.conn_core.specs.declared.answers.Sending.{Sending}
use Rattle.conn_core.specs.declared.answers.Ticked.{Ticked}
use Rattle.conn_core.specs.declared.entries.Answer.{Answer}
use Rattle.conn_core.specs.declared.entries.Answer.TheVariants as answers
use Rattle.conn_core.specs.declared.entries.Entry.{Entry}
use Rattle.conn_core.specs.declared.entries.Event.{Event}
use Rattle.conn_core.specs.declared.entries.Event.TheVariants as events
use Rattle.conn_core.proofs.CauseLemmas.{cancel_live}
use Rattle.conn_core.proofs.FrameLemmas.{settled_if}
use Rattle.conn_core.proofs.LeaseHeld.{asked_keeps, holder_holds}
use Rattle.conn_core.proofs.RowPlaces.{each_filter, each_join}
use Rattle.conn_core.proofs.RowWalk.{RowFacts, RowsOf, cancel_rows, close_rows, release_rows, reply_rows, rows_stay, send_rows, tick_rows}
use Rattle.conn_core.proofs.StepLaws.{Queues, Walked, WalkLaw, begun, cancel_is_table, close_table, collect_is_table, if_took, law_more, open_took, pair_parts, queues, sends_as, take_whole, tick_is_table, took, took_some, walk_law, walked}
use Rattle.conn_core.proofs.TurnLemmas.{get_last, table_more}

-- what is known of a table beside its rows
pub record Known (c : Connection) (journal : List Entry) (t : Table) : Type 0 where
  pub law : WalkLaw c journal t
  pub lawful : IsLeaseTable t.leases
  pub rows : RowsOf c journal t

same_rows : (c : Connection) (journal : List Entry) (v u : Table) → v ≡ u → RowsOf c journal v → RowsOf c journal u
same_rows c journal v u is h = let P : Table → Type 0 = RowsOf c journal in subst P is h

leases_to : (c : Connection) (journal : List Entry) (v u : Table) → v ≡ u → u.leases ≡ leases_of c.settings journal → v.leases ≡ leases_of c.settings journal
leases_to c journal v u is h = ap (λ (x : Table). x.leases) is ∙ h

same_lawful : (v u : Table) → v ≡ u → IsLeaseTable v.leases → IsLeaseTable u.leases
same_lawful v u is h = let P : Table → Type 0 = λ x. IsLeaseTable x.leases in subst P is h

-- what a step leaves
record Left_by (c : Connection) (journal : List Entry) (u : Table) : Type 0 where
  rows : RowsOf c journal u
  lawful : IsLeaseTable u.leases

left : (c : Connection) (journal : List Entry) (v u : Table) → v ≡ u → RowsOf c journal v → IsLeaseTable v.leases → Left_by c journal u
left c journal v u is rows lawful = record { rows = same_rows c journal v u is rows; lawful = same_lawful v u is lawful }

-- ---- each event

ask_left : (c : Connection) (journal : List Entry) (t u : Table) (actor now : ℕ) (answer : Answer) → Known c journal t → step c t actor (events.AskLease now) ≡ Some (u, answer) → (let e : Entry = record { actor = actor; event = events.AskLease now; answer = answer } in Left_by c (journal ++ e ∷ []) u)
ask_left c journal t u actor now answer k stepped =
    let e : Entry = record { actor = actor; event = events.AskLease now; answer = answer } in
    let took_it = took asked_entry (ask_lease t actor now) u answer stepped in
    let next : Table × LeaseAnswer = (with_lease actor (at_moment now t), asked_answer t.leases) in
    let opened = open_took asks.Closed t.closed _ (u, took_it.given) took_it.is in
    let both = if_took (nat_lt (length t.leases.waiting) waiters_limit) next asks.QueueFull (u, took_it.given) opened.1 in
    let test = both.0 in
    let few : length t.leases.waiting < waiters_limit = grind (arith, nat_tests) in
    let v = with_lease actor (at_moment now t) in
    left c (journal ++ e ∷ []) v u both.1
    (rows_stay c journal e t.leases v.leases t.requests.rows (λ n. asked_keeps t.leases actor (max t.clock now) n (is_held_at_once t.leases) refl) k.rows)
    (asked_lawful t.leases actor (max t.clock now) k.lawful few)

release_left : (c : Connection) (journal : List Entry) (t u : Table) (actor number now : ℕ) (answer : Answer) → Known c journal t → step c t actor (events.Release number now) ≡ Some (u, answer) → (let e : Entry = record { actor = actor; event = events.Release number now; answer = answer } in u.leases ≡ leases_of c.settings (journal ++ e ∷ []) → Left_by c (journal ++ e ∷ []) u)
release_left c journal t u actor number now answer k stepped after =
    let e : Entry = record { actor = actor; event = events.Release number now; answer = answer } in
    let took_it = took (λ (x : Unit {0}). answers.Released) (release t actor number now) u answer stepped in
    let v = released number (at_moment now t) in
    let next : Table × Unit {0} = (v, tt) in
    let opened = open_took lease_refusals.Closed t.closed _ (u, took_it.given) took_it.is in
    let both = if_took (is_some (state_of t.leases actor number)) next lease_refusals.NoLease (u, took_it.given) opened.1 in
    left c (journal ++ e ∷ []) v u both.1
    (release_rows c journal t actor number now answer k.law.leases (leases_to c (journal ++ e ∷ []) v u both.1 after) k.rows)
    (granted_all_lawful (dropped t.leases number) (max t.clock now) (dropped_lawful t.leases number k.lawful))

new_row : (c : Connection) (journal : List Entry) (t u : Table) (q : Request) (answer : Answer) (s : Started) → Known c journal t → answers.Accepted s.id s.reference s.frame ≡ answer → (row : Queues c.wire t q u s) → (let e : Entry = record { actor = q.actor; event = events.Submit q.lease q.ask q.timeout q.moment; answer = answer } in max t.clock q.moment ≡ clock_of (journal ++ e ∷ []) → RowFacts c (journal ++ e ∷ []) t.leases (queued_row (draft_of q (max t.clock q.moment) row.frame) (t.requests.drawn + 1) row.reference))
new_row c journal t u q answer s k told row clock =
    let e : Entry = record { actor = q.actor; event = events.Submit q.lease q.ask q.timeout q.moment; answer = answer } in
    let accepted : answer ≡ answers.Accepted (t.requests.drawn + 1) row.reference row.frame = sym told ∙ ap (λ (x : Started). answers.Accepted x.id x.reference x.frame) row.started_is in
    let n = length journal in
    let whole : take (n + 1) (journal ++ e ∷ []) ≡ journal ++ e ∷ [] = take_whole (journal ++ e ∷ []) (n + 1) (omega (arith, length-append journal (e ∷ []))) in
    let tried : reference_to_try t ≡ row.reference = ap (λ ns. unwrap_or (slice_get ns 0) 1) row.free in
    let test = row.small in
    record {
      law = record {
        request = record {
          place = n;
          actor = q.actor;
          lease = q.lease;
          ask = q.ask;
          timeout = q.timeout;
          now = q.moment;
          reference = row.reference;
          frame = row.frame;
          stands = get_last journal e ∙ ap (λ (a : Answer). let y : Entry = record { actor = q.actor; event = events.Submit q.lease q.ask q.timeout q.moment; answer = a } in Some y) accepted;
        };
        actor = refl;
        lease = refl;
        ask = refl;
        frame = refl;
        reference = refl;
        deadline = ap (λ m. deadline_of m q.timeout) (clock ∙ ap clock_of (sym whole));
        framed = ap (c.wire.frame_of q.ask) (sym tried) ∙ row.framed;
        within = grind (arith, nat_tests);
        phase = tt;
      };
      held = λ live. holder_holds q.actor q.lease t.leases.held row.holding;
    }

submit_left : (c : Connection) (journal : List Entry) (t u : Table) (actor lease : ℕ) (ask : Ask) (timeout now : ℕ) (answer : Answer) → Known c journal t → step c t actor (events.Submit lease ask timeout now) ≡ Some (u, answer) → (let e : Entry = record { actor = actor; event = events.Submit lease ask timeout now; answer = answer } in u.clock ≡ clock_of (journal ++ e ∷ []) → Left_by c (journal ++ e ∷ []) u)
submit_left c journal t u actor lease ask timeout now answer k stepped clock =
    let e : Entry = record { actor = actor; event = events.Submit lease ask timeout now; answer = answer } in
    let q : Request = record { actor = actor; lease = lease; ask = ask; timeout = timeout; moment = now } in
    let took_it = took (λ (s : Started). answers.Accepted s.id s.reference s.frame) (submit c.wire t q) u answer stepped in
    let row = queues c.wire t q u took_it.given took_it.is in
    let now_is = ap (λ (x : Table). x.clock) (sym row.table) ∙ clock in
    let last = new_row c journal t u q answer took_it.given k took_it.told row now_is in
    left c (journal ++ e ∷ []) _ u (sym row.table)
    (each_join (RowFacts c (journal ++ e ∷ []) t.leases) t.requests.rows _ [] (rows_stay c journal e t.leases t.leases t.requests.rows (λ n h. h) k.rows) last tt)
    k.lawful

send_left : (c : Connection) (journal : List Entry) (t u : Table) (actor : ℕ) (answer : Answer) → Known c journal t → step c t actor events.TakeSend ≡ Some (u, answer) → (let e : Entry = record { actor = actor; event = events.TakeSend; answer = answer } in Left_by c (journal ++ e ∷ []) u)
send_left c journal t u actor answer k stepped =
    let e : Entry = record { actor = actor; event = events.TakeSend; answer = answer } in
    let took_it = took (λ (s : Sending). answers.Sent s.id) (take_send t) u answer stepped in
    let s = sends_as t u took_it.given took_it.is in
    let told : answers.Sent s.row.id ≡ answer = ap (λ (x : Sending). answers.Sent x.id) (sym s.sending_is) ∙ took_it.told in
    left c (journal ++ e ∷ []) _ u (sym s.table) (send_rows c journal t actor s.row.id answer told k.rows) k.lawful

without_left : (c : Connection) (journal : List Entry) (e : Entry) (t : Table) (reference : ℕ) (b : Bool) → Known c journal t → Left_by c (journal ++ e ∷ []) (settled_if reference (counted t) b).0
without_left c journal e t reference true k = record { rows = rows_stay c journal e t.leases t.leases t.requests.rows (λ n h. h) k.rows; lawful = k.lawful }
without_left c journal e t reference false k = record { rows = rows_stay c journal e t.leases t.leases t.requests.rows (λ n h. h) k.rows; lawful = k.lawful }

arrived_left : (c : Connection) (journal : List Entry) (t : Table) (actor : ℕ) (bytes : List ℕ) (answer : Answer) (reading : Reading) (found : Option (Row Handed Outcome)) → Known c journal t → c.wire.reading_of bytes ≡ Ok reading → awaiting (c.wire.reference_of bytes) t.requests ≡ found → frame_entry (arrived c.wire (c.wire.reference_of bytes) reading (counted t) found).1 ≡ answer → (let e : Entry = record { actor = actor; event = events.Frame bytes; answer = answer } in Left_by c (journal ++ e ∷ []) (arrived c.wire (c.wire.reference_of bytes) reading (counted t) found).0)
arrived_left c journal t actor bytes answer reading None k reads found told =
    without_left c journal (record { actor = actor; event = events.Frame bytes; answer = answer }) t (c.wire.reference_of bytes) (is_quarantined (c.wire.reference_of bytes) t.requests) k
arrived_left c journal t actor bytes answer reading (Some row) k reads found told = record {
  rows = reply_rows c journal t actor bytes answer reading row k.law.within.ids reads found told k.rows;
  lawful = k.lawful;
}

received_left : (c : Connection) (journal : List Entry) (t : Table) (actor : ℕ) (bytes : List ℕ) (answer : Answer) (reading : Result Reading FrameWhy) → Known c journal t → c.wire.reading_of bytes ≡ reading → frame_entry (received c.wire t bytes reading).1 ≡ answer → (let e : Entry = record { actor = actor; event = events.Frame bytes; answer = answer } in Left_by c (journal ++ e ∷ []) (received c.wire t bytes reading).0)
received_left c journal t actor bytes answer (Ok reading) k reads told = arrived_left c journal t actor bytes answer reading (awaiting (c.wire.reference_of bytes) t.requests) k reads refl told
received_left c journal t actor bytes answer (Err why) k reads told =
    let e : Entry = record { actor = actor; event = events.Frame bytes; answer = answer } in
    let reason = reasons.Undecodable t.frames why in
    let closing : closing_reason e ≡ Some reason = ap (λ (a : Answer). let y : Entry = record { actor = actor; event = events.Frame bytes; answer = a } in closing_reason y) (sym told) in
    record {
      rows = close_rows c journal e t.requests.rows t.leases (cleared t.leases) reason closing k.rows;
      lawful = cleared_lawful t.leases k.lawful;
    }

frame_left : (c : Connection) (journal : List Entry) (t u : Table) (actor : ℕ) (bytes : List ℕ) (answer : Answer) → Known c journal t → step c t actor (events.Frame bytes) ≡ Some (u, answer) → (let e : Entry = record { actor = actor; event = events.Frame bytes; answer = answer } in Left_by c (journal ++ e ∷ []) u)
frame_left c journal t u actor bytes answer k stepped =
    let e : Entry = record { actor = actor; event = events.Frame bytes; answer = answer } in
    let took_it = took frame_entry (apply_frame c.wire t bytes) u answer stepped in
    let opened = open_took frames.Closed t.closed _ (u, took_it.given) took_it.is in
    let p = received c.wire t bytes (c.wire.reading_of bytes) in
    let r : Table × FrameAnswer = (u, took_it.given) in
    let same : p ≡ r = cc in
    let both = pair_parts p r same in
    let P : Table → Type 0 = Left_by c (journal ++ e ∷ []) in
    subst P both.0 (received_left c journal t actor bytes answer (c.wire.reading_of bytes) k refl (ap frame_entry both.1 ∙ took_it.told))

found_row : (t : Table) (actor id : ℕ) (o : Option (Row Handed Outcome)) (phase : Phase Outcome) → find (is_row_of actor id) t.requests.rows ≡ o → option_map (λ (row : Row Handed Outcome). row.phase) o ≡ Some phase → (r : Row Handed Outcome) × (find (is_row_of actor id) t.requests.rows ≡ Some r) × (r.phase ≡ phase)
found_row t actor id None phase found e = cc
found_row t actor id (Some r) phase found e = (r, found, cc)

pub row_found : (t : Table) (actor id : ℕ) (phase : Phase Outcome) → phase_of actor id t.requests ≡ Some phase → (r : Row Handed Outcome) × (find (is_row_of actor id) t.requests.rows ≡ Some r) × (r.phase ≡ phase)
row_found t actor id phase e = found_row t actor id (find (is_row_of actor id) t.requests.rows) phase refl e

cancel_left : (c : Connection) (journal : List Entry) (t u : Table) (actor id : ℕ) (answer : Answer) → Known c journal t → step c t actor (events.Cancel id) ≡ Some (u, answer) → (let e : Entry = record { actor = actor; event = events.Cancel id; answer = answer } in Left_by c (journal ++ e ∷ []) u)
cancel_left c journal t u actor id answer k stepped =
    let e : Entry = record { actor = actor; event = events.Cancel id; answer = answer } in
    let took_it = took (λ (x : Unit {0}). answers.Cancelled) (cancel t actor id) u answer stepped in
    let live = cancel_live t actor id (ap answer_of took_it.is) in
    let found = row_found t actor id live.phase live.found in
    left c (journal ++ e ∷ []) (cancelled id t) u (sym (cancel_is_table t u actor id took_it.given took_it.is))
    (cancel_rows c journal t actor id answer found.0 k.law.within.ids found.1 took_it.told k.rows)
    k.lawful

collect_left : (c : Connection) (journal : List Entry) (t u : Table) (actor id : ℕ) (answer : Answer) → Known c journal t → step c t actor (events.Collect id) ≡ Some (u, answer) → (let e : Entry = record { actor = actor; event = events.Collect id; answer = answer } in Left_by c (journal ++ e ∷ []) u)
collect_left c journal t u actor id answer k stepped =
    let e : Entry = record { actor = actor; event = events.Collect id; answer = answer } in
    let took_it = took (λ (o : Outcome). answers.Collected o.kind) (collect t actor id) u answer stepped in
    let both = collect_is_table t u actor id took_it.given took_it.is in
    left c (journal ++ e ∷ []) _ u (sym both.0)
    (each_filter (RowFacts c (journal ++ e ∷ []) t.leases) (stays actor id) t.requests.rows (rows_stay c journal e t.leases t.leases t.requests.rows (λ n h. h) k.rows))
    k.lawful

tick_left : (c : Connection) (journal : List Entry) (t u : Table) (actor now : ℕ) (answer : Answer) → Known c journal t → step c t actor (events.Tick now) ≡ Some (u, answer) → (let e : Entry = record { actor = actor; event = events.Tick now; answer = answer } in u.leases ≡ leases_of c.settings (journal ++ e ∷ []) → Left_by c (journal ++ e ∷ []) u)
tick_left c journal t u actor now answer k stepped after =
    let e : Entry = record { actor = actor; event = events.Tick now; answer = answer } in
    let took_it = took_some (λ (n : Ticked). answers.Ticked n.rows n.leases n.waiters) (tick t now) u answer stepped in
    let v = ticked now (at_moment now t) in
    let is : v ≡ u = sym (tick_is_table t u now took_it.0 took_it.1) in
    left c (journal ++ e ∷ []) v u is
    (tick_rows c journal t actor now answer k.lawful k.law.leases (leases_to c (journal ++ e ∷ []) v u is after) k.rows)
    (granted_all_lawful (due_dropped t.leases now) (max t.clock now) (due_dropped_lawful t.leases now k.lawful))

close_left : (c : Connection) (journal : List Entry) (e : Entry) (t u : Table) (reason : Reason) (given : Unit {0}) → Known c journal t → closing_reason e ≡ Some reason → close t reason ≡ Ok (u, given) → Left_by c (journal ++ e ∷ []) u
close_left c journal e t u reason given k closing is =
    let both = close_table t u reason given is in
    left c (journal ++ e ∷ []) (closed_by reason t) u (sym both.1)
    (close_rows c journal e t.requests.rows t.leases (cleared t.leases) reason closing k.rows)
    (cleared_lawful t.leases k.lawful)

rows_left_by : (c : Connection) (journal : List Entry) (t u : Table) (actor : ℕ) (event : Event) (answer : Answer) → Known c journal t → step c t actor event ≡ Some (u, answer) → (let e : Entry = record { actor = actor; event = event; answer = answer } in u.clock ≡ clock_of (journal ++ e ∷ []) → u.leases ≡ leases_of c.settings (journal ++ e ∷ []) → Left_by c (journal ++ e ∷ []) u)
rows_left_by c journal t u actor (events.AskLease now) answer k e clock leases = ask_left c journal t u actor now answer k e
rows_left_by c journal t u actor (events.Release lease now) answer k e clock leases = release_left c journal t u actor lease now answer k e leases
rows_left_by c journal t u actor (events.Submit lease ask timeout now) answer k e clock leases = submit_left c journal t u actor lease ask timeout now answer k e clock
rows_left_by c journal t u actor events.TakeSend answer k e clock leases = send_left c journal t u actor answer k e
rows_left_by c journal t u actor (events.Frame bytes) answer k e clock leases = frame_left c journal t u actor bytes answer k e
rows_left_by c journal t u actor (events.Cancel id) answer k e clock leases = cancel_left c journal t u actor id answer k e
rows_left_by c journal t u actor (events.Collect id) answer k e clock leases = collect_left c journal t u actor id answer k e
rows_left_by c journal t u actor (events.Tick now) answer k e clock leases = tick_left c journal t u actor now answer k e leases
rows_left_by c journal t u actor (events.Close reason) answer k e clock leases =
    let took_it = took (λ (x : Unit {0}). answers.Closed) (close t reason) u answer e in
    close_left c journal (record { actor = actor; event = events.Close reason; answer = answer }) t u reason took_it.given k refl took_it.is
rows_left_by c journal t u actor events.Shutdown answer k e clock leases =
    let took_it = took (λ (x : Unit {0}). answers.Closed) (close t reasons.Asked) u answer e in
    close_left c journal (record { actor = actor; event = events.Shutdown; answer = answer }) t u reasons.Asked took_it.given k refl took_it.is

-- ---- the walk

opening_known : (c : Connection) → IsSettings c.settings → Known c [] (table_of c [])
unfolding table_of
opening_known c s = record {
  law = walk_law c [] begun;
  lawful = no_leases_lawful c.settings.share c.settings.lease_ms c.settings.wait_ms s.share s.lease_ms s.wait_ms;
  rows = tt;
}

pub known : (c : Connection) (journal : List Entry) → IsSettings c.settings → Walked c journal → Known c journal (table_of c journal)
known c _ s begun = opening_known c s
known c _ s (walked journal e u before stepped) =
    let k = known c journal s before in
    let law = law_more c journal e u k.law stepped in
    let after = rows_left_by c journal (table_of c journal) u e.actor e.event e.answer k stepped law.clock law.leases in
    let P : Table → Type 0 = Known c (journal ++ e ∷ []) in
    subst P (sym (table_more c journal e u stepped)) (record { law = law; lawful = after.lawful; rows = after.rows })
