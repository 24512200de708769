-- How many rows a table keeps: a request more for each acceptance, one less for each collection.
use Rattle.std.proofs.Common.{◌≡◌, ℕ, ◌+◌, Bool, true, false, List, [], ◌∷◌, ◌++◌, length, refl, sym, ap, ◌∙◌, arith, Option, Some, None, Ok, Err, length-append}
use Rattle.std.specs.Prelude.{Result, count_by, filter, is_some, max, nat_lt}
use Rattle.std.proofs.lemmas.List.{length-map}
use Rattle.lease_core.specs.LeaseSteps.{asked_answer}
use Rattle.lease_core.specs.LeaseTables.{due_numbers, state_of, waiters_limit}
use Rattle.lease_core.specs.declared.answers.LeaseAnswer.{LeaseAnswer}
use Rattle.txn_core.specs.RowLaws.{count_append, count_cons, one}
use Rattle.txn_core.specs.RowSteps.{awaiting, ended_phase, in_phase, queued_row, sent_phase, stays}
use Rattle.txn_core.specs.RowTables.{IsRising, Row, any_row, has_id, has_lease, ids_of, is_due, is_quarantined}
use Rattle.txn_core.specs.declared.phases.Phase.TheVariants.{Ended}
use Rattle.node_tree.specs.declared.readings.Reading.{Reading}
use Rattle.wire_frames.specs.WireMeaning.{WireMeaning}
use Rattle.wire_frames.specs.declared.asks.Ask.{Ask}
use Rattle.wire_frames.specs.declared.ends.EndKind.TheVariants as kinds
use Rattle.wire_frames.specs.declared.ends.FrameWhy.{FrameWhy}
use Rattle.wire_frames.specs.declared.ends.Outcome.{Outcome}
use Rattle.wire_frames.specs.declared.ends.Reason.{Reason}
use Rattle.wire_frames.specs.declared.ends.Reason.TheVariants as reasons
use Rattle.conn_core.specs.Entries.{is_submit, requests_in}
use Rattle.conn_core.specs.Journals.{table_of}
use Rattle.conn_core.specs.Steps.{Request, Started, arrived, ask_lease, asked_entry, bare, cancelled, close, closed_by, collect, counted, draft_of, end_all, end_leases, received, release, released, step, submit, take_send, ticked, with_lease}
use Rattle.conn_core.specs.Tables.{Connection, Handed, Requests, Table, at_moment}
use Rattle.conn_core.specs.declared.answers.AskRefusal.TheVariants as asks
use Rattle.conn_core.specs.declared.answers.LeaseRefusal.TheVariants as lease_refusals
use Rattle.conn_core.specs.declared.answers.Sending.{Sending}
use Rattle.conn_core.specs.declared.entries.Answer.{Answer}
use Rattle.conn_core.specs.declared.entries.Answer.TheVariants as answers
use Rattle.conn_core.specs.declared.entries.Entry.{Entry}
use Rattle.conn_core.specs.declared.entries.Event.{Event}
use Rattle.conn_core.specs.declared.entries.Event.TheVariants as events
use Rattle.conn_core.proofs.FrameLemmas.{settled_if}
use Rattle.conn_core.proofs.RowLaws.{row_found}
use Rattle.conn_core.proofs.StepLaws.{Walked, begun, close_table, collect_is_table, if_took, open_took, queues, sends_as, took, walk_law, walked}
use Rattle.conn_core.proofs.TurnLemmas.{table_more}
use Rattle.conn_laws.specs.Drawing.{collections_in, is_collection}
use Rattle.conn_laws.proofs.Fates.{cancel_rows_are, frame_parts, tick_rows_are}
use Rattle.conn_laws.proofs.RowEffects.{out_row}

abbrev rows_in : Table → ℕ
rows_in t = length t.requests.rows

-- rows and collections before, with the acceptance, are rows and collections after
abbrev Counts : Event → Table → Table → Type 0
Counts event t u = rows_in u + one (is_collection event) ≡ rows_in t + one (is_submit event)

same_count : (event : Event) (t v u : Table) → v ≡ u → is_collection event ≡ false → is_submit event ≡ false → rows_in v ≡ rows_in t → Counts event t u
same_count event t v u is no_collect no_submit same =
    let one_side : one (is_collection event) ≡ 0 = ap one no_collect in
    let other_side : one (is_submit event) ≡ 0 = ap one no_submit in
    let now : rows_in u ≡ rows_in t = ap rows_in (sym is) ∙ same in omega arith

leases_count : (numbers : List ℕ) (t : Requests) → length (end_leases numbers t).rows ≡ length t.rows
leases_count [] t = refl
leases_count (n ∷ ns) t = leases_count ns (end_all (has_lease n) kinds.LeaseGone t) ∙ length-map t.rows (in_phase (ended_phase (has_lease n) (bare kinds.LeaseGone)))

without_count : (t : Table) (reference : ℕ) (b : Bool) → rows_in (settled_if reference (counted t) b).0 ≡ rows_in t
without_count t reference true = refl
without_count t reference false = refl

arrived_count : (wire : WireMeaning) (t : Table) (reference : ℕ) (reading : Reading) (found : Option (Row Handed Outcome)) → rows_in (arrived wire reference reading (counted t) found).0 ≡ rows_in t
arrived_count wire t reference reading None = without_count t reference (is_quarantined reference t.requests)
arrived_count wire t reference reading (Some row) = length-map t.requests.rows (in_phase (ended_phase (has_id row.id) (wire.fit row.what.ask reading)))

received_count : (wire : WireMeaning) (t : Table) (bytes : List ℕ) (reading : Result Reading FrameWhy) → rows_in (received wire t bytes reading).0 ≡ rows_in t
received_count wire t bytes (Ok reading) = arrived_count wire t (wire.reference_of bytes) reading (awaiting (wire.reference_of bytes) t.requests)
received_count wire t bytes (Err why) = length-map t.requests.rows (in_phase (ended_phase any_row (bare (kinds.Lost (reasons.Undecodable t.frames why)))))

close_count : (event : Event) (t u : Table) (reason : Reason) (given : Unit {0}) → is_collection event ≡ false → is_submit event ≡ false → close t reason ≡ Ok (u, given) → Counts event t u
close_count event t u reason given no_collect no_submit is =
    same_count event t (closed_by reason t) u (sym (close_table t u reason given is).1) no_collect no_submit (length-map t.requests.rows (in_phase (ended_phase any_row (bare (kinds.Lost reason)))))

collect_count : (c : Connection) (t u : Table) (actor id : ℕ) (answer : Answer) → IsRising 0 t.requests.drawn (ids_of t.requests.rows) → step c t actor (events.Collect id) ≡ Some (u, answer) → Counts (events.Collect id) t u
collect_count c t u actor id answer rising e =
    let took_it = took (λ (o : Outcome). answers.Collected o.kind) (collect t actor id) u answer e in
    let both = collect_is_table t u actor id took_it.given took_it.is in
    let found = row_found t actor id (Ended took_it.given) both.1 in
    let out = out_row t actor id took_it.given rising found.0 found.1 found.2 in
    let all : length t.requests.rows ≡ length out.before + length (out.row ∷ out.after) = ap length out.split ∙ length-append out.before (out.row ∷ out.after) in
    let left : length (filter (stays actor id) t.requests.rows) ≡ length out.before + length out.after = ap length out.leaves ∙ length-append out.before out.after in
    let now : rows_in u ≡ length (filter (stays actor id) t.requests.rows) = ap rows_in both.0 in
    omega arith

submit_count : (c : Connection) (t u : Table) (actor lease : ℕ) (ask : Ask) (timeout now : ℕ) (answer : Answer) → step c t actor (events.Submit lease ask timeout now) ≡ Some (u, answer) → Counts (events.Submit lease ask timeout now) t u
submit_count c t u actor lease ask timeout now answer e =
    let q : Request = record { actor = actor; lease = lease; ask = ask; timeout = timeout; moment = now } in
    let took_it = took (λ (s : Started). answers.Accepted s.id s.reference s.frame) (submit c.wire t q) u answer e in
    let queued = queues c.wire t q u took_it.given took_it.is in
    let new : Row Handed Outcome = queued_row (draft_of q (max t.clock now) queued.frame) (t.requests.drawn + 1) queued.reference in
    let rows = ap rows_in queued.table in
    let long = length-append t.requests.rows (new ∷ []) in
    omega arith

ask_count : (c : Connection) (t u : Table) (actor now : ℕ) (answer : Answer) → step c t actor (events.AskLease now) ≡ Some (u, answer) → Counts (events.AskLease now) t u
ask_count c t u actor now answer e =
    let took_it = took asked_entry (ask_lease t actor now) u answer e in
    let next : Table × LeaseAnswer = (with_lease actor (at_moment now t), asked_answer t.leases) in
    let opened = open_took asks.Closed t.closed _ (u, took_it.given) took_it.is in
    let both = if_took (nat_lt (length t.leases.waiting) waiters_limit) next asks.QueueFull (u, took_it.given) opened.1 in
    same_count (events.AskLease now) t (with_lease actor (at_moment now t)) u both.1 refl refl refl

release_count : (c : Connection) (t u : Table) (actor number now : ℕ) (answer : Answer) → step c t actor (events.Release number now) ≡ Some (u, answer) → Counts (events.Release number now) t u
release_count c t u actor number now answer e =
    let took_it = took (λ (x : Unit {0}). answers.Released) (release t actor number now) u answer e in
    let next : Table × Unit {0} = (released number (at_moment now t), tt) in
    let opened = open_took lease_refusals.Closed t.closed _ (u, took_it.given) took_it.is in
    let both = if_took (is_some (state_of t.leases actor number)) next lease_refusals.NoLease (u, took_it.given) opened.1 in
    same_count (events.Release number now) t (released number (at_moment now t)) u both.1 refl refl (length-map t.requests.rows (in_phase (ended_phase (has_lease number) (bare kinds.LeaseGone))))

send_count : (c : Connection) (t u : Table) (actor : ℕ) (answer : Answer) → step c t actor events.TakeSend ≡ Some (u, answer) → Counts events.TakeSend t u
send_count c t u actor answer e =
    let took_it = took (λ (s : Sending). answers.Sent s.id) (take_send t) u answer e in
    let s = sends_as t u took_it.given took_it.is in
    same_count events.TakeSend t _ u (sym s.table) refl refl (length-map t.requests.rows (in_phase (sent_phase s.row.id)))

counts : (c : Connection) (t u : Table) (actor : ℕ) (event : Event) (answer : Answer) → IsRising 0 t.requests.drawn (ids_of t.requests.rows) → step c t actor event ≡ Some (u, answer) → Counts event t u
counts c t u actor (events.AskLease now) answer rising e = ask_count c t u actor now answer e
counts c t u actor (events.Release number now) answer rising e = release_count c t u actor number now answer e
counts c t u actor (events.Submit lease ask timeout now) answer rising e = submit_count c t u actor lease ask timeout now answer e
counts c t u actor events.TakeSend answer rising e = send_count c t u actor answer e
counts c t u actor (events.Frame bytes) answer rising e =
    same_count (events.Frame bytes) t _ u (frame_parts c t u actor bytes answer e).0 refl refl (received_count c.wire t bytes (c.wire.reading_of bytes))
counts c t u actor (events.Cancel id) answer rising e =
    same_count (events.Cancel id) t (cancelled id t) u (cancel_rows_are c t u actor id answer e) refl refl (length-map t.requests.rows (in_phase (ended_phase (has_id id) (bare kinds.Cancelled))))
counts c t u actor (events.Collect id) answer rising e = collect_count c t u actor id answer rising e
counts c t u actor (events.Tick now) answer rising e =
    let expired = end_all (is_due now) kinds.Expired t.requests in
    same_count (events.Tick now) t (ticked now (at_moment now t)) u (tick_rows_are c t u actor now answer e) refl refl
    (leases_count (due_numbers now t.leases.held) expired ∙ length-map t.requests.rows (in_phase (ended_phase (is_due now) (bare kinds.Expired))))
counts c t u actor (events.Close reason) answer rising e =
    let took_it = took (λ (x : Unit {0}). answers.Closed) (close t reason) u answer e in
    close_count (events.Close reason) t u reason took_it.given refl refl took_it.is
counts c t u actor events.Shutdown answer rising e =
    let took_it = took (λ (x : Unit {0}). answers.Closed) (close t reasons.Asked) u answer e in
    close_count events.Shutdown t u reasons.Asked took_it.given refl refl took_it.is

count_last : (p : Entry → Bool) (xs : List Entry) (e : Entry) → count_by p (xs ++ e ∷ []) ≡ count_by p xs + one (p e)
count_last p xs e =
    let all = count_append p xs (e ∷ []) in
    let last = count_cons p e [] in
    let none : count_by p [] ≡ 0 = refl in omega arith

opening_rows : (c : Connection) → length (table_of c []).requests.rows ≡ 0
unfolding table_of
opening_rows c = refl

-- the rows that are kept are the requests that were accepted and not collected
pub kept_count : (c : Connection) (journal : List Entry) → Walked c journal → length (table_of c journal).requests.rows + collections_in journal ≡ requests_in journal
kept_count c _ begun = let none = opening_rows c in let no_collect : collections_in [] ≡ 0 = refl in let no_submit : requests_in [] ≡ 0 = refl in omega arith
kept_count c _ (walked journal e u before stepped) =
    let was = kept_count c journal before in
    let t = table_of c journal in
    let step_counts = counts c t u e.actor e.event e.answer (walk_law c journal before).within.ids stepped in
    let now : rows_in (table_of c (journal ++ e ∷ [])) ≡ rows_in u = ap rows_in (table_more c journal e u stepped) in
    let collects = count_last (λ (x : Entry). is_collection x.event) journal e in
    let submits = count_last (λ (x : Entry). is_submit x.event) journal e in
    omega arith
