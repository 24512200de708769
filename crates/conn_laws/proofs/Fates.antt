-- What each event makes of the rows of a table.
use Rattle.std.proofs.Common.{◌≡◌, ◌⊎◌, inl, inr, ℕ, ◌+◌, ◌<◌, Bool, true, false, List, [], ◌∷◌, ◌++◌, refl, sym, ap, subst, ◌∙◌, arith, Option, Some, None, Ok, Err}
use Rattle.std.specs.Prelude.{Result, if◌then◌else◌, is_some, length, max, nat_lt}
use Rattle.std.proofs.lemmas.Bool.{and_parts, eq-eqb, eqb-true}
use Rattle.std.proofs.lemmas.Bool.Decides.{nat_tests}
use Rattle.lease_core.specs.LeaseSteps.{asked_answer}
use Rattle.lease_core.specs.LeaseTables.{due_numbers, state_of, waiters_limit}
use Rattle.lease_core.specs.declared.answers.LeaseAnswer.{LeaseAnswer}
use Rattle.txn_core.specs.RowEnds.{ended_here, ended_other}
use Rattle.txn_core.specs.RowSteps.{awaiting, ended_phase, in_phase, in_phases, queued_row, sent_phase, stays}
use Rattle.txn_core.specs.RowTables.{Row, any_row, has_id, has_lease, is_due, is_live, is_live_and, is_quarantined, is_queued, is_queued_and, phase_live}
use Rattle.txn_core.specs.declared.phases.Phase.{Phase}
use Rattle.txn_core.specs.declared.phases.Phase.TheVariants.{Queued, Sent, Ended}
use Rattle.node_tree.specs.declared.readings.Reading.{Reading}
use Rattle.wire_frames.specs.WireMeaning.{WireMeaning}
use Rattle.wire_frames.specs.declared.asks.Ask.{Ask}
use Rattle.wire_frames.specs.declared.ends.EndKind.{EndKind}
use Rattle.wire_frames.specs.declared.ends.EndKind.TheVariants as kinds
use Rattle.wire_frames.specs.declared.ends.FrameWhy.{FrameWhy}
use Rattle.wire_frames.specs.declared.ends.Outcome.{Outcome}
use Rattle.wire_frames.specs.declared.ends.Reason.{Reason}
use Rattle.wire_frames.specs.declared.ends.Reason.TheVariants as reasons
use Rattle.conn_core.specs.Steps.{Request, Started, apply_frame, arrived, ask_lease, asked_entry, bare, cancel, cancelled, close, closed_by, collect, counted, draft_of, end_all, end_leases, frame_entry, received, release, released, step, submit, take_send, tick, ticked, with_lease}
use Rattle.conn_core.specs.Tables.{Connection, Handed, Requests, Table, at_moment}
use Rattle.conn_core.specs.declared.answers.AskRefusal.TheVariants as asks
use Rattle.conn_core.specs.declared.answers.FrameAnswer.{FrameAnswer}
use Rattle.conn_core.specs.declared.answers.FrameRefusal.TheVariants as frames
use Rattle.conn_core.specs.declared.answers.LeaseRefusal.TheVariants as lease_refusals
use Rattle.conn_core.specs.declared.answers.Sending.{Sending}
use Rattle.conn_core.specs.declared.answers.Ticked.{Ticked}
use Rattle.conn_core.specs.declared.entries.Answer.{Answer}
use Rattle.conn_core.specs.declared.entries.Answer.TheVariants as answers
use Rattle.conn_core.specs.declared.entries.Entry.{Entry}
use Rattle.conn_core.specs.declared.entries.Event.{Event}
use Rattle.conn_core.specs.declared.entries.Event.TheVariants as events
use Rattle.conn_core.proofs.FrameLemmas.{settled_if}
use Rattle.conn_core.proofs.StepLaws.{cancel_is_table, close_table, collect_is_table, if_took, open_took, pair_parts, queues, sends_as, tick_is_table, took, took_some}
use Rattle.conn_laws.proofs.Members.{In, in_append, in_filter, in_map}
use Rattle.conn_laws.proofs.RowEffects.{Accepts}

-- a row, and what a step made of it: all but the phase stays
pub record Kin (row next : Row Handed Outcome) : Type 0 where
  pub id : next.id ≡ row.id
  pub owner : next.owner ≡ row.owner
  pub lease : next.lease ≡ row.lease
  pub reference : next.reference ≡ row.reference
  pub deadline : next.deadline ≡ row.deadline

kin_self : (row : Row Handed Outcome) → Kin row row
kin_self row = record { id = refl; owner = refl; lease = refl; reference = refl; deadline = refl }

kin_then : (x y z : Row Handed Outcome) → Kin x y → Kin y z → Kin x z
kin_then x y z h k = record { id = k.id ∙ h.id; owner = k.owner ∙ h.owner; lease = k.lease ∙ h.lease; reference = k.reference ∙ h.reference; deadline = k.deadline ∙ h.deadline }

-- ---- rows that stay or end

-- it stays as it is, or it was live and ends
abbrev pub StaysOrEnds : Row Handed Outcome → Row Handed Outcome → Type 0
StaysOrEnds row next = (next.phase ≡ row.phase) ⊎ ((is_live row ≡ true) × (o : Outcome) × (next.phase ≡ Ended o))

pub record EndOf (rows : List (Row Handed Outcome)) (next : Row Handed Outcome) : Type 0 where
  pub row : Row Handed Outcome
  pub here : In row rows
  pub kin : Kin row next
  pub phase : StaysOrEnds row next

abbrev pub Endings : (rows nexts : List (Row Handed Outcome)) → Type 0
Endings rows nexts = (next : Row Handed Outcome) → In next nexts → EndOf rows next

endings_self : (rows : List (Row Handed Outcome)) → Endings rows rows
endings_self rows = λ next h. record { row = next; here = h; kin = kin_self next; phase = inl refl }

phase_then : (x y z : Row Handed Outcome) → StaysOrEnds x y → StaysOrEnds y z → StaysOrEnds x z
phase_then x y z (inl a) (inl b) = inl (b ∙ a)
phase_then x y z (inr a) (inl b) = inr (a.0, a.1, b ∙ a.2)
phase_then x y z (inl a) (inr b) = inr (sym (ap phase_live a) ∙ b.0, b.1, b.2)
phase_then x y z (inr a) (inr b) = inr (a.0, b.1, b.2)

endings_then : (xs ys zs : List (Row Handed Outcome)) → Endings xs ys → Endings ys zs → Endings xs zs
endings_then xs ys zs f g = λ next h.
    let b = g next h in
    let a = f b.row b.here in
    record { row = a.row; here = a.here; kin = kin_then a.row b.row next a.kin b.kin; phase = phase_then a.row b.row next a.phase b.phase }

ended_of : (p : Row Handed Outcome → Bool) (o : Outcome) (rows : List (Row Handed Outcome)) (row : Row Handed Outcome) (b : Bool) → In row rows → is_live_and p row ≡ b → EndOf rows (in_phase (ended_phase p o) row)
ended_of p o rows row true here is = record {
  row = row;
  here = here;
  kin = record { id = refl; owner = refl; lease = refl; reference = refl; deadline = refl };
  phase = inr ((and_parts (is_live row) (p row) is).0, o, ended_here p o row is);
}
ended_of p o rows row false here is = record {
  row = row;
  here = here;
  kin = record { id = refl; owner = refl; lease = refl; reference = refl; deadline = refl };
  phase = inl (ended_other p o row is);
}

endings_ended : (p : Row Handed Outcome → Bool) (o : Outcome) (rows : List (Row Handed Outcome)) → Endings rows (in_phases (ended_phase p o) rows)
endings_ended p o rows = λ next h.
    let x = in_map (in_phase (ended_phase p o)) rows next h in
    let P : Row Handed Outcome → Type 0 = EndOf rows in
    subst P x.2 (ended_of p o rows x.0 (is_live_and p x.0) x.1 refl)

endings_leases : (numbers : List ℕ) (requests : Requests) → Endings requests.rows (end_leases numbers requests).rows
endings_leases [] requests = endings_self requests.rows
endings_leases (n ∷ ns) requests =
    let next = end_all (has_lease n) kinds.LeaseGone requests in
    endings_then requests.rows next.rows (end_leases ns next).rows (endings_ended (has_lease n) (bare kinds.LeaseGone) requests.rows) (endings_leases ns next)

-- ---- rows that pass don't stay live

dead_row : (p : Row Handed Outcome → Bool) (o : Outcome) (row : Row Handed Outcome) (b : Bool) → is_live row ≡ b → p row ≡ true → phase_live (ended_phase p o row) ≡ false
dead_row p o row true live passes = ap phase_live (ended_here p o row (rw (live, passes) refl))
dead_row p o row false dead passes = ap phase_live (ended_other p o row (rw dead refl)) ∙ dead

pub dead : (p : Row Handed Outcome → Bool) (o : Outcome) (rows : List (Row Handed Outcome)) (next : Row Handed Outcome) → ((row : Row Handed Outcome) (phase : Row Handed Outcome → Phase Outcome) → p (in_phase phase row) ≡ p row) → In next (in_phases (ended_phase p o) rows) → p next ≡ true → is_live next ≡ false
dead p o rows next same h passes =
    let x = in_map (in_phase (ended_phase p o)) rows next h in
    let row = x.0 in
    let was : p row ≡ true = sym (same row (ended_phase p o)) ∙ ap p x.2 ∙ passes in
    sym (ap is_live x.2) ∙ dead_row p o row (is_live row) refl was

-- where a row is live it was live before
pub was_live : (row next : Row Handed Outcome) → StaysOrEnds row next → is_live next ≡ true → is_live row ≡ true
was_live row next (inl same) live = sym (ap phase_live same) ∙ live
was_live row next (inr ends) live = ends.0

pub live_same : (row next : Row Handed Outcome) → StaysOrEnds row next → is_live next ≡ true → next.phase ≡ row.phase
live_same row next (inl same) live = same
live_same row next (inr ends) live = let not_live : is_live next ≡ false = ap phase_live ends.2 in absurd (cc)

-- ---- each event

-- what became of a row: it stayed or ended, it was sent, or it is new
pub data Came (t : Table) (e : Entry) (next : Row Handed Outcome) : Type 0 where
  stayed : EndOf t.requests.rows next → Came t e next
  sends : (row : Row Handed Outcome) → In row t.requests.rows → Kin row next → is_queued row ≡ true → next.phase ≡ Sent → e.event ≡ events.TakeSend → e.answer ≡ answers.Sent row.id → Came t e next
  comes : (a : Accepts e next.id) → next.phase ≡ Queued → a.reference ≡ next.reference → Came t e next

abbrev CameAll : Table → Entry → Table → Type 0
CameAll t e u = (next : Row Handed Outcome) → In next u.requests.rows → Came t e next

came_by : (t v u : Table) (e : Entry) → v ≡ u → Endings t.requests.rows v.requests.rows → CameAll t e u
came_by t v u e is ends = λ next h. let P : Table → Type 0 = λ x. In next x.requests.rows in stayed (ends next (subst P (sym is) h))

ask_came : (c : Connection) (t u : Table) (actor now : ℕ) (answer : Answer) → step c t actor (events.AskLease now) ≡ Some (u, answer) → CameAll t (record { actor = actor; event = events.AskLease now; answer = answer }) u
ask_came c t u actor now answer e =
    let took_it = took asked_entry (ask_lease t actor now) u answer e in
    let next : Table × LeaseAnswer = (with_lease actor (at_moment now t), asked_answer t.leases) in
    let opened = open_took asks.Closed t.closed _ (u, took_it.given) took_it.is in
    let both = if_took (nat_lt (length t.leases.waiting) waiters_limit) next asks.QueueFull (u, took_it.given) opened.1 in
    came_by t (with_lease actor (at_moment now t)) u _ both.1 (endings_self t.requests.rows)

release_came : (c : Connection) (t u : Table) (actor number now : ℕ) (answer : Answer) → step c t actor (events.Release number now) ≡ Some (u, answer) → CameAll t (record { actor = actor; event = events.Release number now; answer = answer }) u
release_came c t u actor number now answer e =
    let took_it = took (λ (x : Unit {0}). answers.Released) (release t actor number now) u answer e in
    let next : Table × Unit {0} = (released number (at_moment now t), tt) in
    let opened = open_took lease_refusals.Closed t.closed _ (u, took_it.given) took_it.is in
    let both = if_took (is_some (state_of t.leases actor number)) next lease_refusals.NoLease (u, took_it.given) opened.1 in
    came_by t (released number (at_moment now t)) u _ both.1 (endings_ended (has_lease number) (bare kinds.LeaseGone) t.requests.rows)

submit_came : (c : Connection) (t u : Table) (actor lease : ℕ) (ask : Ask) (timeout now : ℕ) (answer : Answer) → step c t actor (events.Submit lease ask timeout now) ≡ Some (u, answer) → CameAll t (record { actor = actor; event = events.Submit lease ask timeout now; answer = answer }) u
submit_came c t u actor lease ask timeout now answer e = λ row h.
    let q : Request = record { actor = actor; lease = lease; ask = ask; timeout = timeout; moment = now } in
    let took_it = took (λ (s : Started). answers.Accepted s.id s.reference s.frame) (submit c.wire t q) u answer e in
    let queued = queues c.wire t q u took_it.given took_it.is in
    let told : answers.Accepted (t.requests.drawn + 1) queued.reference queued.frame ≡ answer = ap (λ (s : Started). answers.Accepted s.id s.reference s.frame) (sym queued.started_is) ∙ took_it.told in
    let new : Row Handed Outcome = queued_row (draft_of q (max t.clock now) queued.frame) (t.requests.drawn + 1) queued.reference in
    let rows : u.requests.rows ≡ t.requests.rows ++ new ∷ [] = ap (λ (x : Table). x.requests.rows) queued.table in
    let P : List (Row Handed Outcome) → Type 0 = In row in
    elim (in_append t.requests.rows (new ∷ []) row (subst P rows h)) [
      | inl before ↦ stayed (endings_self t.requests.rows row before)
      | inr last ↦ elim last [
        | inl is ↦ (
            let entry : Entry = record { actor = actor; event = events.Submit lease ask timeout now; answer = answer } in
            let Q : Row Handed Outcome → Type 0 = Came t entry in
            subst Q is (comes (record { lease = lease; ask = ask; timeout = timeout; now = now; reference = queued.reference; frame = queued.frame; event = refl; answer = sym told }) refl refl))
        | inr none ↦ absurd none
      ]
    ]

sent_of : (t : Table) (e : Entry) (id : ℕ) (row : Row Handed Outcome) (b : Bool) → In row t.requests.rows → e.event ≡ events.TakeSend → e.answer ≡ answers.Sent id → is_queued_and (has_id id) row ≡ b → Came t e (in_phase (sent_phase id) row)
sent_of t e id row true here event answer is =
    let both = and_parts (is_queued row) (has_id id row) is in
    let same : row.id ≡ id = eqb-true row.id id both.1 in
    sends row here (record { id = refl; owner = refl; lease = refl; reference = refl; deadline = refl }) both.0 (ap (λ x. if x then Sent else row.phase) is) event (answer ∙ ap (λ n. answers.Sent n) (sym same))
sent_of t e id row false here event answer is =
    stayed (record { row = row; here = here; kin = record { id = refl; owner = refl; lease = refl; reference = refl; deadline = refl }; phase = inl (ap (λ x. if x then Sent else row.phase) is) })

send_came : (c : Connection) (t u : Table) (actor : ℕ) (answer : Answer) → step c t actor events.TakeSend ≡ Some (u, answer) → CameAll t (record { actor = actor; event = events.TakeSend; answer = answer }) u
send_came c t u actor answer e = λ next h.
    let entry : Entry = record { actor = actor; event = events.TakeSend; answer = answer } in
    let took_it = took (λ (s : Sending). answers.Sent s.id) (take_send t) u answer e in
    let s = sends_as t u took_it.given took_it.is in
    let told : answers.Sent s.row.id ≡ answer = ap (λ (x : Sending). answers.Sent x.id) (sym s.sending_is) ∙ took_it.told in
    let rows : u.requests.rows ≡ in_phases (sent_phase s.row.id) t.requests.rows = ap (λ (x : Table). x.requests.rows) s.table in
    let P : List (Row Handed Outcome) → Type 0 = In next in
    let x = in_map (in_phase (sent_phase s.row.id)) t.requests.rows next (subst P rows h) in
    let Q : Row Handed Outcome → Type 0 = Came t entry in
    subst Q x.2 (sent_of t entry s.row.id x.0 (is_queued_and (has_id s.row.id) x.0) x.1 refl (sym told) refl)

without_endings : (t : Table) (reference : ℕ) (b : Bool) → Endings t.requests.rows (settled_if reference (counted t) b).0.requests.rows
without_endings t reference true = endings_self t.requests.rows
without_endings t reference false = endings_self t.requests.rows

arrived_endings : (wire : WireMeaning) (t : Table) (reference : ℕ) (reading : Reading) (found : Option (Row Handed Outcome)) → Endings t.requests.rows (arrived wire reference reading (counted t) found).0.requests.rows
arrived_endings wire t reference reading None = without_endings t reference (is_quarantined reference t.requests)
arrived_endings wire t reference reading (Some row) = endings_ended (has_id row.id) (wire.fit row.what.ask reading) t.requests.rows

received_endings : (wire : WireMeaning) (t : Table) (bytes : List ℕ) (reading : Result Reading FrameWhy) → Endings t.requests.rows (received wire t bytes reading).0.requests.rows
received_endings wire t bytes (Ok reading) = arrived_endings wire t (wire.reference_of bytes) reading (awaiting (wire.reference_of bytes) t.requests)
received_endings wire t bytes (Err why) = endings_ended any_row (bare (kinds.Lost (reasons.Undecodable t.frames why))) t.requests.rows

-- what a frame that is taken leaves
pub frame_parts : (c : Connection) (t u : Table) (actor : ℕ) (bytes : List ℕ) (answer : Answer) → step c t actor (events.Frame bytes) ≡ Some (u, answer) → ((received c.wire t bytes (c.wire.reading_of bytes)).0 ≡ u) × (frame_entry (received c.wire t bytes (c.wire.reading_of bytes)).1 ≡ answer)
frame_parts c t u actor bytes answer e =
    let took_it = took frame_entry (apply_frame c.wire t bytes) u answer e in
    let opened = open_took frames.Closed t.closed _ (u, took_it.given) took_it.is in
    let p = received c.wire t bytes (c.wire.reading_of bytes) in
    let r : Table × FrameAnswer = (u, took_it.given) in
    let same : p ≡ r = cc in
    let both = pair_parts p r same in
    (both.0, ap frame_entry both.1 ∙ took_it.told)

frame_came : (c : Connection) (t u : Table) (actor : ℕ) (bytes : List ℕ) (answer : Answer) → step c t actor (events.Frame bytes) ≡ Some (u, answer) → CameAll t (record { actor = actor; event = events.Frame bytes; answer = answer }) u
frame_came c t u actor bytes answer e =
    came_by t (received c.wire t bytes (c.wire.reading_of bytes)).0 u _ (frame_parts c t u actor bytes answer e).0 (received_endings c.wire t bytes (c.wire.reading_of bytes))

pub cancel_rows_are : (c : Connection) (t u : Table) (actor id : ℕ) (answer : Answer) → step c t actor (events.Cancel id) ≡ Some (u, answer) → cancelled id t ≡ u
cancel_rows_are c t u actor id answer e =
    let took_it = took (λ (x : Unit {0}). answers.Cancelled) (cancel t actor id) u answer e in
    sym (cancel_is_table t u actor id took_it.given took_it.is)

pub tick_rows_are : (c : Connection) (t u : Table) (actor now : ℕ) (answer : Answer) → step c t actor (events.Tick now) ≡ Some (u, answer) → ticked now (at_moment now t) ≡ u
tick_rows_are c t u actor now answer e =
    let took_it = took_some (λ (n : Ticked). answers.Ticked n.rows n.leases n.waiters) (tick t now) u answer e in
    sym (tick_is_table t u now took_it.0 took_it.1)

tick_endings : (t : Table) (now : ℕ) → Endings t.requests.rows (ticked now (at_moment now t)).requests.rows
tick_endings t now =
    let expired = end_all (is_due now) kinds.Expired t.requests in
    endings_then t.requests.rows expired.rows _ (endings_ended (is_due now) (bare kinds.Expired) t.requests.rows) (endings_leases (due_numbers now t.leases.held) expired)

collect_came : (c : Connection) (t u : Table) (actor id : ℕ) (answer : Answer) → step c t actor (events.Collect id) ≡ Some (u, answer) → CameAll t (record { actor = actor; event = events.Collect id; answer = answer }) u
collect_came c t u actor id answer e =
    let took_it = took (λ (o : Outcome). answers.Collected o.kind) (collect t actor id) u answer e in
    let both = collect_is_table t u actor id took_it.given took_it.is in
    came_by t _ u _ (sym both.0) (λ next h. endings_self t.requests.rows next (in_filter (stays actor id) t.requests.rows next h).0)

close_came : (t u : Table) (e : Entry) (reason : Reason) (given : Unit {0}) → close t reason ≡ Ok (u, given) → CameAll t e u
close_came t u e reason given is = came_by t (closed_by reason t) u e (sym (close_table t u reason given is).1) (endings_ended any_row (bare (kinds.Lost reason)) t.requests.rows)

pub came : (c : Connection) (t u : Table) (actor : ℕ) (event : Event) (answer : Answer) → step c t actor event ≡ Some (u, answer) → (let e : Entry = record { actor = actor; event = event; answer = answer } in CameAll t e u)
came c t u actor (events.AskLease now) answer e = ask_came c t u actor now answer e
came c t u actor (events.Release lease now) answer e = release_came c t u actor lease now answer e
came c t u actor (events.Submit lease ask timeout now) answer e = submit_came c t u actor lease ask timeout now answer e
came c t u actor events.TakeSend answer e = send_came c t u actor answer e
came c t u actor (events.Frame bytes) answer e = frame_came c t u actor bytes answer e
came c t u actor (events.Cancel id) answer e = came_by t (cancelled id t) u _ (cancel_rows_are c t u actor id answer e) (endings_ended (has_id id) (bare kinds.Cancelled) t.requests.rows)
came c t u actor (events.Collect id) answer e = collect_came c t u actor id answer e
came c t u actor (events.Tick now) answer e = came_by t (ticked now (at_moment now t)) u _ (tick_rows_are c t u actor now answer e) (tick_endings t now)
came c t u actor (events.Close reason) answer e =
    let took_it = took (λ (x : Unit {0}). answers.Closed) (close t reason) u answer e in
    close_came t u _ reason took_it.given took_it.is
came c t u actor events.Shutdown answer e =
    let took_it = took (λ (x : Unit {0}). answers.Closed) (close t reasons.Asked) u answer e in
    close_came t u _ reasons.Asked took_it.given took_it.is

-- ---- who isn't live after an event

ended_same : (i id : ℕ) (a kind : EndKind) → answers.Ended i a ≡ answers.Ended id kind → i ≡ id
ended_same i id a kind e = cc

no_end_without : {Y : Type 0} (reference id : ℕ) (kind : EndKind) (t : Table) (b : Bool) → frame_entry (settled_if reference t b).1 ≡ answers.Ended id kind → Y
no_end_without reference id kind t true e = absurd (cc)
no_end_without reference id kind t false e = absurd (cc)

arrived_dead : (wire : WireMeaning) (t : Table) (reference : ℕ) (reading : Reading) (found : Option (Row Handed Outcome)) (id : ℕ) (kind : EndKind) (next : Row Handed Outcome) → frame_entry (arrived wire reference reading (counted t) found).1 ≡ answers.Ended id kind → In next (arrived wire reference reading (counted t) found).0.requests.rows → next.id ≡ id → is_live next ≡ false
arrived_dead wire t reference reading None id kind next told h same = no_end_without reference id kind (counted t) (is_quarantined reference t.requests) told
arrived_dead wire t reference reading (Some row) id kind next told h same =
    let own : row.id ≡ id = ended_same row.id id _ kind told in
    dead (has_id row.id) (wire.fit row.what.ask reading) t.requests.rows next (λ x phase. refl) h (eq-eqb next.id row.id (same ∙ sym own))

received_dead : (wire : WireMeaning) (t : Table) (bytes : List ℕ) (reading : Result Reading FrameWhy) (id : ℕ) (kind : EndKind) (next : Row Handed Outcome) → frame_entry (received wire t bytes reading).1 ≡ answers.Ended id kind → In next (received wire t bytes reading).0.requests.rows → next.id ≡ id → is_live next ≡ false
received_dead wire t bytes (Ok reading) id kind next told h same = arrived_dead wire t (wire.reference_of bytes) reading (awaiting (wire.reference_of bytes) t.requests) id kind next told h same
received_dead wire t bytes (Err why) id kind next told h same = absurd (cc)

pub frame_ends : (c : Connection) (t u : Table) (actor : ℕ) (bytes : List ℕ) (id : ℕ) (kind : EndKind) (next : Row Handed Outcome) → step c t actor (events.Frame bytes) ≡ Some (u, answers.Ended id kind) → In next u.requests.rows → next.id ≡ id → is_live next ≡ false
frame_ends c t u actor bytes id kind next e h same =
    let both = frame_parts c t u actor bytes (answers.Ended id kind) e in
    let P : Table → Type 0 = λ x. In next x.requests.rows in
    received_dead c.wire t bytes (c.wire.reading_of bytes) id kind next both.1 (subst P (sym both.0) h) same

pub cancel_ends : (c : Connection) (t u : Table) (actor id : ℕ) (answer : Answer) (next : Row Handed Outcome) → step c t actor (events.Cancel id) ≡ Some (u, answer) → In next u.requests.rows → next.id ≡ id → is_live next ≡ false
cancel_ends c t u actor id answer next e h same =
    let P : Table → Type 0 = λ x. In next x.requests.rows in
    dead (has_id id) (bare kinds.Cancelled) t.requests.rows next (λ x phase. refl) (subst P (sym (cancel_rows_are c t u actor id answer e)) h) (eq-eqb next.id id same)

in_time : (now : ℕ) (row : Row Handed Outcome) (b : Bool) → is_due now row ≡ b → (is_due now row ≡ true → is_live row ≡ false) → is_live row ≡ true → now < row.deadline
in_time now row true is gone live = let not_live = gone is in absurd (cc)
in_time now row false is gone live = grind (arith, nat_tests)

pub tick_ends : (c : Connection) (t u : Table) (actor now : ℕ) (answer : Answer) (next : Row Handed Outcome) → step c t actor (events.Tick now) ≡ Some (u, answer) → In next u.requests.rows → is_live next ≡ true → now < next.deadline
tick_ends c t u actor now answer next e h live =
    let P : Table → Type 0 = λ x. In next x.requests.rows in
    let there = subst P (sym (tick_rows_are c t u actor now answer e)) h in
    let expired = end_all (is_due now) kinds.Expired t.requests in
    let x = endings_leases (due_numbers now t.leases.held) expired next there in
    let was = was_live x.row next x.phase live in
    let early = in_time now x.row (is_due now x.row) refl (λ due. dead (is_due now) (bare kinds.Expired) t.requests.rows x.row (λ y phase. refl) x.here due) was in
    let same = x.kin.deadline in
    omega arith
