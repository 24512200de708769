-- What stands behind an entry that closes.
use Rattle.std.proofs.Common.{◌≡◌, inl, inr, ℕ, zero, suc, ◌<◌, Bool, true, false, List, [], length, take, drop, map, refl, sym, ap, subst, ◌∙◌, arith, Option, Some, None}
use Rattle.std.specs.Prelude.{◌&&◌, ◌-◌, if◌then◌else◌, is_some}
use Rattle.std.specs.List.{slice_get}
use Rattle.lease_core.specs.LeaseSteps.{due_dropped, granted_all, held_from}
use Rattle.lease_core.specs.LeaseTables.{Lease, LeaseTable, due_numbers}
use Rattle.txn_core.specs.RowSteps.{answer_of}
use Rattle.txn_core.specs.RowTables.{Row, any_row, is_live, is_live_and, is_row_of, phase_live}
use Rattle.txn_core.specs.declared.phases.Phase.{Phase}
use Rattle.wire_frames.specs.declared.asks.Ask.{Ask}
use Rattle.wire_frames.specs.declared.ends.Outcome.{Outcome}
use Rattle.wire_frames.specs.declared.ends.Reason.{Reason}
use Rattle.wire_frames.specs.declared.ends.Reason.TheVariants as reasons
use Rattle.conn_core.specs.Entries.{closes, closing_reason}
use Rattle.conn_core.specs.Journals.{table_of}
use Rattle.conn_core.specs.LeasePlaces.{leases_after, leases_by}
use Rattle.conn_core.specs.Places.{Submitted}
use Rattle.conn_core.specs.Steps.{Request, Started, apply_frame, ask_lease, asked_entry, cancel, close, frame_entry, is_nothing, live_count, release, step, submit, take_send, tick, tick_count, ticked}
use Rattle.conn_core.specs.Tables.{Connection, Handed, IsSettings, Table, at_moment}
use Rattle.conn_core.specs.declared.answers.AskRefusal.TheVariants as asks
use Rattle.conn_core.specs.declared.answers.FrameRefusal.TheVariants as frames
use Rattle.conn_core.specs.declared.answers.LeaseRefusal.TheVariants as lease_refusals
use Rattle.conn_core.specs.declared.answers.Sending.{Sending}
use Rattle.conn_core.specs.declared.answers.Ticked.{Ticked}
use Rattle.conn_core.specs.declared.entries.Answer.{Answer}
use Rattle.conn_core.specs.declared.entries.Answer.TheVariants as answers
use Rattle.conn_core.specs.declared.entries.Entry.{Entry}
use Rattle.conn_core.specs.declared.entries.Event.{Event}
use Rattle.conn_core.specs.declared.entries.Event.TheVariants as events
use Rattle.conn_core.proofs.CauseLemmas.{cancel_live}
use Rattle.conn_core.proofs.EntryLemmas.{get_low, walked_before}
use Rattle.conn_core.proofs.RowLaws.{row_found}
use Rattle.conn_core.proofs.StepLaws.{Follows, Walked, begun, close_table, follows, open_took, sends_as, queues, took, took_some, walk_law, walked, walked_steps}
use Rattle.conn_core.proofs.TickLemmas.{zero_nothing}
use Rattle.conn_core.proofs.TurnLemmas.{table_more}
use Rattle.conn_laws.proofs.Awaiting.{knows}
use Rattle.conn_laws.proofs.Fronts.{HasEnd, fate}
use Rattle.conn_laws.proofs.Members.{In, in_found, none_counts}
use Rattle.conn_laws.proofs.OtherPlaces.{get_take}
use Rattle.conn_laws.proofs.Standing.{row_law}

-- ---- a closed table refuses all but a collection

is_closed : {Y : Type 0} (t : Table) (reason : Reason) → t.closed ≡ Some reason → t.closed ≡ None → Y
is_closed t reason closed open_table = absurd (cc)

ask_refused : {Y : Type 0} (c : Connection) (t u : Table) (actor now : ℕ) (answer : Answer) (reason : Reason) → t.closed ≡ Some reason → step c t actor (events.AskLease now) ≡ Some (u, answer) → Y
ask_refused c t u actor now answer reason closed e =
    let took_it = took asked_entry (ask_lease t actor now) u answer e in
    is_closed t reason closed (open_took asks.Closed t.closed _ (u, took_it.given) took_it.is).0

release_refused : {Y : Type 0} (c : Connection) (t u : Table) (actor number now : ℕ) (answer : Answer) (reason : Reason) → t.closed ≡ Some reason → step c t actor (events.Release number now) ≡ Some (u, answer) → Y
release_refused c t u actor number now answer reason closed e =
    let took_it = took (λ (x : Unit {0}). answers.Released) (release t actor number now) u answer e in
    is_closed t reason closed (open_took lease_refusals.Closed t.closed _ (u, took_it.given) took_it.is).0

submit_refused : {Y : Type 0} (c : Connection) (t u : Table) (actor lease : ℕ) (ask : Ask) (timeout now : ℕ) (answer : Answer) (reason : Reason) → t.closed ≡ Some reason → step c t actor (events.Submit lease ask timeout now) ≡ Some (u, answer) → Y
submit_refused c t u actor lease ask timeout now answer reason closed e =
    let q : Request = record { actor = actor; lease = lease; ask = ask; timeout = timeout; moment = now } in
    let took_it = took (λ (s : Started). answers.Accepted s.id s.reference s.frame) (submit c.wire t q) u answer e in
    is_closed t reason closed (queues c.wire t q u took_it.given took_it.is).unclosed

send_refused : {Y : Type 0} (c : Connection) (t u : Table) (actor : ℕ) (answer : Answer) (reason : Reason) → t.closed ≡ Some reason → step c t actor events.TakeSend ≡ Some (u, answer) → Y
send_refused c t u actor answer reason closed e =
    let took_it = took (λ (s : Sending). answers.Sent s.id) (take_send t) u answer e in
    is_closed t reason closed (sends_as t u took_it.given took_it.is).unclosed

frame_refused : {Y : Type 0} (c : Connection) (t u : Table) (actor : ℕ) (bytes : List ℕ) (answer : Answer) (reason : Reason) → t.closed ≡ Some reason → step c t actor (events.Frame bytes) ≡ Some (u, answer) → Y
frame_refused c t u actor bytes answer reason closed e =
    let took_it = took frame_entry (apply_frame c.wire t bytes) u answer e in
    is_closed t reason closed (open_took frames.Closed t.closed _ (u, took_it.given) took_it.is).0

close_refused : {Y : Type 0} (c : Connection) (t u : Table) (actor : ℕ) (by : Reason) (answer : Answer) (reason : Reason) → t.closed ≡ Some reason → step c t actor (events.Close by) ≡ Some (u, answer) → Y
close_refused c t u actor by answer reason closed e =
    let took_it = took (λ (x : Unit {0}). answers.Closed) (close t by) u answer e in
    is_closed t reason closed (close_table t u by took_it.given took_it.is).0

shutdown_refused : {Y : Type 0} (c : Connection) (t u : Table) (actor : ℕ) (answer : Answer) (reason : Reason) → t.closed ≡ Some reason → step c t actor events.Shutdown ≡ Some (u, answer) → Y
shutdown_refused c t u actor answer reason closed e =
    let took_it = took (λ (x : Unit {0}). answers.Closed) (close t reasons.Asked) u answer e in
    is_closed t reason closed (close_table t u reasons.Asked took_it.given took_it.is).0

-- ---- a closed table has no lease

pub record Leaseless (l : LeaseTable) : Type 0 where
  pub held : l.held ≡ []
  pub waiting : l.waiting ≡ []

drop_none : {X : Type 0} (n : ℕ) → (let none : List X = [] in drop n none ≡ none)
drop_none zero = refl
drop_none (suc n) = refl

take_none : {X : Type 0} (n : ℕ) → (let none : List X = [] in take n none ≡ none)
take_none zero = refl
take_none (suc n) = refl

no_held : (l : LeaseTable) (now clock : ℕ) → l.held ≡ [] → l.waiting ≡ [] → (granted_all (due_dropped l now) clock).held ≡ []
no_held l now clock held waiting =
    rw (held, waiting) (ap (λ (xs : List Lease). map (held_from clock (due_dropped l now)) xs) (take_none _))

no_waiting : (l : LeaseTable) (now clock : ℕ) → l.waiting ≡ [] → (granted_all (due_dropped l now) clock).waiting ≡ []
no_waiting l now clock waiting = rw waiting (drop_none _)

none_granted : (l : LeaseTable) (now clock : ℕ) → Leaseless l → Leaseless (granted_all (due_dropped l now) clock)
none_granted l now clock h = record { held = no_held l now clock h.held h.waiting; waiting = no_waiting l now clock h.waiting }

leaseless_after : (c : Connection) (t : Table) (e : Entry) (u : Table) (event : Event) (reason : Reason) → e.event ≡ event → closing_reason e ≡ None → t.closed ≡ Some reason → step c t e.actor e.event ≡ Some (u, e.answer) → Leaseless t.leases → Leaseless (leases_by u.clock e.actor event t.leases)
leaseless_after c t e u (events.AskLease now) reason is unclosing closed stepped l = let P : Event → Type 0 = λ x. step c t e.actor x ≡ Some (u, e.answer) in ask_refused c t u e.actor now e.answer reason closed (subst P is stepped)
leaseless_after c t e u (events.Release number now) reason is unclosing closed stepped l = let P : Event → Type 0 = λ x. step c t e.actor x ≡ Some (u, e.answer) in release_refused c t u e.actor number now e.answer reason closed (subst P is stepped)
leaseless_after c t e u (events.Tick now) reason is unclosing closed stepped l = none_granted t.leases now u.clock l
leaseless_after c t e u (events.Submit lease ask timeout now) reason is unclosing closed stepped l = l
leaseless_after c t e u events.TakeSend reason is unclosing closed stepped l = l
leaseless_after c t e u (events.Frame bytes) reason is unclosing closed stepped l = l
leaseless_after c t e u (events.Cancel id) reason is unclosing closed stepped l = l
leaseless_after c t e u (events.Collect id) reason is unclosing closed stepped l = l
leaseless_after c t e u (events.Close by) reason is unclosing closed stepped l = l
leaseless_after c t e u events.Shutdown reason is unclosing closed stepped l = l

leases_shut : (clock : ℕ) (l : LeaseTable) (e : Entry) (reason : Reason) → closing_reason e ≡ Some reason → Leaseless (leases_after clock l e)
leases_shut clock l e reason closing =
    let shut : closes e ≡ true = ap is_some closing in
    record { held = rw shut refl; waiting = rw shut refl }

leases_on : (clock : ℕ) (l : LeaseTable) (e : Entry) → closing_reason e ≡ None → Leaseless (leases_by clock e.actor e.event l) → Leaseless (leases_after clock l e)
leases_on clock l e unclosing h =
    let on : closes e ≡ false = ap is_some unclosing in
    let is : leases_after clock l e ≡ leases_by clock e.actor e.event l = rw on refl in
    let P : LeaseTable → Type 0 = Leaseless in
    subst P (sym is) h

step_leaseless : (c : Connection) (t : Table) (e : Entry) (u : Table) (reason : Reason) → step c t e.actor e.event ≡ Some (u, e.answer) → Follows t e u → ((by : Reason) → t.closed ≡ Some by → Leaseless t.leases) → u.closed ≡ Some reason → Leaseless u.leases
step_leaseless c t e u reason stepped f before closed =
    let P : LeaseTable → Type 0 = Leaseless in
    subst P (sym f.leases) (elim f.closed [
      | inl both ↦ leases_shut u.clock t.leases e reason (sym both.1 ∙ closed)
      | inr both ↦ (let was = sym both.0 ∙ closed in leases_on u.clock t.leases e both.1 (leaseless_after c t e u e.event reason refl both.1 was stepped (before reason was)))
    ])

opening_open : {Y : Type 0} (c : Connection) (reason : Reason) → (table_of c []).closed ≡ Some reason → Y
unfolding table_of
opening_open c reason e = absurd (cc)

pub closed_leaseless : (c : Connection) (journal : List Entry) → Walked c journal → (reason : Reason) → (table_of c journal).closed ≡ Some reason → Leaseless (table_of c journal).leases
closed_leaseless c _ begun reason closed = opening_open c reason closed
closed_leaseless c _ (walked journal e u before stepped) reason closed =
    let is = table_more c journal e u stepped in
    let P : Table → Type 0 = λ x. Leaseless x.leases in
    subst P (sym is) (step_leaseless c (table_of c journal) e u reason stepped (follows c (table_of c journal) u e.actor e.event e.answer stepped) (closed_leaseless c journal before) (sym (ap (λ (x : Table). x.closed) is) ∙ closed))

-- ---- a closed table has no live row

pub closed_none_live : {Y : Type 0} (c : Connection) (journal : List Entry) (reason : Reason) (row : Row Handed Outcome) → IsSettings c.settings → Walked c journal → (table_of c journal).closed ≡ Some reason → In row (table_of c journal).requests.rows → is_live row ≡ true → Y
closed_none_live c journal reason row s w closed here live =
    let t = table_of c journal in
    let known = knows c journal s w in
    let none = (closed_leaseless c journal w reason closed).held in
    let held = (row_law c journal t row known.rows here).held live in
    let some = rw none at held in
    absurd (cc)

not_live : (b : Bool) → (b ≡ true → ⊥) → b ≡ false
not_live true h = absurd (h refl)
not_live false h = refl

found_live : (row : Row Handed Outcome) (phase : Phase Outcome) → row.phase ≡ phase → phase_live phase ≡ true → is_live row ≡ true
found_live row phase is live = ap phase_live is ∙ live

no_cancel : {Y : Type 0} (c : Connection) (journal : List Entry) (u : Table) (actor id : ℕ) (answer : Answer) (reason : Reason) → IsSettings c.settings → Walked c journal → (table_of c journal).closed ≡ Some reason → step c (table_of c journal) actor (events.Cancel id) ≡ Some (u, answer) → Y
no_cancel c journal u actor id answer reason s w closed e =
    let t = table_of c journal in
    let took_it = took (λ (x : Unit {0}). answers.Cancelled) (cancel t actor id) u answer e in
    let live = cancel_live t actor id (ap answer_of took_it.is) in
    let found = row_found t actor id live.phase live.found in
    let here = (in_found (is_row_of actor id) t.requests.rows found.0 found.1).0 in
    closed_none_live c journal reason found.0 s w closed here (found_live found.0 live.phase found.2 live.live)

tick_if : {Y : Type 0} (b : Bool) (p q : Table × Ticked) → b ≡ true → (if b then None else Some p) ≡ Some q → Y
tick_if true p q none e = absurd (cc)
tick_if false p q none e = absurd (cc)

not_passing : (b : Bool) → b ≡ false → (b && true) ≡ false
not_passing true e = absurd (cc)
not_passing false e = refl

nothing_ticks : {Y : Type 0} (t u : Table) (now : ℕ) (given : Ticked) → is_nothing (tick_count now t) ≡ true → tick t now ≡ Some (u, given) → Y
nothing_ticks t u now given none e = tick_if (is_nothing (tick_count now t)) (ticked now (at_moment now t), tick_count now t) (u, given) none e

no_tick : {Y : Type 0} (c : Connection) (journal : List Entry) (u : Table) (actor now : ℕ) (answer : Answer) (reason : Reason) → IsSettings c.settings → Walked c journal → (table_of c journal).closed ≡ Some reason → step c (table_of c journal) actor (events.Tick now) ≡ Some (u, answer) → Y
no_tick c journal u actor now answer reason s w closed e =
    let t = table_of c journal in
    let took_it = took_some (λ (n : Ticked). answers.Ticked n.rows n.leases n.waiters) (tick t now) u answer e in
    let l = closed_leaseless c journal w reason closed in
    let quiet : live_count t ≡ 0 = none_counts (is_live_and any_row) t.requests.rows (λ row here. not_passing (is_live row) (not_live (is_live row) (λ live. closed_none_live c journal reason row s w closed here live))) in
    let rows : live_count t - live_count (ticked now t) ≡ 0 = (omega arith) in
    let held : length (due_numbers now t.leases.held) ≡ 0 = ap (λ (xs : List Lease). length (due_numbers now xs)) l.held in
    let waiting : length (due_numbers now t.leases.waiting) ≡ 0 = ap (λ (xs : List Lease). length (due_numbers now xs)) l.waiting in
    nothing_ticks t u now took_it.0 (zero_nothing _ _ _ rows held waiting) took_it.1

-- only a collection steps on a closed table
pub only_collects : (c : Connection) (journal : List Entry) (u : Table) (actor : ℕ) (event : Event) (answer : Answer) (reason : Reason) → IsSettings c.settings → Walked c journal → (table_of c journal).closed ≡ Some reason → step c (table_of c journal) actor event ≡ Some (u, answer) → (id : ℕ) × (event ≡ events.Collect id)
only_collects c journal u actor (events.AskLease now) answer reason s w closed e = ask_refused c (table_of c journal) u actor now answer reason closed e
only_collects c journal u actor (events.Release lease now) answer reason s w closed e = release_refused c (table_of c journal) u actor lease now answer reason closed e
only_collects c journal u actor (events.Submit lease ask timeout now) answer reason s w closed e = submit_refused c (table_of c journal) u actor lease ask timeout now answer reason closed e
only_collects c journal u actor events.TakeSend answer reason s w closed e = send_refused c (table_of c journal) u actor answer reason closed e
only_collects c journal u actor (events.Frame bytes) answer reason s w closed e = frame_refused c (table_of c journal) u actor bytes answer reason closed e
only_collects c journal u actor (events.Cancel id) answer reason s w closed e = no_cancel c journal u actor id answer reason s w closed e
only_collects c journal u actor (events.Collect id) answer reason s w closed e = (id, refl)
only_collects c journal u actor (events.Tick now) answer reason s w closed e = no_tick c journal u actor now answer reason s w closed e
only_collects c journal u actor (events.Close by) answer reason s w closed e = close_refused c (table_of c journal) u actor by answer reason closed e
only_collects c journal u actor events.Shutdown answer reason s w closed e = shutdown_refused c (table_of c journal) u actor answer reason closed e

-- ---- places

closing_some : (o : Option Reason) → is_some o ≡ true → (reason : Reason) × (o ≡ Some reason)
closing_some None e = absurd (cc)
closing_some (Some reason) e = (reason, refl)

-- once an entry closes the table is closed
pub closed_by_place : (c : Connection) (journal : List Entry) (k : ℕ) (e : Entry) → Walked c journal → slice_get journal k ≡ Some e → closes e ≡ true → (reason : Reason) × ((table_of c journal).closed ≡ Some reason)
closed_by_place c journal k e w at shut =
    let why = closing_some (closing_reason e) shut in
    (why.0, ((walk_law c journal w).closed why.0).1 (k, e, at, why.1))

pub after_close : (c : Connection) (journal : List Entry) (j k : ℕ) (closing e : Entry) → IsSettings c.settings → Walked c journal → slice_get journal j ≡ Some closing → closes closing ≡ true → j < k → slice_get journal k ≡ Some e → (id : ℕ) × (e.event ≡ events.Collect id)
after_close c journal j k closing e s w at shut low there =
    let under = get_low journal k e there in
    let front = walked_before c journal k w (omega arith) in
    let closed = closed_by_place c (take k journal) j closing front (get_take journal k j low ∙ at) shut in
    only_collects c (take k journal) _ e.actor e.event e.answer closed.0 s front closed.1 (walked_steps c journal w k e there)

-- each request has ended by the close
pub all_ended : (c : Connection) (journal : List Entry) (k : ℕ) (e : Entry) → IsSettings c.settings → Walked c journal → slice_get journal k ≡ Some e → closes e ≡ true → (id : ℕ) (r : Submitted journal id) → HasEnd c journal id r
all_ended c journal k e s w at shut id r =
    let closed = closed_by_place c journal k e w at shut in
    elim (fate c journal id r s w) [
      | inl x ↦ closed_none_live c journal closed.0 x.row s w closed.1 x.here x.live
      | inr ended ↦ ended
    ]
