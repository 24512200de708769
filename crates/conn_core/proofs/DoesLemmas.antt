-- What each call does to what is kept is its event's step.
use Rattle.std.proofs.Common.{◌≡◌, inl, inr, ℕ, ◌+◌, ◌-◌, ◌≤◌, Bool, true, false, List, [], ◌∷◌, ◌++◌, length, refl, sym, ap, subst, ◌∙◌, arith, Option, Some, None, Ok, Err}
use Rattle.std.specs.Prelude.{◌&&◌, ◌==◌, Result, max, if◌then◌else◌}
use Rattle.std.specs.Vec.{vec_capacity}
use Rattle.std.proofs.lemmas.Bool.{and_parts, eqb-true}
use Rattle.lease_core.specs.LeaseSteps.{asked, is_held_at_once}
use Rattle.lease_core.specs.LeaseTables.{IsLeaseTable, LeaseTable, due_numbers}
use Rattle.lease_core.specs.declared.answers.LeaseAnswer.{LeaseAnswer}
use Rattle.txn_core.specs.RowSteps.{answer_of, ended_all}
use Rattle.txn_core.specs.RowTables.{IsRowTable, RowTable, any_row, count_where, has_lease, is_due, phase_of}
use Rattle.wire_frames.specs.declared.ends.EndKind.{EndKind}
use Rattle.wire_frames.specs.declared.ends.EndKind.TheVariants as kinds
use Rattle.wire_frames.specs.declared.ends.Reason.{Reason}
use Rattle.conn_core.specs.Calls.{tick_answer}
use Rattle.conn_core.specs.Entries.{closing_reason}
use Rattle.conn_core.specs.Journals.{IsAdmitted, IsCarriedBy, is_worn, table_of, turn_if, wears}
use Rattle.conn_core.specs.KeptEnds.{leases_ended}
use Rattle.conn_core.specs.KeptStates.{ClosesAs, Does, DoesOrNoMemory, DoesTick, IsKept, IsState, IsStateOf, needs_of, wears_kept, worn_kept}
use Rattle.conn_core.specs.KeptSteps.{ask_answer, asked_kept, cancel_answer, cancelled_kept, closed_kept, kept_count, release_answer, released_kept, ticked_kept, ticked_requests}
use Rattle.conn_core.specs.KeptTables.{Stands}
use Rattle.conn_core.specs.States.{grown}
use Rattle.conn_core.specs.Steps.{ask_lease, asked_entry, cancel, cancelled, close, closed_by, is_nothing, release, released, step, taken, taken_some, tick, tick_count, ticked, when_open, with_lease}
use Rattle.conn_core.specs.Tables.{Connection, Table, at_moment}
use Rattle.conn_core.specs.declared.answers.AskRefusal.{AskRefusal}
use Rattle.conn_core.specs.declared.answers.AskRefusal.TheVariants as ask_refusals
use Rattle.conn_core.specs.declared.answers.CancelRefusal.{CancelRefusal}
use Rattle.conn_core.specs.declared.answers.LeaseRefusal.{LeaseRefusal}
use Rattle.conn_core.specs.declared.answers.Ticked.{Ticked}
use Rattle.conn_core.specs.declared.entries.Answer.TheVariants as answers
use Rattle.conn_core.specs.declared.entries.Entry.{Entry}
use Rattle.conn_core.specs.declared.entries.Event.{Event}
use Rattle.conn_core.specs.declared.entries.Event.TheVariants as events
use Rattle.conn_core.specs.declared.kept.Kept.{Kept}
use Rattle.conn_core.specs.declared.settings.Settings.{Settings}
use Rattle.conn_core.specs.declared.table.KeptTable.{KeptTable}
use Rattle.conn_core.proofs.StandLemmas.{ask_is, asked_stands, cancel_is, cancelled_stands, closed_stands, counted_stands, release_is, released_stands, ticked_stands, with_table}
use Rattle.conn_core.proofs.TickLemmas.{same_counts, zero_nothing}
use Rattle.conn_core.proofs.TurnLemmas.{Turning, closed_kept_law, stands_more, turned}

-- ---- a call that is refused

answer_with : {A R : Type 0} (t : Table) (r : Result A R) → answer_of (with_table t r) ≡ r
answer_with t (Ok a) = refl
answer_with t (Err r) = refl

pub roomier : (c : Connection) (journal : List Entry) (k : KeptTable) (room more : ℕ) → room ≤ more → IsStateOf c journal k room → IsStateOf c journal k more
roomier c journal k room more wide h = record {
  settings = h.settings;
  legal = h.legal;
  stands = h.stands;
  kept = h.kept;
  closes = h.closes;
  below = h.below;
  within = h.within;
  room = let was = h.room in omega arith;
  admitted = h.admitted;
  carried = h.carried;
}

pub parts : (c : Connection) (xs ys : List Entry) (k m : KeptTable) (room : ℕ) → ys ≡ xs → m ≡ k → IsStateOf c xs k room → IsStateOf c ys m room
parts c xs ys k m room e f h =
    let P : List Entry → Type 0 = λ zs. IsStateOf c zs m room in
    let Q : KeptTable → Type 0 = λ n. IsStateOf c xs n room in
    subst P (sym e) (subst Q (sym f) h)

-- journal and table stay
pub stays_put : (c : Connection) (old new : Kept) → IsState c old → new.journal.items ≡ old.journal.items → new.table ≡ old.table → vec_capacity old.journal ≤ vec_capacity new.journal → IsState c new
stays_put c old new state j k wide =
    parts c old.journal.items new.journal.items old.table new.table (vec_capacity new.journal) j k (roomier c old.journal.items old.table (vec_capacity old.journal) (vec_capacity new.journal) wide state)

pub does_refused : {A R : Type 0} (c : Connection) (actor : ℕ) (event : Event) (wanted : Result A R) (old new : Kept) (r : R) → IsState c old → new.journal.items ≡ old.journal.items → new.table ≡ old.table → vec_capacity old.journal ≤ vec_capacity new.journal → wanted ≡ Err r → step c (table_of c old.journal.items) actor event ≡ None → Does c actor event wanted old new (Err r)
does_refused c actor event wanted old new r state j k wide w none = record {
  answer = sym w;
  journal = rw none j;
  unchanged = j;
  state = stays_put c old new state j k wide;
}

-- ---- a call that is written down

pub record Written (s : Settings) (old new : Kept) (k : KeptTable) (e : Entry) : Type 0 where
  pub journal : new.journal.items ≡ old.journal.items ++ turn_if (wears_kept s (length old.journal.items + 1) k.closed) e
  pub table : new.table ≡ worn_kept (wears_kept s (length old.journal.items + 1) k.closed) k

-- an event of an open table that isn't refused
pub record Taking (c : Connection) (old : Kept) (k : KeptTable) (e : Entry) (t : Table) : Type 0 where
  pub state : IsState c old
  pub unclosed : old.table.closed ≡ None
  pub stepped : step c (table_of c old.journal.items) e.actor e.event ≡ Some (t, e.answer)
  pub not_worn : is_worn e.event ≡ false
  pub admits : IsAdmitted c.wire e.event
  pub carries : IsCarriedBy c e.event e.answer
  pub closed : k.closed ≡ closing_reason e
  pub stands : Stands old.journal.items k t
  pub kept : IsKept c.settings (length old.journal.items + 1) k

pub record WentOn (c : Connection) (old new : Kept) (e : Entry) : Type 0 where
  pub journal : new.journal.items ≡ grown c old.journal.items e.actor e.event (step c (table_of c old.journal.items) e.actor e.event)
  pub state : IsState c new

-- journal and table after a turn
pub turning_on : (c : Connection) (old new : Kept) (k : KeptTable) (e : Entry) (t : Table) → Turning c old.journal.items e t k (vec_capacity new.journal) → Written c.settings old new k e → WentOn c old new e
turning_on c old new k e t turning w =
    let same : wears_kept c.settings (length old.journal.items + 1) k.closed ≡ wears c.settings (length old.journal.items + 1) t = ap (wears_kept c.settings (length old.journal.items + 1)) turning.stands.closed in
    record {
      journal = w.journal ∙ ap (λ b. old.journal.items ++ turn_if b e) same ∙ sym (ap (grown c old.journal.items e.actor e.event) turning.stepped);
      state = parts c _ new.journal.items _ new.table (vec_capacity new.journal) w.journal w.table (turned c old.journal.items e t k (vec_capacity new.journal) turning);
    }

pub went_on : (c : Connection) (old new : Kept) (k : KeptTable) (e : Entry) (t : Table) → Taking c old k e t → Written c.settings old new k e → length old.journal.items + 1 + needs_of k ≤ vec_capacity new.journal → WentOn c old new e
went_on c old new k e t h w room =
    let turning : Turning c old.journal.items e t k (vec_capacity new.journal) = record {
      settings = h.state.settings;
      legal = h.state.legal;
      admitted = h.state.admitted;
      carried = h.state.carried;
      closes = let P : Option Reason → Type 0 = ClosesAs old.journal.items in subst P h.unclosed h.state.closes;
      below = h.state.below h.unclosed;
      stepped = h.stepped;
      not_worn = h.not_worn;
      admits = h.admits;
      carries = h.carries;
      closed = h.closed;
      stands = stands_more old.journal.items (e ∷ []) k t h.stands;
      kept = h.kept;
      room = room;
    } in
    turning_on c old new k e t turning w

-- the parts that are kept, where the table stays open
kept_next : (s : Settings) (entries : ℕ) (k m : KeptTable) → IsKept s entries k → m.closed ≡ None → IsRowTable m.requests → IsLeaseTable m.leases → m.requests.references ≡ k.requests.references → m.requests.window ≡ k.requests.window → m.leases.share ≡ k.leases.share → m.leases.lease_ms ≡ k.leases.lease_ms → m.leases.wait_ms ≡ k.leases.wait_ms → m.requests.drawn ≤ k.requests.drawn + 1 → m.leases.drawn ≤ k.leases.drawn + 1 → m.frames ≤ k.frames + 1 → IsKept s (entries + 1) m
kept_next s entries k m h unclosed rows leases references window share lease_ms wait_ms requests_drawn leases_drawn frames = record {
  rows = rows;
  leases = leases;
  references = references ∙ h.references;
  window = window ∙ h.window;
  share = share ∙ h.share;
  lease_ms = lease_ms ∙ h.lease_ms;
  wait_ms = wait_ms ∙ h.wait_ms;
  requests_drawn = let was = h.requests_drawn in omega arith;
  leases_drawn = let was = h.leases_drawn in omega arith;
  frames = let was = h.frames in omega arith;
  quiet = λ reason e. cc;
}

open_if : {A R : Type 0} (refusal : Reason → R) (closed : Option Reason) (next : Result A R) (a : A) → when_open refusal closed next ≡ Ok a → closed ≡ None
open_if refusal None next a e = refl
open_if refusal (Some reason) next a e = cc

-- ---- AskLease

asked_drawn : (l : LeaseTable) (actor now : ℕ) (b : Bool) → is_held_at_once l ≡ b → ((asked l actor now).drawn ≡ l.drawn + 1) × ((asked l actor now).share ≡ l.share) × ((asked l actor now).lease_ms ≡ l.lease_ms) × ((asked l actor now).wait_ms ≡ l.wait_ms)
asked_drawn l actor now true is = rw is (refl, refl, refl, refl)
asked_drawn l actor now false is = rw is (refl, refl, refl, refl)

pub ask_ok : (c : Connection) (actor now : ℕ) (old new : Kept) (answer : LeaseAnswer) → IsState c old → ask_answer old.table.closed old.table.leases ≡ Ok answer → IsLeaseTable (asked_kept actor now old.table).leases → (let e : Entry = record { actor = actor; event = events.AskLease now; answer = asked_entry answer } in Written c.settings old new (asked_kept actor now old.table) e) → length old.journal.items + 1 + needs_of (asked_kept actor now old.table) ≤ vec_capacity new.journal → DoesOrNoMemory ask_refusals.NoMemory c actor (events.AskLease now) (answer_of (ask_lease (table_of c old.journal.items) actor now)) old new (Ok answer)
ask_ok c actor now old new answer state ok lawful w room =
    let t = table_of c old.journal.items in
    let k = asked_kept actor now old.table in
    let e : Entry = record { actor = actor; event = events.AskLease now; answer = asked_entry answer } in
    let unclosed = open_if ask_refusals.Closed old.table.closed _ answer ok in
    let is : ask_lease t actor now ≡ Ok (with_lease actor (at_moment now t), answer) = ask_is old.journal.items old.table t actor now state.stands ∙ ap (with_table (with_lease actor (at_moment now t))) ok in
    let drawn = asked_drawn old.table.leases actor (max old.table.clock now) (is_held_at_once old.table.leases) refl in
    let taking : Taking c old k e (with_lease actor (at_moment now t)) = record {
      state = state;
      unclosed = unclosed;
      stepped = ap (taken asked_entry) is;
      not_worn = refl;
      admits = tt;
      carries = tt;
      closed = unclosed;
      stands = asked_stands old.journal.items old.table t actor now state.stands;
      kept = kept_next c.settings (length old.journal.items) old.table k state.kept unclosed state.kept.rows lawful refl refl drawn.1 drawn.2 drawn.3 (omega arith) (let one = drawn.0 in omega arith) (omega arith);
    } in
    let went = went_on c old new k e (with_lease actor (at_moment now t)) taking w room in
    record { answer = inl (sym (ap answer_of is)); journal = inr went.journal; unchanged = tt; state = went.state }

pub ask_err : (c : Connection) (actor now : ℕ) (old new : Kept) (r : AskRefusal) → IsState c old → ask_answer old.table.closed old.table.leases ≡ Err r → new.journal.items ≡ old.journal.items → new.table ≡ old.table → vec_capacity old.journal ≤ vec_capacity new.journal → DoesOrNoMemory ask_refusals.NoMemory c actor (events.AskLease now) (answer_of (ask_lease (table_of c old.journal.items) actor now)) old new (Err r)
ask_err c actor now old new r state err j k wide =
    let t = table_of c old.journal.items in
    let is : ask_lease t actor now ≡ Err r = ask_is old.journal.items old.table t actor now state.stands ∙ ap (with_table (with_lease actor (at_moment now t))) err in
    record { answer = inl (sym (ap answer_of is)); journal = inr (rw (ap (taken asked_entry) is) j); unchanged = j; state = stays_put c old new state j k wide }

pub ask_no_memory : (c : Connection) (actor now : ℕ) (old new : Kept) → IsState c old → new.journal.items ≡ old.journal.items → new.table ≡ old.table → vec_capacity old.journal ≤ vec_capacity new.journal → DoesOrNoMemory ask_refusals.NoMemory c actor (events.AskLease now) (answer_of (ask_lease (table_of c old.journal.items) actor now)) old new (Err ask_refusals.NoMemory)
ask_no_memory c actor now old new state j k wide = record { answer = inr refl; journal = inl (refl, j); unchanged = j; state = stays_put c old new state j k wide }

-- ---- Release

pub release_ok : (c : Connection) (actor number now : ℕ) (old new : Kept) → IsState c old → release_answer actor number old.table.closed old.table.leases ≡ Ok tt → IsRowTable (released_kept number now old.table).requests → IsLeaseTable (released_kept number now old.table).leases → (let e : Entry = record { actor = actor; event = events.Release number now; answer = answers.Released } in Written c.settings old new (released_kept number now old.table) e) → length old.journal.items + 1 + needs_of (released_kept number now old.table) ≤ vec_capacity new.journal → Does c actor (events.Release number now) (answer_of (release (table_of c old.journal.items) actor number now)) old new (Ok tt)
release_ok c actor number now old new state ok rows lawful w room =
    let t = table_of c old.journal.items in
    let k = released_kept number now old.table in
    let e : Entry = record { actor = actor; event = events.Release number now; answer = answers.Released } in
    let unclosed = open_if _ old.table.closed _ tt ok in
    let is : release t actor number now ≡ Ok (released number (at_moment now t), tt) = release_is old.journal.items old.table t actor number now state.stands ∙ ap (with_table (released number (at_moment now t))) ok in
    let taking : Taking c old k e (released number (at_moment now t)) = record {
      state = state;
      unclosed = unclosed;
      stepped = ap (taken (λ _. answers.Released)) is;
      not_worn = refl;
      admits = tt;
      carries = tt;
      closed = unclosed;
      stands = released_stands old.journal.items old.table t number now state.stands;
      kept = kept_next c.settings (length old.journal.items) old.table k state.kept unclosed rows lawful refl refl refl refl refl (omega arith) (omega arith) (omega arith);
    } in
    let went = went_on c old new k e (released number (at_moment now t)) taking w room in
    record { answer = sym (ap answer_of is); journal = went.journal; unchanged = tt; state = went.state }

pub release_err : (c : Connection) (actor number now : ℕ) (old new : Kept) (r : LeaseRefusal) → IsState c old → release_answer actor number old.table.closed old.table.leases ≡ Err r → new.journal.items ≡ old.journal.items → new.table ≡ old.table → vec_capacity old.journal ≤ vec_capacity new.journal → Does c actor (events.Release number now) (answer_of (release (table_of c old.journal.items) actor number now)) old new (Err r)
release_err c actor number now old new r state err j k wide =
    let t = table_of c old.journal.items in
    let is : release t actor number now ≡ Err r = release_is old.journal.items old.table t actor number now state.stands ∙ ap (with_table (released number (at_moment now t))) err in
    does_refused c actor (events.Release number now) _ old new r state j k wide (ap answer_of is) (ap (taken (λ _. answers.Released)) is)

-- ---- Cancel

live_open : (c : Connection) (old : Kept) (id : ℕ) (closed : Option Reason) → IsState c old → old.table.closed ≡ closed → 1 ≤ count_where any_row old.table.requests → closed ≡ None
live_open c old id None state e live = refl
live_open c old id (Some reason) state e live = let quiet = state.kept.quiet reason e in let none = quiet.live in absurd (omega arith)

pub cancel_ok : (c : Connection) (actor id : ℕ) (old new : Kept) → IsState c old → cancel_answer (phase_of actor id old.table.requests) ≡ Ok tt → 1 ≤ count_where any_row old.table.requests → IsRowTable (cancelled_kept id old.table).requests → (let e : Entry = record { actor = actor; event = events.Cancel id; answer = answers.Cancelled } in Written c.settings old new (cancelled_kept id old.table) e) → length old.journal.items + 1 + needs_of (cancelled_kept id old.table) ≤ vec_capacity new.journal → Does c actor (events.Cancel id) (answer_of (cancel (table_of c old.journal.items) actor id)) old new (Ok tt)
cancel_ok c actor id old new state ok live rows w room =
    let t = table_of c old.journal.items in
    let k = cancelled_kept id old.table in
    let e : Entry = record { actor = actor; event = events.Cancel id; answer = answers.Cancelled } in
    let unclosed = live_open c old id old.table.closed state refl live in
    let is : cancel t actor id ≡ Ok (cancelled id t, tt) = cancel_is old.journal.items old.table t actor id state.stands ∙ ap (with_table (cancelled id t)) ok in
    let taking : Taking c old k e (cancelled id t) = record {
      state = state;
      unclosed = unclosed;
      stepped = ap (taken (λ _. answers.Cancelled)) is;
      not_worn = refl;
      admits = tt;
      carries = tt;
      closed = unclosed;
      stands = cancelled_stands old.journal.items old.table t id state.stands;
      kept = kept_next c.settings (length old.journal.items) old.table k state.kept unclosed rows state.kept.leases refl refl refl refl refl (omega arith) (omega arith) (omega arith);
    } in
    let went = went_on c old new k e (cancelled id t) taking w room in
    record { answer = sym (ap answer_of is); journal = went.journal; unchanged = tt; state = went.state }

pub cancel_err : (c : Connection) (actor id : ℕ) (old new : Kept) (r : CancelRefusal) → IsState c old → cancel_answer (phase_of actor id old.table.requests) ≡ Err r → new.journal.items ≡ old.journal.items → new.table ≡ old.table → vec_capacity old.journal ≤ vec_capacity new.journal → Does c actor (events.Cancel id) (answer_of (cancel (table_of c old.journal.items) actor id)) old new (Err r)
cancel_err c actor id old new r state err j k wide =
    let t = table_of c old.journal.items in
    let is : cancel t actor id ≡ Err r = cancel_is old.journal.items old.table t actor id state.stands ∙ ap (with_table (cancelled id t)) err in
    does_refused c actor (events.Cancel id) _ old new r state j k wide (ap answer_of is) (ap (taken (λ _. answers.Cancelled)) is)

-- ---- Close and Shutdown

close_open : (t : Table) (reason : Reason) → t.closed ≡ None → close t reason ≡ Ok (closed_by reason t, tt)
close_open t reason unclosed = rw unclosed refl

pub close_ok : (c : Connection) (actor : ℕ) (event : Event) (reason : Reason) (old new : Kept) → IsState c old → old.table.closed ≡ None → is_worn event ≡ false → (let e : Entry = record { actor = actor; event = event; answer = answers.Closed } in (closing_reason e ≡ Some reason) × IsAdmitted c.wire event × IsCarriedBy c event answers.Closed × ((t : Table) → step c t actor event ≡ taken (λ _. answers.Closed) (close t reason)) × Written c.settings old new (closed_kept reason old.table) e) → length old.journal.items + 1 + needs_of (closed_kept reason old.table) ≤ vec_capacity new.journal → Does c actor event (answer_of (close (table_of c old.journal.items) reason)) old new (Ok tt)
close_ok c actor event reason old new state unclosed not_worn h room =
    let t = table_of c old.journal.items in
    let k = closed_kept reason old.table in
    let e : Entry = record { actor = actor; event = event; answer = answers.Closed } in
    let is : close t reason ≡ Ok (closed_by reason t, tt) = close_open t reason (sym state.stands.closed ∙ unclosed) in
    let taking : Taking c old k e (closed_by reason t) = record {
      state = state;
      unclosed = unclosed;
      stepped = h.3 t ∙ ap (taken (λ _. answers.Closed)) is;
      not_worn = not_worn;
      admits = h.1;
      carries = h.2;
      closed = sym h.0;
      stands = closed_stands old.journal.items old.table t reason state.stands;
      kept = closed_kept_law c.settings (length old.journal.items) old.table reason state.kept;
    } in
    let went = went_on c old new k e (closed_by reason t) taking h.4 room in
    record { answer = sym (ap answer_of is); journal = went.journal; unchanged = tt; state = went.state }

pub close_err : (c : Connection) (actor : ℕ) (event : Event) (reason stands : Reason) (old : Kept) → IsState c old → old.table.closed ≡ Some stands → ((t : Table) → step c t actor event ≡ taken (λ _. answers.Closed) (close t reason)) → Does c actor event (answer_of (close (table_of c old.journal.items) reason)) old old (Err stands)
close_err c actor event reason stands old state closed steps =
    let t = table_of c old.journal.items in
    let is : close t reason ≡ Err stands = rw (sym state.stands.closed ∙ closed) refl in
    does_refused c actor event _ old old stands state refl refl (omega arith) (ap answer_of is) (steps t ∙ ap (taken (λ _. answers.Closed)) is)

-- ---- Tick

same_settings : (kind : EndKind) (numbers : List ℕ) (t : RowTable (Unit {0}) EndKind) → ((leases_ended kind numbers t).references ≡ t.references) × ((leases_ended kind numbers t).window ≡ t.window) × ((leases_ended kind numbers t).drawn ≡ t.drawn)
same_settings kind [] t = (refl, refl, refl)
same_settings kind (n ∷ ns) t = same_settings kind ns (ended_all (has_lease n) kind t)

pub tick_cases : (t : Table) (now : ℕ) (b : Bool) → is_nothing (tick_count now t) ≡ b → tick t now ≡ (if b then None else Some (ticked now (at_moment now t), tick_count now t))
tick_cases t now b is = ap (λ x. if x then None else Some (ticked now (at_moment now t), tick_count now t)) is

apart : (b : Bool) → b ≡ true → b ≡ false → ⊥
apart true e f = cc
apart false e f = cc

-- in a closed table nothing is due
pub quiet_nothing : (c : Connection) (old : Kept) (now : ℕ) (reason : Reason) → IsState c old → old.table.closed ≡ Some reason → is_nothing (kept_count now old.table) ≡ true
quiet_nothing c old now reason state e =
    let quiet = state.kept.quiet reason e in
    let rows : count_where any_row old.table.requests - count_where any_row (ticked_requests now old.table) ≡ 0 = (let none = quiet.live in omega arith) in
    let held : length (due_numbers now old.table.leases.held) ≡ 0 = rw quiet.held refl in
    let waiting : length (due_numbers now old.table.leases.waiting) ≡ 0 = rw quiet.waiting refl in
    zero_nothing _ _ _ rows held waiting

quiet_cases : (c : Connection) (old : Kept) (now : ℕ) (closed : Option Reason) → IsState c old → old.table.closed ≡ closed → is_nothing (kept_count now old.table) ≡ false → closed ≡ None
quiet_cases c old now None state e due = refl
quiet_cases c old now (Some reason) state e due = absurd (apart (is_nothing (kept_count now old.table)) (quiet_nothing c old now reason state e) due)

pub tick_ok : (c : Connection) (actor now : ℕ) (old new : Kept) (count : Ticked) → IsState c old → count ≡ kept_count now old.table → is_nothing count ≡ false → IsRowTable (ticked_kept now old.table).requests → IsLeaseTable (ticked_kept now old.table).leases → (let e : Entry = record { actor = actor; event = events.Tick now; answer = answers.Ticked count.rows count.leases count.waiters } in Written c.settings old new (ticked_kept now old.table) e) → length old.journal.items + 1 + needs_of (ticked_kept now old.table) ≤ vec_capacity new.journal → DoesTick c actor now old new count
tick_ok c actor now old new count state counted due rows lawful w room =
    let t = table_of c old.journal.items in
    let k = ticked_kept now old.table in
    let e : Entry = record { actor = actor; event = events.Tick now; answer = answers.Ticked count.rows count.leases count.waiters } in
    let told : count ≡ tick_count now t = counted ∙ counted_stands old.journal.items old.table t now state.stands in
    let unclosed = quiet_cases c old now old.table.closed state refl (ap is_nothing (sym counted) ∙ due) in
    let is : tick t now ≡ Some (ticked now (at_moment now t), count) = tick_cases t now false (ap is_nothing (sym told) ∙ due) ∙ ap (λ n. Some (ticked now (at_moment now t), n)) (sym told) in
    let same = same_settings kinds.LeaseGone (due_numbers now old.table.leases.held) (ended_all (is_due now) kinds.Expired old.table.requests) in
    let taking : Taking c old k e (ticked now (at_moment now t)) = record {
      state = state;
      unclosed = unclosed;
      stepped = ap (taken_some (λ n. answers.Ticked n.rows n.leases n.waiters)) is;
      not_worn = refl;
      admits = tt;
      carries = tt;
      closed = unclosed;
      stands = ticked_stands old.journal.items old.table t now state.stands;
      kept = kept_next c.settings (length old.journal.items) old.table k state.kept unclosed rows lawful same.0 same.1 refl refl refl (let drawn = same.2 in omega arith) (omega arith) (omega arith);
    } in
    let went = went_on c old new k e (ticked now (at_moment now t)) taking w room in
    record { answer = sym (ap tick_answer is); journal = went.journal; state = went.state }

nothing_zero : (n : Ticked) → is_nothing n ≡ true → (let none : Ticked = record { rows = 0; leases = 0; waiters = 0 } in n ≡ none)
nothing_zero n e =
    let one = and_parts (n.rows == 0) ((n.leases == 0) && (n.waiters == 0)) e in
    let two = and_parts (n.leases == 0) (n.waiters == 0) one.1 in
    same_counts n.rows n.leases n.waiters 0 0 0 (eqb-true _ _ one.0) (eqb-true _ _ two.0) (eqb-true _ _ two.1)

pub tick_none : (c : Connection) (actor now : ℕ) (old new : Kept) (count : Ticked) → IsState c old → count ≡ kept_count now old.table → is_nothing count ≡ true → new.journal.items ≡ old.journal.items → new.table ≡ old.table → vec_capacity old.journal ≤ vec_capacity new.journal → DoesTick c actor now old new count
tick_none c actor now old new count state counted none j k wide =
    let t = table_of c old.journal.items in
    let told : count ≡ tick_count now t = counted ∙ counted_stands old.journal.items old.table t now state.stands in
    let is : tick t now ≡ None = tick_cases t now true (ap is_nothing (sym told) ∙ none) in
    record {
      answer = nothing_zero count none ∙ sym (ap tick_answer is);
      journal = rw (ap (taken_some (λ (n : Ticked). answers.Ticked n.rows n.leases n.waiters)) is) j;
      state = stays_put c old new state j k wide;
    }
