-- Each call's promise, from what it does to what is kept.
use Rattle.std.proofs.Common.{◌≡◌, ℕ, ◌≤◌, true, List, [], refl, sym, ap, subst, ◌∙◌, arith, Option, Some, None, Ok, Err}
use Rattle.std.specs.Prelude.{Result, ◌↔◌, count_by}
use Rattle.std.specs.Vec.{vec_capacity}
use Rattle.lease_core.specs.LeaseTables.{IsLeaseTable, LeaseTable}
use Rattle.lease_core.specs.declared.answers.LeaseAnswer.{LeaseAnswer}
use Rattle.lease_core.specs.declared.answers.LeaseAnswer.TheVariants as lease_answers
use Rattle.lease_core.specs.declared.answers.LeaseState.{LeaseState}
use Rattle.txn_core.specs.RowSteps.{IsGivenOrNoMemory, answer_of}
use Rattle.txn_core.specs.RowTables.{any_row, count_where, is_sent}
use Rattle.txn_core.specs.PlainRows.{plain_count_where}
use Rattle.txn_core.specs.declared.phases.TakeRefusal.{TakeRefusal}
use Rattle.txn_core.specs.declared.phases.TakeRefusal.TheVariants as take_refusals
use Rattle.wire_frames.specs.WireMeaning.{WireMeaning}
use Rattle.wire_frames.specs.declared.ends.EndKind.TheVariants as kinds
use Rattle.wire_frames.specs.declared.ends.Outcome.{Outcome}
use Rattle.wire_frames.specs.declared.ends.Reason.{Reason}
use Rattle.wire_frames.specs.declared.ends.Reason.TheVariants as reasons
use Rattle.conn_core.specs.Calls.{AppliesFrame, AsksLease, Cancels, Closes, Collects, IsJournalOf, PollsLease, ReleasesLease, ShutsDown, Submits, TakesSend, Ticks}
use Rattle.conn_core.specs.Causes.{ClosesWith, HasLiveRow}
use Rattle.conn_core.specs.Journals.{table_of}
use Rattle.conn_core.specs.KeptStates.{Does, DoesOrNoMemory, DoesTick, IsState}
use Rattle.conn_core.specs.KeptSteps.{poll_answer}
use Rattle.conn_core.specs.KeptTables.{end_kind}
use Rattle.conn_core.specs.States.{State, connection_of, grown}
use Rattle.conn_core.specs.Steps.{Request, accepted_of, apply_frame, ask_lease, cancel, close, collect, is_nothing, received, release, submit, take_send, taken_some, tick, when_open}
use Rattle.conn_core.specs.Tables.{Connection, Table}
use Rattle.conn_core.specs.declared.answers.Accepted.{Accepted}
use Rattle.conn_core.specs.declared.answers.AskRefusal.{AskRefusal}
use Rattle.conn_core.specs.declared.answers.AskRefusal.TheVariants as asks
use Rattle.conn_core.specs.declared.answers.CancelRefusal.{CancelRefusal}
use Rattle.conn_core.specs.declared.answers.CancelRefusal.TheVariants as cancels
use Rattle.conn_core.specs.declared.answers.FrameAnswer.{FrameAnswer}
use Rattle.conn_core.specs.declared.answers.FrameRefusal.{FrameRefusal}
use Rattle.conn_core.specs.declared.answers.FrameRefusal.TheVariants as frames
use Rattle.conn_core.specs.declared.answers.LeaseRefusal.{LeaseRefusal}
use Rattle.conn_core.specs.declared.answers.LeaseRefusal.TheVariants as lease_refusals
use Rattle.conn_core.specs.declared.answers.SendRefusal.{SendRefusal}
use Rattle.conn_core.specs.declared.answers.SendRefusal.TheVariants as sends
use Rattle.conn_core.specs.declared.answers.Sending.{Sending}
use Rattle.conn_core.specs.declared.answers.SubmitRefusal.{SubmitRefusal}
use Rattle.conn_core.specs.declared.answers.SubmitRefusal.TheVariants as submits
use Rattle.conn_core.specs.declared.answers.Ticked.{Ticked}
use Rattle.conn_core.specs.declared.entries.Answer.TheVariants as answers
use Rattle.conn_core.specs.declared.entries.Entry.{Entry}
use Rattle.conn_core.specs.declared.entries.Event.TheVariants as events
use Rattle.conn_core.specs.declared.kept.Kept.{Kept}
use Rattle.conn_core.specs.declared.settings.Key.{Key}
use Rattle.conn_core.proofs.CauseLemmas.{ask_cause, cancel_cause, cancel_live, collect_cause, poll_cause, poll_told, release_cause, send_cause, submit_cause, waits_cause}
use Rattle.conn_core.proofs.DoesLemmas.{quiet_nothing, tick_cases}
use Rattle.conn_core.proofs.EndLemmas.{live_found}
use Rattle.conn_core.proofs.NeedStates.{live_some}
use Rattle.conn_core.proofs.PromiseLemmas.{acts_by, acts_or, closed_as, closed_none, given_answer, given_refused, goes_by, grown_grows, none_closes, seen, shut, unchanged_by}
use Rattle.conn_core.proofs.StandLemmas.{counted_stands}
use Rattle.conn_core.proofs.EntryLemmas.{entry_law}
use Rattle.conn_core.proofs.RequestLemmas.{RepliesFit, request_law, row_law, shaped_outcome}
use Rattle.conn_core.proofs.SendingLemmas.{carried_sending}
use Rattle.conn_core.proofs.SoundLemmas.{state_short}
use Rattle.conn_core.proofs.StepLaws.{table_law}

-- ---- leases

leases_in : (c : Connection) (kept : Kept) → IsState c kept → IsLeaseTable (table_of c kept.journal.items).leases
leases_in c kept state = let P : LeaseTable → Type 0 = IsLeaseTable in subst P state.stands.leases state.kept.leases

pub asks_lease : {W : Type 0} (meaning : W → WireMeaning) (key : Key W) (old new : Kept) (actor now : ℕ) (result : Result LeaseAnswer AskRefusal) → IsState (connection_of meaning key) old → DoesOrNoMemory asks.NoMemory (connection_of meaning key) actor (events.AskLease now) (answer_of (ask_lease (table_of (connection_of meaning key) old.journal.items) actor now)) old new result → AsksLease meaning actor now (seen key old) (seen key new) result
asks_lease meaning key old new actor now result state d =
    let c = connection_of meaning key in
    let t = table_of c old.journal.items in
    let wanted = answer_of (ask_lease t actor now) in
    let table = leases_in c old state in
    record {
      acts = acts_or asks.NoMemory meaning key old new actor (events.AskLease now) wanted result d;
      unchanged = unchanged_by key old new result d.unchanged;
      closed = λ reason is. (closed_as c old state reason).0 (ask_cause t actor now (asks.Closed reason) (given_refused asks.NoMemory (asks.Closed reason) result wanted (λ e. cc) d.answer is));
      once_closed = λ reason w.
          let P : Result LeaseAnswer AskRefusal → Type 0 = IsGivenOrNoMemory asks.NoMemory result in
          subst P (shut asks.Closed t.closed _ reason ((closed_as c old state reason).1 w)) d.answer;
      waiting = λ lease place is. waits_cause t actor now lease place table (given_answer asks.NoMemory (lease_answers.Waiting lease place) result wanted d.answer is);
      queue_full = λ is.
          let full = ask_cause t actor now asks.QueueFull (given_refused asks.NoMemory asks.QueueFull result wanted (λ e. cc) d.answer is) in
          let few = table.waiting in
          omega arith;
    }

pub polls_lease : {W : Type 0} (meaning : W → WireMeaning) (key : Key W) (kept : Kept) (actor number : ℕ) (result : Result LeaseState LeaseRefusal) → IsState (connection_of meaning key) kept → result ≡ poll_answer actor number kept.table.closed kept.table.leases → PollsLease meaning actor number (seen key kept) result
polls_lease meaning key kept actor number result state told =
    let c = connection_of meaning key in
    let t = table_of c kept.journal.items in
    let is : result ≡ poll_answer actor number t.closed t.leases = told ∙ ap (λ o. poll_answer actor number o kept.table.leases) state.stands.closed ∙ ap (poll_answer actor number t.closed) state.stands.leases in
    record {
      told = λ found e. poll_told t.leases actor number t.closed found (sym is ∙ e);
      closed = λ reason. (
        λ e. (closed_as c kept state reason).0 (poll_cause t.leases actor number t.closed (lease_refusals.Closed reason) (sym is ∙ e)),
        λ w. is ∙ ap (λ o. poll_answer actor number o t.leases) ((closed_as c kept state reason).1 w),
      );
      no_lease = λ e.
          let cause = poll_cause t.leases actor number t.closed lease_refusals.NoLease (sym is ∙ e) in
          (cause.1, none_closes kept.journal.items kept.table.closed state.closes (state.stands.closed ∙ cause.0));
    }

pub releases_lease : {W : Type 0} (meaning : W → WireMeaning) (key : Key W) (old new : Kept) (actor number now : ℕ) (result : Result (Unit {0}) LeaseRefusal) → IsState (connection_of meaning key) old → Does (connection_of meaning key) actor (events.Release number now) (answer_of (release (table_of (connection_of meaning key) old.journal.items) actor number now)) old new result → ReleasesLease meaning actor number now (seen key old) (seen key new) result
releases_lease meaning key old new actor number now result state d =
    let c = connection_of meaning key in
    let t = table_of c old.journal.items in
    record {
      acts = acts_by meaning key old new actor (events.Release number now) _ result d;
      unchanged = unchanged_by key old new result d.unchanged;
      closed = λ reason. (
        λ e. (closed_as c old state reason).0 (release_cause t actor number now (lease_refusals.Closed reason) (sym d.answer ∙ e)),
        λ w. d.answer ∙ shut lease_refusals.Closed t.closed _ reason ((closed_as c old state reason).1 w),
      );
      no_lease = λ e. (release_cause t actor number now lease_refusals.NoLease (sym d.answer ∙ e)).1;
    }

-- ---- requests

accepted_shut : (wire : WireMeaning) (t : Table) (q : Request) (reason : Reason) → t.closed ≡ Some reason → accepted_of (answer_of (submit wire t q)) ≡ Err (submits.Closed reason)
accepted_shut wire t q reason is = ap accepted_of (shut submits.Closed t.closed _ reason is)

pub submits_request : {W : Type 0} (meaning : W → WireMeaning) (key : Key W) (old new : Kept) (q : Request) (result : Result Accepted SubmitRefusal) → IsState (connection_of meaning key) old → DoesOrNoMemory submits.NoMemory (connection_of meaning key) q.actor (events.Submit q.lease q.ask q.timeout q.moment) (accepted_of (answer_of (submit (meaning key.wire) (table_of (connection_of meaning key) old.journal.items) q))) old new result → Submits meaning q (seen key old) (seen key new) result
submits_request meaning key old new q result state d =
    let c = connection_of meaning key in
    let t = table_of c old.journal.items in
    let wanted = accepted_of (answer_of (submit (meaning key.wire) t q)) in
    record {
      acts = acts_or submits.NoMemory meaning key old new q.actor (events.Submit q.lease q.ask q.timeout q.moment) wanted result d;
      unchanged = unchanged_by key old new result d.unchanged;
      closed = λ reason is. (closed_as c old state reason).0 (submit_cause c.wire t q (submits.Closed reason) (given_refused submits.NoMemory (submits.Closed reason) result wanted (λ e. cc) d.answer is));
      once_closed = λ reason w.
          let P : Result Accepted SubmitRefusal → Type 0 = IsGivenOrNoMemory submits.NoMemory result in
          subst P (accepted_shut c.wire t q reason ((closed_as c old state reason).1 w)) d.answer;
      no_lease = λ is. submit_cause c.wire t q submits.NoLease (given_refused submits.NoMemory submits.NoLease result wanted (λ e. cc) d.answer is);
      table_full = λ is. submit_cause c.wire t q submits.TableFull (given_refused submits.NoMemory submits.TableFull result wanted (λ e. cc) d.answer is);
      unwritable = λ entry why is. submit_cause c.wire t q (submits.Unwritable entry why) (given_refused submits.NoMemory (submits.Unwritable entry why) result wanted (λ e. cc) d.answer is);
      too_large = λ size limit is. submit_cause c.wire t q (submits.TooLarge size limit) (given_refused submits.NoMemory (submits.TooLarge size limit) result wanted (λ e. cc) d.answer is);
      no_reference = λ is. submit_cause c.wire t q submits.NoReference (given_refused submits.NoMemory submits.NoReference result wanted (λ e. cc) d.answer is);
    }

frame_shut : (wire : WireMeaning) (t : Table) (bytes : List ℕ) (reason : Reason) (closed : Option Reason) (p : Table × FrameAnswer) → answer_of (when_open frames.Closed closed (Ok p)) ≡ Err (frames.Closed reason) → closed ≡ Some reason
frame_shut wire t bytes reason None p is = cc
frame_shut wire t bytes reason (Some other) p is = cc

pub applies_frame : {W : Type 0} (meaning : W → WireMeaning) (key : Key W) (old new : Kept) (actor : ℕ) (bytes : List ℕ) (result : Result FrameAnswer FrameRefusal) → IsState (connection_of meaning key) old → DoesOrNoMemory frames.NoMemory (connection_of meaning key) actor (events.Frame bytes) (answer_of (apply_frame (meaning key.wire) (table_of (connection_of meaning key) old.journal.items) bytes)) old new result → AppliesFrame meaning actor bytes (seen key old) (seen key new) result
applies_frame meaning key old new actor bytes result state d =
    let c = connection_of meaning key in
    let t = table_of c old.journal.items in
    let wanted = answer_of (apply_frame c.wire t bytes) in
    record {
      acts = acts_or frames.NoMemory meaning key old new actor (events.Frame bytes) wanted result d;
      unchanged = unchanged_by key old new result d.unchanged;
      closed = λ reason is. (closed_as c old state reason).0 (frame_shut c.wire t bytes reason t.closed (received c.wire t bytes (c.wire.reading_of bytes)) (given_refused frames.NoMemory (frames.Closed reason) result wanted (λ e. cc) d.answer is));
      once_closed = λ reason w.
          let P : Result FrameAnswer FrameRefusal → Type 0 = IsGivenOrNoMemory frames.NoMemory result in
          subst P (shut frames.Closed t.closed _ reason ((closed_as c old state reason).1 w)) d.answer;
    }

pub takes_send : {W : Type 0} (meaning : W → WireMeaning) (key : Key W) (old new : Kept) (actor : ℕ) (result : Result Sending SendRefusal) → IsState (connection_of meaning key) old → count_by is_sent (table_of (connection_of meaning key) old.journal.items).requests.rows ≤ (table_of (connection_of meaning key) old.journal.items).requests.window → Does (connection_of meaning key) actor events.TakeSend (answer_of (take_send (table_of (connection_of meaning key) old.journal.items))) old new result → TakesSend meaning actor (seen key old) (seen key new) result
takes_send meaning key old new actor result state few d =
    let c = connection_of meaning key in
    let t = table_of c old.journal.items in
    record {
      acts = acts_by meaning key old new actor events.TakeSend _ result d;
      unchanged = unchanged_by key old new result d.unchanged;
      closed = λ reason. (
        λ e. (closed_as c old state reason).0 (send_cause t (sends.Closed reason) few (sym d.answer ∙ e)),
        λ w. d.answer ∙ shut sends.Closed t.closed _ reason ((closed_as c old state reason).1 w),
      );
      nothing = λ e. send_cause t sends.Nothing few (sym d.answer ∙ e);
      sending = carried_sending c old result state d.answer;
    }

-- ---- a closed connection is quiet

quiet_live : (c : Connection) (kept : Kept) (reason : Reason) → IsState c kept → ClosesWith kept.journal.items reason → count_where any_row (table_of c kept.journal.items).requests ≡ 0
quiet_live c kept reason state w =
    let t = table_of c kept.journal.items in
    let quiet = state.kept.quiet reason ((state.closes reason).1 w) in
    sym (ap (count_where any_row) state.stands.requests ∙ plain_count_where end_kind any_row any_row t.requests (λ row. refl)) ∙ quiet.live

not_live : (c : Connection) (kept : Kept) (actor id : ℕ) (reason : Reason) → IsState c kept → ClosesWith kept.journal.items reason → HasLiveRow (table_of c kept.journal.items) actor id → ⊥
not_live c kept actor id reason state w live =
    let t = table_of c kept.journal.items in
    let none = quiet_live c kept reason state w in
    let found = live_found actor id t.requests live.phase live.found live.live in
    let some = live_some id t.requests (let o : Outcome = record { kind = kinds.Cancelled; values = [] } in o) found in
    omega arith

pub cancels_request : {W : Type 0} (meaning : W → WireMeaning) (key : Key W) (old new : Kept) (actor id : ℕ) (result : Result (Unit {0}) CancelRefusal) → IsState (connection_of meaning key) old → Does (connection_of meaning key) actor (events.Cancel id) (answer_of (cancel (table_of (connection_of meaning key) old.journal.items) actor id)) old new result → Cancels meaning actor id (seen key old) (seen key new) result
cancels_request meaning key old new actor id result state d =
    let c = connection_of meaning key in
    let t = table_of c old.journal.items in
    record {
      acts = acts_by meaning key old new actor (events.Cancel id) _ result d;
      unchanged = unchanged_by key old new result d.unchanged;
      no_request = λ e. cancel_cause t actor id cancels.NoRequest (sym d.answer ∙ e);
      already_ended = λ kind e. cancel_cause t actor id (cancels.AlreadyEnded kind) (sym d.answer ∙ e);
      once_closed = λ reason w e. not_live c old actor id reason state w (cancel_live t actor id (sym d.answer ∙ e));
    }

pub collects_request : {W : Type 0} (meaning : W → WireMeaning) (key : Key W) (old new : Kept) (actor id : ℕ) (result : Result Outcome TakeRefusal) → RepliesFit (meaning key.wire) → IsState (connection_of meaning key) old → Does (connection_of meaning key) actor (events.Collect id) (answer_of (collect (table_of (connection_of meaning key) old.journal.items) actor id)) old new result → Collects meaning actor id (seen key old) (seen key new) result
collects_request meaning key old new actor id result fits state d =
    let c = connection_of meaning key in
    let t = table_of c old.journal.items in
    record {
      acts = acts_by meaning key old new actor (events.Collect id) _ result d;
      unchanged = unchanged_by key old new result d.unchanged;
      no_request = λ e. collect_cause t actor id take_refusals.NoRequest (sym d.answer ∙ e);
      pending = λ e. collect_cause t actor id take_refusals.Pending (sym d.answer ∙ e);
      once_closed = λ reason w e. not_live c old actor id reason state w (collect_cause t actor id take_refusals.Pending (sym d.answer ∙ e));
      collected = shaped_outcome c old actor id result fits state d.answer;
    }

-- ---- time, and the end

close_cause : (reason : Reason) (closed : Option Reason) (p : Table × Unit {0}) (stands : Reason) → answer_of (when_open (λ r. r) closed (Ok p)) ≡ Err stands → closed ≡ Some stands
close_cause reason None p stands is = cc
close_cause reason (Some other) p stands is = ap Some (let same : other ≡ stands = cc in same)

closes_as : (c : Connection) (old : Kept) (reason : Reason) (result : Result (Unit {0}) Reason) → IsState c old → result ≡ answer_of (close (table_of c old.journal.items) reason) → (stands : Reason) → (result ≡ Err stands) ↔ ClosesWith old.journal.items stands
closes_as c old reason result state answer stands =
    let t = table_of c old.journal.items in (
      λ e. (closed_as c old state stands).0 (close_cause reason t.closed _ stands (sym answer ∙ e)),
      λ w. answer ∙ shut (λ r. r) t.closed _ stands ((closed_as c old state stands).1 w),
    )

pub closes_connection : {W : Type 0} (meaning : W → WireMeaning) (key : Key W) (old new : Kept) (actor : ℕ) (reason : Reason) (result : Result (Unit {0}) Reason) → IsState (connection_of meaning key) old → Does (connection_of meaning key) actor (events.Close reason) (answer_of (close (table_of (connection_of meaning key) old.journal.items) reason)) old new result → Closes meaning actor reason (seen key old) (seen key new) result
closes_connection meaning key old new actor reason result state d = record {
  acts = acts_by meaning key old new actor (events.Close reason) _ result d;
  unchanged = unchanged_by key old new result d.unchanged;
  closed = closes_as (connection_of meaning key) old reason result state d.answer;
}

pub shuts_down : {W : Type 0} (meaning : W → WireMeaning) (key : Key W) (old new : Kept) (actor : ℕ) (result : Result (Unit {0}) Reason) → IsState (connection_of meaning key) old → Does (connection_of meaning key) actor events.Shutdown (answer_of (close (table_of (connection_of meaning key) old.journal.items) reasons.Asked)) old new result → ShutsDown meaning actor (seen key old) (seen key new) result
shuts_down meaning key old new actor result state d = record {
  acts = acts_by meaning key old new actor events.Shutdown _ result d;
  unchanged = unchanged_by key old new result d.unchanged;
  closed = closes_as (connection_of meaning key) old reasons.Asked result state d.answer;
}

-- a closed connection has nothing that is due
quiet_tick : (c : Connection) (old new : Kept) (actor now : ℕ) (reason : Reason) (result : Ticked) → IsState c old → ClosesWith old.journal.items reason → DoesTick c actor now old new result → new.journal.items ≡ old.journal.items
quiet_tick c old new actor now reason result state w d =
    let t = table_of c old.journal.items in
    let nothing = quiet_nothing c old now reason state ((state.closes reason).1 w) in
    let same = counted_stands old.journal.items old.table t now state.stands in
    let none : tick t now ≡ None = tick_cases t now true (ap is_nothing (sym same) ∙ nothing) in
    d.journal ∙ ap (grown c old.journal.items actor (events.Tick now)) (ap (taken_some (λ (n : Ticked). answers.Ticked n.rows n.leases n.waiters)) none)

pub ticks_at : {W : Type 0} (meaning : W → WireMeaning) (key : Key W) (old new : Kept) (actor now : ℕ) (result : Ticked) → IsState (connection_of meaning key) old → DoesTick (connection_of meaning key) actor now old new result → Ticks meaning actor now (seen key old) (seen key new) result
ticks_at {W} meaning key old new actor now result state d =
    let c = connection_of meaning key in
    let t = table_of c old.journal.items in
    let state_with : List Entry → State W = λ j. record { key = key; journal = j } in
    record {
      answer = d.answer;
      state = ap state_with d.journal;
      goes_on = goes_by meaning key old new actor (grown_grows c old.journal.items new.journal.items actor (events.Tick now) _ d.journal) d.state;
      once_closed = λ reason w. ap state_with (quiet_tick c old new actor now reason result state w d);
    }

-- ---- the journal

pub is_journal_of : {W : Type 0} (meaning : W → WireMeaning) (key : Key W) (kept : Kept) → IsState (connection_of meaning key) kept → IsJournalOf meaning (seen key kept)
is_journal_of meaning key kept state = record {
  settings = state.settings;
  legal = state.legal;
  under_limit = λ none. state.below (closed_none kept.journal.items kept.table.closed state.closes none);
  within = let most = state.within in omega arith;
  short = state_short (connection_of meaning key) kept.journal.items kept.table (vec_capacity kept.journal) state;
  admitted = state.admitted;
  carried = state.carried;
  by_places = table_law (connection_of meaning key) kept.journal.items state.legal;
  by_entries = entry_law (connection_of meaning key) kept.journal.items state.legal;
  by_requests = request_law (connection_of meaning key) kept.journal.items state.settings state.legal;
  by_rows = row_law (connection_of meaning key) kept state;
}
