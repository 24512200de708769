-- What each call of a connection promises, one record a call: the state before it, the state after it, and its result. A record
-- begins with what the table gives for the call's event, and says then why each answer comes.
use Rattle.std.specs.Prelude.{◌≡◌, ◌↔◌, ℕ, ◌+◌, ◌<◌, ◌≤◌, ◌^◌, false, List, length, [], Option, Some, None, Result, Ok, Err, IfOk, OnErr}
use Rattle.lease_core.specs.LeaseTables.{state_of, waiters_limit}
use Rattle.lease_core.specs.declared.answers.LeaseAnswer.{LeaseAnswer}
use Rattle.lease_core.specs.declared.answers.LeaseAnswer.TheVariants as lease_answers
use Rattle.lease_core.specs.declared.answers.LeaseState.{LeaseState}
use Rattle.txn_core.specs.RowSteps.{IsGivenOrNoMemory, answer_of}
use Rattle.txn_core.specs.RowTables.{rows_limit}
use Rattle.txn_core.specs.declared.phases.TakeRefusal.{TakeRefusal}
use Rattle.txn_core.specs.declared.phases.TakeRefusal.TheVariants as take_refusals
use Rattle.node_tree.specs.declared.faults.WriteWhy.{WriteWhy}
use Rattle.wire_frames.specs.WireMeaning.{WireMeaning}
use Rattle.wire_frames.specs.declared.ends.EndKind.{EndKind}
use Rattle.wire_frames.specs.declared.ends.Outcome.{Outcome}
use Rattle.wire_frames.specs.declared.ends.Reason.{Reason}
use Rattle.wire_frames.specs.declared.ends.Reason.TheVariants as reasons
use Rattle.conn_core.specs.Causes.{CannotSend, ClosesWith, HasEndedRow, HasLiveRow, HasNoLease, HasNoRow, IsTooLarge, IsUnwritable, MustWait, NoneCloses}
use Rattle.conn_core.specs.EntryLaw.{EntryLaw}
use Rattle.conn_core.specs.HandedOut.{IsCarriedSending, IsShapedOutcome}
use Rattle.conn_core.specs.Journals.{AreAdmitted, AreCarried, Legal}
use Rattle.conn_core.specs.RequestLaw.{RequestLaw}
use Rattle.conn_core.specs.RowLaw.{RowLaw}
use Rattle.conn_core.specs.States.{Acts, ActsOrNoMemory, GoesOn, State, connection_of, state_after, table_in}
use Rattle.conn_core.specs.Steps.{Request, accepted_of, apply_frame, ask_lease, cancel, close, collect, release, submit, take_send, tick}
use Rattle.conn_core.specs.TableLaw.{TableLaw}
use Rattle.conn_core.specs.Tables.{IsSettings, Table, holds}
use Rattle.conn_core.specs.declared.answers.Accepted.{Accepted}
use Rattle.conn_core.specs.declared.answers.AskRefusal.{AskRefusal}
use Rattle.conn_core.specs.declared.answers.AskRefusal.TheVariants as ask_refusals
use Rattle.conn_core.specs.declared.answers.CancelRefusal.{CancelRefusal}
use Rattle.conn_core.specs.declared.answers.CancelRefusal.TheVariants as cancel_refusals
use Rattle.conn_core.specs.declared.answers.FrameAnswer.{FrameAnswer}
use Rattle.conn_core.specs.declared.answers.FrameRefusal.{FrameRefusal}
use Rattle.conn_core.specs.declared.answers.FrameRefusal.TheVariants as frame_refusals
use Rattle.conn_core.specs.declared.answers.LeaseRefusal.{LeaseRefusal}
use Rattle.conn_core.specs.declared.answers.LeaseRefusal.TheVariants as lease_refusals
use Rattle.conn_core.specs.declared.answers.SendRefusal.{SendRefusal}
use Rattle.conn_core.specs.declared.answers.SendRefusal.TheVariants as send_refusals
use Rattle.conn_core.specs.declared.answers.Sending.{Sending}
use Rattle.conn_core.specs.declared.answers.SubmitRefusal.{SubmitRefusal}
use Rattle.conn_core.specs.declared.answers.SubmitRefusal.TheVariants as submit_refusals
use Rattle.conn_core.specs.declared.answers.Ticked.{Ticked}
use Rattle.conn_core.specs.declared.entries.Event.TheVariants as events

-- where nothing is due all counts of a tick are 0 and nothing changes
abbrev pub tick_answer : Option (Table × Ticked) → Ticked
tick_answer (Some p) = p.1
tick_answer None = record { rows = 0; leases = 0; waiters = 0 }

module _ {W : Type 0} (meaning : W → WireMeaning) where
  -- ---- leases

  pub record AsksLease (actor now : ℕ) (old new : State W) (result : Result LeaseAnswer AskRefusal) : Type 0 where
    pub acts : ActsOrNoMemory ask_refusals.NoMemory meaning actor (events.AskLease now) (answer_of (ask_lease (table_in meaning old) actor now)) old new result
    pub unchanged : OnErr result (new ≡ old)
    pub closed : (reason : Reason) → result ≡ Err (ask_refusals.Closed reason) → ClosesWith old.journal reason
    pub once_closed : (reason : Reason) → ClosesWith old.journal reason → IsGivenOrNoMemory ask_refusals.NoMemory result (Err (ask_refusals.Closed reason))
    pub waiting : (lease place : ℕ) → result ≡ Ok (lease_answers.Waiting lease place)
        → MustWait (table_in meaning old) × (place ≡ length (table_in meaning old).leases.waiting)
    pub queue_full : result ≡ Err ask_refusals.QueueFull → length (table_in meaning old).leases.waiting ≡ waiters_limit

  pub record PollsLease (actor number : ℕ) (state : State W) (result : Result LeaseState LeaseRefusal) : Type 0 where
    pub told : (found : LeaseState) → result ≡ Ok found → state_of (table_in meaning state).leases actor number ≡ Some found
    pub closed : (reason : Reason) → (result ≡ Err (lease_refusals.Closed reason)) ↔ ClosesWith state.journal reason
    pub no_lease : result ≡ Err lease_refusals.NoLease → HasNoLease (table_in meaning state) actor number × NoneCloses state.journal

  pub record ReleasesLease (actor number now : ℕ) (old new : State W) (result : Result (Unit {0}) LeaseRefusal) : Type 0 where
    pub acts : Acts meaning actor (events.Release number now) (answer_of (release (table_in meaning old) actor number now)) old new result
    pub unchanged : OnErr result (new ≡ old)
    pub closed : (reason : Reason) → (result ≡ Err (lease_refusals.Closed reason)) ↔ ClosesWith old.journal reason
    pub no_lease : result ≡ Err lease_refusals.NoLease → HasNoLease (table_in meaning old) actor number

  -- ---- requests

  pub record Submits (q : Request) (old new : State W) (result : Result Accepted SubmitRefusal) : Type 0 where
    pub acts : ActsOrNoMemory submit_refusals.NoMemory meaning q.actor (events.Submit q.lease q.ask q.timeout q.moment)
        (accepted_of (answer_of (submit (meaning old.key.wire) (table_in meaning old) q))) old new result
    pub unchanged : OnErr result (new ≡ old)
    pub closed : (reason : Reason) → result ≡ Err (submit_refusals.Closed reason) → ClosesWith old.journal reason
    pub once_closed : (reason : Reason) → ClosesWith old.journal reason → IsGivenOrNoMemory submit_refusals.NoMemory result (Err (submit_refusals.Closed reason))
    pub no_lease : result ≡ Err submit_refusals.NoLease → holds q.actor q.lease (table_in meaning old) ≡ false
    pub table_full : result ≡ Err submit_refusals.TableFull → length (table_in meaning old).requests.rows ≡ rows_limit
    pub unwritable : (entry : ℕ) (why : WriteWhy) → result ≡ Err (submit_refusals.Unwritable entry why)
        → IsUnwritable (meaning old.key.wire) (table_in meaning old) q.ask entry why
    pub too_large : (size limit : ℕ) → result ≡ Err (submit_refusals.TooLarge size limit) → IsTooLarge (meaning old.key.wire) q.ask size limit
    pub no_reference : result ≡ Err submit_refusals.NoReference → (table_in meaning old).requests.free ≡ []

  pub record TakesSend (actor : ℕ) (old new : State W) (result : Result Sending SendRefusal) : Type 0 where
    pub acts : Acts meaning actor events.TakeSend (answer_of (take_send (table_in meaning old))) old new result
    pub unchanged : OnErr result (new ≡ old)
    pub closed : (reason : Reason) → (result ≡ Err (send_refusals.Closed reason)) ↔ ClosesWith old.journal reason
    pub nothing : result ≡ Err send_refusals.Nothing → CannotSend (table_in meaning old)
    -- It is a request of the journal, in the frame that carries its ask.
    pub sending : IfOk result (IsCarriedSending (connection_of meaning old.key) old.journal)

  pub record AppliesFrame (actor : ℕ) (bytes : List ℕ) (old new : State W) (result : Result FrameAnswer FrameRefusal) : Type 0 where
    pub acts : ActsOrNoMemory frame_refusals.NoMemory meaning actor (events.Frame bytes) (answer_of (apply_frame (meaning old.key.wire) (table_in meaning old) bytes)) old new result
    pub unchanged : OnErr result (new ≡ old)
    pub closed : (reason : Reason) → result ≡ Err (frame_refusals.Closed reason) → ClosesWith old.journal reason
    pub once_closed : (reason : Reason) → ClosesWith old.journal reason → IsGivenOrNoMemory frame_refusals.NoMemory result (Err (frame_refusals.Closed reason))

  pub record Cancels (actor id : ℕ) (old new : State W) (result : Result (Unit {0}) CancelRefusal) : Type 0 where
    pub acts : Acts meaning actor (events.Cancel id) (answer_of (cancel (table_in meaning old) actor id)) old new result
    pub unchanged : OnErr result (new ≡ old)
    pub no_request : result ≡ Err cancel_refusals.NoRequest → HasNoRow (table_in meaning old) actor id
    pub already_ended : (kind : EndKind) → result ≡ Err (cancel_refusals.AlreadyEnded kind) → HasEndedRow (table_in meaning old) actor id kind
    -- In a closed connection no request is live.
    pub once_closed : (reason : Reason) → ClosesWith old.journal reason → result ≡ Ok tt → ⊥

  pub record Collects (actor id : ℕ) (old new : State W) (result : Result Outcome TakeRefusal) : Type 0 where
    pub acts : Acts meaning actor (events.Collect id) (answer_of (collect (table_in meaning old) actor id)) old new result
    pub unchanged : OnErr result (new ≡ old)
    pub no_request : result ≡ Err take_refusals.NoRequest → HasNoRow (table_in meaning old) actor id
    pub pending : result ≡ Err take_refusals.Pending → HasLiveRow (table_in meaning old) actor id
    pub once_closed : (reason : Reason) → ClosesWith old.journal reason → result ≡ Err take_refusals.Pending → ⊥
    -- It is how the actor's request ended, by what the journal says.
    pub collected : IfOk result (IsShapedOutcome (connection_of meaning old.key) old.journal actor id)

  -- ---- time, and the end

  pub record Ticks (actor now : ℕ) (old new : State W) (result : Ticked) : Type 0 where
    pub answer : result ≡ tick_answer (tick (table_in meaning old) now)
    pub state : new ≡ state_after meaning old actor (events.Tick now)
    pub goes_on : GoesOn meaning actor old new
    pub once_closed : (reason : Reason) → ClosesWith old.journal reason → new ≡ old

  pub record Closes (actor : ℕ) (reason : Reason) (old new : State W) (result : Result (Unit {0}) Reason) : Type 0 where
    pub acts : Acts meaning actor (events.Close reason) (answer_of (close (table_in meaning old) reason)) old new result
    pub unchanged : OnErr result (new ≡ old)
    pub closed : (stands : Reason) → (result ≡ Err stands) ↔ ClosesWith old.journal stands

  pub record ShutsDown (actor : ℕ) (old new : State W) (result : Result (Unit {0}) Reason) : Type 0 where
    pub acts : Acts meaning actor events.Shutdown (answer_of (close (table_in meaning old) reasons.Asked)) old new result
    pub unchanged : OnErr result (new ≡ old)
    pub closed : (stands : Reason) → (result ≡ Err stands) ↔ ClosesWith old.journal stands

  -- ---- the journal

  -- what holds of every state's journal
  pub record IsJournalOf (state : State W) : Type 0 where
    pub settings : IsSettings state.key.settings
    pub legal : Legal (connection_of meaning state.key) state.journal
    -- While no entry closes it is below its limit; after that each kept row may still be collected.
    pub under_limit : NoneCloses state.journal → length state.journal < state.key.settings.journal
    pub within : length state.journal ≤ state.key.settings.journal + 1025
    pub short : length state.journal < 2 ^ 63
    -- Each request that was handed in is an admitted one, and each accepted one is carried by its frame.
    pub admitted : AreAdmitted (meaning state.key.wire) state.journal
    pub carried : AreCarried (connection_of meaning state.key) state.journal
    -- The table that it leads to, and each of its entries, say what its places say.
    pub by_places : TableLaw (connection_of meaning state.key) state.journal
    pub by_entries : EntryLaw (connection_of meaning state.key) state.journal
    pub by_requests : RequestLaw (connection_of meaning state.key) state.journal
    pub by_rows : RowLaw (connection_of meaning state.key) state.journal (table_in meaning state)
