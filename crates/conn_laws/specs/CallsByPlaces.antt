-- What the calls of a connection answer, by places in its journal.
use Rattle.std.specs.Prelude.{◌≡◌, ◌⊎◌, ◌↔◌, ℕ, ◌+◌, Result, Ok, Err}
use Rattle.txn_core.specs.RowSteps.{IsGivenOrNoMemory}
use Rattle.txn_core.specs.declared.phases.TakeRefusal.{TakeRefusal}
use Rattle.txn_core.specs.declared.phases.TakeRefusal.TheVariants as take_refusals
use Rattle.wire_frames.specs.WireMeaning.{WireMeaning}
use Rattle.wire_frames.specs.declared.ends.EndKind.{EndKind}
use Rattle.wire_frames.specs.declared.ends.Outcome.{Outcome}
use Rattle.conn_core.specs.Ends.{IsEndPlace, IsOutcome}
use Rattle.conn_core.specs.Entries.{requests_in}
use Rattle.conn_core.specs.HistoryLaw.{HistoryLaw, IsUnended}
use Rattle.conn_core.specs.States.{State, connection_of}
use Rattle.conn_core.specs.Steps.{Request}
use Rattle.conn_core.specs.declared.answers.Accepted.{Accepted}
use Rattle.conn_core.specs.declared.answers.CancelRefusal.{CancelRefusal}
use Rattle.conn_core.specs.declared.answers.CancelRefusal.TheVariants as cancel_refusals
use Rattle.conn_core.specs.declared.answers.SubmitRefusal.{SubmitRefusal}
use Rattle.conn_core.specs.declared.answers.SubmitRefusal.TheVariants as submit_refusals
use Rattle.conn_laws.specs.Drawing.{AllTaken, IsFirstFree, PassesTests}
use Rattle.conn_laws.specs.HistoryTable.{HistoryTable}
use Rattle.conn_laws.specs.KeptRequests.{IsKept}
use Rattle.conn_laws.specs.OwnEnds.{OwnEnds}

module _ {W : Type 0} (meaning : W → WireMeaning) where
  -- a state's journal is one history
  pub record IsHistory (state : State W) : Type 0 where
    pub law : HistoryLaw (connection_of meaning state.key) state.journal
    pub own_ends : OwnEnds (connection_of meaning state.key) state.journal
    pub table : HistoryTable (connection_of meaning state.key) state.journal

  pub record SubmitsByPlaces (q : Request) (old : State W) (result : Result Accepted SubmitRefusal) : Type 0 where
    -- No reference is found where the request passes the tests before and all are taken, and nowhere else.
    pub no_reference : result ≡ Err submit_refusals.NoReference
        → PassesTests (connection_of meaning old.key) old.journal q 1 × AllTaken (connection_of meaning old.key) old.journal
    pub once_taken : PassesTests (connection_of meaning old.key) old.journal q 1
        → AllTaken (connection_of meaning old.key) old.journal
        → IsGivenOrNoMemory submit_refusals.NoMemory result (Err submit_refusals.NoReference)
    -- Else one reference is the first free one, and a request that passes the tests with it draws it.
    pub else_draws : AllTaken (connection_of meaning old.key) old.journal
        ⊎ ((reference : ℕ) × IsFirstFree (connection_of meaning old.key) old.journal reference
        × (PassesTests (connection_of meaning old.key) old.journal q reference
        → IsGivenOrNoMemory submit_refusals.NoMemory result (Ok (record { id = requests_in old.journal + 1; reference = reference }))))
    pub accepted : (a : Accepted) → result ≡ Ok a
        → PassesTests (connection_of meaning old.key) old.journal q a.reference
        × IsFirstFree (connection_of meaning old.key) old.journal a.reference
        × (a.id ≡ requests_in old.journal + 1)

  -- by the end place of the actor's request
  pub record CancelsByPlaces (actor id : ℕ) (old : State W) (result : Result (Unit {0}) CancelRefusal) : Type 0 where
    pub already_ended : (kind : EndKind) → (result ≡ Err (cancel_refusals.AlreadyEnded kind))
        ↔ ((kept : IsKept old.journal actor id) × (k : ℕ) × IsEndPlace (connection_of meaning old.key) old.journal id kept.request k kind)
    pub cancels : (result ≡ Ok tt) ↔ ((kept : IsKept old.journal actor id) × IsUnended (connection_of meaning old.key) old.journal id kept.request)
    pub no_request : (result ≡ Err cancel_refusals.NoRequest) ↔ ¬ IsKept old.journal actor id

  pub record CollectsByPlaces (actor id : ℕ) (old : State W) (result : Result Outcome TakeRefusal) : Type 0 where
    pub collected : (outcome : Outcome) → (result ≡ Ok outcome)
        ↔ ((kept : IsKept old.journal actor id) × (k : ℕ) × IsOutcome (connection_of meaning old.key) old.journal id kept.request k outcome)
    pub pending : (result ≡ Err take_refusals.Pending) ↔ ((kept : IsKept old.journal actor id) × IsUnended (connection_of meaning old.key) old.journal id kept.request)
    pub no_request : (result ≡ Err take_refusals.NoRequest) ↔ ¬ IsKept old.journal actor id
