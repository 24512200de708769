-- What contracts see of a connection's state, and what each call does to it.
use Rattle.std.specs.Prelude.{◌≡◌, ◌⊎◌, ℕ, ◌+◌, ◌<◌, ◌^◌, List, [], ◌∷◌, ◌++◌, length, Option, Some, None, Result, Err}
use Rattle.txn_core.specs.RowSteps.{IsGivenOrNoMemory}
use Rattle.wire_frames.specs.WireMeaning.{WireMeaning}
use Rattle.conn_core.specs.Journals.{Legal, table_of, turn_of, worn_entry}
use Rattle.conn_core.specs.Steps.{step}
use Rattle.conn_core.specs.Tables.{Connection, Table}
use Rattle.conn_core.specs.declared.entries.Answer.{Answer}
use Rattle.conn_core.specs.declared.entries.Entry.{Entry}
use Rattle.conn_core.specs.declared.entries.Event.{Event}
use Rattle.conn_core.specs.declared.settings.Key.{Key}

-- a connection's state: its key, and all that happened
pub record State (W : Type 0) : Type 0 where
  pub key : Key W
  pub journal : List Entry

-- the connection of a key, by what its wire means
abbrev pub connection_of : {W : Type 0} → (W → WireMeaning) → Key W → Connection
connection_of meaning key = record { wire = meaning key.wire; settings = key.settings }

-- the table that a state's journal leads to
abbrev pub table_in : {W : Type 0} → (W → WireMeaning) → State W → Table
table_in meaning state = table_of (connection_of meaning state.key) state.journal

abbrev pub grown : Connection → List Entry → (actor : ℕ) → Event → Option (Table × Answer) → List Entry
grown c journal actor event None = journal
grown c journal actor event (Some p) =
    journal ++ turn_of c.settings (length journal + 1) p.0 (record { actor = actor; event = event; answer = p.1 })

-- the state after an event: the old one where the event is refused, else with its entry, and the close by a full journal where
-- it must follow
abbrev pub state_after : {W : Type 0} → (W → WireMeaning) → State W → (actor : ℕ) → Event → State W
state_after meaning state actor event =
    let c = connection_of meaning state.key in
    record { key = state.key; journal = grown c state.journal actor event (step c (table_of c state.journal) actor event) }

-- the journal stays, or has one entry more, of this actor, or that entry and a close by a full journal, of this actor too
abbrev pub Grows : (actor : ℕ) → (old new : List Entry) → Type 0
Grows actor old new =
    (new ≡ old)
    ⊎ ((e : Entry) × (e.actor ≡ actor) × (new ≡ old ++ e ∷ []))
    ⊎ ((e : Entry) × (e.actor ≡ actor) × (new ≡ old ++ e ∷ worn_entry actor ∷ []))

-- a state goes on to another by a call of an actor
pub record GoesOn {W : Type 0} (meaning : W → WireMeaning) (actor : ℕ) (old new : State W) : Type 0 where
  -- The wire and the settings stay.
  pub key : new.key ≡ old.key
  -- The journal goes on by one turn of the actor at most.
  pub grows : Grows actor old.journal new.journal
  -- The journal is legal, and its length fits a number of the machine.
  pub legal : Legal (connection_of meaning new.key) new.journal
  pub short : length new.journal < 2 ^ 63

-- a call of an actor answers what the table gives for its event, and leaves the state after that event
pub record Acts {W A R : Type 0} (meaning : W → WireMeaning) (actor : ℕ) (event : Event) (wanted : Result A R) (old new : State W) (result : Result A R) : Type 0 where
  pub answer : result ≡ wanted
  pub state : new ≡ state_after meaning old actor event
  pub goes_on : GoesOn meaning actor old new

-- the same of a call that may find no memory, and then leaves the state as it was
pub record ActsOrNoMemory {W A R : Type 0} (no_memory : R) (meaning : W → WireMeaning) (actor : ℕ) (event : Event) (wanted : Result A R) (old new : State W) (result : Result A R) : Type 0 where
  pub answer : IsGivenOrNoMemory no_memory result wanted
  pub state : ((result ≡ Err no_memory) × (new ≡ old)) ⊎ (new ≡ state_after meaning old actor event)
  pub goes_on : GoesOn meaning actor old new
