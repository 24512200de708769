-- A call on the parts that are kept does what the table's step says, for any journal that they stand for.
use Rattle.std.specs.Prelude.{◌≡◌, ℕ, ◌+◌, List, [], ◌∷◌, ◌++◌, Result, IfOk, OnOk}
use Rattle.txn_core.specs.RowSteps.{IsGivenOrNoMemory, answer_of, awaiting, table_or}
use Rattle.node_tree.specs.declared.readings.Reading.{Reading}
use Rattle.wire_frames.specs.WireMeaning.{WireMeaning}
use Rattle.conn_core.specs.KeptStates.{IsKept}
use Rattle.conn_core.specs.KeptTables.{Stands}
use Rattle.conn_core.specs.Requests.{submitted_entry}
use Rattle.conn_core.specs.Steps.{Request, accepted_of, arrived, started}
use Rattle.conn_core.specs.Tables.{Table, at_moment}
use Rattle.conn_core.specs.declared.answers.Accepted.{Accepted}
use Rattle.conn_core.specs.declared.answers.FrameAnswer.{FrameAnswer}
use Rattle.conn_core.specs.declared.answers.SubmitRefusal.{SubmitRefusal}
use Rattle.conn_core.specs.declared.answers.SubmitRefusal.TheVariants as submit_refusals
use Rattle.conn_core.specs.declared.entries.Entry.{Entry}
use Rattle.conn_core.specs.declared.settings.Settings.{Settings}
use Rattle.conn_core.specs.declared.table.KeptTable.{KeptTable}

-- the answer is the step's, and what is kept stands for the table after it
pub record Moves {A R : Type 0} (journal : List Entry) (new : KeptTable) (t : Table) (wanted : Result (Table × A) R) (result : Result A R) : Type 0 where
  pub answer : result ≡ answer_of wanted
  pub stands : Stands journal new (table_or t wanted)

-- the same of a call that may find no memory
pub record MovesOrNoMemory {A R : Type 0} (no_memory : R) (journal : List Entry) (new : KeptTable) (t : Table) (wanted : Result (Table × A) R) (result : Result A R) : Type 0 where
  pub answer : IsGivenOrNoMemory no_memory result (answer_of wanted)
  pub stands : OnOk result (Stands journal new (table_or t wanted))

-- what holds of the parts that are kept holds again, one entry later
abbrev pub KeepsOn : KeptTable → KeptTable → Type 0
KeepsOn old new = (s : Settings) (entries : ℕ) → IsKept s entries old → IsKept s (entries + 1) new

-- a frame that was read did what its reading says
pub record Arrives (wire : WireMeaning) (journal : List Entry) (new : KeptTable) (t : Table) (reference : ℕ) (reading : Reading) (answer : FrameAnswer) : Type 0 where
  pub answer_is : answer ≡ (arrived wire reference reading t (awaiting reference t.requests)).1
  pub stands : Stands journal new (arrived wire reference reading t (awaiting reference t.requests)).0

-- a request was started: what is kept stands for the table with it, once its entry is written down
pub record Starts (journal : List Entry) (new : KeptTable) (t : Table) (q : Request) (frame : List ℕ) (result : Result Accepted SubmitRefusal) : Type 0 where
  pub answer : IsGivenOrNoMemory submit_refusals.NoMemory result (accepted_of (answer_of (started q frame (at_moment q.moment t))))
  pub stands : IfOk result (λ accepted. Stands (journal ++ submitted_entry q accepted frame ∷ []) new (table_or t (started q frame (at_moment q.moment t))))
