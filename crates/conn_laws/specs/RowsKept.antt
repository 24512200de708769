-- Which requests have a row, and which were collected.
use Rattle.std.specs.Prelude.{◌≡◌, ℕ, true, List}
use Rattle.std.specs.List.{list_any}
use Rattle.txn_core.specs.RowTables.{has_id}
use Rattle.wire_frames.specs.declared.ends.EndKind.{EndKind}
use Rattle.conn_core.specs.Places.{Stands}
use Rattle.conn_core.specs.Tables.{Table}
use Rattle.conn_core.specs.declared.entries.Answer.TheVariants as answers
use Rattle.conn_core.specs.declared.entries.Entry.{Entry}
use Rattle.conn_core.specs.declared.entries.Event.TheVariants as events

-- some row of the table has the id
abbrev pub HasRow : Table → ℕ → Type 0
HasRow t id = list_any (has_id id) t.requests.rows ≡ true

-- the request with the id is collected at the place
pub record CollectedAt (journal : List Entry) (id k : ℕ) : Type 0 where
  pub actor : ℕ
  pub kind : EndKind
  pub stands : Stands journal k actor (events.Collect id) (answers.Collected kind)

abbrev pub WasCollected : List Entry → ℕ → Type 0
WasCollected journal id = (k : ℕ) × CollectedAt journal id k
