-- What stands at a place of a journal, places counted from 0.
use Rattle.std.specs.Prelude.{◌≡◌, ℕ, List, Some, Ok}
use Rattle.std.specs.List.{slice_get}
use Rattle.node_tree.specs.declared.readings.Reading.{Reading}
use Rattle.wire_frames.specs.declared.asks.Ask.{Ask}
use Rattle.conn_core.specs.Tables.{Connection}
use Rattle.conn_core.specs.declared.entries.Answer.{Answer}
use Rattle.conn_core.specs.declared.entries.Answer.TheVariants as answers
use Rattle.conn_core.specs.declared.entries.Entry.{Entry}
use Rattle.conn_core.specs.declared.entries.Event.{Event}
use Rattle.conn_core.specs.declared.entries.Event.TheVariants as events

-- this event, by this actor and with this answer, stands at the place
abbrev pub Stands : List Entry → ℕ → ℕ → Event → Answer → Type 0
Stands journal k actor event answer = slice_get journal k ≡ Some (record { actor = actor; event = event; answer = answer })

-- a request that a Submit accepted under an id, with the place of that Submit
pub record Submitted (journal : List Entry) (id : ℕ) : Type 0 where
  pub place : ℕ
  pub actor : ℕ
  pub lease : ℕ
  pub ask : Ask
  pub timeout : ℕ
  pub now : ℕ
  pub reference : ℕ
  pub frame : List ℕ
  pub stands : Stands journal place actor (events.Submit lease ask timeout now) (answers.Accepted id reference frame)

-- the id's sending stands at the place
pub record SentAt (journal : List Entry) (id k : ℕ) : Type 0 where
  pub actor : ℕ
  pub stands : Stands journal k actor events.TakeSend (answers.Sent id)

-- a frame that can be read came at the place, with this reference and this answer
pub record FrameComes (c : Connection) (journal : List Entry) (k reference : ℕ) (answer : Answer) : Type 0 where
  pub actor : ℕ
  pub bytes : List ℕ
  pub reading : Reading
  pub stands : Stands journal k actor (events.Frame bytes) answer
  pub reads : c.wire.reading_of bytes ≡ Ok reading
  pub refers : c.wire.reference_of bytes ≡ reference
