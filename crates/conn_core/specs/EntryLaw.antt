-- What each entry of a legal journal says by the entries before it.
use Rattle.std.specs.Prelude.{◌≡◌, ℕ, ◌+◌, true, List, length, take, Some, Err}
use Rattle.std.specs.List.{list_any, slice_get}
use Rattle.lease_core.specs.LeaseTables.{is_lease_of}
use Rattle.wire_frames.specs.declared.asks.Ask.{Ask}
use Rattle.wire_frames.specs.declared.ends.FrameWhy.{FrameWhy}
use Rattle.conn_core.specs.Entries.{asks_in, frames_in, requests_in}
use Rattle.conn_core.specs.Journals.{table_of}
use Rattle.conn_core.specs.LeasePlaces.{held_after, leases_of}
use Rattle.conn_core.specs.Places.{FrameComes, Stands}
use Rattle.conn_core.specs.Steps.{step}
use Rattle.conn_core.specs.Tables.{Connection}
use Rattle.conn_core.specs.declared.entries.Answer.{Answer}
use Rattle.conn_core.specs.declared.entries.Answer.TheVariants as answers
use Rattle.conn_core.specs.declared.entries.Entry.{Entry}
use Rattle.conn_core.specs.declared.entries.Event.TheVariants as events

-- each entry is the step of its event on the table of the entries before it, with the step's answer, and leads to the table with it
abbrev pub AreSteps : Connection → List Entry → Type 0
AreSteps c journal = (k : ℕ) (e : Entry) → slice_get journal k ≡ Some e
    → step c (table_of c (take k journal)) e.actor e.event ≡ Some (table_of c (take (k + 1) journal), e.answer)

pub record EntryLaw (c : Connection) (journal : List Entry) : Type 0 where
  pub steps : AreSteps c journal
  -- Leases are numbered from 1 in the order in which they were asked, requests in the order in which they were accepted, and
  -- frames from 0 in the order in which they came.
  pub granted_number : (k actor now lease : ℕ)
      → Stands journal k actor (events.AskLease now) (answers.Granted lease)
      → lease ≡ asks_in (take k journal) + 1
  pub waiting_number : (k actor now lease place : ℕ)
      → Stands journal k actor (events.AskLease now) (answers.Waiting lease place)
      → lease ≡ asks_in (take k journal) + 1
  pub request_number : (k actor lease : ℕ) (ask : Ask) (timeout now id reference : ℕ) (frame : List ℕ)
      → Stands journal k actor (events.Submit lease ask timeout now) (answers.Accepted id reference frame)
      → id ≡ requests_in (take k journal) + 1
  pub frame_number : (k actor : ℕ) (bytes : List ℕ) (index : ℕ) (why : FrameWhy)
      → Stands journal k actor (events.Frame bytes) (answers.Undecodable index why)
      → index ≡ frames_in (take k journal)
  -- A lease that is waited for has as many before it as its place says.
  pub waiting_place : (k actor now lease place : ℕ)
      → Stands journal k actor (events.AskLease now) (answers.Waiting lease place)
      → place ≡ length (leases_of c.settings (take k journal)).waiting
  -- A request is handed in under a lease that its actor holds.
  pub held : (k actor lease : ℕ) (ask : Ask) (timeout now : ℕ) (answer : Answer)
      → Stands journal k actor (events.Submit lease ask timeout now) answer
      → list_any (is_lease_of actor lease) (held_after c.settings (take k journal)) ≡ true
  -- A late or stray frame can be read, with the reference that is told, and an undecodable one can't, for the reason that is told.
  pub late : (k actor : ℕ) (bytes : List ℕ) (reference : ℕ)
      → Stands journal k actor (events.Frame bytes) (answers.Late reference)
      → FrameComes c journal k reference (answers.Late reference)
  pub stray : (k actor : ℕ) (bytes : List ℕ) (reference : ℕ)
      → Stands journal k actor (events.Frame bytes) (answers.Stray reference)
      → FrameComes c journal k reference (answers.Stray reference)
  pub unread : (k actor : ℕ) (bytes : List ℕ) (index : ℕ) (why : FrameWhy)
      → Stands journal k actor (events.Frame bytes) (answers.Undecodable index why)
      → c.wire.reading_of bytes ≡ Err why
