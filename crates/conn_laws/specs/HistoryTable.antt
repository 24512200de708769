-- What the table after a legal journal and the places of the journal say of rows, references and leases alike.
use Rattle.std.specs.Prelude.{◌≡◌, ◌↔◌, ℕ, ◌+◌, ◌<◌, ◌≤◌, true, List, Some, if◌then◌else◌, take}
use Rattle.std.specs.List.{list_any, slice_get}
use Rattle.lease_core.specs.LeaseTables.{Lease, has_number, is_lease_of}
use Rattle.txn_core.specs.RowTables.{Row, is_live, is_quarantined, is_queued, is_sent, uses_of}
use Rattle.txn_core.specs.declared.phases.Phase.TheVariants.{Ended}
use Rattle.wire_frames.specs.declared.ends.Outcome.{Outcome}
use Rattle.conn_core.specs.Ends.{IsOutcome}
use Rattle.conn_core.specs.Entries.{clock_of}
use Rattle.conn_core.specs.HistoryLaw.{Awaited, IsLate, IsUnended}
use Rattle.conn_core.specs.Journals.{table_of}
use Rattle.conn_core.specs.LeasePlaces.{held_after}
use Rattle.conn_core.specs.Places.{FrameComes, SentAt, Stands, Submitted}
use Rattle.conn_core.specs.RowLaw.{EachRow}
use Rattle.conn_core.specs.Tables.{Connection, Handed, Table}
use Rattle.conn_core.specs.declared.entries.Answer.{Answer}
use Rattle.conn_core.specs.declared.entries.Entry.{Entry}
use Rattle.conn_core.specs.declared.entries.Event.TheVariants as events
use Rattle.conn_laws.specs.Drawing.{FreeSince}

-- the request was sent; since then no frame with its reference came, and no other request was sent with it
pub record LastSent (c : Connection) (journal : List Entry) (id reference : ℕ) : Type 0 where
  pub place : ℕ
  pub sent_at : SentAt journal id place
  pub no_frame : (k : ℕ) (answer : Answer) → place < k → ¬ FrameComes c journal k reference answer
  pub no_other : (k other : ℕ) (q : Submitted journal other) → place < k → SentAt journal other k → ¬ (q.reference ≡ reference)

-- what the journal's places say of a row
pub record IsRowByPlaces (c : Connection) (journal : List Entry) (row : Row Handed Outcome) : Type 0 where
  pub request : Submitted journal row.id
  -- It is live exactly where its request has no end; else it has the outcome of its request's end place.
  pub live : (is_live row ≡ true) ↔ IsUnended c journal row.id request
  pub outcome : (o : Outcome) → row.phase ≡ Ended o → (k : ℕ) × IsOutcome c journal row.id request k o
  -- A queued row wasn't sent, and no answer is awaited under its reference.
  pub unsent : is_queued row ≡ true → (k : ℕ) → ¬ SentAt journal row.id k
  pub not_awaited : is_queued row ≡ true → ¬ Awaited c journal row.reference
  -- A sent row's sending is the last with its reference, and no frame with it followed.
  pub last_sent : is_sent row ≡ true → LastSent c journal row.id row.reference
  -- While it is live its actor holds its lease.
  pub held : is_live row ≡ true → list_any (is_lease_of row.owner row.lease) (held_after c.settings journal) ≡ true
  -- Its deadline lies past every tick since it was accepted.
  pub in_time : is_live row ≡ true → (k actor now : ℕ) (answer : Answer) → request.place < k → Stands journal k actor (events.Tick now) answer → now < row.deadline

-- each reference of the connection is free, a live row's, or in quarantine, in one way
abbrev pub IsInOneWay : Table → ℕ → Type 0
IsInOneWay t reference = uses_of reference t.requests + (if is_quarantined reference t.requests then 1 else 0) ≡ 1

pub record HistoryTable (c : Connection) (journal : List Entry) : Type 0 where
  pub rows : EachRow (IsRowByPlaces c journal) (table_of c journal).requests.rows
  pub in_one_way : (reference : ℕ) → 1 ≤ reference → reference ≤ c.settings.references → IsInOneWay (table_of c journal) reference
  -- A reference is in quarantine exactly where an answer is awaited under it and no live request has it.
  pub quarantined : (reference : ℕ) → (is_quarantined reference (table_of c journal).requests ≡ true) ↔ IsLate c journal reference
  -- The free list stands in the order in which references became free: one ahead of another has been free for as long at least.
  pub free_in_order : (i j first other n : ℕ)
      → i ≤ j
      → slice_get (table_of c journal).requests.free i ≡ Some first
      → slice_get (table_of c journal).requests.free j ≡ Some other
      → FreeSince c journal other n
      → FreeSince c journal first n
  -- The deadline of a held lease lies past every tick at which it was held.
  pub leases_in_time : (i k actor now : ℕ) (lease : Lease) (answer : Answer)
      → slice_get (held_after c.settings journal) i ≡ Some lease
      → Stands journal k actor (events.Tick now) answer
      → list_any (has_number lease.number) (held_after c.settings (take k journal)) ≡ true
      → now < lease.deadline
  -- The clock is the greatest moment.
  pub clock : (table_of c journal).clock ≡ clock_of journal
