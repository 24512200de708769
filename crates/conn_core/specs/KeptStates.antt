-- What the program keeps of a connection is its journal, and the table that the journal leads to.
use Rattle.std.specs.Prelude.{◌≡◌, ◌⊎◌, ◌^◌, ◌↔◌, ℕ, ◌+◌, ◌<◌, ◌≤◌, Bool, true, false, ◌&&◌, ◌==◌, is_none, List, [], length, Option, Some, None, Result, Ok, Err, OnErr, count_by}
use Rattle.std.specs.Vec.{vec_capacity}
use Rattle.lease_core.specs.LeaseTables.{IsLeaseTable}
use Rattle.txn_core.specs.RowSteps.{IsGivenOrNoMemory}
use Rattle.txn_core.specs.RowTables.{IsRowTable, any_row, count_where, is_queued}
use Rattle.wire_frames.specs.declared.ends.Reason.{Reason}
use Rattle.wire_frames.specs.declared.ends.Reason.TheVariants as reasons
use Rattle.conn_core.specs.Causes.{ClosesWith}
use Rattle.wire_frames.specs.WireMeaning.{WireMeaning}
use Rattle.conn_core.specs.Journals.{AreAdmitted, AreCarried, Legal, table_of}
use Rattle.conn_core.specs.KeptSteps.{closed_kept}
use Rattle.conn_core.specs.KeptTables.{Stands}
use Rattle.conn_core.specs.Requests.{frame_for, place_answer}
use Rattle.conn_core.specs.States.{grown}
use Rattle.conn_core.specs.Steps.{Request, reference_to_try, step, tick}
use Rattle.conn_core.specs.Calls.{tick_answer}
use Rattle.conn_core.specs.Tables.{Connection, IsSettings, Table}
use Rattle.conn_core.specs.declared.answers.SubmitRefusal.{SubmitRefusal}
use Rattle.conn_core.specs.declared.answers.SubmitRefusal.TheVariants as submit_refusals
use Rattle.conn_core.specs.declared.drafts.FrameCopies.{FrameCopies}
use Rattle.conn_core.specs.declared.entries.Entry.{Entry}
use Rattle.conn_core.specs.declared.entries.Event.{Event}
use Rattle.conn_core.specs.declared.entries.Event.TheVariants.{Tick}
use Rattle.conn_core.specs.declared.answers.Ticked.{Ticked}
use Rattle.conn_core.specs.declared.kept.Kept.{Kept}
use Rattle.conn_core.specs.declared.settings.Settings.{Settings}
use Rattle.conn_core.specs.declared.table.KeptTable.{KeptTable}

-- an open table can still be closed
abbrev pub close_needs : Option Reason → ℕ
close_needs None = 1
close_needs (Some reason) = 0

-- How many entries can still come of what is kept, beside those that take their own room: a lease goes; a row is sent, ends and
-- is collected; the table is closed.
abbrev pub needs_of : KeptTable → ℕ
needs_of k =
    length k.requests.rows + count_where any_row k.requests + count_by is_queued k.requests.rows
    + (length k.leases.held + length k.leases.waiting) + close_needs k.closed

-- no request is live, and no lease is held or waited for
pub record IsQuiet (k : KeptTable) : Type 0 where
  pub live : count_where any_row k.requests ≡ 0
  pub held : k.leases.held ≡ []
  pub waiting : k.leases.waiting ≡ []

-- what holds of the parts that are kept after so many entries
pub record IsKept (s : Settings) (entries : ℕ) (k : KeptTable) : Type 0 where
  pub rows : IsRowTable k.requests
  pub leases : IsLeaseTable k.leases
  pub references : k.requests.references ≡ s.references
  pub window : k.requests.window ≡ s.window
  pub share : k.leases.share ≡ s.share
  pub lease_ms : k.leases.lease_ms ≡ s.lease_ms
  pub wait_ms : k.leases.wait_ms ≡ s.wait_ms
  -- Each entry draws one number at most.
  pub requests_drawn : k.requests.drawn ≤ entries
  pub leases_drawn : k.leases.drawn ≤ entries
  pub frames : k.frames ≤ entries
  -- A closed table is quiet.
  pub quiet : (reason : Reason) → k.closed ≡ Some reason → IsQuiet k

-- a table is closed exactly as an entry of the journal closes it
abbrev pub ClosesAs : List Entry → Option Reason → Type 0
ClosesAs journal closed = (reason : Reason) → (closed ≡ Some reason) ↔ ClosesWith journal reason

pub record IsStateOf (c : Connection) (journal : List Entry) (k : KeptTable) (capacity : ℕ) : Type 0 where
  pub settings : IsSettings c.settings
  pub legal : Legal c journal
  pub stands : Stands journal k (table_of c journal)
  pub kept : IsKept c.settings (length journal) k
  pub closes : ClosesAs journal k.closed
  -- While nothing has closed it the journal is below its limit; after that each kept row can be collected.
  pub below : k.closed ≡ None → length journal < c.settings.journal
  pub within : length journal + length k.requests.rows ≤ c.settings.journal + 1025
  pub room : length journal + needs_of k ≤ capacity
  pub admitted : AreAdmitted c.wire journal
  pub carried : AreCarried c journal

abbrev pub IsState : Connection → Kept → Type 0
IsState c kept = IsStateOf c kept.journal.items kept.table (vec_capacity kept.journal)

-- what every call may rely on, whatever the wire
pub record IsSound (kept : Kept) : Type 0 where
  pub rows : IsRowTable kept.table.requests
  pub leases : IsLeaseTable kept.table.leases
  pub handed : length kept.table.handed.items ≡ length kept.table.requests.rows
  pub requests_drawn : kept.table.requests.drawn < 2 ^ 63
  pub leases_drawn : kept.table.leases.drawn < 2 ^ 63
  pub frames : kept.table.frames < 2 ^ 63
  pub room : length kept.journal.items + needs_of kept.table ≤ vec_capacity kept.journal

-- so many entries fill the journal of a table that isn't closed
abbrev pub wears_kept : Settings → (entries : ℕ) → Option Reason → Bool
wears_kept s entries closed = (entries == s.journal) && is_none closed

-- the close by a full journal
abbrev pub worn_kept : Bool → KeptTable → KeptTable
worn_kept true k = closed_kept reasons.Worn k
worn_kept false k = k

-- a call answers what it is to, its event is written down unless it is refused, and what is kept is a connection's state again
pub record Does {A R : Type 0} (c : Connection) (actor : ℕ) (event : Event) (wanted : Result A R) (old new : Kept) (result : Result A R) : Type 0 where
  pub answer : result ≡ wanted
  pub journal : new.journal.items ≡ grown c old.journal.items actor event (step c (table_of c old.journal.items) actor event)
  pub unchanged : OnErr result (new.journal.items ≡ old.journal.items)
  pub state : IsState c new

-- the same of a call that may find no memory, and then leaves journal and table as they were
pub record DoesOrNoMemory {A R : Type 0} (no_memory : R) (c : Connection) (actor : ℕ) (event : Event) (wanted : Result A R) (old new : Kept) (result : Result A R) : Type 0 where
  pub answer : IsGivenOrNoMemory no_memory result wanted
  pub journal : ((result ≡ Err no_memory) × (new.journal.items ≡ old.journal.items))
      ⊎ (new.journal.items ≡ grown c old.journal.items actor event (step c (table_of c old.journal.items) actor event))
  pub unchanged : OnErr result (new.journal.items ≡ old.journal.items)
  pub state : IsState c new

-- a tick is written down where something is due
pub record DoesTick (c : Connection) (actor now : ℕ) (old new : Kept) (result : Ticked) : Type 0 where
  pub answer : result ≡ tick_answer (tick (table_of c old.journal.items) now)
  pub journal : new.journal.items ≡ grown c old.journal.items actor (Tick now) (step c (table_of c old.journal.items) actor (Tick now))
  pub state : IsState c new

-- the frame of a request that may be handed in as what is kept stands, or why it may not; or no memory was found
abbrev pub Prepares : WireMeaning → KeptTable → Request → Result FrameCopies SubmitRefusal → Type 0
Prepares wire k q (Ok frames) =
    (place_answer q.actor q.lease k.closed k.leases k.requests ≡ Ok tt)
    × ((journal : List Entry) (t : Table) → Stands journal k t → frame_for wire q.ask (wire.frame_of q.ask (reference_to_try t)) ≡ Ok frames.written)
Prepares wire k q (Err refusal) =
    (refusal ≡ submit_refusals.NoMemory)
    ⊎ (place_answer q.actor q.lease k.closed k.leases k.requests ≡ Err refusal)
    ⊎ ((place_answer q.actor q.lease k.closed k.leases k.requests ≡ Ok tt)
    × ((journal : List Entry) (t : Table) → Stands journal k t → frame_for wire q.ask (wire.frame_of q.ask (reference_to_try t)) ≡ Err refusal))
