-- What a request meets before a reference is drawn for it, and which one is drawn, by places in the journal.
use Rattle.std.specs.Prelude.{◌≡◌, ◌⊎◌, ℕ, ◌+◌, ◌<◌, ◌≤◌, Bool, true, false, List, length, take, Ok, count_by}
use Rattle.std.specs.List.{list_any}
use Rattle.lease_core.specs.LeaseTables.{is_lease_of}
use Rattle.txn_core.specs.RowTables.{rows_limit}
use Rattle.conn_core.specs.Causes.{NoneCloses}
use Rattle.conn_core.specs.Entries.{requests_in}
use Rattle.conn_core.specs.HistoryLaw.{Awaited, IsFree, Live}
use Rattle.conn_core.specs.LeasePlaces.{held_after}
use Rattle.conn_core.specs.Steps.{Request, Started}
use Rattle.conn_core.specs.Tables.{Connection}
use Rattle.conn_core.specs.declared.entries.Entry.{Entry}
use Rattle.conn_core.specs.declared.entries.Event.{Event}
use Rattle.conn_core.specs.declared.entries.Event.TheVariants.{Collect}

-- a request is collected by the event
abbrev pub is_collection : Event → Bool
is_collection (Collect id) = true
is_collection _ = false

-- how many entries of a journal collect a request
abbrev pub collections_in : List Entry → ℕ
collections_in journal = count_by (λ e. is_collection e.event) journal

-- a request passes each test but that for a reference, where it would go out under this one
pub record PassesTests (c : Connection) (journal : List Entry) (q : Request) (reference : ℕ) : Type 0 where
  -- no entry closes
  pub unclosed : NoneCloses journal
  -- its actor holds its lease
  pub holding : list_any (is_lease_of q.actor q.lease) (held_after c.settings journal) ≡ true
  -- fewer requests were accepted and not collected than rows are kept at most
  pub room : requests_in journal < collections_in journal + rows_limit
  -- the wire has a frame for its ask under the reference, and the ask's size is within the wire's limit
  pub frame : List ℕ
  pub framed : c.wire.frame_of q.ask reference ≡ Ok frame
  pub small : c.wire.size q.ask ≤ c.wire.limit

-- each reference of the connection is live or awaited
abbrev pub AllTaken : Connection → List Entry → Type 0
AllTaken c journal = (reference : ℕ) → 1 ≤ reference → reference ≤ c.settings.references → Live c journal reference ⊎ Awaited c journal reference

-- the reference was free after so many entries, and has been since
abbrev pub FreeSince : Connection → List Entry → ℕ → ℕ → Type 0
FreeSince c journal reference n = (m : ℕ) → n ≤ m → m ≤ length journal → IsFree c (take m journal) reference

-- the first free one: no other has been free for longer; and of those that were never drawn it is the least
pub record IsFirstFree (c : Connection) (journal : List Entry) (reference : ℕ) : Type 0 where
  pub free : IsFree c journal reference
  pub longest : (other n : ℕ) → n ≤ length journal → FreeSince c journal other n → FreeSince c journal reference n
  pub least : (other : ℕ) → FreeSince c journal other 0 → reference ≤ other

-- what a request that passes is answered: the next id, the reference, and its frame
abbrev pub started_with : {c : Connection} {journal : List Entry} {q : Request} {reference : ℕ} → PassesTests c journal q reference → Started
started_with {c} {journal} {q} {reference} p = record { id = requests_in journal + 1; reference = reference; frame = p.frame }
