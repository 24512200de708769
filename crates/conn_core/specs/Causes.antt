-- Why calls are refused, or a lease is waited for, by what they find.
use Rattle.std.specs.Prelude.{◌≡◌, ◌≢◌, ◌<◌, ◌⊎◌, ℕ, true, List, [], length, Some, None, Err, count_by}
use Rattle.std.specs.List.{find, slice_get}
use Rattle.lease_core.specs.LeaseTables.{state_of}
use Rattle.txn_core.specs.RowTables.{is_queued, is_sent, phase_live, phase_of}
use Rattle.txn_core.specs.declared.phases.Phase.{Phase}
use Rattle.txn_core.specs.declared.phases.Phase.TheVariants.{Ended}
use Rattle.node_tree.specs.declared.faults.WriteWhy.{WriteWhy}
use Rattle.wire_frames.specs.WireMeaning.{WireMeaning}
use Rattle.wire_frames.specs.declared.asks.Ask.{Ask}
use Rattle.wire_frames.specs.declared.ends.EndKind.{EndKind}
use Rattle.wire_frames.specs.declared.ends.Outcome.{Outcome}
use Rattle.wire_frames.specs.declared.ends.Reason.{Reason}
use Rattle.conn_core.specs.Entries.{closing_reason}
use Rattle.conn_core.specs.Steps.{reference_to_try}
use Rattle.conn_core.specs.Tables.{Table}
use Rattle.conn_core.specs.declared.entries.Entry.{Entry}

-- an entry of the journal closes with this reason
abbrev pub ClosesWith : List Entry → Reason → Type 0
ClosesWith journal reason = (k : ℕ) × (e : Entry) × (slice_get journal k ≡ Some e) × (closing_reason e ≡ Some reason)

-- no entry of the journal closes
abbrev pub NoneCloses : List Entry → Type 0
NoneCloses journal = (k : ℕ) (e : Entry) → slice_get journal k ≡ Some e → closing_reason e ≡ None

-- the wire has no frame for the ask under the reference that is next, 1 where none is free, for this reason at this part of the
-- ask's tree
abbrev pub IsUnwritable : WireMeaning → Table → Ask → ℕ → WriteWhy → Type 0
IsUnwritable wire t ask entry why = wire.frame_of ask (reference_to_try t) ≡ Err (record { entry = entry; why = why })

-- the wire says this size of the ask and this limit of its frames, and the size is above the limit
pub record IsTooLarge (wire : WireMeaning) (ask : Ask) (size limit : ℕ) : Type 0 where
  pub size_is : size ≡ wire.size ask
  pub limit_is : limit ≡ wire.limit
  pub above : limit < size

-- as many leases as may be are held, or others wait already
abbrev pub MustWait : Table → Type 0
MustWait t = (length t.leases.held ≡ t.leases.share) ⊎ (t.leases.waiting ≢ [])

-- the actor neither holds nor waits for a lease with the number
abbrev pub HasNoLease : Table → ℕ → ℕ → Type 0
HasNoLease t actor number = state_of t.leases actor number ≡ None

-- no row is queued, or as many rows as the window has are sent and live
abbrev pub CannotSend : Table → Type 0
CannotSend t = (find is_queued t.requests.rows ≡ None) ⊎ (count_by is_sent t.requests.rows ≡ t.requests.window)

-- no row of the actor has the id
abbrev pub HasNoRow : Table → ℕ → ℕ → Type 0
HasNoRow t actor id = phase_of actor id t.requests ≡ None

-- the actor's row with the id is live
pub record HasLiveRow (t : Table) (actor id : ℕ) : Type 0 where
  pub phase : Phase Outcome
  pub found : phase_of actor id t.requests ≡ Some phase
  pub live : phase_live phase ≡ true

-- the actor's row with the id has ended, with an outcome of this kind
pub record HasEndedRow (t : Table) (actor id : ℕ) (kind : EndKind) : Type 0 where
  pub outcome : Outcome
  pub ended : phase_of actor id t.requests ≡ Some (Ended outcome)
  pub kind_is : outcome.kind ≡ kind
