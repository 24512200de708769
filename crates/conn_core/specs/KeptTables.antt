-- What the program keeps, as it stands for the table of a journal.
use Rattle.std.specs.Prelude.{◌≡◌, ℕ, true, List, [], Some}
use Rattle.std.specs.List.{AllZip, slice_get}
use Rattle.txn_core.specs.PlainRows.{plain}
use Rattle.txn_core.specs.RowTables.{Row, is_queued}
use Rattle.txn_core.specs.declared.phases.Phase.{Phase}
use Rattle.txn_core.specs.declared.phases.Phase.TheVariants.{Queued, Sent, Ended}
use Rattle.wire_frames.specs.declared.ends.EndKind.{EndKind}
use Rattle.wire_frames.specs.declared.ends.Outcome.{Outcome}
use Rattle.wire_frames.specs.declared.kinds.PlcValue.{PlcValue}
use Rattle.conn_core.specs.Tables.{Handed, Table}
use Rattle.conn_core.specs.declared.entries.Answer.{Answer}
use Rattle.conn_core.specs.declared.entries.Answer.TheVariants as answers
use Rattle.conn_core.specs.declared.entries.Entry.{Entry}
use Rattle.conn_core.specs.declared.entries.Event.{Event}
use Rattle.conn_core.specs.declared.entries.Event.TheVariants as events
use Rattle.conn_core.specs.declared.handed.HandedIn.{HandedIn}
use Rattle.conn_core.specs.declared.table.KeptTable.{KeptTable}

abbrev pub end_kind : Outcome → EndKind
end_kind outcome = outcome.kind

-- the values of a request, once it has ended
abbrev pub phase_values : Phase Outcome → List (List PlcValue)
phase_values Queued = []
phase_values Sent = []
phase_values (Ended outcome) = outcome.values

-- what was handed in, in an entry that accepted it
abbrev pub Accepts : (id reference : ℕ) → Handed → Event → Answer → Type 0
Accepts id reference what (events.Submit lease ask timeout now) (answers.Accepted i r frame) =
    (i ≡ id) × (r ≡ reference) × (ask ≡ what.ask) × (frame ≡ what.frame)
Accepts id reference what _ _ = ⊥

-- what is kept of a request beside its row
pub record IsHandedIn (journal : List Entry) (row : Row Handed Outcome) (item : HandedIn) : Type 0 where
  pub id : item.id ≡ row.id
  pub reference : item.reference ≡ row.reference
  pub entry : Entry
  pub stands : slice_get journal item.place ≡ Some entry
  pub accepted : Accepts row.id row.reference row.what entry.event entry.answer
  pub frame : is_queued row ≡ true → item.frame ≡ Some row.what.frame
  pub values : item.values ≡ phase_values row.phase

pub record Stands (journal : List Entry) (k : KeptTable) (t : Table) : Type 0 where
  pub requests : k.requests ≡ plain end_kind t.requests
  pub leases : k.leases ≡ t.leases
  pub clock : k.clock ≡ t.clock
  pub closed : k.closed ≡ t.closed
  pub frames : k.frames ≡ t.frames
  pub handed : AllZip (IsHandedIn journal) t.requests.rows k.handed.items
