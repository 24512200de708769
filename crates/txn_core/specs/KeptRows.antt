-- The rows as the program keeps them, and the table that they stand for.
use Rattle.std.specs.Prelude.{◌≡◌, ℕ, ◌+◌, ◌≤◌, Bool, List, Option, length, map, slice_index_or}
use Rattle.std.specs.List.{find}
use Rattle.std.specs.Option.{option_map}
use Rattle.std.specs.Vec.{vec_capacity}
use Rattle.std.specs.VecDeque.{deque_capacity}
use Rattle.txn_core.specs.RowTables.{IsRowTable, Row, RowTable, is_quarantined, rows_limit}
use Rattle.txn_core.specs.declared.kept.KeptRow.{KeptRow}
use Rattle.txn_core.specs.declared.table.Rows.TheInside.{Inside}

abbrev pub row_of : {E : Type 0} → KeptRow E → Row (Unit {0}) E
row_of kept = record {
  id = kept.id;
  owner = kept.owner;
  lease = kept.lease;
  reference = kept.reference;
  deadline = kept.deadline;
  phase = kept.phase;
  what = tt;
}

abbrev pub rows_of : {E : Type 0} → List (KeptRow E) → List (Row (Unit {0}) E)
rows_of rows = map row_of rows

-- the id of the first row that passes, if any does
abbrev pub first_id : {X E : Type 0} → (Row X E → Bool) → List (Row X E) → Option ℕ
first_id p rows = option_map (λ row. row.id) (find p rows)

abbrev pub table_of : {E : Type 0} → Inside E → RowTable (Unit {0}) E
table_of a = record { references = a.references; window = a.window; rows = rows_of a.rows.items; free = a.free.items; drawn = a.drawn }

-- a mark for each reference, and one for 0: whether it is in quarantine
abbrev pub AreMarks : {E : Type 0} → List Bool → RowTable (Unit {0}) E → Type 0
AreMarks marks t = (length marks ≡ t.references + 1) × ((reference : ℕ) (d : Bool) → reference ≤ t.references → slice_index_or marks reference d ≡ is_quarantined reference t)

pub record IsKept {E : Type 0} (a : Inside E) : Type 0 where
  pub table : IsRowTable (table_of a)
  pub marks : AreMarks a.quarantined.items (table_of a)
  -- No call after the first needs memory.
  pub room : rows_limit ≤ vec_capacity a.rows
  pub free_room : a.references ≤ deque_capacity a.free
