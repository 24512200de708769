-- The rows of a request table: the requests that are kept, and the references that tell their replies apart.
use Rattle.std.specs.Prelude.{◌≡◌, ℕ, ◌+◌, ◌<◌, ◌≤◌, ◌^◌, Bool, true, false, ◌&&◌, ◌==◌, nat_le, List, [], ◌∷◌, Option, length, map, count_by}
use Rattle.std.specs.List.{find, list_any, range_with_len, slice_get}
use Rattle.std.specs.Option.{option_map}
use Rattle.txn_core.specs.declared.phases.Phase.{Phase}
use Rattle.txn_core.specs.declared.phases.Phase.TheVariants.{Queued, Sent, Ended}

-- A request that is kept. `what` is whatever else is said of it.
pub record Row (X E : Type 0) : Type 0 where
  pub id : ℕ
  pub owner : ℕ
  pub lease : ℕ
  pub reference : ℕ
  pub deadline : ℕ
  pub phase : Phase E
  pub what : X

-- Rows stand by rising id. References are the numbers from 1 to so many, free ones in the order in which they are drawn.
pub record RowTable (X E : Type 0) : Type 0 where
  pub references : ℕ
  -- how many rows may be sent and live at once
  pub window : ℕ
  pub rows : List (Row X E)
  pub free : List ℕ
  -- how many ids were drawn
  pub drawn : ℕ

-- how many rows are kept at most, ended ones too
abbrev pub rows_limit : ℕ
rows_limit = 1024

abbrev pub opening : {X E : Type 0} → (references window : ℕ) → RowTable X E
opening references window = record { references = references; window = window; rows = []; free = range_with_len 1 references; drawn = 0 }

-- ---- rows

abbrev pub phase_queued : {E : Type 0} → Phase E → Bool
phase_queued Queued = true
phase_queued Sent = false
phase_queued (Ended kind) = false

abbrev pub phase_sent : {E : Type 0} → Phase E → Bool
phase_sent Queued = false
phase_sent Sent = true
phase_sent (Ended kind) = false

abbrev pub phase_live : {E : Type 0} → Phase E → Bool
phase_live Queued = true
phase_live Sent = true
phase_live (Ended kind) = false

abbrev pub phase_ended : {E : Type 0} → Phase E → Bool
phase_ended Queued = false
phase_ended Sent = false
phase_ended (Ended kind) = true

abbrev pub is_queued : {X E : Type 0} → Row X E → Bool
is_queued row = phase_queued row.phase

-- sent, and not ended
abbrev pub is_sent : {X E : Type 0} → Row X E → Bool
is_sent row = phase_sent row.phase

-- queued or sent
abbrev pub is_live : {X E : Type 0} → Row X E → Bool
is_live row = phase_live row.phase

abbrev pub is_ended : {X E : Type 0} → Row X E → Bool
is_ended row = phase_ended row.phase

abbrev pub has_id : {X E : Type 0} → ℕ → Row X E → Bool
has_id id row = row.id == id

abbrev pub has_lease : {X E : Type 0} → ℕ → Row X E → Bool
has_lease lease row = row.lease == lease

abbrev pub has_reference : {X E : Type 0} → ℕ → Row X E → Bool
has_reference reference row = row.reference == reference

-- the row of an owner by its id
abbrev pub is_row_of : {X E : Type 0} → (owner id : ℕ) → Row X E → Bool
is_row_of owner id row = has_id id row && (row.owner == owner)

abbrev pub is_due : {X E : Type 0} → ℕ → Row X E → Bool
is_due now row = nat_le row.deadline now

abbrev pub any_row : {X E : Type 0} → Row X E → Bool
any_row row = true

abbrev pub is_live_and : {X E : Type 0} → (Row X E → Bool) → Row X E → Bool
is_live_and p row = is_live row && p row

abbrev pub is_queued_and : {X E : Type 0} → (Row X E → Bool) → Row X E → Bool
is_queued_and p row = is_queued row && p row

abbrev pub is_sent_and : {X E : Type 0} → (Row X E → Bool) → Row X E → Bool
is_sent_and p row = is_sent row && p row

-- ---- what a table tells

abbrev pub is_full : {X E : Type 0} → RowTable X E → Bool
is_full t = length t.rows == rows_limit

-- the reference that the next request will go out under, if any is free
abbrev pub next_reference : {X E : Type 0} → RowTable X E → Option ℕ
next_reference t = slice_get t.free 0

-- a live row has this id; a sent one
abbrev pub has_live : {X E : Type 0} → ℕ → RowTable X E → Bool
has_live id t = list_any (is_live_and (has_id id)) t.rows

abbrev pub has_sent : {X E : Type 0} → ℕ → RowTable X E → Bool
has_sent id t = list_any (is_sent_and (has_id id)) t.rows

abbrev pub is_number : ℕ → ℕ → Bool
is_number number other = other == number

-- how often a reference is in use: in the free list, and by live rows
abbrev pub uses_of : {X E : Type 0} → ℕ → RowTable X E → ℕ
uses_of reference t = count_by (is_number reference) t.free + count_by (is_live_and (has_reference reference)) t.rows

abbrev pub is_reference : {X E : Type 0} → ℕ → RowTable X E → Bool
is_reference reference t = nat_le 1 reference && nat_le reference t.references

-- A reference is in quarantine where it is neither free nor a live row's: its row ended without a reply, which may still come.
abbrev pub is_quarantined : {X E : Type 0} → ℕ → RowTable X E → Bool
is_quarantined reference t = is_reference reference t && (uses_of reference t == 0)

-- the least id of a live row that passes: rows stand by rising id
abbrev pub first_where : {X E : Type 0} → (Row X E → Bool) → RowTable X E → Option ℕ
first_where p t = option_map (λ row. row.id) (find (is_live_and p) t.rows)

-- how many live rows pass
abbrev pub count_where : {X E : Type 0} → (Row X E → Bool) → RowTable X E → ℕ
count_where p t = count_by (is_live_and p) t.rows

-- where an owner's request stands, if it is kept
abbrev pub phase_of : {X E : Type 0} → (owner id : ℕ) → RowTable X E → Option (Phase E)
phase_of owner id t = option_map (λ row. row.phase) (find (is_row_of owner id) t.rows)

-- ---- what holds of every table

-- numbers rise, from above `low` to `high` at most
abbrev pub IsRising : (low high : ℕ) → List ℕ → Type 0
IsRising low high [] = low ≤ high
IsRising low high (n ∷ ns) = (low < n) × IsRising n high ns

abbrev pub ids_of : {X E : Type 0} → List (Row X E) → List ℕ
ids_of rows = map (λ row. row.id) rows

-- the settings that a table may have
pub record IsRowSettings (references window : ℕ) : Type 0 where
  pub some_references : (1 ≤ references) × (references < 2 ^ 16)
  pub some_window : (1 ≤ window) × (window ≤ 64)

pub record IsRowTable {X E : Type 0} (t : RowTable X E) : Type 0 where
  pub settings : IsRowSettings t.references t.window
  pub rows : length t.rows ≤ rows_limit
  -- Rows stand by rising id, and each id was drawn.
  pub ids : IsRising 0 t.drawn (ids_of t.rows)
  pub drawn : t.drawn < 2 ^ 64
  -- Each reference is free, a live row's, or neither, and no number that isn't a reference is in use.
  pub once : (reference : ℕ) → uses_of reference t ≤ 1
  pub within : (reference : ℕ) → is_reference reference t ≡ false → uses_of reference t ≡ 0
