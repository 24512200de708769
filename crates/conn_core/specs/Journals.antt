-- Journals: what a connection went through, entry by entry.
use Rattle.std.specs.Prelude.{◌≡◌, ℕ, ◌+◌, ◌≤◌, IsTrue, Bool, true, false, ◌&&◌, ◌==◌, List, [], ◌∷◌, ◌++◌, length, Option, Some, None, Ok}
use Rattle.std.specs.List.{slice_get}
use Rattle.wire_frames.specs.WireMeaning.{WireMeaning}
use Rattle.wire_frames.specs.declared.asks.Ask.{Ask}
use Rattle.wire_frames.specs.declared.ends.Reason.TheVariants as reasons
use Rattle.conn_core.specs.Steps.{closed_by, step}
use Rattle.conn_core.specs.Tables.{Connection, Table, is_open, opening}
use Rattle.conn_core.specs.declared.entries.Answer.{Answer}
use Rattle.conn_core.specs.declared.entries.Answer.TheVariants as answers
use Rattle.conn_core.specs.declared.entries.Entry.{Entry}
use Rattle.conn_core.specs.declared.entries.Event.{Event}
use Rattle.conn_core.specs.declared.entries.Event.TheVariants.{Submit, Close}
use Rattle.conn_core.specs.declared.settings.Settings.{Settings}

-- the table after an event; a refused one leaves it
abbrev pub after_step : Table → Option (Table × Answer) → Table
after_step t None = t
after_step t (Some p) = p.0

abbrev pub after_entry : Connection → Table → Entry → Table
after_entry c t e = after_step t (step c t e.actor e.event)

abbrev pub after_entries : Connection → Table → List Entry → Table
after_entries c t [] = t
after_entries c t (e ∷ es) = after_entries c (after_entry c t e) es

-- the table after a journal's events, one after another from the opening table
unfoldable pub table_of : Connection → List Entry → Table
table_of c journal = after_entries c (opening c.settings) journal

-- the close that a full journal brings
abbrev pub worn_entry : ℕ → Entry
worn_entry actor = record { actor = actor; event = Close reasons.Worn; answer = answers.Closed }

abbrev pub is_worn : Event → Bool
is_worn (Close reasons.Worn) = true
is_worn _ = false

-- the journal has its limit of entries, and the table isn't closed
abbrev pub wears : Settings → ℕ → Table → Bool
wears s entries t = (entries == s.journal) && is_open t

-- an entry that brings the journal to so many entries, and what follows in the same step
abbrev pub turn_if : Bool → Entry → List Entry
turn_if true e = e ∷ worn_entry e.actor ∷ []
turn_if false e = e ∷ []

abbrev pub turn_of : Settings → ℕ → Table → Entry → List Entry
turn_of s entries t e = turn_if (wears s entries t) e

-- the table after such a turn
abbrev pub after_turn_if : Bool → Table → Table
after_turn_if true t = closed_by reasons.Worn t
after_turn_if false t = t

abbrev pub after_turn : Settings → ℕ → Table → Table
after_turn s entries t = after_turn_if (wears s entries t) t

-- A journal is legal where it is empty, and where a legal one goes on by an event that isn't refused, with the answer that
-- the table gives. Where that entry brings the journal to its limit with the table not closed, Close with Worn by the same
-- actor follows, and it stands nowhere else.
pub data Legal (c : Connection) : List Entry → Type 0 where
  opened : Legal c []
  turned : (journal : List Entry) (e : Entry) (t : Table) → Legal c journal → is_worn e.event ≡ false → step c (table_of c journal) e.actor e.event ≡ Some (t, e.answer)
      → Legal c (journal ++ turn_of c.settings (length journal + 1) t e)

-- the longest time that a request may have, in milliseconds: an hour
abbrev pub timeout_limit : ℕ
timeout_limit = 3600000

-- a request that is handed in has an ask that the wire admits, and a time from 1 to the longest
abbrev pub IsAdmitted : WireMeaning → Event → Type 0
IsAdmitted wire (Submit lease ask timeout now) = IsTrue (wire.admits ask) × (1 ≤ timeout) × (timeout ≤ timeout_limit)
IsAdmitted wire _ = Unit {0}

-- each request of a journal is an admitted one
abbrev pub AreAdmitted : WireMeaning → List Entry → Type 0
AreAdmitted wire journal = (k : ℕ) (e : Entry) → slice_get journal k ≡ Some e → IsAdmitted wire e.event

-- a request is carried by the frame of its ask under a reference of the connection, within the wire's limit
pub record IsCarried (c : Connection) (ask : Ask) (reference : ℕ) (frame : List ℕ) : Type 0 where
  pub in_range : (1 ≤ reference) × (reference ≤ c.settings.references)
  pub framed : c.wire.frame_of ask reference ≡ Ok frame
  pub within : length frame ≤ c.wire.limit

-- so is a request that is accepted
abbrev pub IsCarriedBy : Connection → Event → Answer → Type 0
IsCarriedBy c (Submit lease ask timeout now) (answers.Accepted id reference frame) = IsCarried c ask reference frame
IsCarriedBy c _ _ = Unit {0}

-- so is each request of a journal
abbrev pub AreCarried : Connection → List Entry → Type 0
AreCarried c journal = (k : ℕ) (e : Entry) → slice_get journal k ≡ Some e → IsCarriedBy c e.event e.answer
