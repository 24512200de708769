-- What is kept of requests beside their rows, by id.
use Rattle.std.specs.Prelude.{◌≡◌, ℕ, Bool, true, ◌==◌, List, ◌∷◌, ◌++◌, None}
use Rattle.txn_core.specs.FirstPlaces.{Fails}
use Rattle.wire_frames.specs.declared.kinds.PlcValue.{PlcValue}
use Rattle.conn_core.specs.declared.handed.HandedIn.{HandedIn}

abbrev pub item_has : ℕ → HandedIn → Bool
item_has id item = item.id == id

-- the item with an id, and those round it
pub record IsItemAt (items : List HandedIn) (id : ℕ) (before : List HandedIn) (item : HandedIn) (after : List HandedIn) : Type 0 where
  pub split : items ≡ before ++ item ∷ after
  pub fails : Fails (item_has id) before
  pub named : item_has id item ≡ true

-- some item has the id
pub record HasItem (items : List HandedIn) (id : ℕ) : Type 0 where
  pub before : List HandedIn
  pub item : HandedIn
  pub after : List HandedIn
  pub at : IsItemAt items id before item after

-- its frame was handed out
abbrev pub sent_item : HandedIn → HandedIn
sent_item item = record item { frame = None }

-- it has the values of a reply
abbrev pub with_values : List (List PlcValue) → HandedIn → HandedIn
with_values values item = record item { values = values }
