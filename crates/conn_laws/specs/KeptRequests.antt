-- An actor's request that the journal keeps: accepted, and not collected yet.
use Rattle.std.specs.Prelude.{◌≡◌, ℕ, List}
use Rattle.conn_core.specs.Places.{Submitted}
use Rattle.conn_core.specs.declared.entries.Entry.{Entry}
use Rattle.conn_laws.specs.RowsKept.{WasCollected}

pub record IsKept (journal : List Entry) (actor id : ℕ) : Type 0 where
  pub request : Submitted journal id
  pub own : request.actor ≡ actor
  pub uncollected : ¬ WasCollected journal id
