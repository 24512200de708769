-- The request table of one connection.
use Rattle.std.specs.Prelude.{ℕ, ◌^◌, ◌<◌, ◌≤◌, max, Bool, is_none, List, Option, None}
use Rattle.std.specs.List.{list_any}
use Rattle.lease_core.specs.LeaseTables.{LeaseTable, is_lease_of, no_leases}
use Rattle.txn_core.specs.RowTables as rows
use Rattle.txn_core.specs.RowTables.{RowTable}
use Rattle.wire_frames.specs.WireMeaning.{WireMeaning}
use Rattle.wire_frames.specs.declared.asks.Ask.{Ask}
use Rattle.wire_frames.specs.declared.ends.Outcome.{Outcome}
use Rattle.wire_frames.specs.declared.ends.Reason.{Reason}
use Rattle.conn_core.specs.declared.settings.Settings.{Settings}

-- what the steps need of a connection: what its wire means, and its settings
pub record Connection : Type 0 where
  pub wire : WireMeaning
  pub settings : Settings

-- the settings that a connection may have; times are in milliseconds
pub record IsSettings (s : Settings) : Type 0 where
  pub references : (1 ≤ s.references) × (s.references < 2 ^ 16)
  pub window : (1 ≤ s.window) × (s.window ≤ 64)
  pub share : (1 ≤ s.share) × (s.share ≤ 64)
  pub journal : (64 ≤ s.journal) × (s.journal ≤ 262144)
  pub lease_ms : (1 ≤ s.lease_ms) × (s.lease_ms ≤ 86400000)
  pub wait_ms : (1 ≤ s.wait_ms) × (s.wait_ms ≤ 86400000)

-- what was handed in with a request: its ask, and the frame that carries it
pub record Handed : Type 0 where
  pub ask : Ask
  pub frame : List ℕ

-- the requests that are kept, with what was handed in with each, and its outcome once it has ended
abbrev pub Requests : Type 0
Requests = RowTable Handed Outcome

pub record Table : Type 0 where
  pub requests : Requests
  pub leases : LeaseTable
  pub clock : ℕ
  -- why the table was closed, if it was
  pub closed : Option Reason
  -- how many frames were taken
  pub frames : ℕ

abbrev pub opening : Settings → Table
opening s = record {
  requests = rows.opening s.references s.window;
  leases = no_leases s.share s.lease_ms s.wait_ms;
  clock = 0;
  closed = None;
  frames = 0;
}

abbrev pub is_open : Table → Bool
is_open t = is_none t.closed

-- an event with a moment sets the clock
abbrev pub at_moment : ℕ → Table → Table
at_moment now t = record t { clock = max t.clock now }

-- the actor holds the lease with this number
abbrev pub holds : ℕ → ℕ → Table → Bool
holds actor number t = list_any (is_lease_of actor number) t.leases.held
