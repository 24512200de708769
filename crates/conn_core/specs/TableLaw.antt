-- What the table after a journal and the places of the journal say alike: the clock, the leases, the close, the rows, and how
-- many frames, requests and asked leases there were.
use Rattle.std.specs.Prelude.{◌≡◌, ◌↔◌, ◌≤◌, List, Some, count_by, length}
use Rattle.lease_core.specs.LeaseTables.{waiters_limit}
use Rattle.txn_core.specs.RowTables.{is_sent, rows_limit}
use Rattle.wire_frames.specs.declared.ends.Reason.{Reason}
use Rattle.conn_core.specs.Causes.{ClosesWith}
use Rattle.conn_core.specs.Entries.{asks_in, clock_of, frames_in, requests_in}
use Rattle.conn_core.specs.Journals.{table_of}
use Rattle.conn_core.specs.LeasePlaces.{leases_of}
use Rattle.conn_core.specs.Tables.{Connection, Table}
use Rattle.conn_core.specs.declared.entries.Entry.{Entry}
use Rattle.conn_core.specs.declared.settings.Settings.{Settings}

-- A table keeps no more rows, waiters and held leases than it may, and no more rows are sent and live than the window has.
pub record IsBounded (s : Settings) (t : Table) : Type 0 where
  pub rows : length t.requests.rows ≤ rows_limit
  pub waiting : length t.leases.waiting ≤ waiters_limit
  pub held : length t.leases.held ≤ s.share
  pub sent : count_by is_sent t.requests.rows ≤ s.window

pub record TableLaw (c : Connection) (journal : List Entry) : Type 0 where
  -- The clock is the greatest moment.
  pub clock : (table_of c journal).clock ≡ clock_of journal
  -- Leases are held and waited for by their own rules.
  pub leases : (table_of c journal).leases ≡ leases_of c.settings journal
  -- It is closed exactly where an entry closes, with that entry's reason.
  pub closed : (reason : Reason) → ((table_of c journal).closed ≡ Some reason) ↔ ClosesWith journal reason
  -- As many frames were taken as there are entries of frames, as many requests accepted as there are entries of requests, and
  -- as many leases numbered as there are entries that ask for one.
  pub frames : (table_of c journal).frames ≡ frames_in journal
  pub requests : (table_of c journal).requests.drawn ≡ requests_in journal
  pub asks : (table_of c journal).leases.drawn ≡ asks_in journal
  -- It is within its bounds.
  pub bounds : IsBounded c.settings (table_of c journal)
