-- What is kept of a connection to which nothing has happened.
use Rattle.std.proofs.Common.{◌≡◌, ℕ, ◌≤◌, [], refl, ap, arith, Option, None}
use Rattle.lease_core.specs.LeaseLaws.{no_leases_lawful}
use Rattle.lease_core.specs.LeaseTables.{no_leases}
use Rattle.txn_core.specs.RowLaws.{opening_table}
use Rattle.txn_core.specs.RowTables as rows
use Rattle.wire_frames.specs.declared.ends.Reason.{Reason}
use Rattle.conn_core.specs.Journals as journals
use Rattle.conn_core.specs.Journals.{table_of}
use Rattle.conn_core.specs.KeptStates.{ClosesAs, IsStateOf}
use Rattle.conn_core.specs.KeptTables.{Stands}
use Rattle.conn_core.specs.Tables.{Connection, IsSettings}
use Rattle.conn_core.specs.declared.table.KeptTable.{KeptTable}

opening_stands : (c : Connection) (k : KeptTable) → k.requests ≡ rows.opening c.settings.references c.settings.window → k.leases ≡ no_leases c.settings.share c.settings.lease_ms c.settings.wait_ms → k.handed.items ≡ [] → k.clock ≡ 0 → k.closed ≡ None → k.frames ≡ 0 → Stands [] k (table_of c [])
unfolding table_of
opening_stands c k requests leases handed clock closed frames = record {
  requests = requests;
  leases = leases;
  clock = clock;
  closed = closed;
  frames = frames;
  handed = rw handed tt;
}

opening_closes : (closed : Option Reason) → closed ≡ None → ClosesAs [] closed
opening_closes closed none reason = (λ is. cc, λ w. let at = w.2 in cc)

pub opening_state : (c : Connection) (k : KeptTable) (capacity : ℕ) → IsSettings c.settings → k.requests ≡ rows.opening c.settings.references c.settings.window → k.leases ≡ no_leases c.settings.share c.settings.lease_ms c.settings.wait_ms → k.handed.items ≡ [] → k.clock ≡ 0 → k.closed ≡ None → k.frames ≡ 0 → 1 ≤ capacity → IsStateOf c [] k capacity
opening_state c k capacity settings requests leases handed clock closed frames room =
    let journal = settings.journal in
    record {
      settings = settings;
      legal = journals.opened;
      stands = opening_stands c k requests leases handed clock closed frames;
      kept = record {
        rows = rw requests (opening_table c.settings.references c.settings.window (record { some_references = settings.references; some_window = settings.window }));
        leases = rw leases (no_leases_lawful c.settings.share c.settings.lease_ms c.settings.wait_ms settings.share settings.lease_ms settings.wait_ms);
        references = ap (λ (t : rows.RowTable _ _). t.references) requests;
        window = ap (λ (t : rows.RowTable _ _). t.window) requests;
        share = rw leases refl;
        lease_ms = rw leases refl;
        wait_ms = rw leases refl;
        requests_drawn = rw requests (omega arith);
        leases_drawn = rw leases (omega arith);
        frames = omega arith;
        quiet = λ reason e. cc;
      };
      closes = opening_closes k.closed closed;
      below = λ none. omega arith;
      within = rw requests (omega arith);
      room = rw (requests, leases, closed) (omega arith);
      admitted = λ at e is. cc;
      carried = λ at e is. cc;
    }
