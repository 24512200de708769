use Rattle.std.proofs.Common.{◌∙◌, sym, ap, refl, subst, None}
use Rattle.std.specs.Vec.{vec_capacity}
use Rattle.lease_core.specs.LeaseTables.{no_leases}
use Rattle.txn_core.specs.RowTables as rows
use Rattle.conn_core.specs.Tables.{IsSettings}
use Rattle.conn_core.specs.declared.settings.Settings.{Settings}
use Rattle.conn_core.specs.declared.table.KeptTable.{KeptTable}
use Rattle.conn_core.proofs.DoesLemmas.{parts}
use Rattle.conn_core.proofs.OpeningLemmas.{opening_state}
use Rattle.conn_core.proofs.kept.Kept.new.Goals as goal

pub returns-clause-state : goal.returns-clause-state
returns-clause-state c = λ conn same.
    let k : KeptTable = record { requests = c.in_ok-requests.requests; handed = c.new-3.result; leases = c.in_ok-leases.leases; clock = 0; closed = None; frames = 0 } in
    let room = vec_capacity c.in_ok-journal.journal in
    let back = sym same in
    let requests = c.in_ok-requests.ensures.opened ∙ ap (λ (s : Settings). rows.opening s.references s.window) back in
    let leases = c.in_ok-leases.ensures.table ∙ ap (λ (s : Settings). no_leases s.share s.lease_ms s.wait_ms) back in
    let begun = opening_state conn k room (subst IsSettings back c.requires) requests leases c.new-3.ensures.items refl refl refl c.in_ok-journal.ensures.capacity in
    parts conn _ c.in_ok-journal.journal.items k k room c.in_ok-journal.ensures.items refl begun
