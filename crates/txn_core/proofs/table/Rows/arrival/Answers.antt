use Rattle.std.proofs.Common.{◌≡◌, ap, sym, ◌∙◌}
use Rattle.txn_core.specs.KeptRows.{first_id, rows_of, table_of}
use Rattle.txn_core.specs.RowEnds.{sent_is_live}
use Rattle.txn_core.specs.RowTables.{has_reference, has_sent, is_sent_and}
use Rattle.txn_core.proofs.KeptLemmas.{arrives}
use Rattle.txn_core.proofs.table.Rows.arrival.Goals as goal

pub returns-in-Some-clause-sent : goal.returns-in-Some-clause-sent
returns-in-Some-clause-sent g c = λ id is.
    let t = table_of c.self.inside in
    let same : c.in-Some.id ≡ id = cc in
    let arrived = arrives t c.args.reference c.in-Some.id (c.in-Some.ensures ∙ ap (λ rows. first_id (is_sent_and (has_reference c.args.reference)) (rows_of rows)) c.deref.ensures.value) in
    rw (← c.self.view_is) (ap (λ n. has_sent n t) (sym same) ∙ arrived.1)

pub returns-in-Some-clause-live : goal.returns-in-Some-clause-live
returns-in-Some-clause-live g c = λ id is. sent_is_live c.args.self.now id (returns-in-Some-clause-sent g c id is)
