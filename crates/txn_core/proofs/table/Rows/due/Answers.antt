use Rattle.std.proofs.Common.{ap, ◌∙◌}
use Rattle.txn_core.specs.KeptRows.{first_id, rows_of, table_of}
use Rattle.txn_core.specs.RowTables.{is_due, is_live_and}
use Rattle.txn_core.proofs.KeptLemmas.{named_is_live}
use Rattle.txn_core.proofs.table.Rows.due.Goals as goal

pub returns-clause-live : goal.returns-clause-live
returns-clause-live g c =
    let p = is_due c.args.now in
    rw (← c.self.view_is) (named_is_live p (table_of c.self.inside) c.first_due.result (c.first_due.ensures ∙ ap (λ rows. first_id (is_live_and p) (rows_of rows)) c.deref.ensures.value))
