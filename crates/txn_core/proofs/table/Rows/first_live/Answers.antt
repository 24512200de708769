use Rattle.std.proofs.Common.{ap, ◌∙◌}
use Rattle.txn_core.specs.KeptRows.{first_id, rows_of, table_of}
use Rattle.txn_core.specs.RowTables.{any_row, is_live_and}
use Rattle.txn_core.proofs.KeptLemmas.{named_is_live}
use Rattle.txn_core.proofs.table.Rows.first_live.Goals as goal

pub returns-clause-live : goal.returns-clause-live
returns-clause-live g c =
    let p = any_row in
    rw (← c.self.view_is) (named_is_live p (table_of c.self.inside) c.first_live.result (c.first_live.ensures ∙ ap (λ rows. first_id (is_live_and p) (rows_of rows)) c.deref.ensures.value))
