use Rattle.std.proofs.Common.{rules, tests}
use Rattle.std.proofs.lemmas.Iterator.{YieldsList-from_slice}
use Rattle.std.proofs.lemmas.Iterator.Search.{position_from_yields_List}
use Rattle.txn_core.specs.FirstPlaces.{placed}
use Rattle.txn_core.specs.KeptRows.{row_of}
use Rattle.txn_core.specs.RowTables.{has_id, is_live_and}
use Rattle.txn_core.proofs.kept.place_live.Goals as goal

pub returns : goal.returns
returns g c =
    let test = is_live_and (has_id c.args.id) in
    placed test row_of c.args.rows.now c.position.result
    (position_from_yields_List (λ k. test (row_of k)) _ _ c.position.result c.position.ensures.ran (YieldsList-from_slice c.args.rows.now cc) (λ x b q k. search (rules, tests)))
