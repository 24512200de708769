use Rattle.std.proofs.Common.{rules, tests}
use Rattle.std.proofs.lemmas.Iterator.{YieldsList-from_slice}
use Rattle.std.proofs.lemmas.Iterator.Search.{find_from_yields_List}
use Rattle.txn_core.proofs.FoundIds.{found_id}
use Rattle.txn_core.specs.KeptRows.{row_of}
use Rattle.txn_core.specs.RowTables.{has_reference, is_sent_and}
use Rattle.txn_core.proofs.kept.first_sent.Goals as goal

pub returns : goal.returns
returns g c =
    let test = is_sent_and (has_reference c.args.reference) in
    found_id test c.args.rows.now (λ x. x.now) _ c.find.result c.map.result
    (find_from_yields_List (λ k. test (row_of k)) _ _ c.find.result c.find.ensures.ran (YieldsList-from_slice c.args.rows.now cc) (λ x b q k. search (rules, tests)))
    (λ x n h. search (rules, tests)) c.map.ensures.cases
