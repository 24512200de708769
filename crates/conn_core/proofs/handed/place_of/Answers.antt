use Rattle.std.proofs.Common.{rules, tests}
use Rattle.std.proofs.lemmas.Iterator.{YieldsList-from_slice}
use Rattle.std.proofs.lemmas.Iterator.Search.{position_from_yields_List}
use Rattle.conn_core.specs.HandedItems.{item_has}
use Rattle.conn_core.proofs.handed.place_of.Goals as goal

pub returns : goal.returns
returns c =
    position_from_yields_List (item_has c.args.id) _ _ c.position.result c.position.ensures.ran (YieldsList-from_slice c.args.handed.now cc) (λ x b q k. search (rules, tests))
