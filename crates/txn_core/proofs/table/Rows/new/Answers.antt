use Rattle.std.proofs.Common.{refl}
use Rattle.txn_core.proofs.KeptLemmas.{opens}
use Rattle.txn_core.proofs.table.Rows.new.Goals as goal

pub invariant_of-result : goal.invariant_of-result
invariant_of-result g c =
    opens _ c.requires c.in_ok-rows.ensures.items c.in_ok-free.ensures.items c.in_ok-quarantined.ensures refl c.in_ok-rows.ensures.capacity c.in_ok-free.ensures.room

pub returns-clause-table : goal.returns-clause-table
returns-clause-table g c = (invariant_of-result g c).table
