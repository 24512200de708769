use Rattle.txn_core.specs.RowLaws.{free_few}
use Rattle.txn_core.proofs.laws.references_are_few.Goals as goal

pub returns : goal.returns
returns g c = free_few
