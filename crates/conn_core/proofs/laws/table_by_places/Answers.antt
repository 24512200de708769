use Rattle.conn_core.proofs.StepLaws.{table_law}
use Rattle.conn_core.proofs.laws.table_by_places.Goals as goal

pub returns : goal.returns
returns c = table_law
