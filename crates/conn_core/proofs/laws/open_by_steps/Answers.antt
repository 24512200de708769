use Rattle.conn_core.proofs.TurnTables.{step_open}
use Rattle.conn_core.proofs.laws.open_by_steps.Goals as goal

pub returns : goal.returns
returns c = step_open
