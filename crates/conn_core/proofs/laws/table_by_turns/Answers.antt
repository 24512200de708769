use Rattle.conn_core.proofs.TurnTables.{turn_table}
use Rattle.conn_core.proofs.laws.table_by_turns.Goals as goal

pub returns : goal.returns
returns c = turn_table
