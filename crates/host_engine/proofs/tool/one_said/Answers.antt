use Rattle.host_engine.proofs.OneSaid.{one_said as said_once}
use Rattle.host_engine.proofs.tool.one_said.Goals as goal

pub returns : goal.returns
returns c = said_once
