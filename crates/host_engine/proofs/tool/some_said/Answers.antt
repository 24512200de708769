use Rattle.host_engine.proofs.SomeSaid.{said_alone, some_said as said_somehow}
use Rattle.host_engine.proofs.tool.some_said.Goals as goal

pub returns-clause-left : goal.returns-clause-left
returns-clause-left c = said_somehow

pub returns-clause-alone : goal.returns-clause-alone
returns-clause-alone c = said_alone
