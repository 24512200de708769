use Rattle.script_replay.proofs.ScriptLaws.{legal_end}
use Rattle.script_replay.proofs.laws.keeps_a_legal_journal.Goals as goal

pub returns : goal.returns
returns c = legal_end
