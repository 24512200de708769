use Rattle.script_replay.proofs.RefusedLaws.{behind_answered}
use Rattle.script_replay.proofs.laws.refused_behind_answered.Goals as goal

pub returns : goal.returns
returns c = behind_answered
