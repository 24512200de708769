use Rattle.std.proofs.Common.{None}
use Rattle.script_replay.proofs.ScriptLaws.{same_replies}
use Rattle.script_replay.proofs.laws.one_script.Goals as goal

pub returns : goal.returns
returns c = same_replies 1 None
