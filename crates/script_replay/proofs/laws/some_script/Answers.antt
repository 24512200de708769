use Rattle.std.proofs.Common.{None}
use Rattle.script_replay.proofs.ReplyLaws.{some_replies}
use Rattle.script_replay.proofs.laws.some_script.Goals as goal

pub returns : goal.returns
returns c = some_replies 1 None
