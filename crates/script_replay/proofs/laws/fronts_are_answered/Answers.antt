use Rattle.std.proofs.Common.{None}
use Rattle.script_replay.proofs.FrontLaws.{front_answered}
use Rattle.script_replay.proofs.laws.fronts_are_answered.Goals as goal

pub returns : goal.returns
returns c = λ lines text end count h. front_answered count 1 None lines text end h
