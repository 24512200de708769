use Rattle.script_lines.specs.Scripts.{words_of}
use Rattle.script_replay.proofs.ScriptLaws.{in_ranges}
use Rattle.script_replay.proofs.replays.Replay.take_line.Goals as goal

pub run-requires : goal.run-requires
run-requires c = in_ranges (words_of c.args.line.now) c.in_ok-command.command c.in_ok-command.ensures.read.0
