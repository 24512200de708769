use Rattle.script_replay.proofs.LineByLine.{line_by_line}
use Rattle.script_replay.proofs.laws.answered_line_by_line.Goals as goal

pub returns : goal.returns
returns c = line_by_line
