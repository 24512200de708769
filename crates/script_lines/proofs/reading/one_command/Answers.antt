use Rattle.script_lines.proofs.LineLaws.{same_command}
use Rattle.script_lines.proofs.reading.one_command.Goals as goal

pub returns : goal.returns
returns c = same_command
