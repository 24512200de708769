use Rattle.script_lines.proofs.LineTotal.{line_decided}
use Rattle.script_lines.proofs.reading.command_or_none.Goals as goal

pub returns : goal.returns
returns c = line_decided
