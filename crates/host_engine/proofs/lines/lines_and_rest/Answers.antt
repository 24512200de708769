use Rattle.host_engine.proofs.LineLaws.{feeds_read}
use Rattle.host_engine.proofs.lines.lines_and_rest.Goals as goal

pub returns : goal.returns
returns c = feeds_read
