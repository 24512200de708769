use Rattle.std.proofs.Common.{ap, replicate}
use Rattle.link_io.proofs.mem_shelves.fresh_counts.Goals as goal

pub returns : goal.returns
returns c = ap (replicate 256) c.new.ensures
