use Rattle.std.proofs.Common.{◌%◌, arith, sum}
use Rattle.std.proofs.lemmas.List.{get_or-replicate}
use Rattle.link_io.proofs.mem_shelves.MemShelf.new.Goals as goal

pub returns-clause-counts : goal.returns-clause-counts
returns-clause-counts c = λ name. rw c.fresh_counts.ensures (get_or-replicate 256 (sum name % 256) 0 0 (omega arith))
