use Rattle.std.proofs.Common.{ℕ, arith, take-add, List}
use Rattle.std.proofs.lemmas.List.{drop-drop}
use Rattle.std.proofs.lemmas.Grind.{common_steps}
use Rattle.link_io.proofs.mem_sources.MemSourceSource.read.Goals as goal

pub returns-else-count-eq0-clause-ok : goal.returns-else-count-eq0-clause-ok
returns-else-count-eq0-clause-ok c =
    let bytes : List ℕ = c.self.inside.bytes.items in
    grind (arith, common_steps, take-add c.self.inside.at c.copy_front-count.result bytes, drop-drop c.copy_front-count.result c.self.inside.at bytes)
