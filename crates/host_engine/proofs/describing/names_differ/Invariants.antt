use Rattle.std.proofs.Common.{◌≡◌, length}
use Rattle.host_engine.specs.FirstForm.{names_differ}
use Rattle.host_engine.proofs.describing.names_differ.Given as goal

-- the names so far differ from all that come after them
abbrev pub invariant-loop-first : goal.invariant-loop-first
invariant-loop-first l = names_differ l.fields ≡ names_differ l.rest

abbrev pub decreases-loop-first : goal.decreases-loop-first
decreases-loop-first l = length l.rest
