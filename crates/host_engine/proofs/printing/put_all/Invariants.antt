use Rattle.std.proofs.Common.{◌≡◌, ◌++◌, ℕ, List, length}
use Rattle.link_io.specs.Streams.{after_taking}
use Rattle.host_engine.proofs.printing.put_all.Given as goal

-- a front of the bytes went out, and the rest is left
abbrev pub invariant-loop-rest : goal.invariant-loop-rest
invariant-loop-rest g l =
    (front : List ℕ)
    × (front ++ l.rest ≡ l.bytes)
    × ((g.K.Sink.seen l.out).held ≡ after_taking front (g.K.Sink.seen l.fn.out).held)
    × ((g.K.Sink.seen l.out).faults ≡ (g.K.Sink.seen l.fn.out).faults)

abbrev pub decreases-loop-rest : goal.decreases-loop-rest
decreases-loop-rest g l = length l.rest
