use Rattle.std.proofs.Common.{◌≡◌, ◌*◌, ◌-◌, List, [], ◌++◌, length, drop}
use Rattle.node_tree.specs.Bits.{bits_of}
use Rattle.node_tree.specs.declared.readings.Reading.{Reading}
use Rattle.mspec_meaning.specs.Stream.{Stream, StreamFrom, Ending}
use Rattle.host_engine.specs.Tool.{listings}
use Rattle.host_engine.specs.Runs.{Adds}
use Rattle.host_engine.proofs.values.put_values.Given as goal

-- These readings were put out or gathered, and whatever stream the bytes that are left give goes on from them.
abbrev pub invariant-loop-at : goal.invariant-loop-at
invariant-loop-at g l =
    (readings : List Reading)
    × Adds (g.K.Sink.seen l.fn.out).held (g.K.Sink.seen l.out).held l.fn.gathered.items l.gathered.items (listings l.d l.def readings)
    × ((g.K.Sink.seen l.out).faults ≡ (g.K.Sink.seen l.fn.out).faults)
    × ((more : List Reading) (ending : Ending) → StreamFrom l.d l.def [] (8 * l.at) (bits_of (drop l.at l.bytes)) more ending → Stream l.d l.def [] l.bytes (readings ++ more) ending)

abbrev pub decreases-loop-at : goal.decreases-loop-at
decreases-loop-at g l = length l.bytes - l.at
