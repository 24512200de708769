use Rattle.std.proofs.Common.{◌≡◌, ◌≤◌, length, take}
use Rattle.link_io.specs.Streams.{after_taking}
use Rattle.link_io.proofs.tests.write_whole.Given as goal

abbrev pub invariant-loop-turn : goal.invariant-loop-turn
invariant-loop-turn g l = record {
  within : l.put ≤ length l.bytes;
  held : (g.K.Sink.seen l.output).held ≡ after_taking (take l.put l.bytes) (g.K.Sink.seen l.initial.output).held;
  faults : (g.K.Sink.seen l.output).faults ≡ (g.K.Sink.seen l.initial.output).faults;
}
