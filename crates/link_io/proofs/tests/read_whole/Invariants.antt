use Rattle.std.proofs.Common.{◌≡◌}
use Rattle.link_io.specs.Streams.{after_giving, AreNext}
use Rattle.link_io.proofs.tests.read_whole.Given as goal

abbrev pub invariant-loop-turn : goal.invariant-loop-turn
invariant-loop-turn g l = record {
  told : (g.S.Source.seen l.input).tape ≡ after_giving l.bytes.items (g.S.Source.seen l.initial.input).tape;
  next : AreNext l.bytes.items (g.S.Source.seen l.initial.input).tape;
  faults : (g.S.Source.seen l.input).faults ≡ (g.S.Source.seen l.initial.input).faults;
  ends : (g.S.Source.seen l.input).ends ≡ (g.S.Source.seen l.initial.input).ends;
}
