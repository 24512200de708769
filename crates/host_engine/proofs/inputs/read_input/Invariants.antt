use Rattle.std.proofs.Common.{◌≡◌, ◌≤◌, ◌-◌, vec_len}
use Rattle.link_io.specs.Streams.{after_giving, AreNext}
use Rattle.host_engine.proofs.inputs.read_input.Given as goal

-- these bytes were taken, and no call has failed or met the end
abbrev pub invariant-loop-buffer : goal.invariant-loop-buffer
invariant-loop-buffer g l = record {
  within : vec_len l.bytes ≤ 16777217;
  given : (g.S.Source.seen l.input).tape ≡ after_giving l.bytes.items ((g.S.Source.seen l.fn.input).tape);
  next : AreNext l.bytes.items ((g.S.Source.seen l.fn.input).tape);
  ends : (g.S.Source.seen l.input).ends ≡ (g.S.Source.seen l.fn.input).ends;
  faults : (g.S.Source.seen l.input).faults ≡ (g.S.Source.seen l.fn.input).faults;
}

abbrev pub decreases-loop-buffer : goal.decreases-loop-buffer
decreases-loop-buffer g l = 16777217 - vec_len l.bytes
