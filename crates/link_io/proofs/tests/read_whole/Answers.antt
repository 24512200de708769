use Rattle.std.proofs.Common.{◌≡◌, ◌<◌, ◌++◌, ◌∙◌, take, arith}
use Rattle.link_io.specs.Streams.{IsAtEnd, after_giving-append, AreNext-append, AreNext-all}
use Rattle.link_io.proofs.tests.read_whole.Goals as goal

pub returns-in-Ok-eq0-clause-all : goal.returns-in-Ok-eq0-clause-all
returns-in-Ok-eq0-clause-all g c =
    let at_end : IsAtEnd (g.S.Source.seen c.loop-turn.input).tape = c.in-Ok-eq0.ensures.at_end (cc) in
    AreNext-all _ _ c.loop-turn.invariant.next (rw c.loop-turn.invariant.told at at_end)

pub loop-turn-preserved : goal.loop-turn-preserved
loop-turn-preserved g c =
    let put : c.extend_from_slice.new.self.items ≡ c.loop-turn.bytes.items ++ take c.in-Ok.count c.read.new.to =
    grind (arith, c.extend_from_slice.ensures.items, c.if-is_err.ensures) in
    let some : 0 < c.in-Ok.count = omega arith in
    record {
      told = rw (put, after_giving-append, ← c.loop-turn.invariant.told) c.in-Ok.ensures.given;
      next = rw put (AreNext-append _ _ _ c.loop-turn.invariant.next (rw c.loop-turn.invariant.told at c.in-Ok.ensures.next));
      faults = c.in-Ok.ensures.no_fault ∙ c.loop-turn.invariant.faults;
      ends = c.in-Ok.ensures.no_end some ∙ c.loop-turn.invariant.ends;
    }
