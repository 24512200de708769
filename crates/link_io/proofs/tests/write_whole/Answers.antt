use Rattle.std.proofs.Common.{◌≡◌, ◌<◌, ◌-◌, ◌∙◌, length, take, drop, take_all, arith, take-add, length-drop}
use Rattle.link_io.specs.Streams.{after_taking-append}
use Rattle.link_io.proofs.tests.write_whole.Goals as goal

pub loop-turn-preserved : goal.loop-turn-preserved
loop-turn-preserved g c =
    let some : 0 < c.in-Ok-write.count = omega arith in
    let rest : take (length c.args.bytes.now - c.loop-turn.put) (drop c.loop-turn.put c.args.bytes.now)
    ≡ drop c.loop-turn.put c.args.bytes.now =
    take_all _ _ (omega (arith, length-drop c.loop-turn.put c.args.bytes.now)) in
    record {
      within = omega (arith, rw rest at c.in-Ok-write.ensures.count, length-drop c.loop-turn.put c.args.bytes.now);
      held =
          rw (take-add, after_taking-append, ← c.loop-turn.invariant.held)
          (rw rest at c.in-Ok-write.ensures.held);
      faults = c.in-Ok-write.ensures.no_fault some ∙ c.loop-turn.invariant.faults;
    }
