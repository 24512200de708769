use Rattle.std.proofs.Common.{◌≡◌, ◌++◌, ◌∙◌, IfSome, length, take, drop, arith}
use Rattle.link_io.specs.Streams.{AreFirst-append}
use Rattle.link_io.proofs.tests.read_file.Goals as goal

pub loop-turn-preserved : goal.loop-turn-preserved
loop-turn-preserved g c =
    let put : c.extend_from_slice.new.self.items ≡ c.loop-turn.bytes.items ++ take c.in-Ok.count c.read_at.new.to =
    grind (arith, c.extend_from_slice.ensures.items, c.if-is_err.ensures) in
    let next : IfSome ((g.S.Shelf.seen c.args.shelf.now).file c.args.name.now)
    (λ whole. take c.in-Ok.count c.read_at.new.to ≡ take c.in-Ok.count (drop (length c.loop-turn.bytes.items) whole)) =
    rw (c.loop-turn.invariant.file c.args.name.now, c.len.ensures, c.loop-turn.bytes.ok.0) at c.in-Ok.ensures.content in
    record {
      file = λ other. (c.in-Ok.ensures.files other).0 ∙ c.loop-turn.invariant.file other;
      first = rw put (AreFirst-append _ _ _ _ c.in-Ok.ensures.count c.loop-turn.invariant.first next);
      faults = λ other. c.in-Ok.ensures.no_fault other ∙ c.loop-turn.invariant.faults other;
    }
