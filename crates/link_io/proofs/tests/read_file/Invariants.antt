use Rattle.std.proofs.Common.{◌≡◌, ℕ, List}
use Rattle.link_io.specs.Streams.{AreFirst}
use Rattle.link_io.proofs.tests.read_file.Given as goal

abbrev pub invariant-loop-turn : goal.invariant-loop-turn
invariant-loop-turn g l = record {
  file : (other : List ℕ) → (g.S.Shelf.seen l.shelf).file other ≡ (g.S.Shelf.seen l.initial.shelf).file other;
  first : AreFirst l.bytes.items ((g.S.Shelf.seen l.initial.shelf).file l.name);
  faults : (other : List ℕ) → (g.S.Shelf.seen l.shelf).faults other ≡ (g.S.Shelf.seen l.initial.shelf).faults other;
}
