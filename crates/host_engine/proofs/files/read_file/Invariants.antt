use Rattle.std.proofs.Common.{◌≡◌, ◌≤◌, ◌-◌, ℕ, List, take, vec_len}
use Rattle.std.specs.Bool.{IsTrue}
use Rattle.std.specs.Option.{IfSome}
use Rattle.link_io.specs.Streams.{LeavesFiles}
use Rattle.host_engine.proofs.files.read_file.Given as goal

-- the text is a front of the file, and no call has failed
abbrev pub invariant-loop-buffer : goal.invariant-loop-buffer
invariant-loop-buffer g l = record {
  within : vec_len l.text ≤ 1048577;
  front : IfSome ((g.F.Shelf.seen l.fn.files).file l.name) (λ bytes. l.text.items ≡ take (vec_len l.text) bytes);
  lacking : IsTrue ((g.F.Shelf.seen l.fn.files).lacks l.name) → vec_len l.text ≡ 0;
  counts : (other : List ℕ) → (g.F.Shelf.seen l.files).faults other ≡ (g.F.Shelf.seen l.fn.files).faults other;
  files : LeavesFiles (g.F.Shelf.seen l.fn.files) (g.F.Shelf.seen l.files);
}

abbrev pub decreases-loop-buffer : goal.decreases-loop-buffer
decreases-loop-buffer g l = 1048577 - vec_len l.text
