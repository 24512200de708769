use Rattle.std.proofs.Common.{◌≡◌, ◌%◌, sum, take}
use Rattle.link_io.proofs.mem_shelves.place.Given as goal

abbrev pub invariant-loop-byte : goal.invariant-loop-byte
invariant-loop-byte l = sum (take l.byte-index l.byte-items) % 256 ≡ l.sum
