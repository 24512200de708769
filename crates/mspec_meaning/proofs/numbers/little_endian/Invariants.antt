use Rattle.std.proofs.Common.{◌≡◌, ◌*◌, ◌^◌, ◌<◌, length, take, reverse}
use Rattle.node_tree.specs.Bits.{bits_of, big_number}
use Rattle.mspec_meaning.proofs.numbers.little_endian.Given as goal

-- the number of the last bytes so far, and how large it can be
abbrev pub invariant-loop-byte : goal.invariant-loop-byte
invariant-loop-byte l = record {
  spelled : l.number ≡ big_number (bits_of (take (length l.yielded) (reverse l.bytes)));
  small : l.number < 2 ^ (8 * length l.yielded);
}
