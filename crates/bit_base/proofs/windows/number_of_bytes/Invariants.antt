use Rattle.std.proofs.Common.{◌≡◌, ◌*◌, ◌^◌, ◌<◌, take}
use Rattle.node_tree.specs.Bits.{bits_of, big_number}
use Rattle.bit_base.proofs.windows.number_of_bytes.Given as goal

-- the number of the bytes so far, and how large it can be
abbrev pub invariant-loop-byte : goal.invariant-loop-byte
invariant-loop-byte l = record {
  spelled : l.number ≡ big_number (bits_of (take l.byte-index l.bytes));
  small : l.number < 2 ^ (8 * l.byte-index);
}
