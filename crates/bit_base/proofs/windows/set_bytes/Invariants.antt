use Rattle.std.proofs.Common.{◌≡◌, ◌-◌, ◌*◌, ◌/◌, ◌^◌, take}
use Rattle.node_tree.specs.Bits.{number_bits, bits_of}
use Rattle.bit_base.proofs.windows.set_bytes.Given as goal

abbrev pub invariant-loop-i : goal.invariant-loop-i
invariant-loop-i l = bits_of (take l.i l.bytes) ≡ number_bits (8 * l.i) (l.number / 2 ^ (8 * (l.count - l.i)))
