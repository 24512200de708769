use Rattle.std.proofs.Common.{◌≡◌, ◌-◌, ◌*◌, ◌^◌, ◌<◌}
use Rattle.node_tree.specs.Bits.{number_bits, groups_reversed, spelled_behind, little_number}
use Rattle.bit_base.proofs.orders.turned.Given as goal

-- the bytes that are left spell the whole number behind those that are turned
abbrev pub invariant-loop-done : goal.invariant-loop-done
invariant-loop-done l = record {
  spelled : spelled_behind l.turned (groups_reversed (number_bits (8 * (l.count - l._done)) l.rest)) ≡ little_number (number_bits (8 * l.count) l.number);
  small : l.turned < 2 ^ (8 * l._done);
}
