use Rattle.std.proofs.Common.{◌≡◌, ◌≤◌}
use Rattle.std.specs.List.{range_with_len}
use Rattle.std.specs.VecDeque.{deque_len, deque_capacity}
use Rattle.txn_core.proofs.marks.all_references.Given as goal

abbrev pub invariant-loop-reference : goal.invariant-loop-reference
invariant-loop-reference l =
    record { items : l.free.items ≡ range_with_len 1 l.reference; len : deque_len l.free ≡ l.reference; room : l.count ≤ deque_capacity l.free }
