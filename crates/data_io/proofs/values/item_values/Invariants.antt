use Rattle.std.proofs.Common.{◌≡◌, map, take}
use Rattle.std.specs.List.{All}
use Rattle.data_io.specs.Data.{IsOf, value_node}
use Rattle.data_io.proofs.values.item_values.Given as goal

abbrev pub invariant-loop-item : goal.invariant-loop-item
invariant-loop-item l = record {
  each : All (IsOf l.kind) l.values.items;
  same : take l.item-index l.items ≡ map value_node l.values.items;
}
