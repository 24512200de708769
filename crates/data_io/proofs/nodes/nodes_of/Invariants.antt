use Rattle.std.proofs.Common.{◌≡◌, map, take}
use Rattle.data_io.specs.Data.{value_node}
use Rattle.data_io.proofs.nodes.nodes_of.Given as goal

abbrev pub invariant-loop-value : goal.invariant-loop-value
invariant-loop-value l = l.nodes.items ≡ map value_node (take l.value-index l.values)
