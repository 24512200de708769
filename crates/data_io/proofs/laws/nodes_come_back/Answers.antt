use Rattle.data_io.proofs.Readings.{kinds_of}
use Rattle.data_io.proofs.laws.nodes_come_back.Goals as goal

pub returns : goal.returns
returns c = λ node list h. (h.kind, h.registers, h.reserved, h.data_are, kinds_of h.kind list h.data_are.each, h.reserved_is, h.node_is)
