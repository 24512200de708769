use Rattle.node_tree.proofs.BitsLemmas.{bits_behind, length_bits_of, take_bits_of}
use Rattle.node_tree.proofs.laws.bits_by_bytes.Goals as goal

pub returns-clause-length : goal.returns-clause-length
returns-clause-length c = length_bits_of

pub returns-clause-front : goal.returns-clause-front
returns-clause-front c = take_bits_of

pub returns-clause-rest : goal.returns-clause-rest
returns-clause-rest c = bits_behind
