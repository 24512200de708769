use Rattle.node_tree.proofs.BitsLemmas.{little_number-bits_of}
use Rattle.node_tree.proofs.laws.little_numbers_by_bytes.Goals as goal

pub returns : goal.returns
returns c = little_number-bits_of
