use Rattle.node_tree.proofs.BitsLemmas.{one_byte_more}
use Rattle.node_tree.proofs.laws.numbers_by_bytes.Goals as goal

pub returns : goal.returns
returns c = one_byte_more
