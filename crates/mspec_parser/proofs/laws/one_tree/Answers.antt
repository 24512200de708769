use Rattle.mspec_parser.proofs.CompleteTrees.{one-tree}
use Rattle.mspec_parser.proofs.laws.one_tree.Goals as goal

pub returns : goal.returns
returns c = one-tree
