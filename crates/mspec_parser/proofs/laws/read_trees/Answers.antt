use Rattle.mspec_parser.proofs.CompleteTrees.{tree-reads}
use Rattle.mspec_parser.proofs.SoundTrees.{read-tree}
use Rattle.mspec_parser.proofs.laws.read_trees.Goals as goal

pub returns : goal.returns
returns c = record { read = tree-reads; trees = λ limit xs d low h. read-tree limit low xs d h }
