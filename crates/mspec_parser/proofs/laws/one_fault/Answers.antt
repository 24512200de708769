use Rattle.mspec_parser.proofs.FaultLaws.{one-fault, no-tree, tree-or-fault}
use Rattle.mspec_parser.proofs.laws.one_fault.Goals as goal

pub returns : goal.returns
returns c = record { some = tree-or-fault; no_tree = no-tree; place_and_why = one-fault }
