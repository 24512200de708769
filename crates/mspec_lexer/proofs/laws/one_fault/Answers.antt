use Rattle.mspec_lexer.proofs.WholeCuts.{one_fault}
use Rattle.mspec_lexer.proofs.laws.one_fault.Goals as goal

pub returns : goal.returns
returns c = one_fault
