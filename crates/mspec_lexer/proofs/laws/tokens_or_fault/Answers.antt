use Rattle.mspec_lexer.proofs.WholeCuts.{some_answer, tokens_or_refused}
use Rattle.mspec_lexer.proofs.laws.tokens_or_fault.Goals as goal

pub returns-clause-some : goal.returns-clause-some
returns-clause-some c = some_answer

pub returns-clause-one : goal.returns-clause-one
returns-clause-one c = tokens_or_refused
