use Rattle.mspec_lexer.proofs.WholeCuts.{one_tokens}
use Rattle.mspec_lexer.proofs.laws.one_tokens.Goals as goal

pub returns : goal.returns
returns c = one_tokens
