use Rattle.mspec_quotes.proofs.laws.one_expression.Goals as goal
use Rattle.mspec_quotes.proofs.QuoteLaws.{one-quoted}

pub returns : goal.returns
returns c = one-quoted
