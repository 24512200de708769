use Rattle.std.proofs.Common.{drop}
use Rattle.mspec_lexer.specs.Lexemes.{lexemes}
use Rattle.mspec_quotes.proofs.QuoteLaws.{gives-read, gives-only, gives-refused}
use Rattle.mspec_quotes.proofs.quotes.quoted.Goals as goal

pub returns-clause-read : goal.returns-clause-read
returns-clause-read c =
    gives-read c.args.text.now c.args.tokens.now (lexemes c.args.text.now (drop c.args.at c.args.tokens.now)) c.quote_at.result c.quote_at.ensures.exact

pub returns-clause-refused : goal.returns-clause-refused
returns-clause-refused c =
    gives-refused c.args.text.now c.args.tokens.now (drop c.args.at c.args.tokens.now) c.quote_at.result c.quote_at.ensures.exact

pub returns-clause-only : goal.returns-clause-only
returns-clause-only c =
    λ e rest q. gives-only c.args.text.now c.args.tokens.now (lexemes c.args.text.now (drop c.args.at c.args.tokens.now)) c.quote_at.result e rest q c.quote_at.ensures.exact
