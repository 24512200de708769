use Rattle.mspec_lexer.specs.Lexemes.{lexemes}
use Rattle.mspec_parser.proofs.Parsed.{tree-of, form-of, only-of}
use Rattle.mspec_parser.proofs.Placed.{refused-of}
use Rattle.mspec_parser.proofs.Within.{are-within}
use Rattle.mspec_parser.proofs.parsing.parse.Goals as goal

pub placed-requires-clause-within : goal.placed-requires-clause-within
placed-requires-clause-within c = rw c.as_slice.ensures (are-within c.args.text.now c.args.tokens.now c.requires)

pub placed-requires-clause-short : goal.placed-requires-clause-short
placed-requires-clause-short c = c.requires.short

pub returns-clause-tree : goal.returns-clause-tree
returns-clause-tree c = tree-of c.args.text.now (lexemes c.args.text.now c.args.tokens.now) c.placed.result (rw c.as_slice.ensures at c.placed.ensures)

pub returns-clause-form : goal.returns-clause-form
returns-clause-form c = form-of c.args.text.now c.args.tokens.now c.requires c.placed.result (rw c.as_slice.ensures at c.placed.ensures)

pub returns-clause-only : goal.returns-clause-only
returns-clause-only c = only-of c.args.text.now (lexemes c.args.text.now c.args.tokens.now) c.placed.result (rw c.as_slice.ensures at c.placed.ensures)

pub returns-clause-refused : goal.returns-clause-refused
returns-clause-refused c = refused-of c.args.text.now (lexemes c.args.text.now c.args.tokens.now) c.placed.result (rw c.as_slice.ensures at c.placed.ensures)
