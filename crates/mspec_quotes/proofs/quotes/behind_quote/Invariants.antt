use Rattle.std.proofs.Common.{◌≡◌, ◌≤◌, [], drop}
use Rattle.mspec_tree.specs.Depth.{depth_limit}
use Rattle.mspec_lexer.specs.Lexemes.{lexemes}
use Rattle.mspec_quotes.specs.Machine.{read, least, Operand}
use Rattle.mspec_quotes.specs.Steps.{mode_of}
use Rattle.mspec_quotes.proofs.quotes.behind_quote.Given as goal

abbrev pub invariant-loop-index : goal.invariant-loop-index
invariant-loop-index l = record {
  same : read depth_limit [] Operand (lexemes l.text (drop l.fn.at l.tokens)) ≡ read depth_limit l.reading.opens (mode_of l.reading.expected) (lexemes l.text (drop l.index l.tokens));
  fits : least l.reading.opens (mode_of l.reading.expected) ≤ depth_limit;
}
