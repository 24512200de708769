use Rattle.std.proofs.Common.{length, ◌-◌, ◌≤◌, ◌+◌}
use Rattle.mspec_lexer.proofs.CutLaws.{Cut}
use Rattle.mspec_lexer.proofs.lexing.lex.Given as goal

abbrev pub invariant-loop-from : goal.invariant-loop-from
invariant-loop-from l = record {
  short : length l.text ≤ 1048576;
  within : l.from ≤ length l.text;
  line : l.place.line ≤ l.from + 1;
  column : l.place.column ≤ l.from + 1;
  cut : Cut l.text l.from l.place l.tokens.items;
}

abbrev pub decreases-loop-from : goal.decreases-loop-from
decreases-loop-from l = length l.text - l.from
