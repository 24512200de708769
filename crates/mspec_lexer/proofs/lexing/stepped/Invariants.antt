use Rattle.std.proofs.Common.{◌≡◌, ◌+◌, ◌≤◌, drop}
use Rattle.mspec_lexer.specs.LexerParts.{stepped}
use Rattle.mspec_lexer.proofs.lexing.stepped.Given as goal

abbrev pub invariant-loop-byte : goal.invariant-loop-byte
invariant-loop-byte l = record {
  behind : stepped l.place (drop l.byte-index l.bytes) ≡ stepped l.fn.place l.bytes;
  lines : l.place.line ≤ l.fn.place.line + l.byte-index;
  columns : l.place.column ≤ l.fn.place.column + l.byte-index;
}
