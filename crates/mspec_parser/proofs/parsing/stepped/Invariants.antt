use Rattle.std.proofs.Common.{◌≡◌, ◌+◌, ◌≤◌, drop}
use Rattle.mspec_lexer.specs.LexerParts.{stepped}
use Rattle.mspec_parser.proofs.parsing.stepped.Given as goal

abbrev pub invariant-loop-byte : goal.invariant-loop-byte
invariant-loop-byte l = record {
  behind : stepped l.place (drop l.byte-index l.bytes) ≡ stepped (record { line = 1; column = 1 }) l.bytes;
  lines : l.place.line ≤ 1 + l.byte-index;
  columns : l.place.column ≤ 1 + l.byte-index;
}
