use Rattle.std.proofs.Common.{◌≡◌, false, ◌+◌, drop}
use Rattle.std.specs.Option.{option_map}
use Rattle.mspec_lexer.specs.LexerParts.{closed_len}
use Rattle.mspec_lexer.proofs.fronts.closed_len.Given as goal

abbrev pub invariant-loop-i : goal.invariant-loop-i
invariant-loop-i l = closed_len false l.inner ≡ option_map (λ n. n + l.i) (closed_len l.star (drop l.i l.inner))
