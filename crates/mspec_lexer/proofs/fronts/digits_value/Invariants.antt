use Rattle.std.proofs.Common.{◌≡◌, ◌<◌, ◌^◌, drop}
use Rattle.std.specs.Str.Parse.{AllDigits, digits_value, digits_value_after}
use Rattle.mspec_lexer.proofs.fronts.digits_value.Given as goal

abbrev pub invariant-loop-digit : goal.invariant-loop-digit
invariant-loop-digit l = record {
  value : digits_value l.radix l.digits ≡ digits_value_after l.radix l.number (drop l.digit-index l.digits);
  left : AllDigits l.radix (drop l.digit-index l.digits);
  small : l.number < 2 ^ 128;
}
