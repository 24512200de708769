use Rattle.std.proofs.Common.{arith}
use Rattle.std.proofs.lemmas.Int.{ints}
use Rattle.mspec_ranges.proofs.SpanLaws.{all_shifted}
use Rattle.mspec_ranges.proofs.spans.over_power.Goals as goal

pub returns-then-places-gt63 : goal.returns-then-places-gt63
returns-then-places-gt63 c =
    all_shifted c.args.number c.args.places c.requires.low c.requires.high (grind (arith, ints))
