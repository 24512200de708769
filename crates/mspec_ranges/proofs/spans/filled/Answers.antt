use Rattle.std.proofs.Common.{◌<◌, ◌^◌, arith}
use Rattle.mspec_ranges.proofs.SpanLaws.{digits_below, size_below}
use Rattle.mspec_ranges.proofs.spans.filled.Goals as goal

pub power_of_two-requires : goal.power_of_two-requires
power_of_two-requires c =
    let size : c.unsigned_abs.result < 2 ^ 64 = size_below c.args.number c.unsigned_abs.result c.ranges.number c.unsigned_abs.ensures.value c.requires.low c.requires.high in
    omega (arith, c.binary_digits.ensures.value, digits_below c.unsigned_abs.result 64 size)
