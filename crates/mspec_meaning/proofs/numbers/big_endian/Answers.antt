use Rattle.std.proofs.Common.{◌<◌, arith}
use Rattle.mspec_meaning.proofs.NumberLemmas.{room, fits, one_more_byte}
use Rattle.mspec_meaning.proofs.numbers.big_endian.Goals as goal

byte_small : (c : goal.After-from) → c.from.result < 256
byte_small c = omega (arith, c.type_inv.bytes c.loop-byte.byte-index, c.from.ensures)

pub overflow_mul-number : goal.overflow_mul-number
overflow_mul-number c = omega (arith, fits c.loop-byte.number 0 c.loop-byte.byte-index c.loop-byte.invariant.small (omega arith) (omega arith))

pub overflow_add-number : goal.overflow_add-number
overflow_add-number c = omega (arith, fits c.loop-byte.number c.from.result c.loop-byte.byte-index c.loop-byte.invariant.small (byte_small c) (omega arith))

pub loop-byte-preserved : goal.loop-byte-preserved
loop-byte-preserved c = record {
  spelled = one_more_byte c.args.bytes.now c.loop-byte.byte-index c.loop-byte.number c.from.result (omega arith) (omega arith) (byte_small c) c.loop-byte.invariant.spelled;
  small = room c.loop-byte.number c.from.result c.loop-byte.byte-index c.loop-byte.invariant.small (byte_small c);
}
