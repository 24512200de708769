use Rattle.std.proofs.Common.{◌<◌, arith}
use Rattle.bit_base.proofs.WindowLemmas.{room, below_bytes, one_more_byte}
use Rattle.bit_base.proofs.windows.number_of_bytes.Goals as goal

byte_small : (c : goal.After-from) → c.from.result < 256
byte_small c = omega (arith, c.type_inv.bytes c.loop-byte.byte-index, c.from.ensures)

pub loop-byte-preserved : goal.loop-byte-preserved
loop-byte-preserved c = record {
  spelled = one_more_byte c.args.bytes.now c.loop-byte.byte-index c.loop-byte.number c.from.result (omega arith) (omega arith) (byte_small c) c.loop-byte.invariant.spelled;
  small = room c.loop-byte.number c.from.result c.loop-byte.byte-index c.loop-byte.invariant.small (byte_small c);
}

pub returns-clause-fits : goal.returns-clause-fits
returns-clause-fits c = below_bytes c.loop-byte.number c.loop-byte.byte-index 9 c.loop-byte.invariant.small (omega arith)
