use Rattle.std.specs.Prelude.{length}
use Rattle.plc_sim.proofs.answers.+packed_byte.Given as goal

abbrev pub decreases-packed_byte : goal.decreases-packed_byte
decreases-packed_byte l = length l.flags.now
