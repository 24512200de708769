use Rattle.std.proofs.Common.{length, sym, ap, ◌∙◌}
use Rattle.bit_base.proofs.OutputLemmas.{length_of_output}
use Rattle.bit_base.proofs.outputs.BitOut.bits.Goals as goal

pub returns : goal.returns
returns c = sym (length_of_output c.self.inside.bytes.items c.self.inside.bits c.self.invariant) ∙ ap length c.self.view_is
