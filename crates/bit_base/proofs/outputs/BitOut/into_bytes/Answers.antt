use Rattle.std.proofs.Common.{◌≡◌, ◌%◌, length, refl, sym, ap, ◌∙◌}
use Rattle.node_tree.specs.Bits.{bits_of}
use Rattle.bit_base.proofs.OutputLemmas.{length_of_output, whole_output}
use Rattle.bit_base.proofs.outputs.BitOut.into_bytes.Goals as goal

pub returns-then-self-ne0-clause-whole : goal.returns-then-self-ne0-clause-whole
returns-then-self-ne0-clause-whole c =
    let long : c.self.inside.bits ≡ length c.args.self =
    sym (length_of_output c.self.inside.bytes.items c.self.inside.bits c.self.invariant) ∙ ap length c.self.view_is in
    (λ e. cc, λ h. absurd (c.if-self-ne0.true (ap (λ k. k % 8) long ∙ h)))

pub returns-clause-whole : goal.returns-clause-whole
returns-clause-whole c =
    let long : c.self.inside.bits ≡ length c.args.self =
    sym (length_of_output c.self.inside.bytes.items c.self.inside.bits c.self.invariant) ∙ ap length c.self.view_is in
    (λ e. ap (λ k. k % 8) (sym long) ∙ c.if-self-ne0.false, λ h. refl)

pub returns-clause-ok : goal.returns-clause-ok
returns-clause-ok c =
    ap bits_of c.from_vec.ensures
    ∙ whole_output c.self.inside.bytes.items c.self.inside.bits c.self.invariant c.if-self-ne0.false
    ∙ c.self.view_is
