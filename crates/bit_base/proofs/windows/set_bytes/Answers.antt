use Rattle.std.proofs.Common.{◌≡◌, ◌+◌, ◌-◌, ◌*◌, ◌/◌, ◌^◌, length, take, bit_and, sym, ap, ◌∙◌, arith}
use Rattle.std.proofs.lemmas.List.{take_more_set}
use Rattle.node_tree.specs.Bits.{number_bits, bits_of}
use Rattle.bit_base.proofs.SpellingLemmas.{nothing}
use Rattle.bit_base.proofs.WindowLemmas.{next_byte}
use Rattle.bit_base.proofs.windows.set_bytes.Goals as goal

pub loop-i-init : goal.loop-i-init
loop-i-init c = sym (nothing (c.args.number / 2 ^ (8 * (length c.args.bytes.now - 0))))

pub loop-i-preserved : goal.loop-i-preserved
loop-i-preserved c =
    let count = length c.args.bytes.now in
    let left = count - (c.loop-i.i + 1) in
    let byte = bit_and (c.args.number / 2 ^ (8 * (count - 1 - c.loop-i.i))) 255 in
    let here : count - 1 - c.loop-i.i ≡ left = omega arith in
    let before : count - c.loop-i.i ≡ left + 1 = omega arith in
    ap bits_of (take_more_set c.loop-i.bytes c.loop-i.i byte (omega arith))
    ∙ next_byte (take c.loop-i.i c.loop-i.bytes) c.loop-i.i left c.args.number byte
    (ap (λ k. bit_and (c.args.number / 2 ^ (8 * k)) 255) here)
    (c.loop-i.invariant ∙ ap (λ k. number_bits (8 * c.loop-i.i) (c.args.number / 2 ^ (8 * k))) before)
