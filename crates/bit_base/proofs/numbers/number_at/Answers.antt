use Rattle.std.proofs.Common.{◌≡◌, ◌-◌, ◌*◌, ◌/◌, ◌^◌, ◌≤◌, length, take, drop, sym, ap, ◌∙◌, arith}
use Rattle.node_tree.specs.Bits.{number_bits, bits_of}
use Rattle.bit_base.specs.Numbers.{number}
use Rattle.bit_base.proofs.SpellingLemmas.{number_bits-mod}
use Rattle.bit_base.proofs.PlacingLemmas.{field_bits}
use Rattle.bit_base.proofs.WindowLemmas.{window_bits, length-window}
use Rattle.bit_base.proofs.numbers.number_at.Goals as goal

-- the bits there are those of the field that the touched bytes have
bits_there : (c : goal.After-in_order) → take c.args.width (drop c.args.bit (bits_of c.args.bytes.now)) ≡ number_bits c.args.width c.field_of.result
bits_there c =
    let bytes = c.args.bytes.now in
    let from = c.window_of-place.result.from in
    let to = c.window_of-place.result.to in
    let behind = c.window_of-place.result.behind in
    let first = c.args.bit - 8 * from in
    let within : to ≤ length bytes = omega arith in
    let touched = bits_of (take (to - from) (drop from bytes)) in
    window_bits bytes c.args.bit c.args.width from to behind c.window_of-place.ensures.first c.window_of-place.ensures.end within
    ∙ field_bits first c.args.width behind touched
    (length-window bytes c.args.bit c.args.width from to behind c.window_of-place.ensures.first c.window_of-place.ensures.end within)
    ∙ ap (λ k. number_bits c.args.width (k / 2 ^ behind)) (sym c.number_of_bytes-touched.ensures.value)
    ∙ sym (number_bits-mod c.args.width (c.number_of_bytes-touched.result / 2 ^ behind))
    ∙ ap (λ k. number_bits c.args.width k) (sym c.field_of.ensures)

pub returns : goal.returns
returns c = record {
  value = c.in_order.ensures.value ∙ ap (λ bits. number c.args.order bits) (sym (bits_there c));
  fits = c.in_order.ensures.fits;
}
