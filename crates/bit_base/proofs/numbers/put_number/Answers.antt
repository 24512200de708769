use Rattle.std.proofs.Common.{◌≡◌, ◌+◌, ◌-◌, ◌*◌, ◌/◌, ◌%◌, ◌^◌, ◌≤◌, length, take, drop, sym, ap, ◌∙◌, arith}
use Rattle.std.proofs.lemmas.Nat.{pow_pos}
use Rattle.node_tree.specs.Bits.{number_bits, bits_of}
use Rattle.node_tree.proofs.BitsLemmas.{length_bits_of}
use Rattle.bit_base.specs.Numbers.{spelling, put_bits}
use Rattle.bit_base.proofs.SpellingLemmas.{length-spelling}
use Rattle.bit_base.proofs.PlacingLemmas.{field_put}
use Rattle.bit_base.proofs.WindowLemmas.{length-window, window_put}
use Rattle.bit_base.proofs.numbers.put_number.Goals as goal

pub returns : goal.returns
returns c =
    let bytes = c.args.bytes.now in
    let from = c.window_of-window.result.from in
    let to = c.window_of-window.result.to in
    let behind = c.window_of-window.result.behind in
    let width = c.args.width in
    let first = c.args.bit - 8 * from in
    let part = take (to - from) (drop from bytes) in
    let bits = spelling c.args.order width c.args.value in
    let field = c.in_order-field.result in
    let within : to ≤ length bytes = omega arith in
    let long : length (bits_of part) ≡ first + width + behind =
    length-window bytes c.args.bit width from to behind c.window_of-window.ensures.first c.window_of-window.ensures.end within in
    let changed : bits_of c.set_bytes.new.bytes ≡ put_bits (bits_of part) first bits =
    c.set_bytes.ensures
    ∙ ap (λ k. number_bits k c.with_field-changed.result) (sym (length_bits_of part) ∙ long)
    ∙ ap (λ k. number_bits (first + width + behind) k)
    (c.with_field-changed.ensures
    ∙ ap (λ n. (n / 2 ^ (behind + width) * 2 ^ width + field) * 2 ^ behind + n % 2 ^ behind) c.number_of_bytes.ensures.value)
    ∙ field_put first width behind field (bits_of part) long c.in_order-field.ensures.fits (pow_pos behind)
    ∙ ap (λ xs. put_bits (bits_of part) first xs) c.in_order-field.ensures.bits in
    window_put bytes c.set_bytes.new.bytes bits c.args.bit from (to - from) c.window_of-window.ensures.first (omega arith)
    (omega (arith, length-spelling c.args.order width c.args.value)) changed
