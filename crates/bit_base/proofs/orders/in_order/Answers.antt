use Rattle.std.proofs.Common.{◌≡◌, ◌*◌, ◌/◌, ◌^◌, ap, sym, ◌∙◌, arith}
use Rattle.node_tree.specs.Bits.{number_bits, little_number}
use Rattle.node_tree.proofs.BitsLemmas.{length_number_bits}
use Rattle.bit_base.specs.declared.orders.Order.TheVariants.{Little}
use Rattle.bit_base.specs.Numbers.{number, spelling}
use Rattle.bit_base.proofs.SpellingLemmas.{big_number-number_bits, number_bits-number, number-lt}
use Rattle.bit_base.proofs.orders.in_order.Goals as goal

pub returns-in-Big-clause-value : goal.returns-in-Big-clause-value
returns-in-Big-clause-value c =
    sym (big_number-number_bits c.args.width c.args.plain c.requires.fits)
    ∙ ap (λ order. number order (number_bits c.args.width c.args.plain)) (sym c.in-Big.is)

turned_whole : (c : goal.After-turned) → c.turned.result ≡ little_number (number_bits c.args.width c.args.plain)
turned_whole c =
    let whole : 8 * (c.args.width / 8) ≡ c.args.width = omega (arith, c.requires.groups c.in-Little.is) in
    c.turned.ensures ∙ ap (λ k. little_number (number_bits k c.args.plain)) whole

pub returns-in-Little-clause-value : goal.returns-in-Little-clause-value
returns-in-Little-clause-value c =
    turned_whole c ∙ ap (λ order. number order (number_bits c.args.width c.args.plain)) (sym c.in-Little.is)

pub returns-in-Little-clause-bits : goal.returns-in-Little-clause-bits
returns-in-Little-clause-bits c =
    ap (λ k. number_bits c.args.width k) (turned_whole c)
    ∙ number_bits-number Little c.args.width c.args.plain
    ∙ ap (λ order. spelling order c.args.width c.args.plain) (sym c.in-Little.is)

pub returns-in-Little-clause-fits : goal.returns-in-Little-clause-fits
returns-in-Little-clause-fits c =
    omega (
      arith,
      turned_whole c,
      number-lt Little (number_bits c.args.width c.args.plain),
      ap (λ k. 2 ^ k) (length_number_bits c.args.width c.args.plain),
    )
