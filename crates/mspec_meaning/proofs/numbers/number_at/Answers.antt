use Rattle.std.proofs.Common.{◌≡◌, ◌*◌, ◌/◌, take, drop, Ok, ap, sym, ◌∙◌, arith}
use Rattle.node_tree.specs.Bits.{bits_of}
use Rattle.mspec_meaning.specs.Reads.{number, number_part}
use Rattle.mspec_meaning.proofs.NumberLemmas.{read_short, read_number}
use Rattle.mspec_meaning.proofs.numbers.number_at.Goals as goal

pub returns-then-bytes-end-clause-number : goal.returns-then-bytes-end-clause-number
returns-then-bytes-end-clause-number c =
    read_short c.args.order c.args.width c.args.from c.args.bytes.now c.requires.width (omega (arith, c.from.ensures)) (omega (arith, c.from-2.ensures))

pub returns-clause-number : goal.returns-clause-number
returns-clause-number c =
    let size = c.args.width / 8 in
    let rest = drop c.args.from c.args.bytes.now in
    let spelled : c.number_of.result ≡ number c.args.order (bits_of (take size rest)) = c.number_of.ensures ∙ ap (λ n. number c.args.order (bits_of (take n rest))) (omega (arith, c.from-2.ensures)) in
    read_number c.args.order c.args.width c.args.from c.args.bytes.now c.requires.width (omega (arith, c.from.ensures)) (omega (arith, c.from-2.ensures))
    ∙ ap (λ n. Ok (number_part n c.args.width (8 * c.args.from))) (sym spelled)
