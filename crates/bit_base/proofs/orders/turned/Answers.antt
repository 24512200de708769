use Rattle.std.proofs.Common.{◌≡◌, ◌+◌, ◌-◌, ◌*◌, ◌%◌, ◌^◌, ◌<◌, ap, sym, ◌∙◌, arith}
use Rattle.node_tree.specs.Bits.{number_bits, groups_reversed, spelled_behind, little_number}
use Rattle.bit_base.proofs.SpellingLemmas.{nothing}
use Rattle.bit_base.proofs.WindowLemmas.{room, below_bytes, turned_byte}
use Rattle.bit_base.proofs.orders.turned.Goals as goal

pub loop-done-init : goal.loop-done-init
loop-done-init c = record {
  spelled = ap (λ k. little_number (number_bits (8 * k) c.args.number)) (omega arith);
  small = omega arith;
}

next_small : (c : goal.In-loop-done) → c.loop-done.turned * 256 + c.loop-done.rest % 256 < 2 ^ (8 * (c.loop-done._done + 1))
next_small c = room c.loop-done.turned (c.loop-done.rest % 256) c.loop-done._done c.loop-done.invariant.small (omega arith)

next_fits : (c : goal.In-loop-done) → c.loop-done.turned * 256 + c.loop-done.rest % 256 < 2 ^ 64
next_fits c =
    below_bytes (c.loop-done.turned * 256 + c.loop-done.rest % 256) (c.loop-done._done + 1) 8 (next_small c) (omega arith)

pub overflow_mul-turned : goal.overflow_mul-turned
overflow_mul-turned c = omega (arith, next_fits c)

pub overflow_add-turned : goal.overflow_add-turned
overflow_add-turned c = omega (arith, next_fits c)

pub loop-done-preserved : goal.loop-done-preserved
loop-done-preserved c = record {
  spelled =
      let more : c.args.count - (c.loop-done._done + 1) + 1 ≡ c.args.count - c.loop-done._done = omega arith in
      turned_byte c.loop-done.turned c.loop-done.rest (c.args.count - (c.loop-done._done + 1))
      ∙ ap (λ k. spelled_behind c.loop-done.turned (groups_reversed (number_bits (8 * k) c.loop-done.rest))) more
      ∙ c.loop-done.invariant.spelled;
  small = next_small c;
}

pub returns : goal.returns
returns c =
    let none : 8 * (c.args.count - c.loop-done._done) ≡ 0 = omega arith in
    sym (ap (λ k. spelled_behind c.loop-done.turned (groups_reversed (number_bits k c.loop-done.rest))) none
    ∙ ap (λ bits. spelled_behind c.loop-done.turned (groups_reversed bits)) (nothing c.loop-done.rest))
    ∙ c.loop-done.invariant.spelled
