use Rattle.std.proofs.Common.{◌≡◌, ◌+◌, ◌++◌, length, take, length-append, sym, ap, ◌∙◌, arith}
use Rattle.std.proofs.lemmas.List.{with_items_is}
use Rattle.node_tree.specs.Bits.{bits_of}
use Rattle.bit_base.specs.Numbers.{spelling, put_bits}
use Rattle.bit_base.proofs.SpellingLemmas.{length-spelling}
use Rattle.bit_base.proofs.OutputLemmas.{length_of_output, put_at_end}
use Rattle.bit_base.proofs.outputs.BitOut.put.Goals as goal

pub overflow_add-end : goal.overflow_add-end
overflow_add-end c =
    let long : c.self.inside.bits ≡ length c.args.self.now =
    sym (length_of_output c.self.inside.bytes.items c.self.inside.bits c.self.invariant) ∙ ap length c.self.view_is in
    omega (arith, long, c.requires.size, c.from.ensures)

pub put_number-requires-clause-size : goal.put_number-requires-clause-size
put_number-requires-clause-size c =
    let long : c.self.inside.bits ≡ length c.args.self.now =
    sym (length_of_output c.self.inside.bytes.items c.self.inside.bits c.self.invariant) ∙ ap length c.self.view_is in
    omega (arith, long, c.requires.size, c.from.ensures, c.div_ceil.ensures, c.deref_mut.ensures.len, c.in_ok-resize.ensures.len)

pub returns-clause-ok : goal.returns-clause-ok
returns-clause-ok c =
    let bits = spelling c.args.order c.args.width c.args.value in
    let held = with_items_is c.resize.new.self c.put_number.new.bytes (c.put_number.auto.bytes ∙ c.deref_mut.ensures.len) in
    ap (λ xs. take (c.self.inside.bits + c.from.result) (bits_of xs)) held
    ∙ ap (λ k. take (c.self.inside.bits + k) (bits_of c.put_number.new.bytes)) c.from.ensures
    ∙ put_at_end c.self.inside.bytes.items _ c.put_number.new.bytes bits c.self.inside.bits c.args.width c.div_ceil.result c.self.invariant
    (omega (arith, c.self.invariant, c.from.ensures, c.div_ceil.ensures))
    (length-spelling c.args.order c.args.width c.args.value)
    (c.put_number.ensures
    ∙ ap (λ xs. put_bits (bits_of xs) c.self.inside.bits bits) (c.deref_mut.ensures.value ∙ c.in_ok-resize.ensures.items))
    ∙ ap (λ xs. xs ++ bits) c.self.view_is

pub returns-clause-longer : goal.returns-clause-longer
returns-clause-longer c =
    let bits = spelling c.args.order c.args.width c.args.value in
    ap length (returns-clause-ok c)
    ∙ length-append c.args.self.now bits
    ∙ ap (λ n. length c.args.self.now + n) (length-spelling c.args.order c.args.width c.args.value)
