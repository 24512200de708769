use Rattle.std.proofs.Common.{◌≡◌, ℕ, ◌-◌, ◌<◌, List, length, get_or, take, reverse, sym, ap, ◌∙◌, arith}
use Rattle.std.proofs.lemmas.Iterator.Adapters.{YieldsList-from_rev_slice}
use Rattle.std.proofs.lemmas.Iterator.Consumers.{YieldsList-turn, YieldsList-end}
use Rattle.std.proofs.lemmas.List.{get_or_default, get_or-reverse, length-reverse, length_push, take_all}
use Rattle.node_tree.specs.Bits.{bits_of, big_number}
use Rattle.node_tree.proofs.BitsLemmas.{little_number-bits_of}
use Rattle.mspec_meaning.proofs.NumberLemmas.{room, fits, one_more_byte}
use Rattle.mspec_meaning.proofs.numbers.little_endian.Goals as goal

-- the byte that comes next from the end
from_end : (bytes : List ℕ) (i byte : ℕ) → ((k : ℕ) → get_or bytes k 0 < 256) → (i < length (reverse bytes)) × (byte ≡ get_or (reverse bytes) i byte) → (i < length (reverse bytes)) × (byte ≡ get_or (reverse bytes) i 0) × (byte < 256)
from_end bytes i byte small turn =
    let is : byte ≡ get_or (reverse bytes) i 0 = turn.1 ∙ get_or_default (reverse bytes) i byte 0 turn.0 in
    let there = get_or-reverse bytes i 0 (omega (arith, turn.0, length-reverse bytes)) in
    (turn.0, is, omega (arith, is, there, small (length bytes - 1 - i)))

next_byte : (c : goal.After-from) → (let bytes = reverse c.args.bytes.now in let i = length c.loop-byte.yielded in (i < length bytes) × (c.from.result ≡ get_or bytes i 0) × (c.from.result < 256))
next_byte c =
    let turn = YieldsList-turn (YieldsList-from_rev_slice c.args.bytes.now cc) c.loop-byte.yielded _ c.loop-byte.yielded_by _ _ c.in-Some.byte c.in-Some.is c.next.ensures.steps in
    let byte = from_end c.args.bytes.now (length c.loop-byte.yielded) c.in-Some.byte.now (λ k. omega (arith, c.type_inv.bytes k)) turn in
    (byte.0, c.from.ensures ∙ byte.1, omega (arith, c.from.ensures, byte.2))

pub overflow_mul-number : goal.overflow_mul-number
overflow_mul-number c =
    let turn = YieldsList-turn (YieldsList-from_rev_slice c.args.bytes.now cc) c.loop-byte.yielded _ c.loop-byte.yielded_by _ _ c.in-Some.byte c.in-Some.is c.next.ensures.steps in
    omega (arith, fits c.loop-byte.number 0 (length c.loop-byte.yielded) c.loop-byte.invariant.small (omega arith) (omega (arith, turn.0, length-reverse c.args.bytes.now)))

pub overflow_add-number : goal.overflow_add-number
overflow_add-number c =
    let byte = next_byte c in
    omega (arith, fits c.loop-byte.number c.from.result (length c.loop-byte.yielded) c.loop-byte.invariant.small byte.2 (omega (arith, byte.0, length-reverse c.args.bytes.now)))

pub loop-byte-preserved : goal.loop-byte-preserved
loop-byte-preserved c =
    let bytes = reverse c.args.bytes.now in
    let i = length c.loop-byte.yielded in
    let byte = next_byte c in
    let next = length_push c.loop-byte.yielded c.in-Some.byte in
    record {
      spelled = one_more_byte bytes i c.loop-byte.number c.from.result byte.0 byte.1 byte.2 c.loop-byte.invariant.spelled
          ∙ ap (λ n. big_number (bits_of (take n bytes))) (sym next);
      small = rw next (room c.loop-byte.number c.from.result i c.loop-byte.invariant.small byte.2);
    }

pub returns : goal.returns
returns c =
    let bytes = reverse c.args.bytes.now in
    let end = YieldsList-end (YieldsList-from_rev_slice c.args.bytes.now cc) c.loop-byte.yielded _ c.loop-byte.yielded_by _ _ c.in-None.is c.next.ensures.steps in
    c.loop-byte.invariant.spelled
    ∙ ap (λ xs. big_number (bits_of xs)) (take_all (length c.loop-byte.yielded) bytes (omega (arith, end.1)))
    ∙ sym (little_number-bits_of c.args.bytes.now)
