-- Bits that stand inside others: how they are taken out, and put in the place of others.
use Rattle.std.proofs.Common.{◌≡◌, ℕ, ◌+◌, ◌*◌, ◌/◌, ◌%◌, ◌^◌, ◌<◌, ◌≤◌, Bool, List, ◌++◌, length, take, drop, refl, sym, ap, ◌∙◌, append_assoc, length-append, length-drop, arith}
use Rattle.std.proofs.Math.Seq.{take-append-add, drop-append-add}
use Rattle.std.proofs.lemmas.List.{take_at, drop_at, take-append-le, drop-append-le, length-take-le, take-append-drop, drop-drop}
use Rattle.std.proofs.lemmas.Nat.{shr-shr}
use Rattle.node_tree.specs.Bits.{number_bits, big_number}
use Rattle.node_tree.proofs.BitsLemmas.{length_number_bits}
use Rattle.bit_base.specs.declared.orders.Order.{Order}
use Rattle.bit_base.specs.declared.orders.Order.TheVariants.{Little}
use Rattle.bit_base.specs.Numbers.{number, spelling, put_bits}
use Rattle.bit_base.proofs.SpellingLemmas.{number_bits-split, number_bits-append, number_bits-mod, bits_of_number, length-spelling, number-spelling, spelling-number}

-- ---- what stands where bits were put

pub take-put_bits : (old bits : List Bool) (bit : ℕ) → bit + length bits ≤ length old → take bit (put_bits old bit bits) ≡ take bit old
take-put_bits old bits bit h =
    ap (λ xs. take bit xs) (append_assoc (take bit old) bits (drop (bit + length bits) old))
    ∙ take_at (take bit old) (bits ++ drop (bit + length bits) old) bit (length-take-le bit old (omega arith))

behind_front : (old bits : List Bool) (bit : ℕ) → bit + length bits ≤ length old → drop bit (put_bits old bit bits) ≡ bits ++ drop (bit + length bits) old
behind_front old bits bit h =
    ap (λ xs. drop bit xs) (append_assoc (take bit old) bits (drop (bit + length bits) old))
    ∙ drop_at (take bit old) (bits ++ drop (bit + length bits) old) bit (length-take-le bit old (omega arith))

pub there-put_bits : (old bits : List Bool) (bit : ℕ) → bit + length bits ≤ length old → take (length bits) (drop bit (put_bits old bit bits)) ≡ bits
there-put_bits old bits bit h =
    ap (λ xs. take (length bits) xs) (behind_front old bits bit h)
    ∙ take_at bits (drop (bit + length bits) old) (length bits) refl

pub drop-put_bits : (old bits : List Bool) (bit : ℕ) → bit + length bits ≤ length old → drop (bit + length bits) (put_bits old bit bits) ≡ drop (bit + length bits) old
drop-put_bits old bits bit h =
    drop_at (take bit old ++ bits) (drop (bit + length bits) old) (bit + length bits)
    (length-append (take bit old) bits ∙ ap (λ n. n + length bits) (length-take-le bit old (omega arith)))

pub take_to_end-put_bits : (old bits : List Bool) (bit end : ℕ) → bit ≤ length old → end ≡ bit + length bits → take end (put_bits old bit bits) ≡ take bit old ++ bits
take_to_end-put_bits old bits bit end h e =
    take_at (take bit old ++ bits) (drop (bit + length bits) old) end
    (length-append (take bit old) bits ∙ ap (λ n. n + length bits) (length-take-le bit old h) ∙ sym e)

pub read-put_bits : (order : Order) (old : List Bool) (bit width value : ℕ) → value < 2 ^ width → (order ≡ Little → width % 8 ≡ 0) → bit + width ≤ length old
    → number order (take width (drop bit (put_bits old bit (spelling order width value)))) ≡ value
read-put_bits order old bit width value fits groups h =
    let bits : List Bool = spelling order width value in
    let long : length bits ≡ width = length-spelling order width value in
    ap (λ n. number order (take n (drop bit (put_bits old bit bits)))) (sym long)
    ∙ ap (λ xs. number order xs) (there-put_bits old bits bit (omega (arith, long)))
    ∙ number-spelling order width value fits groups

pub put_bits-same : (old : List Bool) (bit width : ℕ) → bit + width ≤ length old → put_bits old bit (take width (drop bit old)) ≡ old
put_bits-same old bit width h =
    let long : length (take width (drop bit old)) ≡ width = length-take-le width (drop bit old) (omega (arith, length-drop bit old)) in
    ap (λ n. take bit old ++ take width (drop bit old) ++ drop (bit + n) old) long
    ∙ append_assoc (take bit old) (take width (drop bit old)) (drop (bit + width) old)
    ∙ ap (λ xs. take bit old ++ (take width (drop bit old) ++ xs)) (sym (drop-drop width bit old))
    ∙ ap (λ xs. take bit old ++ xs) (take-append-drop width (drop bit old))
    ∙ take-append-drop bit old

pub put_what_was_read : (order : Order) (old : List Bool) (bit width : ℕ) → (order ≡ Little → width % 8 ≡ 0) → bit + width ≤ length old
    → put_bits old bit (spelling order width (number order (take width (drop bit old)))) ≡ old
put_what_was_read order old bit width groups h =
    let there : List Bool = take width (drop bit old) in
    let long : length there ≡ width = length-take-le width (drop bit old) (omega (arith, length-drop bit old)) in
    ap (λ n. put_bits old bit (spelling order n (number order there))) (sym long)
    ∙ ap (λ xs. put_bits old bit xs) (spelling-number order there (λ is. ap (λ n. n % 8) long ∙ groups is))
    ∙ put_bits-same old bit width h

-- ---- a part of the bits is put with the part

pub put_bits-front : (front xs bits : List Bool) (bit : ℕ) → put_bits (front ++ xs) (length front + bit) bits ≡ front ++ put_bits xs bit bits
put_bits-front front xs bits bit =
    let more : length front + bit + length bits ≡ length front + (bit + length bits) = omega arith in
    ap (λ ys. ys ++ bits ++ drop (length front + bit + length bits) (front ++ xs)) (take-append-add front xs bit)
    ∙ ap (λ n. front ++ take bit xs ++ bits ++ drop n (front ++ xs)) more
    ∙ ap (λ ys. front ++ take bit xs ++ bits ++ ys) (drop-append-add front xs (bit + length bits))
    ∙ ap (λ ys. ys ++ drop (bit + length bits) xs) (append_assoc front (take bit xs) bits)
    ∙ append_assoc front (take bit xs ++ bits) (drop (bit + length bits) xs)

pub put_bits-back : (xs back bits : List Bool) (bit : ℕ) → bit + length bits ≤ length xs → put_bits (xs ++ back) bit bits ≡ put_bits xs bit bits ++ back
put_bits-back xs back bits bit h =
    ap (λ ys. ys ++ bits ++ drop (bit + length bits) (xs ++ back)) (take-append-le bit xs back (omega arith))
    ∙ ap (λ ys. take bit xs ++ bits ++ ys) (drop-append-le (bit + length bits) xs back h)
    ∙ sym (append_assoc (take bit xs ++ bits) (drop (bit + length bits) xs) back)

-- ---- bits by the number that they spell

in_three : (first width last : ℕ) (bits : List Bool) → length bits ≡ first + width + last
    → bits ≡ number_bits first (big_number bits / 2 ^ last / 2 ^ width) ++ (number_bits width (big_number bits / 2 ^ last) ++ number_bits last (big_number bits))
in_three first width last bits long =
    let n : ℕ = big_number bits in
    sym (bits_of_number (first + width + last) n bits long refl)
    ∙ number_bits-split (first + width) last n
    ∙ ap (λ xs. xs ++ number_bits last n) (number_bits-split first width (n / 2 ^ last))
    ∙ append_assoc (number_bits first (n / 2 ^ last / 2 ^ width)) (number_bits width (n / 2 ^ last)) (number_bits last n)

-- so many bits behind the first ones are those of the number without its last ones
pub field_bits : (first width last : ℕ) (bits : List Bool) → length bits ≡ first + width + last
    → take width (drop first bits) ≡ number_bits width (big_number bits / 2 ^ last)
field_bits first width last bits long =
    let n : ℕ = big_number bits in
    let front : List Bool = number_bits first (n / 2 ^ last / 2 ^ width) in
    let field : List Bool = number_bits width (n / 2 ^ last) in
    ap (λ xs. take width (drop first xs)) (in_three first width last bits long)
    ∙ ap (λ xs. take width xs) (drop_at front (field ++ number_bits last n) first (length_number_bits first (n / 2 ^ last / 2 ^ width)))
    ∙ take_at field (number_bits last n) width (length_number_bits width (n / 2 ^ last))

mod_less : (n m : ℕ) → 0 < m → n % m < m
mod_less n m h = omega arith

-- the number with another field there spells the bits with the field's bits in the place of those
pub field_put : (first width last value : ℕ) (bits : List Bool) → length bits ≡ first + width + last → value < 2 ^ width → 0 < 2 ^ last
    → number_bits (first + width + last) ((big_number bits / 2 ^ (last + width) * 2 ^ width + value) * 2 ^ last + big_number bits % 2 ^ last) ≡ put_bits bits first (number_bits width value)
field_put first width last value bits long fits some =
    let n : ℕ = big_number bits in
    let field : List Bool = number_bits width value in
    let wide : length field ≡ width = length_number_bits width value in
    let front : take first bits ≡ number_bits first (n / 2 ^ last / 2 ^ width) =
    ap (λ xs. take first xs) (in_three first width last bits long)
    ∙ take_at (number_bits first (n / 2 ^ last / 2 ^ width)) (number_bits width (n / 2 ^ last) ++ number_bits last n) first (length_number_bits first (n / 2 ^ last / 2 ^ width)) in
    let back : drop (first + length field) bits ≡ number_bits last n =
    ap (λ k. drop (first + k) bits) wide
    ∙ sym (drop-drop width first bits)
    ∙ ap (λ xs. drop width (drop first xs)) (in_three first width last bits long)
    ∙ ap (λ xs. drop width xs) (drop_at (number_bits first (n / 2 ^ last / 2 ^ width)) (number_bits width (n / 2 ^ last) ++ number_bits last n) first (length_number_bits first (n / 2 ^ last / 2 ^ width)))
    ∙ drop_at (number_bits width (n / 2 ^ last)) (number_bits last n) width (length_number_bits width (n / 2 ^ last)) in
    number_bits-append (first + width) last (n / 2 ^ (last + width) * 2 ^ width + value) (n % 2 ^ last) (mod_less n (2 ^ last) some)
    ∙ ap (λ xs. xs ++ number_bits last (n % 2 ^ last)) (number_bits-append first width (n / 2 ^ (last + width)) value fits)
    ∙ ap (λ xs. number_bits first (n / 2 ^ (last + width)) ++ field ++ xs) (number_bits-mod last n)
    ∙ ap (λ k. number_bits first k ++ field ++ number_bits last n) (sym (shr-shr n last width))
    ∙ ap (λ xs. xs ++ field ++ number_bits last n) (sym front)
    ∙ ap (λ xs. take first bits ++ field ++ xs) (sym back)
