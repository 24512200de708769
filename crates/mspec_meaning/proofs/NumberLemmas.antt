-- A number's bits are those of its bytes.
use Rattle.std.proofs.Common.{◌≡◌, ℕ, ◌+◌, ◌*◌, ◌/◌, ◌^◌, ◌<◌, ◌≤◌, List, length, get_or, take, drop, Ok, Err, refl, sym, ap, ◌∙◌, arith}
use Rattle.std.proofs.lemmas.Bool.{lt-ltb, le-ltb}
use Rattle.std.proofs.lemmas.List.{length-drop}
use Rattle.std.proofs.lemmas.Nat.{pow-add}
use Rattle.std.proofs.Math.Nat.{pow-le-pow_right}
use Rattle.mspec_tree.specs.declared.words.ByteOrder.{ByteOrder}
use Rattle.node_tree.specs.Bits.{bits_of, big_number}
use Rattle.node_tree.proofs.BitsLemmas.{length_bits_of, take_bits_of, drop_bits_of, spelled_more}
use Rattle.mspec_meaning.specs.Plain.{IsWidth}
use Rattle.mspec_meaning.specs.Reads.{number, number_read, number_part, bit_limit, Short}

-- a number below 256 ^ i has room for one more byte
pub room : (number byte i : ℕ) → number < 2 ^ (8 * i) → byte < 256 → number * 256 + byte < 2 ^ (8 * (i + 1))
room number byte i h b =
    let next : 8 * (i + 1) ≡ 8 * i + 8 = omega arith in
    let more : 2 ^ (8 * (i + 1)) ≡ 2 ^ (8 * i) * 256 = ap (λ k. 2 ^ k) next ∙ pow-add 2 (8 * i) 8 in
    omega (arith, more)

pub fits : (number byte i : ℕ) → number < 2 ^ (8 * i) → byte < 256 → i < 8 → number * 256 + byte < 2 ^ 64
fits number byte i h b l =
    let below : 2 ^ (8 * (i + 1)) ≤ 2 ^ 64 = pow-le-pow_right {n = 2} (omega arith) {i = 8 * (i + 1)} {j = 64} (omega arith) in
    omega (arith, room number byte i h b, below)

-- the number of the bytes up to one more
pub one_more_byte : (bytes : List ℕ) (i number byte : ℕ) → i < length bytes → byte ≡ get_or bytes i 0 → byte < 256 → number ≡ big_number (bits_of (take i bytes)) → number * 256 + byte ≡ big_number (bits_of (take (i + 1) bytes))
one_more_byte bytes i number byte h is small spelled = omega (arith, spelled_more bytes i h (omega arith))

-- a width is whole bytes
pub whole_bytes : (width : ℕ) → IsWidth width → 8 * (width / 8) ≡ width
whole_bytes width h = grind arith

pub read_short : (order : ByteOrder) (width from : ℕ) (bytes : List ℕ) → IsWidth width → 8 * from + width ≤ bit_limit → length bytes < from + width / 8 → number_read order width (8 * from) (bits_of bytes) ≡ Err Short
read_short order width from bytes w fits short =
    let whole = whole_bytes width w in
    let lacks : length (bits_of bytes) < 8 * from + width = omega (arith, whole, length_bits_of bytes) in
    rw (le-ltb bit_limit (8 * from + width) fits, lt-ltb (length (bits_of bytes)) (8 * from + width) lacks) refl

same_bits : (width from : ℕ) (bytes : List ℕ) → 8 * (width / 8) ≡ width → from + width / 8 ≤ length bytes → take width (drop (8 * from) (bits_of bytes)) ≡ bits_of (take (width / 8) (drop from bytes))
same_bits width from bytes whole fits =
    ap (λ bits. take width bits) (drop_bits_of from bytes (omega arith))
    ∙ ap (λ n. take n (bits_of (drop from bytes))) (sym whole)
    ∙ take_bits_of (width / 8) (drop from bytes) (omega (arith, length-drop from bytes))

pub read_number : (order : ByteOrder) (width from : ℕ) (bytes : List ℕ) → IsWidth width → 8 * from + width ≤ bit_limit → from + width / 8 ≤ length bytes → number_read order width (8 * from) (bits_of bytes) ≡ Ok (number_part (number order (bits_of (take (width / 8) (drop from bytes)))) width (8 * from))
read_number order width from bytes w fits there =
    let whole = whole_bytes width w in
    let has : 8 * from + width ≤ length (bits_of bytes) = omega (arith, whole, length_bits_of bytes) in
    rw (le-ltb bit_limit (8 * from + width) fits, le-ltb (length (bits_of bytes)) (8 * from + width) has)
    (ap (λ bits. Ok (number_part (number order bits) width (8 * from))) (same_bits width from bytes whole there))
