-- An output's bits: those of its bytes, but for what the last byte has behind them.
use Rattle.std.proofs.Common.{◌≡◌, ℕ, ◌+◌, ◌/◌, ◌%◌, ◌≤◌, Bool, List, ◌++◌, length, take, sym, ap, ◌∙◌, length-append, arith}
use Rattle.std.proofs.lemmas.List.{length-take-le, take_all, take-append-le}
use Rattle.node_tree.specs.Bits.{bits_of}
use Rattle.node_tree.proofs.BitsLemmas.{length_bits_of, bits_of-append}
use Rattle.bit_base.specs.Numbers.{put_bits}
use Rattle.bit_base.proofs.PlacingLemmas.{take_to_end-put_bits}

pub length_of_output : (bytes : List ℕ) (bits : ℕ) → length bytes ≡ (bits + 7) / 8 → length (take bits (bits_of bytes)) ≡ bits
length_of_output bytes bits long = length-take-le bits (bits_of bytes) (omega (arith, length_bits_of bytes))

pub whole_output : (bytes : List ℕ) (bits : ℕ) → length bytes ≡ (bits + 7) / 8 → bits % 8 ≡ 0 → bits_of bytes ≡ take bits (bits_of bytes)
whole_output bytes bits long whole = sym (take_all bits (bits_of bytes) (omega (arith, length_bits_of bytes)))

-- bits that are put behind an output's, in its bytes and more, are its new end
pub put_at_end : (old more changed : List ℕ) (added : List Bool) (bits width room : ℕ) → length old ≡ (bits + 7) / 8 → length old ≤ room → length added ≡ width
    → bits_of changed ≡ put_bits (bits_of (take room old ++ more)) bits added
    → take (bits + width) (bits_of changed) ≡ take bits (bits_of old) ++ added
put_at_end old more changed added bits width room long roomy wide is =
    let grown : bits_of (take room old ++ more) ≡ bits_of old ++ bits_of more =
    ap (λ xs. bits_of (xs ++ more)) (take_all room old roomy) ∙ bits_of-append old more in
    let within : bits ≤ length (bits_of old) = omega (arith, length_bits_of old) in
    let within_all : bits ≤ length (bits_of old ++ bits_of more) = omega (arith, within, length-append (bits_of old) (bits_of more)) in
    ap (λ xs. take (bits + width) xs) (is ∙ ap (λ xs. put_bits xs bits added) grown)
    ∙ take_to_end-put_bits (bits_of old ++ bits_of more) added bits (bits + width) within_all (ap (λ n. bits + n) (sym wide))
    ∙ ap (λ xs. xs ++ added) (take-append-le bits (bits_of old) (bits_of more) within)
