-- Bits of bytes, piece by piece, and the number that a list of bytes spells.
use Rattle.std.proofs.Common.{◌≡◌, ℕ, zero, suc, ◌+◌, ◌*◌, ◌/◌, ◌%◌, ◌^◌, ◌<◌, ◌≤◌, ◌⊎◌, ◌==◌, Bool, List, [], ◌∷◌, ◌++◌, length, get_or, take, drop, reverse, refl, inl, inr, sym, ap, ◌∙◌, append_assoc, length-append, arith, pow-suc}
use Rattle.std.proofs.Math.ListN.{drop_of_length-le}
use Rattle.std.proofs.Math.Seq.{take-append_seam, drop-append_seam}
use Rattle.std.proofs.lemmas.List.{length-take-le, take-append-drop, take_more, append-nil}
use Rattle.std.proofs.lemmas.Grind.{reverse_onto}
use Rattle.std.proofs.lemmas.Bool.Decides.{nat_tests}
use Rattle.node_tree.specs.Bits.{number_bits, bits_of, digit, spelled_behind, big_number, groups_reversed, little_number}

pub length_number_bits : (width number : ℕ) → length (number_bits width number) ≡ width
unfolding number_bits
length_number_bits zero number = refl
length_number_bits (suc width) number =
    omega (arith, length-append (number_bits width (number / 2)) ((number % 2 == 1) ∷ []), length_number_bits width (number / 2))

pub length_bits_of : (bytes : List ℕ) → length (bits_of bytes) ≡ 8 * length bytes
length_bits_of [] = refl
length_bits_of (byte ∷ bytes) =
    omega (arith, length-append (number_bits 8 byte) (bits_of bytes), length_number_bits 8 byte, length_bits_of bytes)

pub bits_of-append : (xs ys : List ℕ) → bits_of (xs ++ ys) ≡ bits_of xs ++ bits_of ys
bits_of-append [] ys = refl
bits_of-append (x ∷ xs) ys =
    ap (λ bits. number_bits 8 x ++ bits) (bits_of-append xs ys) ∙ sym (append_assoc (number_bits 8 x) (bits_of xs) (bits_of ys))

pub spelled_behind-append : (above : ℕ) (xs ys : List Bool) → spelled_behind above (xs ++ ys) ≡ spelled_behind (spelled_behind above xs) ys
spelled_behind-append above [] ys = refl
spelled_behind-append above (x ∷ xs) ys = spelled_behind-append (2 * above + digit x) xs ys

mul_two : (a b : ℕ) → a * (2 * b) ≡ 2 * (a * b)
mul_two a b = grind arith

digit_mod : (n : ℕ) → digit (n % 2 == 1) ≡ n % 2
digit_mod n = grind (arith, nat_tests)

-- behind `above`, the bits of a number that has so many bits spell both
pub spelled_number_bits : (width above number : ℕ) → number < 2 ^ width → spelled_behind above (number_bits width number) ≡ above * 2 ^ width + number
unfolding number_bits
spelled_number_bits zero above number h = omega arith
spelled_number_bits (suc width) above number h =
    let half : number / 2 < 2 ^ width = omega (arith, pow-suc 2 width) in
    let front = spelled_number_bits width above (number / 2) half in
    spelled_behind-append above (number_bits width (number / 2)) ((number % 2 == 1) ∷ [])
    ∙ omega (arith, front, digit_mod number, ap (λ p. above * p) (pow-suc 2 width), mul_two above (2 ^ width))

-- a byte more
pub spelled_byte : (above byte : ℕ) → byte < 256 → spelled_behind above (number_bits 8 byte) ≡ 256 * above + byte
spelled_byte above byte h = omega (arith, spelled_number_bits 8 above byte h)

split_bits : (n : ℕ) (bytes : List ℕ) → bits_of bytes ≡ bits_of (take n bytes) ++ bits_of (drop n bytes)
split_bits n bytes = ap bits_of (sym (take-append-drop n bytes)) ∙ bits_of-append (take n bytes) (drop n bytes)

length_front : (n : ℕ) (bytes : List ℕ) → n ≤ length bytes → length (bits_of (take n bytes)) ≡ 8 * n
length_front n bytes h = omega (arith, length_bits_of (take n bytes), length-take-le n bytes h)

pub take_bits_of : (n : ℕ) (bytes : List ℕ) → n ≤ length bytes → take (8 * n) (bits_of bytes) ≡ bits_of (take n bytes)
take_bits_of n bytes h =
    ap (λ m. take m (bits_of bytes)) (sym (length_front n bytes h))
    ∙ ap (λ bits. take (length (bits_of (take n bytes))) bits) (split_bits n bytes)
    ∙ take-append_seam (bits_of (take n bytes)) (bits_of (drop n bytes))

pub drop_bits_of : (n : ℕ) (bytes : List ℕ) → n ≤ length bytes → drop (8 * n) (bits_of bytes) ≡ bits_of (drop n bytes)
drop_bits_of n bytes h =
    ap (λ m. drop m (bits_of bytes)) (sym (length_front n bytes h))
    ∙ ap (λ bits. drop (length (bits_of (take n bytes))) bits) (split_bits n bytes)
    ∙ drop-append_seam (bits_of (take n bytes)) (bits_of (drop n bytes))

-- the number that bytes spell, and one byte more
pub one_byte_more : (bytes : List ℕ) (byte : ℕ) → byte < 256 → big_number (bits_of (bytes ++ byte ∷ [])) ≡ 256 * big_number (bits_of bytes) + byte
one_byte_more bytes byte small =
    ap big_number (bits_of-append bytes (byte ∷ []))
    ∙ spelled_behind-append 0 (bits_of bytes) (bits_of (byte ∷ []))
    ∙ ap (λ bits. spelled_behind (big_number (bits_of bytes)) bits) (append-nil (number_bits 8 byte))
    ∙ spelled_byte (big_number (bits_of bytes)) byte small

-- the number that the bytes spell up to one more
pub spelled_more : (bytes : List ℕ) (i : ℕ) → i < length bytes → get_or bytes i 0 < 256 → big_number (bits_of (take (i + 1) bytes)) ≡ 256 * big_number (bits_of (take i bytes)) + get_or bytes i 0
spelled_more bytes i h small =
    ap (λ xs. big_number (bits_of xs)) (take_more bytes i 0 h) ∙ one_byte_more (take i bytes) (get_or bytes i 0) small

past_end : (n : ℕ) (bytes : List ℕ) → length bytes ≤ n → drop (8 * n) (bits_of bytes) ≡ bits_of (drop n bytes)
past_end n bytes h =
    drop_of_length-le (bits_of bytes) (omega (arith, length_bits_of bytes)) ∙ ap bits_of (sym (drop_of_length-le bytes h))

pub within_or_past : (n m : ℕ) → (n ≤ m) ⊎ (m ≤ n)
within_or_past zero m = inl (omega arith)
within_or_past (suc n) zero = inr (omega arith)
within_or_past (suc n) (suc m) = elim (within_or_past n m) [ inl h ↦ inl (omega (arith, h)) | inr h ↦ inr (omega (arith, h)) ]

-- the bits behind so many bytes, however many there are
pub bits_behind : (n : ℕ) (bytes : List ℕ) → drop (8 * n) (bits_of bytes) ≡ bits_of (drop n bytes)
bits_behind n bytes =
    elim (within_or_past n (length bytes)) [ inl h ↦ drop_bits_of n bytes h | inr h ↦ past_end n bytes h ]

-- a byte's bits are a group, which goes behind all others
groups_reversed-byte : (byte : ℕ) (bits : List Bool) → groups_reversed (number_bits 8 byte ++ bits) ≡ groups_reversed bits ++ number_bits 8 byte
unfolding number_bits
groups_reversed-byte byte bits = refl

groups_reversed-bits_of : (bytes : List ℕ) → groups_reversed (bits_of bytes) ≡ bits_of (reverse bytes)
groups_reversed-bits_of [] = refl
groups_reversed-bits_of (byte ∷ bytes) =
    groups_reversed-byte byte (bits_of bytes)
    ∙ ap (λ bits. bits ++ number_bits 8 byte) (groups_reversed-bits_of bytes)
    ∙ ap (λ bits. bits_of (reverse bytes) ++ bits) (sym (append-nil (number_bits 8 byte)))
    ∙ sym (bits_of-append (reverse bytes) (byte ∷ []))
    ∙ ap bits_of (sym (reverse_onto bytes byte []))

-- the least significant byte first is the other way round
pub little_number-bits_of : (bytes : List ℕ) → little_number (bits_of bytes) ≡ big_number (bits_of (reverse bytes))
little_number-bits_of bytes = ap big_number (groups_reversed-bits_of bytes)
