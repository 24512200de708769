-- The numbers of a few bytes: shifts, masks, and the bits of the bytes that a number touches.
use Rattle.std.proofs.Common.{◌≡◌, ℕ, ◌+◌, ◌-◌, ◌*◌, ◌/◌, ◌%◌, ◌^◌, ◌<◌, ◌≤◌, Bool, List, [], ◌∷◌, ◌++◌, length, take, drop, get_or, bit_and, bit_or, sym, ap, ◌∙◌, length-drop, arith}
use Rattle.std.proofs.Math.Nat.{pow-le-pow_right}
use Rattle.std.proofs.lemmas.List.{append-nil, drop-drop, drop-take, take-take, length-take-le, take-append-drop}
use Rattle.std.proofs.lemmas.Nat.{pow-add, one_shl, and_mask, shl_whole, shr_below, or_shifted, mul-add-lt, shr-shr, pow_pos, mod_below}
use Rattle.node_tree.specs.Bits.{number_bits, bits_of, big_number, spelled_behind, groups_reversed}
use Rattle.node_tree.proofs.BitsLemmas.{length_bits_of, bits_of-append, take_bits_of, drop_bits_of, spelled_more, spelled_behind-append, spelled_byte}
use Rattle.bit_base.specs.Numbers.{put_bits}
use Rattle.bit_base.proofs.SpellingLemmas.{number_bits-split, number_bits-mod, last_group}
use Rattle.bit_base.proofs.PlacingLemmas.{put_bits-front, put_bits-back}

-- ---- one byte more

-- a number below 256 ^ i has room for one more byte
pub room : (number byte i : ℕ) → number < 2 ^ (8 * i) → byte < 256 → number * 256 + byte < 2 ^ (8 * (i + 1))
room number byte i h b =
    let next : 8 * (i + 1) ≡ 8 * i + 8 = omega arith in
    let more : 2 ^ (8 * (i + 1)) ≡ 2 ^ (8 * i) * 256 = ap (λ k. 2 ^ k) next ∙ pow-add 2 (8 * i) 8 in
    omega (arith, more)

pub below_bytes : (number i most : ℕ) → number < 2 ^ (8 * i) → i ≤ most → number < 2 ^ (8 * most)
below_bytes number i most h l =
    let below : 2 ^ (8 * i) ≤ 2 ^ (8 * most) = pow-le-pow_right {n = 2} (omega arith) {i = 8 * i} {j = 8 * most} (omega arith) in
    omega (arith, below)

-- the number of the bytes up to one more
pub one_more_byte : (bytes : List ℕ) (i number byte : ℕ) → i < length bytes → byte ≡ get_or bytes i 0 → byte < 256 → number ≡ big_number (bits_of (take i bytes)) → number * 256 + byte ≡ big_number (bits_of (take (i + 1) bytes))
one_more_byte bytes i number byte h is small spelled = omega (arith, spelled_more bytes i h (omega arith))

-- a number's byte behind those before it
pub next_byte : (front : List ℕ) (i left number byte : ℕ) → byte ≡ bit_and (number / 2 ^ (8 * left)) 255 → bits_of front ≡ number_bits (8 * i) (number / 2 ^ (8 * (left + 1)))
    → bits_of (front ++ byte ∷ []) ≡ number_bits (8 * (i + 1)) (number / 2 ^ (8 * left))
next_byte front i left number byte is spelled =
    let rest : ℕ = number / 2 ^ (8 * left) in
    let more : 8 * i + 8 ≡ 8 * (i + 1) = omega arith in
    let shifted : 8 * left + 8 ≡ 8 * (left + 1) = omega arith in
    bits_of-append front (byte ∷ [])
    ∙ ap (λ bits. bits_of front ++ bits) (append-nil (number_bits 8 byte))
    ∙ ap (λ bits. bits ++ number_bits 8 byte) spelled
    ∙ ap (λ k. number_bits (8 * i) (number / 2 ^ (8 * (left + 1))) ++ number_bits 8 k) (is ∙ and_mask rest 8)
    ∙ ap (λ bits. number_bits (8 * i) (number / 2 ^ (8 * (left + 1))) ++ bits) (number_bits-mod 8 rest)
    ∙ ap (λ k. number_bits (8 * i) (number / 2 ^ k) ++ number_bits 8 rest) (sym shifted)
    ∙ ap (λ k. number_bits (8 * i) k ++ number_bits 8 rest) (sym (shr-shr number (8 * left) 8))
    ∙ sym (number_bits-split (8 * i) 8 rest)
    ∙ ap (λ k. number_bits k rest) more

-- a byte that is taken from the end of a number stands behind those that were turned before
pub turned_byte : (turned rest left : ℕ) → spelled_behind (turned * 256 + rest % 256) (groups_reversed (number_bits (8 * left) (rest / 256))) ≡ spelled_behind turned (groups_reversed (number_bits (8 * (left + 1)) rest))
turned_byte turned rest left =
    let front : List Bool = number_bits (8 * left) (rest / 256) in
    let more : 8 * left + 8 ≡ 8 * (left + 1) = omega arith in
    let less : rest % 256 < 256 = omega arith in
    let byte : spelled_behind turned (number_bits 8 rest) ≡ turned * 256 + rest % 256 =
    ap (λ bits. spelled_behind turned bits) (sym (number_bits-mod 8 rest)) ∙ spelled_byte turned (rest % 256) less ∙ omega arith in
    ap (λ k. spelled_behind k (groups_reversed front)) (sym byte)
    ∙ sym (spelled_behind-append turned (number_bits 8 rest) (groups_reversed front))
    ∙ ap (λ bits. spelled_behind turned bits) (sym (last_group left (rest / 256) rest))
    ∙ ap (λ bits. spelled_behind turned (groups_reversed bits)) (sym (number_bits-split (8 * left) 8 rest))
    ∙ ap (λ k. spelled_behind turned (groups_reversed (number_bits k rest))) more

-- ---- shifts and masks

pub masked : (number width : ℕ) → width < 128 → bit_and number (1 * 2 ^ width % 2 ^ 128 - 1) ≡ number % 2 ^ width
masked number width h = ap (λ k. bit_and number (k - 1)) (one_shl width 128 h) ∙ and_mask number width

pub put_field : (window behind width field : ℕ) → window < 2 ^ 72 → behind < 8 → width ≤ 64 → field < 2 ^ width
    → bit_or (bit_or (window / 2 ^ (behind + width) * 2 ^ width % 2 ^ 128) field * 2 ^ behind % 2 ^ 128) (bit_and window (1 * 2 ^ behind % 2 ^ 128 - 1))
    ≡ (window / 2 ^ (behind + width) * 2 ^ width + field) * 2 ^ behind + window % 2 ^ behind
put_field window behind width field small b w f =
    let above : ℕ = window / 2 ^ (behind + width) in
    let high : ℕ = 72 - (behind + width) in
    let whole : high + (behind + width) ≡ 72 = omega arith in
    let above_small : above < 2 ^ high = shr_below window high (behind + width) (omega (arith, ap (λ k. 2 ^ k) whole)) in
    let front : ℕ = above * 2 ^ width + field in
    let front_small : front < 2 ^ (width + high) = omega (arith, mul-add-lt above (2 ^ width) field (2 ^ high) above_small f, pow-add 2 width high) in
    let first : bit_or (above * 2 ^ width % 2 ^ 128) field ≡ front =
    ap (λ k. bit_or k field) (shl_whole above high width 128 above_small (omega arith)) ∙ or_shifted above width field f in
    let low : window % 2 ^ behind < 2 ^ behind = mod_below window (2 ^ behind) (pow_pos behind) in
    ap (λ k. bit_or (k * 2 ^ behind % 2 ^ 128) (bit_and window (1 * 2 ^ behind % 2 ^ 128 - 1))) first
    ∙ ap (λ k. bit_or k (bit_and window (1 * 2 ^ behind % 2 ^ 128 - 1))) (shl_whole front (width + high) behind 128 front_small (omega arith))
    ∙ ap (λ k. bit_or (front * 2 ^ behind) k) (masked window behind (omega arith))
    ∙ or_shifted front behind (window % 2 ^ behind) low

-- ---- the bytes that some bits touch

-- the bits stand in those bytes, behind the first so many
pub window_bits : (bytes : List ℕ) (bit width from to behind : ℕ) → 8 * from ≤ bit → bit + width + behind ≡ 8 * to → to ≤ length bytes
    → take width (drop bit (bits_of bytes)) ≡ take width (drop (bit - 8 * from) (bits_of (take (to - from) (drop from bytes))))
window_bits bytes bit width from to behind f e t =
    let first : ℕ = bit - 8 * from in
    let rest : List Bool = bits_of (drop from bytes) in
    let at : 8 * from + first ≡ bit = omega arith in
    let long : first + (width + behind) ≡ 8 * (to - from) = omega arith in
    ap (λ k. take width (drop k (bits_of bytes))) (sym at)
    ∙ ap (λ xs. take width xs) (sym (drop-drop first (8 * from) (bits_of bytes)))
    ∙ ap (λ xs. take width (drop first xs)) (drop_bits_of from bytes (omega arith))
    ∙ sym (take-take width (width + behind) (drop first rest) (omega arith))
    ∙ ap (λ xs. take width xs) (sym (drop-take first (width + behind) rest))
    ∙ ap (λ k. take width (drop first (take k rest))) long
    ∙ ap (λ xs. take width (drop first xs)) (take_bits_of (to - from) (drop from bytes) (omega (arith, length-drop from bytes)))

pub length-window : (bytes : List ℕ) (bit width from to behind : ℕ) → 8 * from ≤ bit → bit + width + behind ≡ 8 * to → to ≤ length bytes
    → length (bits_of (take (to - from) (drop from bytes))) ≡ bit - 8 * from + width + behind
length-window bytes bit width from to behind f e t =
    omega (arith, length_bits_of (take (to - from) (drop from bytes)), length-take-le (to - from) (drop from bytes) (omega (arith, length-drop from bytes)))

-- bits that are put in those bytes are put in all bytes
pub window_put : (bytes changed : List ℕ) (bits : List Bool) (bit from count : ℕ) → 8 * from ≤ bit → from + count ≤ length bytes → bit + length bits ≤ 8 * (from + count)
    → bits_of changed ≡ put_bits (bits_of (take count (drop from bytes))) (bit - 8 * from) bits
    → bits_of (take from bytes ++ (changed ++ drop count (drop from bytes))) ≡ put_bits (bits_of bytes) bit bits
window_put bytes changed bits bit from count f t e is =
    let first : ℕ = bit - 8 * from in
    let front : List Bool = bits_of (take from bytes) in
    let middle : List Bool = bits_of (take count (drop from bytes)) in
    let back : List Bool = bits_of (drop count (drop from bytes)) in
    let front_long : length front ≡ 8 * from = omega (arith, length_bits_of (take from bytes), length-take-le from bytes (omega arith)) in
    let middle_long : length middle ≡ 8 * count =
    omega (arith, length_bits_of (take count (drop from bytes)), length-take-le count (drop from bytes) (omega (arith, length-drop from bytes))) in
    let at : length front + first ≡ bit = omega arith in
    let whole : front ++ (middle ++ back) ≡ bits_of bytes =
    ap (λ xs. front ++ xs) (sym (bits_of-append (take count (drop from bytes)) (drop count (drop from bytes))))
    ∙ ap (λ xs. front ++ bits_of xs) (take-append-drop count (drop from bytes))
    ∙ sym (bits_of-append (take from bytes) (drop from bytes))
    ∙ ap bits_of (take-append-drop from bytes) in
    bits_of-append (take from bytes) (changed ++ drop count (drop from bytes))
    ∙ ap (λ xs. front ++ xs) (bits_of-append changed (drop count (drop from bytes)))
    ∙ ap (λ xs. front ++ (xs ++ back)) is
    ∙ ap (λ xs. front ++ xs) (sym (put_bits-back middle back bits first (omega arith)))
    ∙ sym (put_bits-front front (middle ++ back) bits first)
    ∙ ap (λ k. put_bits (front ++ (middle ++ back)) k bits) at
    ∙ ap (λ xs. put_bits xs bit bits) whole
