-- The bits of a number, piece by piece, and the groups of eight in reverse order.
use Rattle.std.proofs.Common.{◌≡◌, ℕ, zero, suc, ◌+◌, ◌*◌, ◌/◌, ◌%◌, ◌^◌, ◌<◌, ◌==◌, Bool, true, false, List, [], ◌∷◌, ◌++◌, length, refl, sym, ap, ◌∙◌, append_assoc, length-append, arith, pow-suc}
use Rattle.std.proofs.lemmas.List.{append-nil}
use Rattle.std.proofs.lemmas.Nat.{shr-shr, shr_high, shr_split}
use Rattle.node_tree.specs.Bits.{number_bits, digit, spelled_behind, big_number, groups_reversed, little_number}
use Rattle.node_tree.proofs.BitsLemmas.{length_number_bits, spelled_number_bits}
use Rattle.bit_base.specs.declared.orders.Order.{Order}
use Rattle.bit_base.specs.declared.orders.Order.TheVariants.{Big, Little}
use Rattle.bit_base.specs.Numbers.{number, spelling}

-- the first bits of a number and the others
pub number_bits-split : (a b n : ℕ) → number_bits (a + b) n ≡ number_bits a (n / 2 ^ b) ++ number_bits b n
unfolding number_bits
number_bits-split a zero n =
    let whole : n / 2 ^ 0 ≡ n = omega arith in
    let none : a + 0 ≡ a = omega arith in
    ap (λ k. number_bits k n) none ∙ ap (λ k. number_bits a k) (sym whole) ∙ sym (append-nil (number_bits a (n / 2 ^ 0)))
number_bits-split a (suc b) n =
    let more : a + suc b ≡ suc (a + b) = omega arith in
    let halved : n / 2 / 2 ^ b ≡ n / 2 ^ suc b = shr-shr n 1 b ∙ ap (λ k. n / 2 ^ k) (omega arith) in
    ap (λ k. number_bits k n) more
    ∙ ap (λ bits. bits ++ (n % 2 == 1) ∷ []) (number_bits-split a b (n / 2))
    ∙ append_assoc (number_bits a (n / 2 / 2 ^ b)) (number_bits b (n / 2)) ((n % 2 == 1) ∷ [])
    ∙ ap (λ k. number_bits a k ++ number_bits (suc b) n) halved

-- what stands above so many bits doesn't show in them
pub number_bits-low : (b high low : ℕ) → number_bits b (high * 2 ^ b + low) ≡ number_bits b low
unfolding number_bits
number_bits-low zero high low = refl
number_bits-low (suc b) high low =
    let twice : high * 2 ^ suc b ≡ 2 * (high * 2 ^ b) = ap (λ k. high * k) (pow-suc 2 b) ∙ grind arith in
    let half : (high * 2 ^ suc b + low) / 2 ≡ high * 2 ^ b + low / 2 = omega (arith, twice) in
    let odd : (high * 2 ^ suc b + low) % 2 ≡ low % 2 = omega (arith, twice) in
    ap (λ k. number_bits b k ++ ((high * 2 ^ suc b + low) % 2 == 1) ∷ []) half
    ∙ ap (λ bits. bits ++ ((high * 2 ^ suc b + low) % 2 == 1) ∷ []) (number_bits-low b high (low / 2))
    ∙ ap (λ k. number_bits b (low / 2) ++ (k == 1) ∷ []) odd

pub number_bits-mod : (b n : ℕ) → number_bits b (n % 2 ^ b) ≡ number_bits b n
number_bits-mod b n = sym (number_bits-low b (n / 2 ^ b) (n % 2 ^ b)) ∙ ap (λ k. number_bits b k) (shr_split n b)

-- the bits of a number that is made of two
pub number_bits-append : (a b high low : ℕ) → low < 2 ^ b → number_bits (a + b) (high * 2 ^ b + low) ≡ number_bits a high ++ number_bits b low
number_bits-append a b high low h =
    number_bits-split a b (high * 2 ^ b + low)
    ∙ ap (λ k. number_bits a k ++ number_bits b (high * 2 ^ b + low)) (shr_high high b low h)
    ∙ ap (λ bits. number_bits a high ++ bits) (number_bits-low b high low)

add_apart : (a b p q : ℕ) → (2 * a + b) * p + q ≡ a * (p * 2) + (b * p + q)
add_apart a b p q = grind arith

first_digit : (bit : Bool) → 2 * 0 + digit bit ≡ digit bit
first_digit bit = omega arith

-- bits behind a number move it up
pub spelled_behind-above : (above : ℕ) (bits : List Bool) → spelled_behind above bits ≡ above * 2 ^ length bits + big_number bits
spelled_behind-above above [] = omega arith
spelled_behind-above above (bit ∷ bits) =
    spelled_behind-above (2 * above + digit bit) bits
    ∙ add_apart above (digit bit) (2 ^ length bits) (big_number bits)
    ∙ ap (λ k. above * (2 ^ length bits * 2) + k) (sym (spelled_behind-above (2 * 0 + digit bit) bits ∙ ap (λ k. k * 2 ^ length bits + big_number bits) (first_digit bit)))
    ∙ ap (λ k. above * k + big_number (bit ∷ bits)) (sym (pow-suc 2 (length bits)))

digit_lt : (bit : Bool) → digit bit < 2
digit_lt true = omega arith
digit_lt false = omega arith

one_more : (d p n : ℕ) → d < 2 → n < p → d * p + n < 2 * p
one_more zero p n d h = omega arith
one_more (suc zero) p n d h = omega arith
one_more (suc (suc k)) p n d h = absurd (omega arith)

pub big_number-lt : (bits : List Bool) → big_number bits < 2 ^ length bits
big_number-lt [] = omega arith
big_number-lt (bit ∷ bits) =
    let behind = spelled_behind-above (2 * 0 + digit bit) bits in
    let less = one_more (2 * 0 + digit bit) (2 ^ length bits) (big_number bits) (omega (arith, digit_lt bit)) (big_number-lt bits) in
    omega (arith, behind, less, pow-suc 2 (length bits))

one_digit : (bit : Bool) → number_bits 1 (2 * 0 + digit bit) ≡ bit ∷ []
unfolding number_bits
one_digit true = refl
one_digit false = refl

pub nothing : (n : ℕ) → number_bits 0 n ≡ []
unfolding number_bits
nothing n = refl

-- bits spell a number, whose bits they are
pub number_bits-big_number : (bits : List Bool) → number_bits (length bits) (big_number bits) ≡ bits
number_bits-big_number [] = nothing (big_number [])
number_bits-big_number (bit ∷ bits) =
    let more : suc (length bits) ≡ 1 + length bits = omega arith in
    ap (λ k. number_bits k (big_number (bit ∷ bits))) more
    ∙ ap (λ k. number_bits (1 + length bits) k) (spelled_behind-above (2 * 0 + digit bit) bits)
    ∙ number_bits-append 1 (length bits) (2 * 0 + digit bit) (big_number bits) (big_number-lt bits)
    ∙ ap (λ front. front ++ number_bits (length bits) (big_number bits)) (one_digit bit)
    ∙ ap (λ rest. bit ∷ rest) (number_bits-big_number bits)

pub big_number-number_bits : (width n : ℕ) → n < 2 ^ width → big_number (number_bits width n) ≡ n
big_number-number_bits width n h = omega (arith, spelled_number_bits width 0 n h)

-- bits that spell one number are the same where they are as many
pub bits_of_number : (width n : ℕ) (bits : List Bool) → length bits ≡ width → n ≡ big_number bits → number_bits width n ≡ bits
bits_of_number width n bits long is =
    ap (λ k. number_bits k n) (sym long) ∙ ap (λ k. number_bits (length bits) k) is ∙ number_bits-big_number bits

-- eight bits in front go behind all others
front_group : (n : ℕ) (bits : List Bool) → groups_reversed (number_bits 8 n ++ bits) ≡ groups_reversed bits ++ number_bits 8 n
unfolding number_bits
front_group n bits = refl

next_group : (count n : ℕ) → number_bits (8 * suc count) n ≡ number_bits 8 (n / 2 ^ (8 * count)) ++ number_bits (8 * count) n
next_group count n =
    let more : 8 * suc count ≡ 8 + 8 * count = omega arith in
    ap (λ k. number_bits k n) more ∙ number_bits-split 8 (8 * count) n

-- eight bits behind whole groups go in front of them
pub last_group : (count n byte : ℕ) → groups_reversed (number_bits (8 * count) n ++ number_bits 8 byte) ≡ number_bits 8 byte ++ groups_reversed (number_bits (8 * count) n)
last_group zero n byte =
    ap (λ bits. groups_reversed (bits ++ number_bits 8 byte)) (nothing n)
    ∙ ap groups_reversed (sym (append-nil (number_bits 8 byte)))
    ∙ front_group byte []
    ∙ sym (append-nil (number_bits 8 byte))
    ∙ ap (λ bits. number_bits 8 byte ++ groups_reversed bits) (sym (nothing n))
last_group (suc count) n byte =
    let first : List Bool = number_bits 8 (n / 2 ^ (8 * count)) in
    let rest : List Bool = number_bits (8 * count) n in
    let last : List Bool = number_bits 8 byte in
    ap (λ bits. groups_reversed (bits ++ last)) (next_group count n)
    ∙ ap groups_reversed (append_assoc first rest last)
    ∙ front_group (n / 2 ^ (8 * count)) (rest ++ last)
    ∙ ap (λ bits. bits ++ first) (last_group count n byte)
    ∙ append_assoc last (groups_reversed rest) first
    ∙ ap (λ bits. last ++ bits) (sym (front_group (n / 2 ^ (8 * count)) rest))
    ∙ ap (λ bits. last ++ groups_reversed bits) (sym (next_group count n))

pub length-groups_reversed : (bits : List Bool) → length (groups_reversed bits) ≡ length bits
length-groups_reversed (a ∷ b ∷ c ∷ d ∷ e ∷ f ∷ g ∷ h ∷ bits) =
    omega (arith, length-append (groups_reversed bits) (a ∷ b ∷ c ∷ d ∷ e ∷ f ∷ g ∷ h ∷ []), length-groups_reversed bits)
length-groups_reversed bits = refl

-- whole groups that are reversed twice stand as before
twice_reversed : (count n : ℕ) → groups_reversed (groups_reversed (number_bits (8 * count) n)) ≡ number_bits (8 * count) n
twice_reversed zero n = ap (λ bits. groups_reversed (groups_reversed bits)) (nothing n) ∙ sym (nothing n)
twice_reversed (suc count) n =
    let first : List Bool = number_bits 8 (n / 2 ^ (8 * count)) in
    let rest : List Bool = number_bits (8 * count) n in
    let turned : List Bool = groups_reversed rest in
    let long : length turned ≡ 8 * count = length-groups_reversed rest ∙ length_number_bits (8 * count) n in
    let again : number_bits (8 * count) (big_number turned) ≡ turned = bits_of_number (8 * count) (big_number turned) turned long refl in
    ap (λ bits. groups_reversed (groups_reversed bits)) (next_group count n)
    ∙ ap groups_reversed (front_group (n / 2 ^ (8 * count)) rest)
    ∙ ap (λ bits. groups_reversed (bits ++ first)) (sym again)
    ∙ last_group count (big_number turned) (n / 2 ^ (8 * count))
    ∙ ap (λ bits. first ++ groups_reversed bits) again
    ∙ ap (λ bits. first ++ bits) (twice_reversed count n)
    ∙ sym (next_group count n)

pub groups_reversed-twice : (bits : List Bool) → length bits % 8 ≡ 0 → groups_reversed (groups_reversed bits) ≡ bits
groups_reversed-twice bits whole =
    let long : length bits ≡ 8 * (length bits / 8) = omega arith in
    let is : number_bits (8 * (length bits / 8)) (big_number bits) ≡ bits = bits_of_number (8 * (length bits / 8)) (big_number bits) bits long refl in
    ap (λ b. groups_reversed (groups_reversed b)) (sym is) ∙ twice_reversed (length bits / 8) (big_number bits) ∙ is

-- ---- the two orders

pub length-spelling : (order : Order) (width value : ℕ) → length (spelling order width value) ≡ width
length-spelling Big width value = length_number_bits width value
length-spelling Little width value = length-groups_reversed (number_bits width value) ∙ length_number_bits width value

pub number-lt : (order : Order) (bits : List Bool) → number order bits < 2 ^ length bits
number-lt Big bits = big_number-lt bits
number-lt Little bits = omega (arith, big_number-lt (groups_reversed bits), ap (λ k. 2 ^ k) (length-groups_reversed bits))

pub number-spelling : (order : Order) (width value : ℕ) → value < 2 ^ width → (order ≡ Little → width % 8 ≡ 0) → number order (spelling order width value) ≡ value
number-spelling Big width value fits groups = big_number-number_bits width value fits
number-spelling Little width value fits groups =
    ap big_number (groups_reversed-twice (number_bits width value) (ap (λ k. k % 8) (length_number_bits width value) ∙ groups refl))
    ∙ big_number-number_bits width value fits

pub spelling-number : (order : Order) (bits : List Bool) → (order ≡ Little → length bits % 8 ≡ 0) → spelling order (length bits) (number order bits) ≡ bits
spelling-number Big bits groups = number_bits-big_number bits
spelling-number Little bits groups =
    ap groups_reversed (bits_of_number (length bits) (big_number (groups_reversed bits)) (groups_reversed bits) (length-groups_reversed bits) refl)
    ∙ groups_reversed-twice bits (groups refl)

-- the number that the bits of a number spell in an order is spelt by that order's bits
pub number_bits-number : (order : Order) (width value : ℕ) → number_bits width (number order (number_bits width value)) ≡ spelling order width value
number_bits-number Big width value =
    bits_of_number width (big_number (number_bits width value)) (number_bits width value) (length_number_bits width value) refl
number_bits-number Little width value =
    bits_of_number width (little_number (number_bits width value)) (groups_reversed (number_bits width value))
    (length-groups_reversed (number_bits width value) ∙ length_number_bits width value) refl
