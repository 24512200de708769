-- What an operator gives lies in the range of the table.
use Rattle.std.proofs.Common.{◌≡◌, ℕ, max, zero, suc, ◌-◌, ◌*◌, ◌/◌, ◌^◌, ◌<◌, ◌≤◌, refl, arith}
use Rattle.std.proofs.lemmas.Int.{ints, clamps}
use Rattle.std.proofs.Math.IntN.{*ℤ-negsuc, *ℤ_comm}
use Rattle.std.specs.Prelude.{ℤ, pos, negsuc, neg_ℤ, ◌+ℤ◌, ◌-ℤ◌, ◌*ℤ◌, ◌≤ℤ◌, ◌<ℤ◌, int_div, int_rem, unsigned_abs, bit_and, bit_or}
use Rattle.std.specs.Int.{int_min, int_max}
use Rattle.std.proofs.Math.Nat.{mul-le-mul_right, mul-le-mul_left, le-div_iff_mul-le, div-mul-le_self, div-le_self, pow-le-pow_right, pow-suc, le_refl}
use Rattle.std.proofs.lemmas.Nat.{pow_pos, mul-le, and_le_l, and_le_r, or_lt}
use Rattle.mspec_expr.specs.Kinds.{digits_to, binary_digits}
use Rattle.mspec_expr.specs.Ranges.{over, power}

-- a number lies between these
pub record Lies (low number high : ℤ) : Type 0 where
  pub above : low ≤ℤ number
  pub below : number ≤ℤ high

pub added : (a b c d x y : ℤ) → Lies a x b → Lies c y d → Lies (a +ℤ c) (x +ℤ y) (b +ℤ d)
added a b c d x y h k = record { above = omega (arith, ints, h.above, k.above); below = omega (arith, ints, h.below, k.below) }

pub subtracted : (a b c d x y : ℤ) → Lies a x b → Lies c y d → Lies (a -ℤ d) (x -ℤ y) (b -ℤ c)
subtracted a b c d x y h k = record { above = omega (arith, ints, h.above, k.below); below = omega (arith, ints, h.below, k.above) }

pub negated : (a b x : ℤ) → Lies a x b → Lies (neg_ℤ b) (neg_ℤ x) (neg_ℤ a)
negated a b x h = record { above = omega (arith, ints, h.below); below = omega (arith, ints, h.above) }

-- a product by a number that isn't negative keeps the order
pub scaled : (a c : ℤ) (n : ℕ) → a ≤ℤ c → (a *ℤ pos n) ≤ℤ (c *ℤ pos n)
scaled (pos a) (pos c) n h = omega (arith, ints, mul-le-mul_right {m = a} {n = c} n (omega (arith, ints, h)))
scaled (pos a) (negsuc c) n h = absurd (omega (arith, ints, h))
scaled (negsuc a) (pos c) n h = omega (arith, ints)
scaled (negsuc a) (negsuc c) n h = omega (arith, ints, mul-le-mul_right {m = suc c} {n = suc a} n (omega (arith, ints, h)))

flipped : (a : ℤ) (n : ℕ) → a *ℤ negsuc n ≡ neg_ℤ (a *ℤ pos (suc n))
flipped a n = *ℤ-negsuc a n

-- a product by a negative number turns it round
pub turned : (a c : ℤ) (n : ℕ) → a ≤ℤ c → (c *ℤ negsuc n) ≤ℤ (a *ℤ negsuc n)
turned a c n h = omega (arith, ints, scaled a c (suc n) h, flipped a n, flipped c n)

min_left : (p q : ℤ) → int_min p q ≤ℤ p
min_left p q = omega (arith, ints, clamps)

min_right : (p q : ℤ) → int_min p q ≤ℤ q
min_right p q = omega (arith, ints, clamps)

max_left : (p q : ℤ) → p ≤ℤ int_max p q
max_left p q = omega (arith, ints, clamps)

max_right : (p q : ℤ) → q ≤ℤ int_max p q
max_right p q = omega (arith, ints, clamps)

-- a product by a fixed number lies between those of the ends, in one order or the other
on_line : (a b x y : ℤ) → Lies a x b → Lies (int_min (a *ℤ y) (b *ℤ y)) (x *ℤ y) (int_max (a *ℤ y) (b *ℤ y))
on_line a b x (pos n) h = record {
  above = omega (arith, ints, scaled a x n h.above, min_left (a *ℤ pos n) (b *ℤ pos n));
  below = omega (arith, ints, scaled x b n h.below, max_right (a *ℤ pos n) (b *ℤ pos n));
}
on_line a b x (negsuc n) h = record {
  above = omega (arith, ints, turned x b n h.below, min_right (a *ℤ negsuc n) (b *ℤ negsuc n));
  below = omega (arith, ints, turned a x n h.above, max_left (a *ℤ negsuc n) (b *ℤ negsuc n));
}

across : (a c d y : ℤ) → Lies c y d → Lies (int_min (a *ℤ c) (a *ℤ d)) (a *ℤ y) (int_max (a *ℤ c) (a *ℤ d))
across a c d y k =
    rw (*ℤ_comm a c, *ℤ_comm a d, *ℤ_comm a y) (on_line c d y a k)

pub multiplied : (a b c d x y : ℤ) → Lies a x b → Lies c y d → Lies (over (a *ℤ c) (a *ℤ d) (b *ℤ c) (b *ℤ d)).low (x *ℤ y) (over (a *ℤ c) (a *ℤ d) (b *ℤ c) (b *ℤ d)).high
multiplied a b c d x y h k =
    let line = on_line a b x y h in
    let left = across a c d y k in
    let right = across b c d y k in
    record {
      above = omega (arith, ints, clamps, line.above, left.above, right.above);
      below = omega (arith, ints, clamps, line.below, left.below, right.below);
    }

-- ---- numbers that aren't negative

pub size_is : (z : ℤ) → pos 0 ≤ℤ z → z ≡ pos (unsigned_abs z)
size_is (pos n) h = refl
size_is (negsuc n) h = absurd (omega (arith, ints, h))

pub size_le : (x y : ℤ) → pos 0 ≤ℤ x → x ≤ℤ y → unsigned_abs x ≤ unsigned_abs y
size_le (pos x) (pos y) p h = omega (arith, ints, h)
size_le (pos x) (negsuc y) p h = absurd (omega (arith, ints, h))
size_le (negsuc x) y p h = absurd (omega (arith, ints, p))

quotient_le : (x b y c : ℕ) → x ≤ b → 0 < c → c ≤ y → x / y ≤ b / c
quotient_le x b y c h p k =
    (le-div_iff_mul-le {k = c} {x = x / y} {y = b} p).1
    (omega (arith, h, div-mul-le_self x y, mul-le-mul_left {m = c} {n = y} (x / y) k))

-- the quotients of numbers that aren't negative by positive ones
pub divided : (a b c d x y : ℤ) → Lies a x b → Lies c y d → pos 0 ≤ℤ a → pos 0 <ℤ c → Lies (int_div a d) (int_div x y) (int_div b c)
divided a b c d x y h k p q =
    let x' : pos 0 ≤ℤ x = omega (arith, ints, p, h.above) in
    let b' : pos 0 ≤ℤ b = omega (arith, ints, x', h.below) in
    let c' : pos 0 ≤ℤ c = omega (arith, ints, q) in
    let y' : pos 0 ≤ℤ y = omega (arith, ints, q, k.above) in
    let d' : pos 0 ≤ℤ d = omega (arith, ints, y', k.below) in
    let c-more : 0 < unsigned_abs c = size_le (pos 1) c (omega (arith, ints)) (omega (arith, ints, q)) in
    let low : unsigned_abs a / unsigned_abs d ≤ unsigned_abs x / unsigned_abs y =
    quotient_le (unsigned_abs a) (unsigned_abs x) (unsigned_abs d) (unsigned_abs y) (size_le a x p h.above)
    (omega (arith, c-more, size_le c y c' k.above)) (size_le y d y' k.below) in
    let high : unsigned_abs x / unsigned_abs y ≤ unsigned_abs b / unsigned_abs c =
    quotient_le (unsigned_abs x) (unsigned_abs b) (unsigned_abs y) (unsigned_abs c) (size_le x b x' h.below)
    c-more (size_le c y c' k.above) in
    rw (size_is a p, size_is b b', size_is c c', size_is d d', size_is x x', size_is y y')
    (record { above = omega (arith, ints, low); below = omega (arith, ints, high) })

-- ---- sizes

pub size_within : (c d y : ℤ) → Lies c y d → unsigned_abs y ≤ max (unsigned_abs c) (unsigned_abs d)
size_within (pos c) (pos d) (pos y) h = omega (arith, ints, h.below)
size_within (negsuc c) (pos d) (pos y) h = omega (arith, ints, h.below)
size_within (negsuc c) d (negsuc y) h = omega (arith, ints, h.above)
size_within (pos c) d (negsuc y) h = absurd (omega (arith, ints, h.above))
size_within c (negsuc d) (pos y) h = absurd (omega (arith, ints, h.below))

-- a number of so great a size at most
pub by_size : (m : ℕ) (q : ℤ) → unsigned_abs q ≤ m → Lies (neg_ℤ (pos m)) q (pos m)
by_size m (pos q) h = record { above = omega (arith, ints); below = omega (arith, ints, h) }
by_size m (negsuc q) h = record { above = omega (arith, ints, h); below = omega (arith, ints) }

neg_size : (n : ℕ) → unsigned_abs (neg_ℤ (pos n)) ≡ n
neg_size zero = refl
neg_size (suc n) = refl

pub quotient_size : (a d : ℤ) → unsigned_abs (int_div a d) ≤ unsigned_abs a
quotient_size (pos a) (pos d) = div-le_self a d
quotient_size (pos a) (negsuc d) = omega (arith, neg_size (a / suc d), div-le_self a (suc d))
quotient_size (negsuc a) (pos d) = omega (arith, neg_size (suc a / d), div-le_self (suc a) d)
quotient_size (negsuc a) (negsuc d) = div-le_self (suc a) (suc d)

pub remainder_sign : (a d : ℤ) → pos 0 ≤ℤ a → pos 0 ≤ℤ int_rem a d
remainder_sign (pos a) d h = omega (arith, ints)
remainder_sign (negsuc a) d h = absurd (omega (arith, ints, h))

-- ---- powers and bits

power_positive : (k : ℤ) → pos 0 <ℤ power k
power_positive k = omega (arith, ints, pow_pos (unsigned_abs k))

power_le : (c y : ℤ) → pos 0 ≤ℤ c → c ≤ℤ y → power c ≤ℤ power y
power_le c y p h =
    omega (arith, ints, pow-le-pow_right {n = 2} (omega arith) {i = unsigned_abs c} {j = unsigned_abs y} (size_le c y p h))

pub powers : (c d y : ℤ) → pos 0 ≤ℤ c → Lies c y d → Lies (power c) (power y) (power d)
powers c d y p h = record {
  above = power_le c y p h.above;
  below = power_le y d (omega (arith, ints, p, h.above)) h.below;
}

-- the products of numbers that aren't negative
pub shifted : (a b c d x y : ℤ) → Lies a x b → Lies c y d → pos 0 ≤ℤ a → pos 0 ≤ℤ c → Lies (a *ℤ power c) (x *ℤ power y) (b *ℤ power d)
shifted a b c d x y h k p q =
    let x' : pos 0 ≤ℤ x = omega (arith, ints, p, h.above) in
    let b' : pos 0 ≤ℤ b = omega (arith, ints, x', h.below) in
    let low : unsigned_abs a * 2 ^ unsigned_abs c ≤ unsigned_abs x * 2 ^ unsigned_abs y =
    mul-le (unsigned_abs a) (2 ^ unsigned_abs c) (unsigned_abs x) (2 ^ unsigned_abs y) (size_le a x p h.above)
    (omega (arith, ints, (powers c d y q k).above)) in
    let high : unsigned_abs x * 2 ^ unsigned_abs y ≤ unsigned_abs b * 2 ^ unsigned_abs d =
    mul-le (unsigned_abs x) (2 ^ unsigned_abs y) (unsigned_abs b) (2 ^ unsigned_abs d) (size_le x b x' h.below)
    (omega (arith, ints, (powers c d y q k).below)) in
    rw (size_is a p, size_is b b', size_is x x')
    (record { above = omega (arith, ints, low); below = omega (arith, ints, high) })

pub shifted_back : (a b c d x y : ℤ) → Lies a x b → Lies c y d → pos 0 ≤ℤ a → pos 0 ≤ℤ c → Lies (int_div a (power d)) (int_div x (power y)) (int_div b (power c))
shifted_back a b c d x y h k p q =
    divided a b (power c) (power d) x (power y) h (powers c d y q k) p (power_positive c)

-- ---- bits

digits_hold : (most n : ℕ) → n ≤ most → n < 2 ^ digits_to most n
digits_hold zero n h = omega (arith, h)
digits_hold (suc most) zero h = omega arith
digits_hold (suc most) (suc less) h =
    let half : suc less / 2 ≤ most = omega (arith, h) in
    let inner : suc less / 2 < 2 ^ digits_to most (suc less / 2) = digits_hold most (suc less / 2) half in
    let next : 2 ^ suc (digits_to most (suc less / 2)) ≡ 2 ^ digits_to most (suc less / 2) * 2 =
    pow-suc 2 (digits_to most (suc less / 2)) in
    omega (arith, inner, next)

pub digits_above : (n : ℕ) → n < 2 ^ binary_digits n
digits_above n = digits_hold n n (le_refl n)

-- the bitwise `and` of numbers that aren't negative
pub anded : (b d x y : ℤ) → pos 0 ≤ℤ x → pos 0 ≤ℤ y → x ≤ℤ b → y ≤ℤ d → Lies (pos 0) (pos (bit_and (unsigned_abs x) (unsigned_abs y))) (int_min b d)
anded b d x y p q h k =
    let x-is = size_is x p in
    let y-is = size_is y q in
    record {
      above = omega (arith, ints);
      below =
          omega (arith, ints, clamps, x-is, y-is, h, k, and_le_l (unsigned_abs x) (unsigned_abs y), and_le_r (unsigned_abs x) (unsigned_abs y));
    }

pub ored : (b d x y : ℤ) → pos 0 ≤ℤ x → pos 0 ≤ℤ y → x ≤ℤ b → y ≤ℤ d → Lies (pos 0) (pos (bit_or (unsigned_abs x) (unsigned_abs y))) (pos (2 ^ binary_digits (unsigned_abs (int_max b d)) - 1))
ored b d x y p q h k =
    let top = int_max b d in
    let x-top : x ≤ℤ top = omega (arith, ints, h, max_left b d) in
    let y-top : y ≤ℤ top = omega (arith, ints, k, max_right b d) in
    let above = digits_above (unsigned_abs top) in
    let both : bit_or (unsigned_abs x) (unsigned_abs y) < 2 ^ binary_digits (unsigned_abs top) =
    or_lt (binary_digits (unsigned_abs top)) (unsigned_abs x) (unsigned_abs y)
    (omega (arith, above, size_le x top p x-top)) (omega (arith, above, size_le y top q y-top)) in
    record { above = omega (arith, ints); below = omega (arith, ints, both) }
