-- What the code's numbers give is what the ranges say.
use Rattle.std.proofs.Common.{◌≡◌, ℕ, zero, suc, ◌-◌, ◌*◌, ◌/◌, ◌^◌, ◌<◌, ◌≤◌, Bool, true, false, ◌||◌, Some, None, refl, sym, ap, ◌∙◌, arith, lit<, to_z, of_z}
use Rattle.std.proofs.lemmas.Int.{ints, clamps, to_z-of_z, fits_signed_mul, quot_fits, quot_is}
use Rattle.std.proofs.Math.Pow.{pow_mono}
use Rattle.std.proofs.Math.Nat.{pow-suc, mul-le-mul_left, div-eq_of_lt}
use Rattle.std.specs.Prelude.{if◌then◌else◌, IsTrue, FitsSigned, ℤ, pos, negsuc, neg_ℤ, ◌+ℤ◌, ◌-ℤ◌, ◌*ℤ◌, ◌≤ℤ◌, ◌<ℤ◌, int_div, int_lt, unsigned_abs}
use Rattle.std.specs.Int.{w128}
use Rattle.mspec_expr.specs.declared.kinds.Range.{Range}
use Rattle.mspec_expr.specs.Kinds.{binary_digits, digits_to, in_range}
use Rattle.mspec_expr.specs.Ranges.{greatest_size, holds_zero, is_negative, is_proper, lies_in, over, power, quotients, range, remainders, unless_negative, widest}
use Rattle.mspec_ranges.specs.declared.spans.Span.TheVariants.{Leaves, Within}
use Rattle.mspec_ranges.specs.Spans.{contained, span, span_of}

-- what a proper range is
pub record Bounds (r : Range) : Type 0 where
  pub ordered : r.low ≤ℤ r.high
  pub above : neg_ℤ (pos 9223372036854775808) ≤ℤ r.low
  pub below : r.high ≤ℤ pos 18446744073709551615

pub bounds : (r : Range) → IsTrue (is_proper r) → Bounds r
bounds r h = record {
  ordered = grind (arith, ints);
  above = grind (arith, ints);
  below = grind (arith, ints);
}

pub span_same : (l m h k : ℤ) → l ≡ m → h ≡ k → span (range l h) ≡ span (range m k)
span_same l m h k p q = ap (λ x. span (range x h)) p ∙ ap (λ x. span (range m x)) q

pub range_same : (l m h k : ℤ) → l ≡ m → h ≡ k → range l h ≡ range m k
range_same l m h k p q = ap (λ x. range x h) p ∙ ap (λ x. range m x) q

-- a number inside the widest has room
pub fits_wide : (z : ℤ) → neg_ℤ (pos 9223372036854775808) ≤ℤ z → z ≤ℤ pos 18446744073709551615 → FitsSigned w128 z
fits_wide (pos n) h k = record { sfits = omega (arith, ints, k) }
fits_wide (negsuc n) h k = record { sfits = omega (arith, ints, h) }

-- ---- what the code's arithmetic gives

-- a number that is as wide as an expression's may be
pub record Wide (z : ℤ) : Type 0 where
  pub above : neg_ℤ (pos 9223372036854775808) ≤ℤ z
  pub below : z ≤ℤ pos 18446744073709551615

pub low_wide : (r : Range) → Bounds r → Wide r.low
low_wide r h = record { above = h.above; below = omega (arith, ints) }

pub high_wide : (r : Range) → Bounds r → Wide r.high
high_wide r h = record { above = omega (arith, ints); below = h.below }

pub code_sum : (x y : ℤ) → Wide x → Wide y → to_z w128 (of_z w128 (to_z w128 (of_z w128 x) +ℤ to_z w128 (of_z w128 y))) ≡ x +ℤ y
code_sum x y h k = omega (arith, ints)

pub code_difference : (x y : ℤ) → Wide x → Wide y → to_z w128 (of_z w128 (to_z w128 (of_z w128 x) -ℤ to_z w128 (of_z w128 y))) ≡ x -ℤ y
code_difference x y h k = omega (arith, ints)

pub code_negation : (x : ℤ) → Wide x → to_z w128 (of_z w128 (pos 0 -ℤ to_z w128 (of_z w128 x))) ≡ neg_ℤ x
code_negation x h = omega (arith, ints)

pub code_size : (x : ℤ) (m : ℕ) → x ≡ pos m → x ≤ℤ pos 18446744073709551615 → to_z w128 (of_z w128 x) ≡ pos m
code_size x m e h = omega (arith, ints)

pub code_negative : (x : ℤ) (m : ℕ) → x ≡ pos m → x ≤ℤ pos 18446744073709551615 → to_z w128 (of_z w128 (pos 0 -ℤ to_z w128 (of_z w128 x))) ≡ neg_ℤ (pos m)
code_negative x m e h = omega (arith, ints)

-- one less than a size, but no less than none
pub one_less : (size : ℤ) (g bits : ℕ) → size ≡ pos g → size ≤ℤ pos 18446744073709551615 → int_lt (pos 0) (to_z w128 (of_z w128 size)) ≡ true → to_z w128 bits ≡ to_z w128 (of_z w128 (to_z w128 (of_z w128 size) -ℤ pos 1)) → to_z w128 bits ≡ pos (g - 1)
one_less size g bits e h t is = is ∙ rw e (go g (rw e at h) (rw e at t))
  where
    go : (g : ℕ) → pos g ≤ℤ pos 18446744073709551615 → int_lt (pos 0) (to_z w128 (of_z w128 (pos g))) ≡ true → to_z w128 (of_z w128 (to_z w128 (of_z w128 (pos g)) -ℤ pos 1)) ≡ pos (g - 1)
    go zero h t = absurd (grind (arith, ints))
    go (suc g) h t = omega (arith, ints)

pub none_less : (size : ℤ) (g bits : ℕ) → size ≡ pos g → size ≤ℤ pos 18446744073709551615 → int_lt (pos 0) (to_z w128 (of_z w128 size)) ≡ false → to_z w128 bits ≡ pos 0 → to_z w128 bits ≡ pos (g - 1)
none_less size g bits e h t is = is ∙ go g (rw e at h) (rw e at t)
  where
    go : (g : ℕ) → pos g ≤ℤ pos 18446744073709551615 → int_lt (pos 0) (to_z w128 (of_z w128 (pos g))) ≡ false → pos 0 ≡ pos (g - 1)
    go zero h t = refl
    go (suc g) h t = absurd (grind (arith, ints))

pub size_most : (size : ℤ) (g : ℕ) → size ≡ pos g → size ≤ℤ pos 18446744073709551615 → g - 1 ≤ 18446744073709551615
size_most size g e h = omega (arith, ints)

pub negated_bits : (bits m : ℕ) → to_z w128 bits ≡ pos m → m ≤ 18446744073709551615 → to_z w128 (of_z w128 (pos 0 -ℤ to_z w128 bits)) ≡ neg_ℤ (pos m)
negated_bits bits m e h = rw e (omega (arith, ints))

-- ---- products

pub in_if : (p : ℤ) → contained p ≡ None → in_range widest p ≡ false
in_if p = go (in_range widest p)
  where
    go : (test : Bool) → (if test then Some p else None) ≡ None → test ≡ false
    go true e = absurd (cc)
    go false e = refl

pub contained_is : (p q : ℤ) → contained p ≡ Some q → (in_range widest p ≡ true) × (q ≡ p)
contained_is p q = go (in_range widest p)
  where
    go : (test : Bool) → (if test then Some p else None) ≡ Some q → (test ≡ true) × (q ≡ p)
    go true e = (refl, cc)
    go false e = absurd (cc)

span_leaves : (r : Range) → lies_in widest r ≡ false → span r ≡ Leaves
span_leaves r e = ap (λ t. if t then Within r else Leaves) e

span_within : (r : Range) → lies_in widest r ≡ true → span r ≡ Within r
span_within r e = ap (λ t. if t then Within r else Leaves) e

pub first_leaves : (p q r s : ℤ) → contained p ≡ None → span (over p q r s) ≡ Leaves
first_leaves p q r s e =
    let f = in_if p e in span_leaves (over p q r s) (grind (arith, ints, clamps))

pub second_leaves : (p q r s : ℤ) → contained q ≡ None → span (over p q r s) ≡ Leaves
second_leaves p q r s e =
    let f = in_if q e in span_leaves (over p q r s) (grind (arith, ints, clamps))

pub third_leaves : (p q r s : ℤ) → contained r ≡ None → span (over p q r s) ≡ Leaves
third_leaves p q r s e =
    let f = in_if r e in span_leaves (over p q r s) (grind (arith, ints, clamps))

pub fourth_leaves : (p q r s : ℤ) → contained s ≡ None → span (over p q r s) ≡ Leaves
fourth_leaves p q r s e =
    let f = in_if s e in span_leaves (over p q r s) (grind (arith, ints, clamps))

pub all_within : (p q r s : ℤ) → in_range widest p ≡ true → in_range widest q ≡ true → in_range widest r ≡ true → in_range widest s ≡ true → span (over p q r s) ≡ Within (over p q r s)
all_within p q r s a b c d = span_within (over p q r s) (grind (arith, ints, clamps))

pub contained_in : (p q : ℤ) → contained p ≡ Some q → to_z w128 (of_z w128 q) ≡ p
contained_in p q e =
    let f = contained_is p q e in
    let inside = f.0 in
    to_z-of_z w128 q (rw f.1 (fits_wide p (grind (arith, ints)) (grind (arith, ints)))) ∙ f.1

pub products_within : (p q r s a b c d : ℤ) → contained p ≡ Some a → contained q ≡ Some b → contained r ≡ Some c → contained s ≡ Some d
    → Within (over (to_z w128 (of_z w128 a)) (to_z w128 (of_z w128 b)) (to_z w128 (of_z w128 c)) (to_z w128 (of_z w128 d))) ≡ span (over p q r s)
products_within p q r s a b c d e f g h =
    ap (λ x. Within (over x (to_z w128 (of_z w128 b)) (to_z w128 (of_z w128 c)) (to_z w128 (of_z w128 d)))) (contained_in p a e)
    ∙ ap (λ x. Within (over p x (to_z w128 (of_z w128 c)) (to_z w128 (of_z w128 d)))) (contained_in q b f)
    ∙ ap (λ x. Within (over p q x (to_z w128 (of_z w128 d)))) (contained_in r c g)
    ∙ ap (λ x. Within (over p q r x)) (contained_in s d h)
    ∙ sym (all_within p q r s (contained_is p a e).0 (contained_is q b f).0 (contained_is r c g).0 (contained_is s d h).0)

-- ---- quotients

or_both : (a b : Bool) → a ≡ false → b ≡ false → (a || b) ≡ false
or_both a b p q = rw (p, q) refl

pub by_size : (a b : Range) → (is_negative a || is_negative b) ≡ true → span_of (quotients (is_negative a || is_negative b) a b) ≡ span (range (neg_ℤ (pos (greatest_size a))) (pos (greatest_size a)))
by_size a b e = ap (λ n. span_of (quotients n a b)) e

pub by_ends : (a b : Range) → is_negative a ≡ false → is_negative b ≡ false → holds_zero b ≡ false → span_of (quotients (is_negative a || is_negative b) a b) ≡ span (range (int_div a.low b.high) (int_div a.high b.low))
by_ends a b p q z =
    ap (λ n. span_of (quotients n a b)) (or_both (is_negative a) (is_negative b) p q)
    ∙ ap (λ t. span_of (if t then None else Some (range (int_div a.low b.high) (int_div a.high b.low)))) z

pub or_left : (a b : Bool) → a ≡ true → (a || b) ≡ true
or_left a b p = rw p refl

pub or_right : (a b : Bool) → a ≡ false → b ≡ true → (a || b) ≡ true
or_right a b p q = rw (p, q) refl

-- what divides without a fault is positive
pub positive : (b : Range) → Bounds b → is_negative b ≡ false → holds_zero b ≡ false → pos 0 <ℤ b.low
positive b h n z = grind (arith, ints)

-- what the code's division gives
pub divided : (a d : ℤ) → pos 0 ≤ℤ a → a ≤ℤ pos 18446744073709551615 → pos 0 <ℤ d → d ≤ℤ pos 18446744073709551615 → to_z w128 (of_z w128 (int_div (to_z w128 (of_z w128 a)) (to_z w128 (of_z w128 d)))) ≡ int_div a d
divided a d l h p k =
    let f = fits_wide a (omega (arith, ints)) h in
    quot_is w128 a d f (fits_wide d (omega (arith, ints)) k) (quot_fits w128 a d f p)

-- ---- remainders

pub remainder_size : (negative : Bool) (b : Range) → negative ≡ true → span (remainders negative b) ≡ span (range (neg_ℤ (pos (greatest_size b - 1))) (pos (greatest_size b - 1)))
remainder_size negative b e = ap (λ n. span (remainders n b)) e

-- ---- binary digits

digits_least : (most n k : ℕ) → n < 2 ^ k → digits_to most n ≤ k
digits_least zero n k u = omega arith
digits_least (suc most) zero k u = omega arith
digits_least (suc most) (suc less) zero u = absurd (omega arith)
digits_least (suc most) (suc less) (suc k) u =
    let twice : 2 ^ suc k ≡ 2 ^ k * 2 = pow-suc 2 k in
    omega (arith, digits_least most (suc less / 2) k (omega arith))

pub digits_below : (n k : ℕ) → n < 2 ^ k → binary_digits n ≤ k
digits_below n k u = digits_least n n k u

-- the size of a number that isn't negative
pub size_below : (n : ℤ) (size : ℕ) → FitsSigned w128 n → size ≡ unsigned_abs (to_z w128 (of_z w128 n)) → pos 0 ≤ℤ n → n ≤ℤ pos 18446744073709551615 → size < 2 ^ 64
size_below n size f e l h = go n l h (e ∙ ap unsigned_abs (to_z-of_z w128 n f))
  where
    go : (n : ℤ) → pos 0 ≤ℤ n → n ≤ℤ pos 18446744073709551615 → size ≡ unsigned_abs n → size < 2 ^ 64
    go (pos n) l h e = omega (arith, ints)
    go (negsuc n) l h e = absurd (omega (arith, ints))

-- ---- shifts

pub times_fits : (n : ℤ) (q : ℕ) → pos 0 ≤ℤ n → n ≤ℤ pos 18446744073709551615 → q ≤ 2 ^ 63 → FitsSigned w128 (n *ℤ pos q)
times_fits n q low high small =
    fits_signed_mul w128 n (pos q) 18446744073709551615 (2 ^ 63) (size n low high) small (lit< tt)
  where
    size : (n : ℤ) → pos 0 ≤ℤ n → n ≤ℤ pos 18446744073709551615 → unsigned_abs n ≤ 18446744073709551615
    size (pos n) l h = omega (arith, ints)
    size (negsuc n) l h = absurd (omega (arith, ints))

pub power_small : (k : ℤ) → pos 0 ≤ℤ k → k ≤ℤ pos 63 → 2 ^ unsigned_abs k ≤ 2 ^ 63
power_small (pos k) l h = pow_mono {i = k} {j = 63} (omega (arith, ints))
power_small (negsuc k) l h = absurd (omega (arith, ints))

power_great : (k : ℤ) → pos 63 <ℤ k → 2 ^ 64 ≤ 2 ^ unsigned_abs k
power_great (pos k) h = pow_mono {i = 64} {j = k} (omega (arith, ints))
power_great (negsuc k) h = absurd (omega (arith, ints))

product_great : (n : ℤ) (q : ℕ) → pos 0 <ℤ n → 2 ^ 64 ≤ q → pos 18446744073709551615 <ℤ (n *ℤ pos q)
product_great (pos zero) q h l = absurd (omega (arith, ints))
product_great (pos (suc n)) q h l = omega (arith, ints, mul-le-mul_left {m = 1} {n = suc n} q (omega arith))
product_great (negsuc n) q h l = absurd (omega (arith, ints))

pub shift_leaves : (low n k : ℤ) → pos 0 <ℤ n → pos 63 <ℤ k → span (range low (n *ℤ power k)) ≡ Leaves
shift_leaves low n k h l =
    let great = product_great n (2 ^ unsigned_abs k) h (power_great k l) in
    span_leaves (range low (n *ℤ power k)) (grind (arith, ints))

pub all_shifted : (n k : ℤ) → pos 0 ≤ℤ n → n ≤ℤ pos 18446744073709551615 → pos 63 <ℤ k → pos 0 ≡ int_div n (power k)
all_shifted (pos n) k l h g =
    let great = power_great k g in
    ap pos (sym (div-eq_of_lt {n = n} {m = 2 ^ unsigned_abs k} (omega (arith, ints))))
all_shifted (negsuc n) k l h g = absurd (omega (arith, ints))

pub unless_none : (a b r : Range) → is_negative a ≡ false → is_negative b ≡ false → span_of (unless_negative a b r) ≡ span r
unless_none a b r p q =
    ap (λ t. span_of (if t then None else Some r)) (or_both (is_negative a) (is_negative b) p q)
