-- Every value lies in its expression's range.
use Rattle.std.proofs.Common.{◌≡◌, zero, suc, ◌-◌, ◌<◌, ◌≤◌, Bool, true, false, ◌||◌, Option, Some, None, refl, sym, ap, ◌∙◌, subst, arith}
use Rattle.std.proofs.lemmas.Int.{ints, rem_below}
use Rattle.std.specs.Prelude.{if◌then◌else◌, ℤ, pos, negsuc, ◌+ℤ◌, ◌-ℤ◌, ◌*ℤ◌, ◌≤ℤ◌, ◌<ℤ◌, int_lt, int_div, int_rem, unsigned_abs}
use Rattle.mspec_tree.specs.declared.words.Op.{Op}
use Rattle.mspec_tree.specs.declared.words.Op.TheVariants as op
use Rattle.mspec_expr.specs.declared.kinds.Range.{Range}
use Rattle.mspec_expr.specs.Values.{reckoned}
use Rattle.mspec_expr.specs.Ranges.{range, two_range, is_negative, holds_zero, greatest_size, quotients, remainders, unless_negative}
use Rattle.mspec_expr.specs.Fits.{IsIn}
use Rattle.mspec_expr.proofs.RangeLemmas.{Lies, added, subtracted, multiplied, divided, by_size, quotient_size, size_within, remainder_sign, shifted, shifted_back, anded, ored}
use Rattle.mspec_expr.proofs.RangeKnown.{IsReckoning, Right, not_negative, or_false}

pub some_same : {A : Type 0} {a b : A} → Some a ≡ Some b → a ≡ b
some_same {A} {a} {b} e = ap (or_first a) e
  where
    or_first : A → Option A → A
    or_first x (Some y) = y
    or_first x None = x

pub lies : (r : Range) (n : ℤ) → IsIn r n → Lies r.low n r.high
lies r n h = record { above = h.above; below = h.below }

pub lies_in : (low high n : ℤ) → Lies low n high → IsIn (range low high) n
lies_in low high n h = record { above = h.above; below = h.below }

not_below : (z : ℤ) → int_lt z (pos 0) ≡ false → pos 0 ≤ℤ z
not_below z e = grind (arith, ints)

not_zero : (b : Range) (y : ℤ) → IsIn b y → holds_zero b ≡ false → 0 < unsigned_abs y
not_zero b (pos zero) h e = grind (arith, ints, h.above, h.below)
not_zero b (pos (suc n)) h e = omega arith
not_zero b (negsuc n) h e = omega arith

positive : (b : Range) (y : ℤ) → IsIn b y → pos 0 ≤ℤ b.low → holds_zero b ≡ false → pos 0 <ℤ b.low
positive b y h p e = grind (arith, ints, h.above, h.below)

quotient_in : (n : Bool) (a b r : Range) (x y : ℤ) → (is_negative a || is_negative b) ≡ n → holds_zero b ≡ false → IsIn a x → IsIn b y → quotients n a b ≡ Some r → IsIn r (int_div x y)
quotient_in true a b r x y s z h k e =
    let size : unsigned_abs (int_div x y) ≤ greatest_size a = omega (arith, quotient_size x y, size_within a.low a.high x (lies a x h)) in
    subst (λ (q : Range). IsIn q (int_div x y)) (some_same e) (lies_in _ _ _ (by_size (greatest_size a) (int_div x y) size))
quotient_in false a b r x y s z h k e =
    let signs = or_false (is_negative a) (is_negative b) s in
    let low : pos 0 ≤ℤ b.low = not_below b.low signs.1 in
    let found : Some (range (int_div a.low b.high) (int_div a.high b.low)) ≡ Some r = ap (λ c. if c then None else Some (range (int_div a.low b.high) (int_div a.high b.low))) (sym z) ∙ e in
    subst (λ (q : Range). IsIn q (int_div x y)) (some_same found)
    (lies_in _ _ _ (divided a.low a.high b.low b.high x y (lies a x h) (lies b y k) (not_below a.low signs.0) (positive b y k low z)))

remainder_in : (n : Bool) (a b : Range) (x y : ℤ) → is_negative a ≡ n → holds_zero b ≡ false → IsIn a x → IsIn b y → IsIn (remainders n b) (int_rem x y)
remainder_in true a b x y s z h k =
    let size : unsigned_abs (int_rem x y) ≤ greatest_size b - 1 =
    omega (arith, rem_below x y (not_zero b y k z), size_within b.low b.high y (lies b y k)) in
    lies_in _ _ _ (by_size (greatest_size b - 1) (int_rem x y) size)
remainder_in false a b x y s z h k =
    let size : unsigned_abs (int_rem x y) ≤ greatest_size b - 1 =
    omega (arith, rem_below x y (not_zero b y k z), size_within b.low b.high y (lies b y k)) in
    let sign : pos 0 ≤ℤ x = omega (arith, ints, not_below a.low s, h.above) in
    record { above = remainder_sign x y sign; below = (by_size (greatest_size b - 1) (int_rem x y) size).below }

-- where neither operand may be negative
unless_in : (a b r q : Range) (n : ℤ) → (is_negative a || is_negative b) ≡ false → unless_negative a b q ≡ Some r → IsIn q n → IsIn r n
unless_in a b r q n s e h =
    subst (λ (x : Range). IsIn x n) (some_same (ap (λ c. if c then None else Some q) (sym s) ∙ e)) h

-- what an operator gives lies in the range that the table has for it
pub two_in : (o : Op) (a b r : Range) (x y : ℤ) → IsReckoning o → Right o a b → two_range o a b ≡ Some r → IsIn a x → IsIn b y → IsIn r (reckoned o x y)
two_in op.Add a b r x y i f e h k =
    subst (λ (q : Range). IsIn q (x +ℤ y)) (some_same e) (lies_in _ _ _ (added a.low a.high b.low b.high x y (lies a x h) (lies b y k)))
two_in op.Sub a b r x y i f e h k =
    subst (λ (q : Range). IsIn q (x -ℤ y)) (some_same e) (lies_in _ _ _ (subtracted a.low a.high b.low b.high x y (lies a x h) (lies b y k)))
two_in op.Mul a b r x y i f e h k =
    let m = multiplied a.low a.high b.low b.high x y (lies a x h) (lies b y k) in
    subst (λ (q : Range). IsIn q (x *ℤ y)) (some_same e) (record { above = m.above; below = m.below })
two_in op.Div a b r x y i f e h k = quotient_in (is_negative a || is_negative b) a b r x y refl f.divides_well h k e
two_in op.Rem a b r x y i f e h k =
    subst (λ (q : Range). IsIn q (int_rem x y)) (some_same e) (remainder_in (is_negative a) a b x y refl f.divides_well h k)
two_in op.BitAnd a b r x y i f e h k =
    let s = not_negative op.BitAnd a b f refl in
    let signs = or_false (is_negative a) (is_negative b) s in
    let m = anded a.high b.high x y (omega (arith, ints, not_below a.low signs.0, h.above)) (omega (arith, ints, not_below b.low signs.1, k.above)) h.below k.below in
    unless_in a b r _ _ s e (lies_in _ _ _ m)
two_in op.BitOr a b r x y i f e h k =
    let s = not_negative op.BitOr a b f refl in
    let signs = or_false (is_negative a) (is_negative b) s in
    let m = ored a.high b.high x y (omega (arith, ints, not_below a.low signs.0, h.above)) (omega (arith, ints, not_below b.low signs.1, k.above)) h.below k.below in
    unless_in a b r _ _ s e (lies_in _ _ _ m)
two_in op.Shl a b r x y i f e h k =
    let s = not_negative op.Shl a b f refl in
    let signs = or_false (is_negative a) (is_negative b) s in
    unless_in a b r _ _ s e (lies_in _ _ _ (shifted a.low a.high b.low b.high x y (lies a x h) (lies b y k) (not_below a.low signs.0) (not_below b.low signs.1)))
two_in op.Shr a b r x y i f e h k =
    let s = not_negative op.Shr a b f refl in
    let signs = or_false (is_negative a) (is_negative b) s in
    unless_in a b r _ _ s e (lies_in _ _ _ (shifted_back a.low a.high b.low b.high x y (lies a x h) (lies b y k) (not_below a.low signs.0) (not_below b.low signs.1)))
two_in other a b r x y i f e h k = absurd i
