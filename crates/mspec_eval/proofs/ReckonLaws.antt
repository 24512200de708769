-- What the code's numbers give is what operators give.
use Rattle.std.proofs.Common.{◌≡◌, ℕ, zero, suc, ◌^◌, ◌<◌, ◌≤◌, Bool, true, false, Err, refl, sym, ap, ◌∙◌, arith, of_z, to_z}
use Rattle.std.proofs.lemmas.Int.{ints, to_z-of_z}
use Rattle.std.proofs.lemmas.Nat.{or_lt}
use Rattle.std.proofs.Math.Pow.{pow_mono}
use Rattle.std.proofs.Math.Nat.{mul-le-mul_left, div-eq_of_lt}
use Rattle.std.specs.Prelude.{if◌then◌else◌, FitsSigned, ℤ, pos, negsuc, neg_ℤ, ◌*ℤ◌, int_div, bit_or, unsigned_abs, Ok}
use Rattle.std.specs.Int.{w128}
use Rattle.node_tree.specs.declared.faults.EvalFault.TheVariants.{NullAccess}
use Rattle.mspec_expr.specs.Kinds.{in_range, widest}
use Rattle.mspec_eval.specs.Numbers.{within}

-- a number inside the widest has fewer than 65 digits
pub size_small : (x : ℤ) → in_range widest x ≡ true → unsigned_abs x < 2 ^ 64
size_small (pos n) h = grind (arith, ints)
size_small (negsuc n) h = grind (arith, ints)

-- the size that the code takes
pub size_is : (x : ℤ) (k : ℕ) → FitsSigned w128 x → k ≡ unsigned_abs (to_z w128 (of_z w128 x)) → k ≡ unsigned_abs x
size_is x k f e = e ∙ ap unsigned_abs (to_z-of_z w128 x f)

pub or_small : (x y : ℤ) (a b : ℕ) → in_range widest x ≡ true → in_range widest y ≡ true → a ≡ unsigned_abs x → b ≡ unsigned_abs y → bit_or a b < 2 ^ 64
or_small x y a b h k p q =
    let left = size_small x h in
    let right = size_small y k in
    or_lt 64 a b (omega arith) (omega arith)

-- ---- shifts

power_great : (k : ℕ) → 64 < k → 2 ^ 65 ≤ 2 ^ k
power_great k h = pow_mono {i = 65} {j = k} (omega arith)

great_product : (x : ℤ) (q : ℕ) → (of_z w128 x ≡ 0 → ⊥) → 2 ^ 65 ≤ q → in_range widest (x *ℤ pos q) ≡ false
great_product (pos zero) q z h = absurd (z refl)
great_product (pos (suc n)) q z h =
    let more = mul-le-mul_left {m = 1} {n = suc n} q (omega arith) in grind (arith, ints)
great_product (negsuc n) q z h =
    let more = mul-le-mul_left {m = 1} {n = suc n} q (omega arith) in grind (arith, ints)

not_within : (n : ℤ) → in_range widest n ≡ false → Err NullAccess ≡ within n
not_within n = go (in_range widest n)
  where
    go : (test : Bool) → test ≡ false → Err NullAccess ≡ (if test then Ok n else Err NullAccess)
    go true e = absurd (cc)
    go false e = refl

pub shift_leaves : (x y : ℤ) (k : ℕ) → (of_z w128 x ≡ 0 → ⊥) → k ≡ unsigned_abs y → 64 < k → Err NullAccess ≡ within (x *ℤ pos (2 ^ unsigned_abs y))
shift_leaves x y k z e h =
    let great : 2 ^ 65 ≤ 2 ^ unsigned_abs y = power_great (unsigned_abs y) (omega arith) in
    not_within (x *ℤ pos (2 ^ unsigned_abs y)) (great_product x (2 ^ unsigned_abs y) z great)

pub all_shifted : (x y : ℤ) (k : ℕ) → in_range widest x ≡ true → k ≡ unsigned_abs y → 64 < k → pos 0 ≡ int_div x (pos (2 ^ unsigned_abs y))
all_shifted x y k h e l = go x (2 ^ unsigned_abs y) (size_small x h) (power_great (unsigned_abs y) (omega arith))
  where
    go : (x : ℤ) (q : ℕ) → unsigned_abs x < 2 ^ 64 → 2 ^ 65 ≤ q → pos 0 ≡ int_div x (pos q)
    go (pos n) q s g = ap pos (sym (div-eq_of_lt {n = n} {m = q} (omega arith)))
    go (negsuc n) q s g = ap (λ m. neg_ℤ (pos m)) (sym (div-eq_of_lt {n = suc n} {m = q} (omega arith)))
