-- How many binary digits a number has.
use Rattle.std.proofs.Common.{◌≡◌, ℕ, zero, suc, ◌+◌, ◌*◌, ◌/◌, ◌^◌, ◌<◌, ◌≤◌, refl, sym, ap, ◌∙◌, arith}
use Rattle.std.proofs.Math.Nat.{pow-suc}
use Rattle.std.proofs.Math.Pow.{pow_mono}
use Rattle.mspec_expr.specs.Kinds.{binary_digits, digits_to}

no_digits : (most : ℕ) → digits_to most 0 ≡ 0
no_digits zero = refl
no_digits (suc most) = refl

digits_of : (most n k : ℕ) → n ≤ most → 2 ^ k ≤ n → n < 2 * 2 ^ k → digits_to most n ≡ k + 1
digits_of zero n k h l u = absurd (omega (arith, pow_mono {i = 0} {j = k} (omega arith)))
digits_of (suc most) zero k h l u = absurd (omega (arith, pow_mono {i = 0} {j = k} (omega arith)))
digits_of (suc most) (suc less) zero h l u =
    let none : suc less / 2 ≡ 0 = omega arith in
    ap (λ m. suc (digits_to most m)) none ∙ ap suc (no_digits most)
digits_of (suc most) (suc less) (suc k) h l u =
    let twice : 2 ^ suc k ≡ 2 ^ k * 2 = pow-suc 2 k in
    ap suc (digits_of most (suc less / 2) k (omega arith) (omega arith) (omega arith)) ∙ (omega arith)

pub digits_exact : (n k : ℕ) → 2 ^ k ≤ n → n < 2 * 2 ^ k → k + 1 ≡ binary_digits n
digits_exact n k l u = sym (digits_of n n k (omega arith) l u)
