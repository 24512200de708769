-- The name of a case.
use Rattle.std.proofs.Common.{◌≡◌, ℕ, zero, suc, ◌-◌, List, [], ◌∷◌, Some, None, refl, sym, ap, ◌∙◌, arith}
use Rattle.std.specs.Prelude.{slice_get}
use Rattle.mspec_tree.specs.declared.fields.Case.{Case, out-Case}
use Rattle.mspec_expr.specs.Kinds.{case_name}

no_name_at : (n : ℕ) (cases : List Case) → slice_get cases n ≡ None → case_name (suc n) cases ≡ []
no_name_at n [] e = refl
no_name_at zero (c ∷ cases) e = absurd (cc)
no_name_at (suc n) (c ∷ cases) e = no_name_at n cases e

name_at : (n : ℕ) (cases : List Case) (found : Case) → slice_get cases n ≡ Some found → case_name (suc n) cases ≡ (out-Case found).name
name_at n [] found e = absurd (cc)
name_at zero (c ∷ cases) found e = let same : c ≡ found = cc in ap (λ x. (out-Case x).name) same
name_at (suc n) (c ∷ cases) found e = name_at n cases found e

pub no_name : (case : ℕ) (cases : List Case) → (case ≡ 0 → ⊥) → None ≡ slice_get cases (case - 1) → case_name case cases ≡ []
no_name case cases z e =
    let next : case ≡ suc (case - 1) = omega arith in
    ap (λ k. case_name k cases) next ∙ no_name_at (case - 1) cases (sym e)

pub name_of : (case : ℕ) (cases : List Case) (found : Case) → (case ≡ 0 → ⊥) → Some found ≡ slice_get cases (case - 1) → case_name case cases ≡ (out-Case found).name
name_of case cases found z e =
    let next : case ≡ suc (case - 1) = omega arith in
    ap (λ k. case_name k cases) next ∙ name_at (case - 1) cases found (sym e)
