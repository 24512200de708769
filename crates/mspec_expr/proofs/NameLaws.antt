-- Names looked for in a description.
use Rattle.std.proofs.Common.{◌≡◌, ℕ, zero, suc, ◌+◌, ◌-◌, List, [], ◌∷◌, drop, Some, None, refl, sym, ap, ◌∙◌, arith}
use Rattle.std.specs.Prelude.{slice_get, unwrap_or}
use Rattle.mspec_tree.specs.declared.fields.Case.{Case, out-Case}
use Rattle.mspec_tree.specs.declared.fields.Field.{Field}
use Rattle.mspec_expr.specs.Kinds.{case_fields, first_cases, layer, switch_cases}

-- ---- the fields of a case

no_field_at : (n : ℕ) (cases : List Case) → slice_get cases n ≡ None → case_fields (suc n) cases ≡ []
no_field_at n [] e = refl
no_field_at zero (c ∷ cases) e = absurd (cc)
no_field_at (suc n) (c ∷ cases) e = no_field_at n cases e

field_at : (n : ℕ) (cases : List Case) (found : Case) → slice_get cases n ≡ Some found → case_fields (suc n) cases ≡ (out-Case found).fields
field_at n [] found e = absurd (cc)
field_at zero (c ∷ cases) found e = let same : c ≡ found = cc in ap (λ x. (out-Case x).fields) same
field_at (suc n) (c ∷ cases) found e = field_at n cases found e

pub no_field : (case : ℕ) (cases : List Case) → (case ≡ 0 → ⊥) → None ≡ slice_get cases (case - 1) → case_fields case cases ≡ []
no_field case cases z e =
    let next : case ≡ suc (case - 1) = omega arith in
    ap (λ k. case_fields k cases) next ∙ no_field_at (case - 1) cases (sym e)

pub field_case : (case : ℕ) (cases : List Case) (found : Case) → (case ≡ 0 → ⊥) → Some found ≡ slice_get cases (case - 1) → case_fields case cases ≡ (out-Case found).fields
field_case case cases found z e =
    let next : case ≡ suc (case - 1) = omega arith in
    ap (λ k. case_fields k cases) next ∙ field_at (case - 1) cases found (sym e)

-- ---- the first switch

pub cases_here : (fields : List Field) (i : ℕ) (field : Field) (cases : List Case) → drop i fields ≡ field ∷ drop (i + 1) fields → switch_cases (layer field) ≡ Some cases → first_cases (drop i fields) ≡ cases
cases_here fields i field cases e h =
    ap first_cases e ∙ ap (λ o. unwrap_or o (first_cases (drop (i + 1) fields))) h

pub cases_past : (fields : List Field) (i : ℕ) (field : Field) → drop i fields ≡ field ∷ drop (i + 1) fields → switch_cases (layer field) ≡ None → first_cases (drop i fields) ≡ first_cases (drop (i + 1) fields)
cases_past fields i field e h =
    ap first_cases e ∙ ap (λ o. unwrap_or o (first_cases (drop (i + 1) fields))) h
