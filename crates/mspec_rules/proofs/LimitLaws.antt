-- The first past a limit, in lists one behind the other.
use Rattle.std.proofs.Common.{◌≡◌, ℕ, zero, suc, ◌+◌, ◌-◌, ◌<◌, ◌≤◌, List, [], ◌∷◌, ◌++◌, length, drop, get_or, Option, Some, None, refl, sym, ap, ◌∙◌, arith}
use Rattle.std.specs.Prelude.{map, slice_get}
use Rattle.std.specs.List.{flat_map}
use Rattle.mspec_tree.specs.declared.words.Place.{Place}
use Rattle.mspec_tree.specs.declared.fields.Field.{Field, out-Field}
use Rattle.mspec_tree.specs.declared.fields.Case.{Case}
use Rattle.mspec_expr.specs.Kinds.{entry_fields, entry_fields_in, layer}
use Rattle.mspec_rules.specs.declared.wrongs.Wrong.{Wrong}
use Rattle.mspec_rules.specs.Wrongs.{earlier, found}
use Rattle.mspec_rules.specs.Found.{earlier_none, found_then, from_here, none_here}
use Rattle.mspec_rules.specs.Limits.{case_limits, field_places, most_fields, past}

-- ---- fields one behind the other

place_in : (n : ℕ) (xs ys : List Field) (found : Field) → slice_get xs n ≡ Some found → slice_get (field_places (xs ++ ys)) n ≡ Some (out-Field found).place
place_in n [] ys found e = absurd (cc)
place_in zero (x ∷ xs) ys found e = let same : x ≡ found = cc in ap (λ f. Some (out-Field f).place) same
place_in (suc n) (x ∷ xs) ys found e = place_in n xs ys found e

place_behind : (n : ℕ) (xs ys : List Field) → slice_get xs n ≡ None → slice_get (field_places (xs ++ ys)) n ≡ slice_get (field_places ys) (n - length xs)
place_behind n [] ys e = ap (slice_get (field_places ys)) (omega arith)
place_behind zero (x ∷ xs) ys e = absurd (cc)
place_behind (suc n) (x ∷ xs) ys e =
    let less : n - length xs ≡ suc n - length (x ∷ xs) = omega arith in
    place_behind n xs ys e ∙ ap (slice_get (field_places ys)) less

pub place_here : (n case : ℕ) (fields rest : List Field) (field found : Field) (own : List Field)
    → fields ≡ field ∷ rest → own ≡ entry_fields_in case field (layer field) → Some found ≡ slice_get own n
    → slice_get (field_places (entry_fields case fields)) n ≡ Some (out-Field found).place
place_here n case fields rest field found own e o s =
    ap (λ l. slice_get (field_places (entry_fields case l)) n) e
    ∙ ap (λ l. slice_get (field_places (l ++ entry_fields case rest)) n) (sym o)
    ∙ place_in n own (entry_fields case rest) found (sym s)

pub place_past : (n case : ℕ) (fields rest : List Field) (field : Field) (own : List Field)
    → fields ≡ field ∷ rest → own ≡ entry_fields_in case field (layer field) → None ≡ slice_get own n
    → slice_get (field_places (entry_fields case fields)) n ≡ slice_get (field_places (entry_fields case rest)) (n - length own)
place_past n case fields rest field own e o s =
    ap (λ l. slice_get (field_places (entry_fields case l)) n) e
    ∙ ap (λ l. slice_get (field_places (l ++ entry_fields case rest)) n) (sym o)
    ∙ place_behind n own (entry_fields case rest) (sym s)

-- ---- cases by their numbers

case_step : (fields : List Field) (case : ℕ) (cases : List Case) (i : ℕ) → i < length cases
    → case_limits fields case (drop i cases) ≡ past most_fields (field_places (entry_fields case fields)) ++ case_limits fields (suc case) (drop (i + 1) cases)
case_step fields case [] i h = absurd (omega arith)
case_step fields case (x ∷ cases) zero h = refl
case_step fields case (x ∷ cases) (suc i) h =
    let next : suc (i + 1) ≡ suc i + 1 = omega arith in
    case_step fields case cases i (omega arith)
    ∙ ap (λ k. past most_fields (field_places (entry_fields case fields)) ++ case_limits fields (suc case) (drop k (x ∷ cases))) next

pub case_more : (first next : Option Wrong) (fields : List Field) (cases : List Case) (i : ℕ) → i < length cases
    → next ≡ earlier first (found (past most_fields (field_places (entry_fields (i + 1) fields))))
    → earlier first (found (case_limits fields (i + 1) (drop i cases))) ≡ earlier next (found (case_limits fields (i + 1 + 1) (drop (i + 1) cases)))
case_more first next fields cases i h n =
    let one : suc (i + 1) ≡ i + 1 + 1 = omega arith in
    ap (λ l. earlier first (found l)) (case_step fields (i + 1) cases i h)
    ∙ sym (found_then first (past most_fields (field_places (entry_fields (i + 1) fields))) (case_limits fields (suc (i + 1)) (drop (i + 1) cases)))
    ∙ ap (λ o. earlier o (found (case_limits fields (suc (i + 1)) (drop (i + 1) cases)))) (sym n)
    ∙ ap (λ k. earlier next (found (case_limits fields k (drop (i + 1) cases)))) one

pub case_end : (first : Option Wrong) (fields : List Field) (case : ℕ) (cases : List Case) (i : ℕ) → length cases ≤ i
    → earlier first (found (case_limits fields case (drop i cases))) ≡ first
case_end first fields case cases i h = ap (λ l. earlier first (found (case_limits fields case l))) (none_here cases i h) ∙ earlier_none first
