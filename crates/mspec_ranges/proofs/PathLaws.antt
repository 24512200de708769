-- Names looked for in lists.
use Rattle.std.proofs.Common.{◌≡◌, ℕ, ◌+◌, Bool, true, false, List, [], ◌∷◌, drop, Option, Some, None, Bor, refl, sym, ap, ◌∙◌}
use Rattle.std.proofs.lemmas.List.Folds.{find-append}
use Rattle.std.proofs.lemmas.Iterator.Adapters.{position_from-zero}
use Rattle.std.specs.Prelude.{if◌then◌else◌, is_some}
use Rattle.std.specs.List.{position, position_from}
use Rattle.std.specs.Option.{option_copied, option_map, option_or}
use Rattle.std.specs.Str.{bytes_eq}
use Rattle.mspec_tree.specs.declared.defs.Constant.{Constant}
use Rattle.mspec_tree.specs.declared.fields.Case.{Case, out-Case}
use Rattle.mspec_tree.specs.declared.fields.Field.{Field}
use Rattle.mspec_expr.specs.Kinds.{entry_fields, entry_fields_in, layer}
use Rattle.mspec_expr.specs.Ranges.{case_from, field_named, has_constant}

pub has_copied : (found : Option (Bor Constant)) → has_constant (option_copied found) ≡ is_some found
has_copied None = refl
has_copied (Some one) = refl

-- ---- fields in turn

pub named_here : (implicit : Bool) (name : List ℕ) (case : ℕ) (fields : List Field) (i : ℕ) (field found : Field)
    → drop i fields ≡ field ∷ drop (i + 1) fields → field_named implicit name (entry_fields_in case field (layer field)) ≡ Some found → field_named implicit name (entry_fields case (drop i fields)) ≡ Some found
named_here implicit name case fields i field found e h =
    ap (λ l. field_named implicit name (entry_fields case l)) e
    ∙ find-append _ (entry_fields_in case field (layer field)) (entry_fields case (drop (i + 1) fields))
    ∙ ap (λ o. option_or o (field_named implicit name (entry_fields case (drop (i + 1) fields)))) h

pub named_past : (implicit : Bool) (name : List ℕ) (case : ℕ) (fields : List Field) (i : ℕ) (field : Field)
    → drop i fields ≡ field ∷ drop (i + 1) fields → field_named implicit name (entry_fields_in case field (layer field)) ≡ None → field_named implicit name (entry_fields case (drop i fields)) ≡ field_named implicit name (entry_fields case (drop (i + 1) fields))
named_past implicit name case fields i field e h =
    ap (λ l. field_named implicit name (entry_fields case l)) e
    ∙ find-append _ (entry_fields_in case field (layer field)) (entry_fields case (drop (i + 1) fields))
    ∙ ap (λ o. option_or o (field_named implicit name (entry_fields case (drop (i + 1) fields)))) h

-- ---- the number of a case

case_position : (name : List ℕ) (k : ℕ) (cases : List Case) → case_from k name cases ≡ position_from (λ c. bytes_eq (out-Case c).name name) k cases
case_position name k [] = refl
case_position name k (c ∷ cases) =
    ap (λ rest. if bytes_eq (out-Case c).name name then Some k else rest) (case_position name (k + 1) cases)

one_on : {X : Type 0} (test : X → Bool) (k : ℕ) (xs : List X) → position_from test (k + 1) xs ≡ option_map (λ i. i + 1) (position_from test k xs)
one_on test k [] = refl
one_on test k (x ∷ xs) = go (test x) (one_on test (k + 1) xs)
  where
    go : (b : Bool) → position_from test (k + 1 + 1) xs ≡ option_map (λ i. i + 1) (position_from test (k + 1) xs) → (if b then Some (k + 1) else position_from test (k + 1 + 1) xs) ≡ option_map (λ i. i + 1) (if b then Some k else position_from test (k + 1) xs)
    go true e = refl
    go false e = e

pub case_number : (name : List ℕ) (cases : List Case) → case_from 1 name cases ≡ option_map (λ i. i + 1) (position (λ c. bytes_eq (out-Case c).name name) cases)
case_number name cases =
    case_position name 1 cases ∙ one_on (λ (c : Case). bytes_eq (out-Case c).name name) 0 cases
    ∙ ap (λ o. option_map (λ i. i + 1) o) (sym (position_from-zero (λ (c : Case). bytes_eq (out-Case c).name name) cases))
