-- The id of the first kept row that passes, as `find` and `map` give it.
use Rattle.std.proofs.Common.{◌≡◌, ℕ, Bool, true, false, cond, List, [], ◌∷◌, Option, Some, None, refl, ap, ◌∙◌}
use Rattle.std.specs.Prelude.{MatchOption, IsSomeAnd}
use Rattle.std.specs.List.{find}
use Rattle.std.specs.Option.{option_map}
use Rattle.txn_core.specs.KeptRows.{first_id, row_of, rows_of}
use Rattle.txn_core.specs.RowTables.{Row}
use Rattle.txn_core.specs.declared.kept.KeptRow.{KeptRow}

mapped : {K B : Type 0} (now : B → K) (id : K → ℕ) (Q : B → ℕ → Type 0) (o : Option B) (r : Option ℕ) → ((x : B) (n : ℕ) → Q x n → n ≡ id (now x)) → MatchOption o (r ≡ None) (λ x. IsSomeAnd r (Q x)) → r ≡ option_map id (option_map now o)
mapped now id Q None r tells is = is
mapped now id Q (Some x) None tells is = absurd is
mapped now id Q (Some x) (Some n) tells is = ap Some (tells x n is)

kept_first : {E : Type 0} (test : Row (Unit {0}) E → Bool) (rows : List (KeptRow E)) → option_map (λ (k : KeptRow E). k.id) (find (λ k. test (row_of k)) rows) ≡ first_id test (rows_of rows)
kept_first test [] = refl
kept_first test (k ∷ ks) =
    elim (test (row_of k)) as (λ b. option_map (λ (k : KeptRow _). k.id) (cond b (Some k) (find (λ k. test (row_of k)) ks)) ≡ option_map (λ (row : Row _ _). row.id) (cond b (Some (row_of k)) (find test (rows_of ks)))) [ true ↦ refl | false ↦ kept_first test ks ]

pub found_id : {E B : Type 0} (test : Row (Unit {0}) E → Bool) (rows : List (KeptRow E)) (now : B → KeptRow E) (Q : B → ℕ → Type 0) (o : Option B) (r : Option ℕ) → option_map now o ≡ find (λ k. test (row_of k)) rows → ((x : B) (n : ℕ) → Q x n → n ≡ (now x).id) → MatchOption o (r ≡ None) (λ x. IsSomeAnd r (Q x)) → r ≡ first_id test (rows_of rows)
found_id test rows now Q o r found tells cases =
    mapped now (λ (k : KeptRow _). k.id) Q o r tells cases ∙ ap (option_map (λ (k : KeptRow _). k.id)) found ∙ kept_first test rows
