-- Free references are those of the table.
use Rattle.std.proofs.Common.{◌≡◌, ℕ, ◌<◌, ◌≤◌, Bool, true, false, List, [], ◌∷◌, refl, ap, ◌∙◌, arith}
use Rattle.std.specs.Prelude.{count_by, nat_le, unwrap_or}
use Rattle.std.specs.List.{slice_get}
use Rattle.std.proofs.lemmas.Bool.{and_parts, eq-eqb}
use Rattle.std.proofs.lemmas.Bool.Decides.{nat_tests}
use Rattle.txn_core.specs.RowLaws.{count_cons, one}
use Rattle.txn_core.specs.RowTables.{IsRowTable, RowTable, is_number, is_reference, next_reference}

free_range : {X E : Type 0} (t : RowTable X E) (reference : ℕ) (rest : List ℕ) (b : Bool) → IsRowTable t → t.free ≡ reference ∷ rest → is_reference reference t ≡ b → b ≡ true
free_range t reference rest true table free is = refl
free_range t reference rest false table free is =
    let none = table.within reference is in
    let here : one (is_number reference reference) ≡ 1 = ap one (eq-eqb reference reference refl) in
    let count = ap (count_by (is_number reference)) free ∙ count_cons (is_number reference) reference rest in
    absurd (omega arith)

reference_bounds : {X E : Type 0} (t : RowTable X E) (reference : ℕ) → is_reference reference t ≡ true → (1 ≤ reference) × (reference ≤ t.references)
reference_bounds t reference e = let both = and_parts (nat_le 1 reference) (nat_le reference t.references) e in let low = both.0 in let high = both.1 in (grind (arith, nat_tests), grind (arith, nat_tests))

-- the reference that is next
pub free_bounds : {X E : Type 0} (t : RowTable X E) (reference : ℕ) (rest : List ℕ) → IsRowTable t → t.free ≡ reference ∷ rest → (1 ≤ reference) × (reference ≤ t.references)
free_bounds t reference rest table free = reference_bounds t reference (free_range t reference rest (is_reference reference t) table free refl)

next_low : {X E : Type 0} (t : RowTable X E) (free : List ℕ) → IsRowTable t → t.free ≡ free → 0 < unwrap_or (slice_get free 0) 1
next_low t [] table is = omega arith
next_low t (reference ∷ rest) table is = let low = (free_bounds t reference rest table is).0 in omega arith

pub next_some : {X E : Type 0} (t : RowTable X E) → IsRowTable t → 0 < unwrap_or (next_reference t) 1
next_some t table = next_low t t.free table refl
