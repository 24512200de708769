-- What holds of a request table after each step.
use Rattle.std.proofs.Common.{◌≡◌, ◌⊎◌, ℕ, zero, suc, ◌+◌, ◌<◌, ◌≤◌, ◌^◌, Bool, true, false, cond, not, List, [], ◌∷◌, ◌++◌, length, refl, sym, ap, ◌∙◌, subst, arith, length-append, inl, inr}
use Rattle.std.specs.Prelude.{◌-◌, ◌&&◌, ◌==◌, count_by, filter, if◌then◌else◌, map, nat_le, nat_lt}
use Rattle.std.specs.List.{range_with_len}
use Rattle.std.proofs.lemmas.Bool.{and_parts, cases_Bool, eqb-false, eqb-true}
use Rattle.std.proofs.lemmas.Bool.Decides.{nat_tests}
use Rattle.std.proofs.lemmas.List.{length-map, map-append}
use Rattle.std.proofs.lemmas.List.Sums.{count_by-le-length, length-filter, sum_by-append, sum_by-cons, sum_by-le-sum_by}
use Rattle.std.proofs.lemmas.List.Filters.{length-filter_both}
use Rattle.txn_core.specs.RowSteps.{Draft, ended, ended_all, ended_phase, in_phase, in_phases, queued_row, references_of, replied, sent, sent_phase, settled, stays, with_row, without}
use Rattle.txn_core.specs.RowTables.{IsRising, IsRowSettings, IsRowTable, Row, RowTable, has_id, has_reference, ids_of, is_full, is_live, is_live_and, is_number, is_quarantined, is_queued_and, is_reference, is_row_of, is_sent_and, opening, phase_ended, phase_live, phase_queued, phase_sent, rows_limit, uses_of}
use Rattle.txn_core.specs.declared.phases.Phase.{Phase}
use Rattle.txn_core.specs.declared.phases.Phase.TheVariants.{Queued, Sent, Ended}

-- ---- counts

abbrev pub one : Bool → ℕ
one b = cond b 1 0

pub count_cons : {R : Type 0} (p : R → Bool) (x : R) (xs : List R) → count_by p (x ∷ xs) ≡ one (p x) + count_by p xs
count_cons p x xs = sum_by-cons (λ y. one (p y)) x xs

pub count_append : {R : Type 0} (p : R → Bool) (xs ys : List R) → count_by p (xs ++ ys) ≡ count_by p xs + count_by p ys
count_append p xs ys = sum_by-append (λ y. one (p y)) xs ys

pub count_map : {R S : Type 0} (p : S → Bool) (f : R → S) (xs : List R) → count_by p (map f xs) ≡ count_by (λ x. p (f x)) xs
count_map p f [] = refl
count_map p f (x ∷ xs) = count_cons p (f x) (map f xs) ∙ ap (λ n. one (p (f x)) + n) (count_map p f xs) ∙ sym (count_cons (λ y. p (f y)) x xs)

one_at_most : (b : Bool) → one b ≤ 1
one_at_most true = omega arith
one_at_most false = omega arith

-- counts add up where they do at each item
pub counts_add : {R : Type 0} (a b c : R → Bool) (xs : List R) → ((x : R) → one (a x) + one (b x) ≡ one (c x)) → count_by a xs + count_by b xs ≡ count_by c xs
counts_add a b c [] each = refl
counts_add a b c (x ∷ xs) each =
    let here = each x in
    let rest = counts_add a b c xs each in
    let p = count_cons a x xs in
    let q = count_cons b x xs in
    let r = count_cons c x xs in omega arith

pub counts_same : {R : Type 0} (a b : R → Bool) (xs : List R) → ((x : R) → a x ≡ b x) → count_by a xs ≡ count_by b xs
counts_same a b [] each = refl
counts_same a b (x ∷ xs) each = count_cons a x xs ∙ ap (λ n. one n + count_by a xs) (each x) ∙ ap (λ n. one (b x) + n) (counts_same a b xs each) ∙ sym (count_cons b x xs)

pub count_filter : {R : Type 0} (p q : R → Bool) (xs : List R) → count_by p (filter q xs) ≡ count_by (λ x. q x && p x) xs
count_filter p q [] = refl
count_filter p q (x ∷ xs) =
    let rest = count_filter p q xs in
    let all = count_cons (λ y. q y && p y) x xs in
    elim (q x) as (λ b. one (b && p x) + count_by (λ y. q y && p y) xs ≡ count_by (λ y. q y && p y) (x ∷ xs) → count_by p (cond b (x ∷ filter q xs) (filter q xs)) ≡ count_by (λ y. q y && p y) (x ∷ xs)) [
      | true ↦ λ e. count_cons p x (filter q xs) ∙ ap (λ n. one (p x) + n) rest ∙ e
      | false ↦ λ e. rest ∙ omega arith
    ] (sym all)

-- how often a number stands among the references of the rows that pass
pub count_references : {X E : Type 0} (reference : ℕ) (q : Row X E → Bool) (rows : List (Row X E)) → count_by (is_number reference) (references_of q rows) ≡ count_by (λ row. q row && has_reference reference row) rows
count_references reference q rows = count_map (is_number reference) (λ row. row.reference) (filter q rows) ∙ count_filter (has_reference reference) q rows

-- no more numbers stand in a list than there are, where each stands once at most
none_in : (xs : List ℕ) → ((r : ℕ) → count_by (is_number r) xs ≡ 0) → length xs ≡ 0
none_in [] none = refl
none_in (x ∷ xs) none =
    let here = none x in
    let all = count_cons (is_number x) x xs in
    let same : is_number x x ≡ true = grind (arith, nat_tests) in
    let counts : one (is_number x x) ≡ 1 = ap one same in absurd (omega arith)

abbrev pub is_up_to : ℕ → ℕ → Bool
is_up_to n r = nat_le 1 r && nat_le r n

nothing_up_to_zero : (r : ℕ) → is_up_to 0 r ≡ false
nothing_up_to_zero r = grind (arith, nat_tests)

past_last : (n r : ℕ) → is_number (suc n) r ≡ false → is_up_to n r ≡ false → is_up_to (suc n) r ≡ false
past_last n r other out = grind (arith, nat_tests)

count_none : {R : Type 0} (p : R → Bool) (xs : List R) → ((x : R) → p x ≡ false) → count_by p xs ≡ 0
count_none p [] none = refl
count_none p (x ∷ xs) none = count_cons p x xs ∙ ap (λ b. one b + count_by p xs) (none x) ∙ ap (λ n. 0 + n) (count_none p xs none)

one_of_both : (a b : Bool) → one (a && b) ≤ one b
one_of_both true b = omega arith
one_of_both false true = omega arith
one_of_both false false = omega arith

count_both : {R : Type 0} (q p : R → Bool) (xs : List R) → count_by (λ x. q x && p x) xs ≤ count_by p xs
count_both q p xs = sum_by-le-sum_by (λ x. one (q x && p x)) (λ x. one (p x)) xs (λ x. one_of_both (q x) (p x))

not_both : (r n x : ℕ) → is_number n r ≡ true → (not (is_number n x) && is_number r x) ≡ false
not_both r n x same = grind (arith, nat_tests)

left_out : (n : ℕ) (xs : List ℕ) (r : ℕ) → ((q : ℕ) → is_up_to (suc n) q ≡ false → count_by (is_number q) xs ≡ 0) → is_up_to n r ≡ false → (is_number (suc n) r ≡ true) ⊎ (is_number (suc n) r ≡ false) → count_by (λ x. not (is_number (suc n) x) && is_number r x) xs ≡ 0
left_out n xs r within out (inl same) = count_none (λ x. not (is_number (suc n) x) && is_number r x) xs (λ x. not_both r (suc n) x same)
left_out n xs r within out (inr other) =
    let none = within r (past_last n r other out) in
    let few = count_both (λ x. not (is_number (suc n) x)) (is_number r) xs in omega arith

pub pigeon : (n : ℕ) (xs : List ℕ) → ((r : ℕ) → count_by (is_number r) xs ≤ 1) → ((r : ℕ) → is_up_to n r ≡ false → count_by (is_number r) xs ≡ 0) → length xs ≤ n
pigeon zero xs once within =
    let none = none_in xs (λ r. within r (nothing_up_to_zero r)) in omega arith
pigeon (suc n) xs once within =
    let p = is_number (suc n) in
    let both = length-filter_both p (λ x. not (p x)) (λ _. refl) xs in
    let last = length-filter p xs in
    let at_most = once (suc n) in
    let rest = pigeon n (filter (λ x. not (p x)) xs)
    (λ r. let all = count_filter (is_number r) (λ x. not (p x)) xs in let few = count_both (λ x. not (p x)) (is_number r) xs in let here = once r in omega arith)
    (λ r out. count_filter (is_number r) (λ x. not (p x)) xs ∙ left_out n xs r within out (cases_Bool (p r))) in omega arith

-- ---- rising ids

pub rising_le : (low high : ℕ) (ns : List ℕ) → IsRising low high ns → low ≤ high
rising_le low high [] rises = rises
rising_le low high (n ∷ ns) rises = let rest = rising_le n high ns rises.1 in let first = rises.0 in omega arith

pub rising_from : (low n high : ℕ) (ns : List ℕ) → low ≤ n → IsRising n high ns → IsRising low high ns
rising_from low n high [] under rises = omega arith
rising_from low n high (m ∷ ns) under rises = let first = rises.0 in (omega arith, rises.1)

pub rising_push : (low high : ℕ) (ns : List ℕ) → IsRising low high ns → IsRising low (high + 1) (ns ++ (high + 1) ∷ [])
rising_push low high [] rises = (omega arith, omega arith)
rising_push low high (n ∷ ns) rises = (rises.0, rising_push n high ns rises.1)

pub rising_filter : {X E : Type 0} (q : Row X E → Bool) (low high : ℕ) (rows : List (Row X E)) → IsRising low high (ids_of rows) → IsRising low high (ids_of (filter q rows))
rising_filter q low high [] rises = rises
rising_filter q low high (row ∷ rows) rises =
    let rest = rising_filter q row.id high rows rises.1 in
    let first = rises.0 in
    elim (q row) as (λ b. IsRising low high (ids_of (cond b (row ∷ filter q rows) (filter q rows)))) [
      | true ↦ (first, rest)
      | false ↦ rising_from low row.id high (ids_of (filter q rows)) (omega arith) rest
    ]

pub ids_same : {X E : Type 0} (phase : Row X E → Phase E) (rows : List (Row X E)) → ids_of (in_phases phase rows) ≡ ids_of rows
ids_same phase [] = refl
ids_same phase (row ∷ rows) = ap (λ ns. row.id ∷ ns) (ids_same phase rows)

-- ---- what each step does to the uses of references

counts_add_up : {R : Type 0} (a b c d : R → Bool) (xs : List R) → ((x : R) → one (a x) + (one (b x) + one (c x)) ≡ one (d x)) → count_by a xs + (count_by b xs + count_by c xs) ≡ count_by d xs
counts_add_up a b c d [] each = refl
counts_add_up a b c d (x ∷ xs) each =
    let here = each x in
    let rest = counts_add_up a b c d xs each in
    let p = count_cons a x xs in
    let q = count_cons b x xs in
    let r = count_cons c x xs in
    let s = count_cons d x xs in omega arith

pub uses_added : {X E : Type 0} (draft : Draft X) (t : RowTable X E) (reference : ℕ) (rest : List ℕ) → t.free ≡ reference ∷ rest → (r : ℕ) → uses_of r (with_row draft t reference rest) ≡ uses_of r t
uses_added draft t reference rest is r =
    let row = queued_row draft (t.drawn + 1) reference in
    let of = is_live_and (has_reference r) in
    let rows = count_append of t.rows (row ∷ []) in
    let last = count_cons of row [] in
    let first = ap (count_by (is_number r)) is in
    let drawn = count_cons (is_number r) reference rest in omega arith

sent_live : {E : Type 0} (phase : Phase E) (p h : Bool) → (phase_live (if phase_queued phase && p then Sent else phase) && h) ≡ (phase_live phase && h)
sent_live Queued true h = refl
sent_live Queued false h = refl
sent_live Sent p h = refl
sent_live (Ended kind) p h = refl

pub uses_sent : {X E : Type 0} (id : ℕ) (t : RowTable X E) (r : ℕ) → uses_of r (sent id t) ≡ uses_of r t
uses_sent id t r =
    let of = is_live_and (has_reference r) in
    let rows = count_map of (in_phase (sent_phase id)) t.rows ∙ counts_same (λ row. of (in_phase (sent_phase id) row)) of t.rows (λ row. sent_live row.phase (has_id id row) (has_reference r row)) in
    ap (λ n. count_by (is_number r) t.free + n) rows

pub uses_settled : {X E : Type 0} (reference : ℕ) (t : RowTable X E) (r : ℕ) → uses_of r (settled reference t) ≡ uses_of r t + one (is_number r reference)
uses_settled reference t r =
    let free = count_append (is_number r) t.free (reference ∷ []) in
    let last = count_cons (is_number r) reference [] in omega arith

-- a row that ends without a reply: what stays live, what is free again, and what stays out
end_weights : {E : Type 0} (kind : E) (phase : Phase E) (p h : Bool) → one (phase_live (if phase_live phase && p then Ended kind else phase) && h) + (one ((phase_queued phase && p) && h) + one ((phase_sent phase && p) && h)) ≡ one (phase_live phase && h)
end_weights kind Queued true h = omega arith
end_weights kind Queued false h = omega arith
end_weights kind Sent true h = omega arith
end_weights kind Sent false h = omega arith
end_weights kind (Ended e) p h = omega arith

-- the sent rows that pass, whose reference this is
abbrev pub stays_out : {X E : Type 0} → (Row X E → Bool) → ℕ → Row X E → Bool
stays_out p reference row = is_sent_and p row && has_reference reference row

pub uses_ended_all : {X E : Type 0} (p : Row X E → Bool) (kind : E) (t : RowTable X E) (r : ℕ) → uses_of r (ended_all p kind t) + count_by (stays_out p r) t.rows ≡ uses_of r t
uses_ended_all p kind t r =
    let of = is_live_and (has_reference r) in
    let rows = count_map of (in_phase (ended_phase p kind)) t.rows in
    let free = count_append (is_number r) t.free (references_of (is_queued_and p) t.rows) in
    let back = count_references r (is_queued_and p) t.rows in
    let all = counts_add_up (λ row. of (in_phase (ended_phase p kind) row)) (λ row. is_queued_and p row && has_reference r row) (stays_out p r) of t.rows
    (λ row. end_weights kind row.phase (p row) (has_reference r row)) in omega arith

reply_weights : {E : Type 0} (kind : E) (phase : Phase E) (p h : Bool) → one (phase_live (if phase_live phase && p then Ended kind else phase) && h) + one ((phase_live phase && p) && h) ≡ one (phase_live phase && h)
reply_weights kind Queued true h = omega arith
reply_weights kind Queued false h = omega arith
reply_weights kind Sent true h = omega arith
reply_weights kind Sent false h = omega arith
reply_weights kind (Ended e) p h = omega arith

pub uses_replied : {X E : Type 0} (id : ℕ) (kind : E) (t : RowTable X E) (r : ℕ) → uses_of r (replied id kind t) ≡ uses_of r t
uses_replied id kind t r =
    let p = has_id id in
    let of = is_live_and (has_reference r) in
    let rows = count_map of (in_phase (ended_phase p kind)) t.rows in
    let free = count_append (is_number r) t.free (references_of (is_live_and p) t.rows) in
    let back = count_references r (is_live_and p) t.rows in
    let all = counts_add (λ row. of (in_phase (ended_phase p kind) row)) (λ row. is_live_and p row && has_reference r row) of t.rows
    (λ row. reply_weights kind row.phase (p row) (has_reference r row)) in omega arith

taken_live : {E : Type 0} (phase : Phase E) (p h : Bool) → (not (phase_ended phase && p) && (phase_live phase && h)) ≡ (phase_live phase && h)
taken_live Queued p h = refl
taken_live Sent p h = refl
taken_live (Ended kind) true h = refl
taken_live (Ended kind) false h = refl

pub uses_without : {X E : Type 0} (owner id : ℕ) (t : RowTable X E) (r : ℕ) → uses_of r (without owner id t) ≡ uses_of r t
uses_without owner id t r =
    let of = is_live_and (has_reference r) in
    let rows = count_filter of (stays owner id) t.rows ∙ counts_same (λ row. stays owner id row && of row) of t.rows (λ row. taken_live row.phase (is_row_of owner id row) (has_reference r row)) in
    ap (λ n. count_by (is_number r) t.free + n) rows

-- ---- each step keeps what holds of every table

-- the rest of it, where a step brings no use of a reference
fewer_uses : {X E : Type 0} (t u : RowTable X E) → IsRowTable t → u.references ≡ t.references → u.window ≡ t.window → length u.rows ≤ rows_limit → IsRising 0 u.drawn (ids_of u.rows) → u.drawn < 2 ^ 64 → ((r : ℕ) → uses_of r u ≤ uses_of r t) → IsRowTable u
fewer_uses t u table references window rows ids drawn uses = record {
  settings = subst (λ n. IsRowSettings n u.window) (sym references) (subst (λ n. IsRowSettings t.references n) (sym window) table.settings);
  rows = rows;
  ids = ids;
  drawn = drawn;
  once = λ r. let few = uses r in let was = table.once r in omega arith;
  within = λ r out.
      let few = uses r in
      let was : uses_of r t ≡ 0 = table.within r (sym (ap (λ n. is_up_to n r) references) ∙ out) in omega arith;
}

pub count_range : (low n r : ℕ) → count_by (is_number r) (range_with_len low n) ≡ one (nat_le low r && nat_lt r (low + n))
count_range low zero r = grind (arith, nat_tests)
count_range low (suc n) r =
    let all = count_cons (is_number r) low (range_with_len (low + 1) n) in
    let rest = count_range (low + 1) n r in grind (arith, nat_tests)

pub opening_table : {X E : Type 0} (references window : ℕ) → IsRowSettings references window → IsRowTable (opening {X = X} {E = E} references window)
opening_table {X} {E} references window settings = record {
  settings = settings;
  rows = omega arith;
  ids = omega arith;
  drawn = omega arith;
  once = λ r. let all = count_range 1 references r in grind (arith, nat_tests);
  within = λ r out. let all = count_range 1 references r in grind (arith, nat_tests);
}

pub added_table : {X E : Type 0} (draft : Draft X) (t : RowTable X E) (reference : ℕ) (rest : List ℕ) → IsRowTable t → is_full t ≡ false → t.free ≡ reference ∷ rest → t.drawn < 2 ^ 64 - 1 → IsRowTable (with_row draft t reference rest)
added_table draft t reference rest table room is drawn =
    let row = queued_row draft (t.drawn + 1) reference in
    let long = length-append t.rows (row ∷ []) in
    let short = eqb-false (length t.rows) rows_limit room in
    let few = table.rows in
    let not_all : length t.rows < rows_limit = grind (arith) in
    fewer_uses t (with_row draft t reference rest) table refl refl (omega arith) (subst (IsRising 0 (t.drawn + 1)) (sym (map-append (λ r. r.id) t.rows (row ∷ []))) (rising_push 0 t.drawn (ids_of t.rows) table.ids)) (omega arith)
    (λ r. let same = uses_added draft t reference rest is r in omega arith)

pub sent_table : {X E : Type 0} (id : ℕ) (t : RowTable X E) → IsRowTable t → IsRowTable (sent id t)
sent_table id t table =
    let long = length-map t.rows (in_phase (sent_phase id)) in
    let few = table.rows in
    fewer_uses t (sent id t) table refl refl (omega arith) (subst (IsRising 0 t.drawn) (sym (ids_same (sent_phase id) t.rows)) table.ids) table.drawn
    (λ r. let same = uses_sent id t r in omega arith)

pub quarantined_parts : {X E : Type 0} (reference : ℕ) (t : RowTable X E) → is_quarantined reference t ≡ true → (is_reference reference t ≡ true) × (uses_of reference t ≡ 0)
quarantined_parts reference t is =
    let both = and_parts (is_reference reference t) (uses_of reference t == 0) is in (both.0, eqb-true (uses_of reference t) 0 both.1)

-- another number, or the one itself
pub number_cases : (n m : ℕ) → (n ≡ m) ⊎ (one (is_number n m) ≡ 0)
number_cases n m = elim (cases_Bool (is_number n m)) [ inl same ↦ inl (sym (eqb-true m n same)) | inr other ↦ inr (ap one other) ]

pub settled_table : {X E : Type 0} (reference : ℕ) (t : RowTable X E) → IsRowTable t → is_quarantined reference t ≡ true → IsRowTable (settled reference t)
settled_table reference t table is =
    let parts = quarantined_parts reference t is in
    record {
      settings = table.settings;
      rows = table.rows;
      ids = table.ids;
      drawn = table.drawn;
      once = λ r.
          let uses = uses_settled reference t r in
          let was = table.once r in
          elim (number_cases r reference) [
            | inl same ↦ let none : uses_of r t ≡ 0 = ap (λ n. uses_of n t) same ∙ parts.1 in let some : one (is_number r reference) ≤ 1 = one_at_most (is_number r reference) in omega arith
            | inr other ↦ omega arith
          ];
      within = λ r out.
          let uses = uses_settled reference t r in
          let was : uses_of r t ≡ 0 = table.within r out in
          elim (number_cases r reference) [
            | inl same ↦ let inside : is_reference r t ≡ true = ap (λ n. is_reference n t) same ∙ parts.0 in absurd (cc)
            | inr other ↦ omega arith
          ];
    }

pub ended_all_table : {X E : Type 0} (p : Row X E → Bool) (kind : E) (t : RowTable X E) → IsRowTable t → IsRowTable (ended_all p kind t)
ended_all_table p kind t table =
    let long = length-map t.rows (in_phase (ended_phase p kind)) in
    let few = table.rows in
    fewer_uses t (ended_all p kind t) table refl refl (omega arith) (subst (IsRising 0 t.drawn) (sym (ids_same (ended_phase p kind) t.rows)) table.ids) table.drawn
    (λ r. let uses = uses_ended_all p kind t r in omega arith)

pub replied_table : {X E : Type 0} (id : ℕ) (kind : E) (t : RowTable X E) → IsRowTable t → IsRowTable (replied id kind t)
replied_table id kind t table =
    let long = length-map t.rows (in_phase (ended_phase (has_id id) kind)) in
    let few = table.rows in
    fewer_uses t (replied id kind t) table refl refl (omega arith) (subst (IsRising 0 t.drawn) (sym (ids_same (ended_phase (has_id id) kind) t.rows)) table.ids) table.drawn
    (λ r. let uses = uses_replied id kind t r in omega arith)

pub ended_table : {X E : Type 0} (id : ℕ) (answered : Bool) (kind : E) (t : RowTable X E) → IsRowTable t → IsRowTable (ended id answered kind t)
ended_table id true kind t table = replied_table id kind t table
ended_table id false kind t table = ended_all_table (has_id id) kind t table

pub without_table : {X E : Type 0} (owner id : ℕ) (t : RowTable X E) → IsRowTable t → IsRowTable (without owner id t)
without_table owner id t table =
    let fewer = length-filter (stays owner id) t.rows in
    let short = count_by-le-length (stays owner id) t.rows in
    let few = table.rows in
    fewer_uses t (without owner id t) table refl refl (omega arith) (rising_filter (stays owner id) 0 t.drawn t.rows table.ids) table.drawn
    (λ r. let same = uses_without owner id t r in omega arith)

-- ---- there are no more references in use than there are references

-- the references in use: the free ones, and those of live rows
abbrev in_use : {X E : Type 0} → RowTable X E → List ℕ
in_use t = t.free ++ references_of is_live t.rows

in_use_counts : {X E : Type 0} (t : RowTable X E) (r : ℕ) → count_by (is_number r) (in_use t) ≡ uses_of r t
in_use_counts t r = count_append (is_number r) t.free (references_of is_live t.rows) ∙ ap (λ n. count_by (is_number r) t.free + n) (count_references r is_live t.rows)

in_use_length : {X E : Type 0} (t : RowTable X E) → length (in_use t) ≡ length t.free + count_by is_live t.rows
in_use_length t = length-append t.free (references_of is_live t.rows) ∙ ap (λ n. length t.free + n) (length-map (filter is_live t.rows) (λ row. row.reference) ∙ length-filter is_live t.rows)

pub free_few : {X E : Type 0} (t : RowTable X E) → IsRowTable t → length t.free + count_by is_live t.rows ≤ t.references
free_few t table =
    let few = pigeon t.references (in_use t) (λ r. let counts = in_use_counts t r in let once = table.once r in omega arith) (λ r out. in_use_counts t r ∙ table.within r out) in
    let long = in_use_length t in omega arith

-- one more, where one is in quarantine
pub free_fewer : {X E : Type 0} (t : RowTable X E) (reference : ℕ) → IsRowTable t → is_quarantined reference t ≡ true → length t.free + count_by is_live t.rows < t.references
free_fewer t reference table is =
    let after = settled_table reference t table is in
    let few = free_few (settled reference t) after in
    let long = length-append t.free (reference ∷ []) in omega arith
