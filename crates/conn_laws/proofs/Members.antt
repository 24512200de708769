-- What is a member of a list, and what passes there.
use Rattle.std.proofs.Common.{◌≡◌, ◌⊎◌, inl, inr, ℕ, ◌<◌, ◌≤◌, Bool, true, false, cond, List, [], ◌∷◌, ◌++◌, map, refl, sym, ap, subst, ◌∙◌, arith, Some}
use Rattle.std.specs.Prelude.{count_by, filter}
use Rattle.std.specs.List.{find, list_any}
use Rattle.std.proofs.lemmas.Bool.{cases_Bool, or_cases, or_left, or_right}
use Rattle.txn_core.specs.FirstPlaces.{found_at}
use Rattle.txn_core.specs.RowLaws.{count_cons, one}
use Rattle.txn_core.specs.RowTables.{IsRising, Row, ids_of}
use Rattle.wire_frames.specs.declared.ends.Outcome.{Outcome}
use Rattle.conn_core.specs.RowLaw.{EachRow}
use Rattle.conn_core.specs.Tables.{Handed}

abbrev pub In : {X : Type 0} → X → List X → Type 0
In x [] = ⊥
In x (y ∷ ys) = (y ≡ x) ⊎ In x ys

pub in_map : {X Y : Type 0} (f : X → Y) (xs : List X) (y : Y) → In y (map f xs) → (x : X) × In x xs × (f x ≡ y)
in_map f [] y h = absurd h
in_map f (x ∷ xs) y (inl is) = (x, inl refl, is)
in_map f (x ∷ xs) y (inr h) = let rest = in_map f xs y h in (rest.0, inr rest.1, rest.2)

pub in_append : {X : Type 0} (xs ys : List X) (x : X) → In x (xs ++ ys) → In x xs ⊎ In x ys
in_append [] ys x h = inr h
in_append (z ∷ zs) ys x (inl is) = inl (inl is)
in_append (z ∷ zs) ys x (inr h) = elim (in_append zs ys x h) [ inl before ↦ inl (inr before) | inr after ↦ inr after ]

pub in_middle : {X : Type 0} (before after : List X) (x : X) → In x (before ++ x ∷ after)
in_middle [] after x = inl refl
in_middle (y ∷ ys) after x = inr (in_middle ys after x)

pub in_front : {X : Type 0} (xs ys : List X) (x : X) → In x xs → In x (xs ++ ys)
in_front [] ys x h = absurd h
in_front (z ∷ zs) ys x (inl is) = inl is
in_front (z ∷ zs) ys x (inr h) = inr (in_front zs ys x h)

filter_case : {X : Type 0} (q : X → Bool) (y : X) (ys rest : List X) (x : X) (b : Bool) → q y ≡ b → (In x rest → In x ys × (q x ≡ true)) → In x (cond b (y ∷ rest) rest) → In x (y ∷ ys) × (q x ≡ true)
filter_case q y ys rest x true is more (inl same) = (inl same, sym (ap q same) ∙ is)
filter_case q y ys rest x true is more (inr h) = (inr (more h).0, (more h).1)
filter_case q y ys rest x false is more h = (inr (more h).0, (more h).1)

pub in_filter : {X : Type 0} (q : X → Bool) (xs : List X) (x : X) → In x (filter q xs) → In x xs × (q x ≡ true)
in_filter q [] x h = absurd h
in_filter q (y ∷ ys) x h = filter_case q y ys (filter q ys) x (q y) refl (in_filter q ys x) h

pub in_any : {X : Type 0} (p : X → Bool) (xs : List X) → list_any p xs ≡ true → (x : X) × In x xs × (p x ≡ true)
in_any p [] e = absurd (cc)
in_any p (y ∷ ys) e =
    elim (or_cases (p y) (list_any p ys) e) [
      | inl here ↦ (y, inl refl, here)
      | inr there ↦ (let rest = in_any p ys there in (rest.0, inr rest.1, rest.2))
    ]

pub any_in : {X : Type 0} (p : X → Bool) (xs : List X) (x : X) → In x xs → p x ≡ true → list_any p xs ≡ true
any_in p [] x h e = absurd h
any_in p (y ∷ ys) x (inl is) e = or_left (p y) (list_any p ys) (ap p is ∙ e)
any_in p (y ∷ ys) x (inr h) e = or_right (p y) (list_any p ys) (any_in p ys x h e)

pub in_found : {X : Type 0} (p : X → Bool) (xs : List X) (x : X) → find p xs ≡ Some x → In x xs × (p x ≡ true)
in_found {X} p xs x found =
    let first = (found_at p xs x found).1 in
    let P : List X → Type 0 = In x in
    (subst P (sym first.split) (in_middle first.before first.after x), first.passes)

pub in_each : (P : Row Handed Outcome → Type 0) (rows : List (Row Handed Outcome)) (row : Row Handed Outcome) → EachRow P rows → In row rows → P row
in_each P [] row h there = absurd there
in_each P (x ∷ xs) row h (inl is) = subst P is h.0
in_each P (x ∷ xs) row h (inr there) = in_each P xs row h.1 there

-- ---- counts

pub count_in : {X : Type 0} (p : X → Bool) (xs : List X) (x : X) → In x xs → p x ≡ true → 1 ≤ count_by p xs
count_in p [] x h e = absurd h
count_in p (y ∷ ys) x (inl is) e = let all = count_cons p y ys in let here : one (p y) ≡ 1 = ap one (ap p is ∙ e) in omega arith
count_in p (y ∷ ys) x (inr h) e = let all = count_cons p y ys in let rest = count_in p ys x h e in omega arith

pub in_count : {X : Type 0} (p : X → Bool) (xs : List X) → 1 ≤ count_by p xs → (x : X) × In x xs × (p x ≡ true)
in_count p [] e = let none : count_by p [] ≡ 0 = refl in absurd (omega arith)
in_count p (y ∷ ys) e =
    let all = count_cons p y ys in
    elim (cases_Bool (p y)) [
      | inl here ↦ (y, inl refl, here)
      | inr out ↦ (let not_here : one (p y) ≡ 0 = ap one out in let rest = in_count p ys (omega arith) in (rest.0, inr rest.1, rest.2))
    ]

-- where one passes at most, those that pass are one
pub only_one : {X : Type 0} (p : X → Bool) (xs : List X) (x y : X) → count_by p xs ≤ 1 → In x xs → In y xs → p x ≡ true → p y ≡ true → x ≡ y
only_one p [] x y few h k d e = absurd h
only_one p (z ∷ zs) x y few (inl a) (inl b) d e = sym a ∙ b
only_one p (z ∷ zs) x y few (inl a) (inr k) d e =
    let all = count_cons p z zs in let here : one (p z) ≡ 1 = ap one (ap p a ∙ d) in let more = count_in p zs y k e in absurd (omega arith)
only_one p (z ∷ zs) x y few (inr h) (inl b) d e =
    let all = count_cons p z zs in let here : one (p z) ≡ 1 = ap one (ap p b ∙ e) in let more = count_in p zs x h d in absurd (omega arith)
only_one p (z ∷ zs) x y few (inr h) (inr k) d e = let all = count_cons p z zs in only_one p zs x y (omega arith) h k d e

pub none_counts : {X : Type 0} (p : X → Bool) (xs : List X) → ((x : X) → In x xs → p x ≡ false) → count_by p xs ≡ 0
none_counts p [] none = refl
none_counts p (y ∷ ys) none =
    let all = count_cons p y ys in
    let here : one (p y) ≡ 0 = ap one (none y (inl refl)) in
    let rest = none_counts p ys (λ x h. none x (inr h)) in omega arith

-- ---- rows by their ids

in_above : (low high : ℕ) (rows : List (Row Handed Outcome)) (row : Row Handed Outcome) → IsRising low high (ids_of rows) → In row rows → low < row.id
in_above low high [] row rises h = absurd h
in_above low high (x ∷ xs) row rises (inl is) = let P : Row Handed Outcome → Type 0 = λ y. low < y.id in subst P is rises.0
in_above low high (x ∷ xs) row rises (inr h) = let first = rises.0 in let rest = in_above x.id high xs row rises.1 h in omega arith

pub same_row : (low high : ℕ) (rows : List (Row Handed Outcome)) (x y : Row Handed Outcome) → IsRising low high (ids_of rows) → In x rows → In y rows → x.id ≡ y.id → x ≡ y
same_row low high [] x y rises h k e = absurd h
same_row low high (z ∷ zs) x y rises (inl a) (inl b) e = sym a ∙ b
same_row low high (z ∷ zs) x y rises (inl a) (inr k) e =
    let above = in_above z.id high zs y rises.1 k in let same : z.id ≡ x.id = ap (λ (r : Row Handed Outcome). r.id) a in absurd (omega arith)
same_row low high (z ∷ zs) x y rises (inr h) (inl b) e =
    let above = in_above z.id high zs x rises.1 h in let same : z.id ≡ y.id = ap (λ (r : Row Handed Outcome). r.id) b in absurd (omega arith)
same_row low high (z ∷ zs) x y rises (inr h) (inr k) e = same_row z.id high zs x y rises.1 h k e
