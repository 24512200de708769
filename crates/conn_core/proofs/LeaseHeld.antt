-- Which leases are held before and after an event.
use Rattle.std.proofs.Common.{◌≡◌, ℕ, zero, suc, ◌-◌, ◌<◌, ◌≤◌, Bool, true, false, cond, List, [], ◌∷◌, ◌++◌, length, map, take, refl, sym, ap, ◌∙◌, arith}
use Rattle.std.specs.Prelude.{◌||◌, ◌==◌, filter, not}
use Rattle.std.specs.List.{list_any}
use Rattle.std.proofs.lemmas.Bool.{and_parts, eq-eqb, eqb-true, ne_eqb}
use Rattle.lease_core.specs.LeaseSteps.{asked, dropped, due_dropped, granted_all, held_from, is_held_at_once, is_other, next_lease, outlasts}
use Rattle.lease_core.specs.LeaseTables.{IsLeaseTable, Lease, LeaseTable, RiseWithin, deadline_of, due_numbers, has_number, is_due, is_lease_of, number_of, numbers}

-- ---- tests

pub or_none : (a b : Bool) → (a || b) ≡ false → (a ≡ false) × (b ≡ false)
or_none true b e = cc
or_none false b e = (refl, e)

or_second : (a b : Bool) → a ≡ false → (a || b) ≡ true → b ≡ true
or_second true b out e = cc
or_second false b out e = e

any_left_step : (a b d : Bool) → (a || b) ≡ true → (b ≡ true → d ≡ true) → (a || d) ≡ true
any_left_step true b d e rest = refl
any_left_step false b d e rest = rest e

any_weaker_step : (a q b d : Bool) → (a ≡ true → q ≡ true) → (b ≡ true → d ≡ true) → (a || b) ≡ true → (q || d) ≡ true
any_weaker_step true q b d h rest e = ap (λ x. x || d) (h refl)
any_weaker_step false true b d h rest e = refl
any_weaker_step false false b d h rest e = rest e

apart : (b : Bool) → b ≡ true → b ≡ false → ⊥
apart true e f = cc
apart false e f = cc

-- ---- lists

pub any_left : {X : Type 0} (p : X → Bool) (xs ys : List X) → list_any p xs ≡ true → list_any p (xs ++ ys) ≡ true
any_left p [] ys e = cc
any_left p (x ∷ xs) ys e = any_left_step (p x) (list_any p xs) (list_any p (xs ++ ys)) e (any_left p xs ys)

pub any_none : {X : Type 0} (p : X → Bool) (xs ys : List X) → list_any p xs ≡ false → list_any p ys ≡ false → list_any p (xs ++ ys) ≡ false
any_none p [] ys e f = f
any_none p (x ∷ xs) ys e f = let both = or_none (p x) (list_any p xs) e in rw (both.0, any_none p xs ys both.1 f) refl

pub any_right : {X : Type 0} (p : X → Bool) (xs ys : List X) → list_any p (xs ++ ys) ≡ false → list_any p ys ≡ false
any_right p [] ys e = e
any_right p (x ∷ xs) ys e = any_right p xs ys (or_none (p x) (list_any p (xs ++ ys)) e).1

pub any_first : {X : Type 0} (p : X → Bool) (xs ys : List X) → list_any p (xs ++ ys) ≡ false → list_any p xs ≡ false
any_first p [] ys e = refl
any_first p (x ∷ xs) ys e = let both = or_none (p x) (list_any p (xs ++ ys)) e in rw (both.0, any_first p xs ys both.1) refl

any_if : {X : Type 0} (p : X → Bool) (x : X) (xs : List X) (b : Bool) → p x ≡ false → list_any p xs ≡ false → list_any p (cond b (x ∷ xs) xs) ≡ false
any_if p x xs true e f = rw (e, f) refl
any_if p x xs false e f = f

pub any_filter : {X : Type 0} (p q : X → Bool) (xs : List X) → list_any p xs ≡ false → list_any p (filter q xs) ≡ false
any_filter p q [] e = refl
any_filter p q (x ∷ xs) e = let both = or_none (p x) (list_any p xs) e in any_if p x (filter q xs) (q x) both.0 (any_filter p q xs both.1)

pub any_take : {X : Type 0} (p : X → Bool) (n : ℕ) (xs : List X) → list_any p xs ≡ false → list_any p (take n xs) ≡ false
any_take p zero xs e = refl
any_take p (suc n) [] e = refl
any_take p (suc n) (x ∷ xs) e = let both = or_none (p x) (list_any p xs) e in rw (both.0, any_take p n xs both.1) refl

any_held : (n now : ℕ) (l : LeaseTable) (xs : List Lease) → list_any (has_number n) xs ≡ false → list_any (has_number n) (map (held_from now l) xs) ≡ false
any_held n now l [] e = refl
any_held n now l (x ∷ xs) e = let both = or_none (has_number n x) (list_any (has_number n) xs) e in rw (both.0, any_held n now l xs both.1) refl

pub any_weaker : {X : Type 0} (p q : X → Bool) (xs : List X) → ((x : X) → p x ≡ true → q x ≡ true) → list_any p xs ≡ true → list_any q xs ≡ true
any_weaker p q [] h e = cc
any_weaker p q (x ∷ xs) h e = any_weaker_step (p x) (q x) (list_any p xs) (list_any q xs) (h x) (any_weaker p q xs h) e

pub eq_turn : (a b : ℕ) → (a == b) ≡ false → (b == a) ≡ false
eq_turn a b e = ne_eqb b a (λ same. apart (a == b) (eq-eqb a b (sym same)) e)

-- ---- a lease that is given back

other_if : (n : ℕ) (x : Lease) (xs : List Lease) (b : Bool) → has_number n x ≡ b → list_any (has_number n) xs ≡ false → list_any (has_number n) (cond (not b) (x ∷ xs) xs) ≡ false
other_if n x xs true is e = e
other_if n x xs false is e = rw (is, e) refl

pub none_other : (n : ℕ) (xs : List Lease) → list_any (has_number n) (filter (is_other n) xs) ≡ false
none_other n [] = refl
none_other n (x ∷ xs) = other_if n x (filter (is_other n) xs) (has_number n x) refl (none_other n xs)

pub granted_none : (n now : ℕ) (l : LeaseTable) → list_any (has_number n) l.held ≡ false → list_any (has_number n) l.waiting ≡ false → list_any (has_number n) (granted_all l now).held ≡ false
granted_none n now l held waiting =
    let room = l.share - length l.held in
    any_none (has_number n) l.held (map (held_from now l) (take room l.waiting)) held (any_held n now l (take room l.waiting) (any_take (has_number n) room l.waiting waiting))

pub released_gone : (l : LeaseTable) (n now : ℕ) → list_any (has_number n) (granted_all (dropped l n) now).held ≡ false
released_gone l n now = granted_none n now (dropped l n) (none_other n l.held) (none_other n l.waiting)

stays_if : (m n : ℕ) (x : Lease) (xs ys : List Lease) (b : Bool) → (m == n) ≡ false → has_number n x ≡ b → (has_number m x || list_any (has_number m) xs) ≡ true → (list_any (has_number m) xs ≡ true → list_any (has_number m) ys ≡ true) → list_any (has_number m) (cond (not b) (x ∷ ys) ys) ≡ true
stays_if m n x xs ys true other is e rest =
    let same : x.number ≡ n = eqb-true x.number n is in
    let out : has_number m x ≡ false = ap (λ k. k == m) same ∙ eq_turn m n other in
    rest (or_second (has_number m x) (list_any (has_number m) xs) out e)
stays_if m n x xs ys false other is e rest = any_left_step (has_number m x) (list_any (has_number m) xs) (list_any (has_number m) ys) e rest

pub others_stay : (m n : ℕ) (xs : List Lease) → (m == n) ≡ false → list_any (has_number m) xs ≡ true → list_any (has_number m) (filter (is_other n) xs) ≡ true
others_stay m n [] other e = cc
others_stay m n (x ∷ xs) other e = stays_if m n x xs (filter (is_other n) xs) (has_number n x) other refl e (others_stay m n xs other)

-- ---- leases that are due

abbrev pub EachNumber : (ℕ → Type 0) → List ℕ → Type 0
EachNumber P [] = Unit {0}
EachNumber P (n ∷ ns) = P n × EachNumber P ns

pub each_number : (P Q : ℕ → Type 0) (ns : List ℕ) → ((n : ℕ) → P n → Q n) → EachNumber P ns → EachNumber Q ns
each_number P Q [] step h = tt
each_number P Q (n ∷ ns) step h = (step n h.0, each_number P Q ns step h.1)

above_any : (n low high : ℕ) (xs : List Lease) → n ≤ low → RiseWithin low (numbers xs) high → list_any (has_number n) xs ≡ false
above_any n low high [] under rises = refl
above_any n low high (x ∷ xs) under rises =
    let first = rises.0 in
    let here : has_number n x ≡ false = ne_eqb x.number n (λ same. omega arith) in
    rw (here, above_any n x.number high xs (omega arith) rises.1) refl

-- no other lease has the number of one that is due
record Gone (now low : ℕ) (held waiting : List Lease) (n : ℕ) : Type 0 where
  above : low < n
  left : list_any (has_number n) (filter (outlasts now) held) ≡ false
  waits : list_any (has_number n) waiting ≡ false

gone_if : (now low high : ℕ) (x : Lease) (xs waiting : List Lease) (b : Bool) → is_due now x ≡ b → low < x.number → RiseWithin x.number (numbers (xs ++ waiting)) high → EachNumber (Gone now x.number xs waiting) (due_numbers now xs) → EachNumber (λ n. (low < n) × ((list_any (has_number n) (cond (not b) (x ∷ filter (outlasts now) xs) (filter (outlasts now) xs)) ≡ false) × (list_any (has_number n) waiting ≡ false))) (map number_of (cond b (x ∷ filter (is_due now) xs) (filter (is_due now) xs)))
gone_if now low high x xs waiting true is above rises rest =
    let none = above_any x.number x.number high (xs ++ waiting) (omega arith) rises in (
      (above, (any_filter (has_number x.number) (outlasts now) xs (any_first (has_number x.number) xs waiting none), any_right (has_number x.number) xs waiting none)),
      each_number (Gone now x.number xs waiting) (λ n. (low < n) × ((list_any (has_number n) (filter (outlasts now) xs) ≡ false) × (list_any (has_number n) waiting ≡ false))) (due_numbers now xs) (λ n g. (let over = g.above in omega arith, (g.left, g.waits))) rest,
    )
gone_if now low high x xs waiting false is above rises rest =
    each_number (Gone now x.number xs waiting) (λ n. (low < n) × ((list_any (has_number n) (x ∷ filter (outlasts now) xs) ≡ false) × (list_any (has_number n) waiting ≡ false))) (due_numbers now xs)
    (λ n g. let over = g.above in let here : has_number n x ≡ false = ne_eqb x.number n (λ same. omega arith) in (omega arith, (rw (here, g.left) refl, g.waits))) rest

due_gone : (now low high : ℕ) (held waiting : List Lease) → RiseWithin low (numbers (held ++ waiting)) high → EachNumber (Gone now low held waiting) (due_numbers now held)
due_gone now low high [] waiting rises = tt
due_gone now low high (x ∷ xs) waiting rises =
    let rest = due_gone now x.number high xs waiting rises.1 in
    each_number (λ n. (low < n) × ((list_any (has_number n) (filter (outlasts now) (x ∷ xs)) ≡ false) × (list_any (has_number n) waiting ≡ false))) (Gone now low (x ∷ xs) waiting) (due_numbers now (x ∷ xs)) (λ n g. record { above = g.0; left = g.1.0; waits = g.1.1 })
    (gone_if now low high x xs waiting (is_due now x) refl rises.0 rises.1 rest)

pub due_are_gone : (l : LeaseTable) (now clock : ℕ) → IsLeaseTable l → EachNumber (λ n. list_any (has_number n) (granted_all (due_dropped l now) clock).held ≡ false) (due_numbers now l.held)
due_are_gone l now clock table =
    each_number (Gone now 0 l.held l.waiting) (λ n. list_any (has_number n) (granted_all (due_dropped l now) clock).held ≡ false) (due_numbers now l.held)
    (λ n g. granted_none n clock (due_dropped l now) g.left (any_filter (has_number n) (outlasts now) l.waiting g.waits))
    (due_gone now 0 l.drawn l.held l.waiting table.numbers)

-- a lease that isn't due stays
left_if : (m now : ℕ) (x : Lease) (xs : List Lease) (b : Bool) → is_due now x ≡ b → (has_number m x || list_any (has_number m) xs) ≡ true → list_any (λ n. m == n) (map number_of (cond b (x ∷ filter (is_due now) xs) (filter (is_due now) xs))) ≡ false → (list_any (has_number m) xs ≡ true → list_any (λ n. m == n) (due_numbers now xs) ≡ false → list_any (has_number m) (filter (outlasts now) xs) ≡ true) → list_any (has_number m) (cond (not b) (x ∷ filter (outlasts now) xs) (filter (outlasts now) xs)) ≡ true
left_if m now x xs true is e none rest =
    let both = or_none (m == x.number) (list_any (λ n. m == n) (due_numbers now xs)) none in
    rest (or_second (has_number m x) (list_any (has_number m) xs) (eq_turn m x.number both.0) e) both.1
left_if m now x xs false is e none rest =
    any_left_step (has_number m x) (list_any (has_number m) xs) (list_any (has_number m) (filter (outlasts now) xs)) e (λ some. rest some none)

pub left_held : (m now : ℕ) (xs : List Lease) → list_any (has_number m) xs ≡ true → list_any (λ n. m == n) (due_numbers now xs) ≡ false → list_any (has_number m) (filter (outlasts now) xs) ≡ true
left_held m now [] e none = cc
left_held m now (x ∷ xs) e none = left_if m now x xs (is_due now x) refl e none (left_held m now xs)

-- ---- a lease that is asked

pub asked_keeps : (l : LeaseTable) (owner now m : ℕ) (b : Bool) → is_held_at_once l ≡ b → list_any (has_number m) l.held ≡ true → list_any (has_number m) (asked l owner now).held ≡ true
asked_keeps l owner now m true is e = rw is (any_left (has_number m) l.held (next_lease l owner (deadline_of now l.lease_ms) ∷ []) e)
asked_keeps l owner now m false is e = rw is e

-- the actor's lease is a held one
pub holder_holds : (actor number : ℕ) (xs : List Lease) → list_any (is_lease_of actor number) xs ≡ true → list_any (has_number number) xs ≡ true
holder_holds actor number xs e = any_weaker (is_lease_of actor number) (has_number number) xs (λ x h. (and_parts (has_number number x) (x.owner == actor) h).0) e
