-- The first lease that is due, and those that are due after it.
use Rattle.std.proofs.Common.{◌≡◌, ℕ, ◌<◌, ◌≤◌, Bool, true, false, cond, List, [], ◌∷◌, refl, sym, ap, subst, arith, Option, Some, None}
use Rattle.std.specs.Prelude.{◌||◌, filter, find, IfSome, MatchOption, IsTrue}
use Rattle.std.specs.List.{list_any}
use Rattle.std.specs.Option.{option_map}
use Rattle.std.proofs.lemmas.Bool.Decides.{nat_tests}
use Rattle.std.proofs.lemmas.List.Elements.{All-cons, All-weaker}
use Rattle.lease_core.specs.LeaseSteps.{dropped, held_due_dropped, is_other, outlasts, waiting_due_dropped}
use Rattle.lease_core.specs.LeaseTables.{IsLeast, IsLeaseTable, Lease, LeaseTable, RiseWithin, due_numbers, has_number, is_due, is_known, number_of, numbers}
use Rattle.lease_core.specs.RisingLeases.{differs_below, found_above, others_above, others_before, others_behind, rise_above, rise_back, rise_filter, rise_front}

same_number : (x : Lease) → has_number x.number x ≡ true
same_number x = grind (arith, nat_tests)

-- none is due
none_step : (now : ℕ) (y : Lease) (ys : List Lease) (b : Bool) → is_due now y ≡ b → cond b (Some y) (find (is_due now) ys) ≡ None → (find (is_due now) ys ≡ None → (filter (is_due now) ys ≡ []) × (filter (outlasts now) ys ≡ ys)) → (filter (is_due now) (y ∷ ys) ≡ []) × (filter (outlasts now) (y ∷ ys) ≡ y ∷ ys)
none_step now y ys true is e rest = cc
none_step now y ys false is e rest = let all = rest e in rw is (all.0, ap (λ zs. y ∷ zs) all.1)

pub none_due : (now : ℕ) (xs : List Lease) → find (is_due now) xs ≡ None → (filter (is_due now) xs ≡ []) × (filter (outlasts now) xs ≡ xs)
none_due now [] e = (refl, refl)
none_due now (y ∷ ys) e = none_step now y ys (is_due now y) refl e (λ e. none_due now ys e)

-- what is said of the first one that is due
record IsFirst (now : ℕ) (xs : List Lease) (x : Lease) : Type 0 where
  known : list_any (has_number x.number) xs ≡ true
  rest : due_numbers now xs ≡ x.number ∷ due_numbers now (filter (is_other x.number) xs)
  left : filter (outlasts now) (filter (is_other x.number) xs) ≡ filter (outlasts now) xs

first_here : (now high : ℕ) (y : Lease) (ys : List Lease) → is_due now y ≡ true → RiseWithin y.number (numbers ys) high → IsFirst now (y ∷ ys) y
first_here now high y ys is r =
    let same = same_number y in
    let others : filter (is_other y.number) (y ∷ ys) ≡ ys = rw same (others_above y.number y.number high ys (omega arith) r) in
    record {
      known = rw same refl;
      rest = rw (others, is) refl;
      left = rw (others, is) refl;
    }

later_known : (n : ℕ) (y : Lease) (ys : List Lease) → list_any (has_number n) ys ≡ true → list_any (has_number n) (y ∷ ys) ≡ true
later_known n y ys e = rw e (elim (has_number n y) as (λ b. (b || true) ≡ true) [ true ↦ refl | false ↦ refl ])

first_later : (now : ℕ) (x y : Lease) (ys : List Lease) → is_due now y ≡ false → y.number < x.number → IsFirst now ys x → IsFirst now (y ∷ ys) x
first_later now x y ys is below f =
    let other : is_other x.number y ≡ true = differs_below x.number y below in
    record {
      known = later_known x.number y ys f.known;
      rest = rw (other, is) f.rest;
      left = rw (other, is) (ap (λ zs. y ∷ zs) f.left);
    }

first_step : (now high : ℕ) (x y : Lease) (ys : List Lease) (b : Bool) → is_due now y ≡ b → cond b (Some y) (find (is_due now) ys) ≡ Some x → RiseWithin y.number (numbers ys) high → (find (is_due now) ys ≡ Some x → IsFirst now ys x) → IsFirst now (y ∷ ys) x
first_step now high x y ys true is e r rest =
    let same : y ≡ x = cc in
    let P : Lease → Type 0 = λ z. IsFirst now (y ∷ ys) z in
    subst P same (first_here now high y ys is r)
first_step now high x y ys false is e r rest =
    first_later now x y ys is (found_above (is_due now) y.number high x ys r e) (rest e)

first_due : (now low high : ℕ) (x : Lease) (ys : List Lease) → RiseWithin low (numbers ys) high → find (is_due now) ys ≡ Some x → IsFirst now ys x
first_due now low high x [] r e = cc
first_due now low high x (y ∷ ys) r e = first_step now high x y ys (is_due now y) refl e r.1 (λ e. first_due now y.number high x ys r.1 e)

-- the first of numbers that rise is the least
least_of : (low high n : ℕ) (ns all : List ℕ) → all ≡ n ∷ ns → RiseWithin low all high → IsLeast all n
least_of low high n ns all e r =
    let rises : RiseWithin low (n ∷ ns) high = let P : List ℕ → Type 0 = λ l. RiseWithin low l high in subst P e r in
    let here : IsLeast (n ∷ ns) n = record {
      among = (0, omega arith, refl);
      least = All-cons (λ m. n ≤ m) n ns (omega arith) (All-weaker (λ m. n < m) (λ m. n ≤ m) (λ m h. omega arith) ns (rise_above n high ns rises.1));
    } in
    let Q : List ℕ → Type 0 = λ l. IsLeast l n in subst Q (sym e) here

-- two tables whose lists are the same
pub same_lists : (l : LeaseTable) (h1 h2 w1 w2 : List Lease) → h1 ≡ h2 → w1 ≡ w2 → (let a : LeaseTable = record l { held = h1; waiting = w1 } in a) ≡ (let b : LeaseTable = record l { held = h2; waiting = w2 } in b)
same_lists l h1 h2 w1 w2 e f = cc

pub known_held : (l : LeaseTable) (n : ℕ) → list_any (has_number n) l.held ≡ true → IsTrue (is_known l n)
known_held l n e = rw e refl

pub known_waiting : (l : LeaseTable) (n : ℕ) → list_any (has_number n) l.waiting ≡ true → IsTrue (is_known l n)
known_waiting l n e = rw e (elim (list_any (has_number n) l.held) as (λ b. (b || true) ≡ true) [ true ↦ refl | false ↦ refl ])

-- what `due_held` and `due_waiting` say
pub record HeldDue (l : LeaseTable) (now : ℕ) (result : Option ℕ) : Type 0 where
  pub least : MatchOption result (due_numbers now l.held ≡ []) (IsLeast (due_numbers now l.held))
  pub known : IfSome result (λ n. IsTrue (is_known l n))
  pub rest : IfSome result (λ n. due_numbers now l.held ≡ n ∷ due_numbers now (dropped l n).held)
  pub dropped : MatchOption result (held_due_dropped l now ≡ l) (λ n. held_due_dropped (dropped l n) now ≡ held_due_dropped l now)

held_cases : (l : LeaseTable) (now : ℕ) (found : Option Lease) → IsLeaseTable l → find (is_due now) l.held ≡ found → HeldDue l now (option_map number_of found)
held_cases l now None law e =
    let none = none_due now l.held e in
    record { least = ap numbers none.0; known = tt; rest = tt; dropped = ap (λ held. record l { held = held }) none.1 }
held_cases l now (Some x) law e =
    let rises = rise_front 0 l.drawn l.held l.waiting law.numbers in
    let first = first_due now 0 l.drawn x l.held rises e in
    record {
      least = least_of 0 l.drawn x.number (due_numbers now (filter (is_other x.number) l.held)) (due_numbers now l.held) first.rest (rise_filter (is_due now) 0 l.drawn l.held rises);
      known = known_held l x.number first.known;
      rest = first.rest;
      dropped = same_lists l _ _ _ _ first.left (others_behind (is_due now) 0 l.drawn x l.held l.waiting law.numbers e);
    }

pub held_due : (l : LeaseTable) (now : ℕ) (result : Option ℕ) → IsLeaseTable l → result ≡ option_map number_of (find (is_due now) l.held) → HeldDue l now result
held_due l now result law e = let P : Option ℕ → Type 0 = λ r. HeldDue l now r in subst P (sym e) (held_cases l now (find (is_due now) l.held) law refl)

pub record WaitingDue (l : LeaseTable) (now : ℕ) (result : Option ℕ) : Type 0 where
  pub least : MatchOption result (due_numbers now l.waiting ≡ []) (IsLeast (due_numbers now l.waiting))
  pub known : IfSome result (λ n. IsTrue (is_known l n))
  pub rest : IfSome result (λ n. due_numbers now l.waiting ≡ n ∷ due_numbers now (dropped l n).waiting)
  pub dropped : MatchOption result (waiting_due_dropped l now ≡ l) (λ n. waiting_due_dropped (dropped l n) now ≡ waiting_due_dropped l now)

waiting_cases : (l : LeaseTable) (now : ℕ) (found : Option Lease) → IsLeaseTable l → find (is_due now) l.waiting ≡ found → WaitingDue l now (option_map number_of found)
waiting_cases l now None law e =
    let none = none_due now l.waiting e in
    record { least = ap numbers none.0; known = tt; rest = tt; dropped = ap (λ waiting. record l { waiting = waiting }) none.1 }
waiting_cases l now (Some x) law e =
    let rises = rise_back 0 l.drawn l.held l.waiting law.numbers in
    let first = first_due now 0 l.drawn x l.waiting rises e in
    record {
      least = least_of 0 l.drawn x.number (due_numbers now (filter (is_other x.number) l.waiting)) (due_numbers now l.waiting) first.rest (rise_filter (is_due now) 0 l.drawn l.waiting rises);
      known = known_waiting l x.number first.known;
      rest = first.rest;
      dropped = same_lists l _ _ _ _ (others_before (is_due now) 0 l.drawn x l.held l.waiting law.numbers e) first.left;
    }

pub waiting_due : (l : LeaseTable) (now : ℕ) (result : Option ℕ) → IsLeaseTable l → result ≡ option_map number_of (find (is_due now) l.waiting) → WaitingDue l now result
waiting_due l now result law e = let P : Option ℕ → Type 0 = λ r. WaitingDue l now r in subst P (sym e) (waiting_cases l now (find (is_due now) l.waiting) law refl)
