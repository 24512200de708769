-- Numbers that rise along a list of leases.
use Rattle.std.proofs.Common.{◌≡◌, ◌≢◌, ℕ, ◌+◌, ◌<◌, ◌≤◌, Bool, true, false, cond, List, [], ◌∷◌, ◌++◌, refl, sym, ap, subst, arith, Some}
use Rattle.std.specs.Prelude.{filter, find, All}
use Rattle.std.proofs.lemmas.Bool.Decides.{nat_tests}
use Rattle.std.proofs.lemmas.List.Elements.{All-nil, All-cons, All-weaker}
use Rattle.lease_core.specs.LeaseSteps.{is_other}
use Rattle.lease_core.specs.LeaseTables.{Lease, RiseWithin, numbers}

pub rise_lower : (low below high : ℕ) (ns : List ℕ) → below ≤ low → RiseWithin low ns high → RiseWithin below ns high
rise_lower low below high [] h r = omega arith
rise_lower low below high (n ∷ ns) h r = (omega (arith, r.0), r.1)

-- what passes a test rises too
filter_step : (p : Lease → Bool) (low high : ℕ) (x : Lease) (xs : List Lease) (b : Bool) → low < x.number → RiseWithin x.number (numbers (filter p xs)) high → RiseWithin low (numbers (cond b (x ∷ filter p xs) (filter p xs))) high
filter_step p low high x xs true h r = (h, r)
filter_step p low high x xs false h r = rise_lower x.number low high (numbers (filter p xs)) (omega arith) r

pub rise_filter : (p : Lease → Bool) (low high : ℕ) (xs : List Lease) → RiseWithin low (numbers xs) high → RiseWithin low (numbers (filter p xs)) high
rise_filter p low high [] r = r
rise_filter p low high (x ∷ xs) r = filter_step p low high x xs (p x) r.0 (rise_filter p x.number high xs r.1)

-- a lease under the next number
pub rise_push : (low high : ℕ) (xs : List Lease) (x : Lease) → x.number ≡ high + 1 → RiseWithin low (numbers xs) high → RiseWithin low (numbers (xs ++ x ∷ [])) (high + 1)
rise_push low high [] x e r = (omega arith, omega arith)
rise_push low high (y ∷ ys) x e r = (r.0, rise_push y.number high ys x e r.1)

-- a lease in the place of one with its number
pub rise_same : (low high : ℕ) (xs : List Lease) (x y : Lease) (ys : List Lease) → y.number ≡ x.number → RiseWithin low (numbers (xs ++ x ∷ ys)) high → RiseWithin low (numbers ((xs ++ y ∷ []) ++ ys)) high
rise_same low high [] x y ys e r =
    let P : ℕ → Type 0 = λ n. (low < n) × RiseWithin n (numbers ys) high in
    subst P (sym e) r
rise_same low high (z ∷ zs) x y ys e r = (r.0, rise_same z.number high zs x y ys e r.1)

-- the leases at the back of a list
pub rise_back : (low high : ℕ) (xs ys : List Lease) → RiseWithin low (numbers (xs ++ ys)) high → RiseWithin low (numbers ys) high
rise_back low high [] ys r = r
rise_back low high (x ∷ xs) ys r = rise_lower x.number low high (numbers ys) (omega (arith, r.0)) (rise_back x.number high xs ys r.1)

rise_end : (low high : ℕ) (ns : List ℕ) → RiseWithin low ns high → low ≤ high
rise_end low high [] r = r
rise_end low high (n ∷ ns) r = let rest = rise_end n high ns r.1 in omega (arith, r.0, rest)

-- those at the front
pub rise_front : (low high : ℕ) (xs ys : List Lease) → RiseWithin low (numbers (xs ++ ys)) high → RiseWithin low (numbers xs) high
rise_front low high [] ys r = rise_end low high (numbers ys) r
rise_front low high (x ∷ xs) ys r = (r.0, rise_front x.number high xs ys r.1)

pub rise_above : (low high : ℕ) (ns : List ℕ) → RiseWithin low ns high → All (λ n. low < n) ns
rise_above low high [] r = All-nil (λ n. low < n)
rise_above low high (n ∷ ns) r = All-cons (λ m. low < m) n ns r.0 (All-weaker (λ m. n < m) (λ m. low < m) (λ m h. omega (arith, r.0)) ns (rise_above n high ns r.1))

differs : (n : ℕ) (x : Lease) → n < x.number → is_other n x ≡ true
differs n x h = let ne : x.number ≢ n = omega arith in grind (arith, nat_tests)

-- a lower lease is another one
pub differs_below : (n : ℕ) (x : Lease) → x.number < n → is_other n x ≡ true
differs_below n x h = let ne : x.number ≢ n = omega arith in grind (arith, nat_tests)

kept : (p : Lease → Bool) (x : Lease) (xs : List Lease) → p x ≡ true → filter p xs ≡ xs → filter p (x ∷ xs) ≡ x ∷ xs
kept p x xs e rest = rw e (ap (λ ys. x ∷ ys) rest)

-- all leases of a list have other numbers than one that is lower
pub others_above : (n low high : ℕ) (xs : List Lease) → n ≤ low → RiseWithin low (numbers xs) high → filter (is_other n) xs ≡ xs
others_above n low high [] h r = refl
others_above n low high (x ∷ xs) h r = kept (is_other n) x xs (differs n x (omega (arith, r.0))) (others_above n x.number high xs (omega (arith, r.0)) r.1)

found_step : (p : Lease → Bool) (low : ℕ) (x y : Lease) (ys : List Lease) (b : Bool) → cond b (Some y) (find p ys) ≡ Some x → low < y.number → (find p ys ≡ Some x → y.number < x.number) → low < x.number
found_step p low x y ys true e h rest = let same : y ≡ x = cc in let n : y.number ≡ x.number = ap (λ z. z.number) same in omega arith
found_step p low x y ys false e h rest = let above = rest e in omega arith

-- a lease that is found is above the number from which the list rises
pub found_above : (p : Lease → Bool) (low high : ℕ) (x : Lease) (ys : List Lease) → RiseWithin low (numbers ys) high → find p ys ≡ Some x → low < x.number
found_above p low high x [] r e = cc
found_above p low high x (y ∷ ys) r e = found_step p low x y ys (p y) e r.0 (λ e. found_above p y.number high x ys r.1 e)

-- the leases before one that is found have other numbers
pub others_before : (p : Lease → Bool) (low high : ℕ) (x : Lease) (xs ys : List Lease) → RiseWithin low (numbers (xs ++ ys)) high → find p ys ≡ Some x → filter (is_other x.number) xs ≡ xs
others_before p low high x [] ys r e = refl
others_before p low high x (z ∷ zs) ys r e =
    kept (is_other x.number) z zs (differs_below x.number z (found_above p z.number high x ys (rise_back z.number high zs ys r.1) e)) (others_before p z.number high x zs ys r.1 e)

behind_step : (p : Lease → Bool) (high : ℕ) (x z : Lease) (zs ys : List Lease) (b : Bool) → cond b (Some z) (find p zs) ≡ Some x → RiseWithin z.number (numbers (zs ++ ys)) high → (find p zs ≡ Some x → filter (is_other x.number) ys ≡ ys) → filter (is_other x.number) ys ≡ ys
behind_step p high x z zs ys true e r rest =
    let same : z ≡ x = cc in let n : z.number ≡ x.number = ap (λ w. w.number) same in
    others_above x.number z.number high ys (omega arith) (rise_back z.number high zs ys r)
behind_step p high x z zs ys false e r rest = rest e

-- and so have those behind it
pub others_behind : (p : Lease → Bool) (low high : ℕ) (x : Lease) (xs ys : List Lease) → RiseWithin low (numbers (xs ++ ys)) high → find p xs ≡ Some x → filter (is_other x.number) ys ≡ ys
others_behind p low high x [] ys r e = cc
others_behind p low high x (z ∷ zs) ys r e = behind_step p high x z zs ys (p z) e r.1 (λ e. others_behind p z.number high x zs ys r.1 e)
