-- What holds of every table of leases holds after each step.
use Rattle.std.proofs.Common.{◌≡◌, ℕ, zero, suc, ◌+◌, ◌-◌, ◌^◌, ◌<◌, ◌≤◌, Bool, true, false, cond, List, [], ◌∷◌, ◌++◌, length, take, map, refl, sym, ap, subst, ◌∙◌, arith, append_assoc, append-nil, length-append}
use Rattle.std.specs.Prelude.{filter, All}
use Rattle.std.proofs.lemmas.Bool.Decides.{nat_tests}
use Rattle.std.proofs.lemmas.List.Elements.{All-append, All-nil, All-cons, All-push, All-filter, All-head, All-tail, filter-append}
use Rattle.lease_core.specs.LeaseSteps.{asked, cleared, dropped, due_dropped, granted, granted_all, granted_first, held_from, is_held_at_once, is_other, next_lease, outlasts}
use Rattle.lease_core.specs.LeaseTables.{IsLeaseTable, Lease, LeaseTable, RiseWithin, deadline_of, has_room, held_limit, no_leases, numbers, time_limit, waiters_limit}
use Rattle.lease_core.specs.RisingLeases.{rise_filter, rise_push, rise_same}

abbrev pub IsTimed : Lease → Type 0
IsTimed lease = lease.deadline < 2 ^ 64

all_front : (P : Lease → Type 0) (xs ys : List Lease) → All P (xs ++ ys) → All P xs
all_front P [] ys h = All-nil P
all_front P (x ∷ xs) ys h = All-cons P x xs (All-head P x (xs ++ ys) h) (all_front P xs ys (All-tail P x (xs ++ ys) h))

all_back : (P : Lease → Type 0) (xs ys : List Lease) → All P (xs ++ ys) → All P ys
all_back P [] ys h = h
all_back P (x ∷ xs) ys h = all_back P xs ys (All-tail P x (xs ++ ys) h)

-- a shorter list
pub length_filter : (p : Lease → Bool) (xs : List Lease) → length (filter p xs) ≤ length xs
length_filter p [] = omega arith
length_filter p (x ∷ xs) =
    let rest = length_filter p xs in
    elim (p x) as (λ b. length (cond b (x ∷ filter p xs) (filter p xs)) ≤ length (x ∷ xs)) [ true ↦ omega arith | false ↦ omega arith ]

-- a part of the leases, in their order
kept_lawful : (p : Lease → Bool) (l : LeaseTable) (held waiting : List Lease) → IsLeaseTable l → held ++ waiting ≡ filter p (l.held ++ l.waiting) → length held ≤ length l.held → length waiting ≤ length l.waiting → (let t : LeaseTable = record l { held = held; waiting = waiting } in IsLeaseTable t)
kept_lawful p l held waiting law both fewer less =
    record {
      share = law.share;
      lease_ms = law.lease_ms;
      wait_ms = law.wait_ms;
      held = omega (arith, law.held);
      waiting = omega (arith, law.waiting);
      numbers = let P : List Lease → Type 0 = λ xs. RiseWithin 0 (numbers xs) l.drawn in subst P (sym both) (rise_filter p 0 l.drawn (l.held ++ l.waiting) law.numbers);
      deadlines = let P : List Lease → Type 0 = All IsTimed in subst P (sym both) (All-filter p IsTimed (l.held ++ l.waiting) law.deadlines);
    }

none_pass : (xs : List Lease) → filter (λ x. false) xs ≡ []
none_pass [] = refl
none_pass (x ∷ xs) = none_pass xs

pub dropped_lawful : (l : LeaseTable) (number : ℕ) → IsLeaseTable l → IsLeaseTable (dropped l number)
dropped_lawful l number law = kept_lawful (is_other number) l _ _ law (sym (filter-append (is_other number) l.held l.waiting)) (length_filter (is_other number) l.held) (length_filter (is_other number) l.waiting)

-- a lease more, at the back of all
pub held_more : (l : LeaseTable) (x : Lease) → IsLeaseTable l → length l.held < l.share → l.waiting ≡ [] → x.number ≡ l.drawn + 1 → IsTimed x → (let t : LeaseTable = record l { held = l.held ++ x ∷ []; drawn = l.drawn + 1 } in IsLeaseTable t)
held_more l x law room none n d =
    let before : l.held ++ l.waiting ≡ l.held = ap (λ w. l.held ++ w) none ∙ append-nil l.held in
    let after : (l.held ++ x ∷ []) ++ l.waiting ≡ l.held ++ x ∷ [] = ap (λ w. (l.held ++ x ∷ []) ++ w) none ∙ append-nil (l.held ++ x ∷ []) in
    let rises : RiseWithin 0 (numbers l.held) l.drawn = let P : List Lease → Type 0 = λ xs. RiseWithin 0 (numbers xs) l.drawn in subst P before law.numbers in
    let timed : All IsTimed l.held = let P : List Lease → Type 0 = All IsTimed in subst P before law.deadlines in
    record {
      share = law.share;
      lease_ms = law.lease_ms;
      wait_ms = law.wait_ms;
      held = omega (arith, length-append l.held (x ∷ []));
      waiting = law.waiting;
      numbers = let P : List Lease → Type 0 = λ xs. RiseWithin 0 (numbers xs) (l.drawn + 1) in subst P (sym after) (rise_push 0 l.drawn l.held x n rises);
      deadlines = let P : List Lease → Type 0 = All IsTimed in subst P (sym after) (All-push IsTimed l.held x timed d);
    }

pub waiting_more : (l : LeaseTable) (x : Lease) → IsLeaseTable l → length l.waiting < waiters_limit → x.number ≡ l.drawn + 1 → IsTimed x → (let t : LeaseTable = record l { waiting = l.waiting ++ x ∷ []; drawn = l.drawn + 1 } in IsLeaseTable t)
waiting_more l x law room n d =
    let after : l.held ++ (l.waiting ++ x ∷ []) ≡ (l.held ++ l.waiting) ++ x ∷ [] = sym (append_assoc l.held l.waiting (x ∷ [])) in
    record {
      share = law.share;
      lease_ms = law.lease_ms;
      wait_ms = law.wait_ms;
      held = law.held;
      waiting = omega (arith, length-append l.waiting (x ∷ []));
      numbers = let P : List Lease → Type 0 = λ xs. RiseWithin 0 (numbers xs) (l.drawn + 1) in subst P (sym after) (rise_push 0 l.drawn (l.held ++ l.waiting) x n law.numbers);
      deadlines = let P : List Lease → Type 0 = All IsTimed in subst P (sym after) (All-push IsTimed (l.held ++ l.waiting) x law.deadlines d);
    }

timed : (l : LeaseTable) (owner now time : ℕ) → IsTimed (next_lease l owner (deadline_of now time))
timed l owner now time = omega arith

pub no_length : {X : Type 0} (xs : List X) → length xs ≡ 0 → xs ≡ []
no_length [] e = refl
no_length (x ∷ xs) e = absurd (omega arith)

at_once : (l : LeaseTable) → is_held_at_once l ≡ true → (length l.held < l.share) × (length l.waiting ≡ 0)
at_once l e = (grind (arith, nat_tests), grind (arith, nat_tests))

asked_cases : (l : LeaseTable) (owner now : ℕ) (b : Bool) → is_held_at_once l ≡ b → IsLeaseTable l → length l.waiting < waiters_limit → IsLeaseTable (asked l owner now)
asked_cases l owner now true is law room =
    let h = at_once l is in
    rw is (held_more l (next_lease l owner (deadline_of now l.lease_ms)) law h.0 (no_length l.waiting h.1) refl (timed l owner now l.lease_ms))
asked_cases l owner now false is law room =
    rw is (waiting_more l (next_lease l owner (deadline_of now l.wait_ms)) law room refl (timed l owner now l.wait_ms))

pub asked_lawful : (l : LeaseTable) (owner now : ℕ) → IsLeaseTable l → length l.waiting < waiters_limit → IsLeaseTable (asked l owner now)
asked_lawful l owner now law room = asked_cases l owner now (is_held_at_once l) refl law room

-- the first waiter is held
pub granted_one : (l : LeaseTable) (now : ℕ) (w : Lease) (ws : List Lease) → l.waiting ≡ w ∷ ws → length l.held < l.share → IsLeaseTable l → (let t : LeaseTable = record l { held = l.held ++ held_from now l w ∷ []; waiting = ws } in IsLeaseTable t)
granted_one l now w ws e room law =
    let rises : RiseWithin 0 (numbers (l.held ++ w ∷ ws)) l.drawn = let P : List Lease → Type 0 = λ xs. RiseWithin 0 (numbers (l.held ++ xs)) l.drawn in subst P e law.numbers in
    let times : All IsTimed (l.held ++ w ∷ ws) = let P : List Lease → Type 0 = λ xs. All IsTimed (l.held ++ xs) in subst P e law.deadlines in
    let long : length l.waiting ≡ length (w ∷ ws) = ap length e in
    record {
      share = law.share;
      lease_ms = law.lease_ms;
      wait_ms = law.wait_ms;
      held = omega (arith, length-append l.held (held_from now l w ∷ []));
      waiting = omega (arith, law.waiting);
      numbers = rise_same 0 l.drawn l.held w (held_from now l w) ws refl rises;
      deadlines = All-append IsTimed (l.held ++ held_from now l w ∷ []) ws (All-push IsTimed l.held (held_from now l w) (all_front IsTimed l.held (w ∷ ws) times) (omega arith)) (All-tail IsTimed w ws (all_back IsTimed l.held (w ∷ ws) times));
    }

granted_cases : (l : LeaseTable) (now : ℕ) (waiting : List Lease) (b : Bool) → l.waiting ≡ waiting → has_room l ≡ b → IsLeaseTable l → IsLeaseTable (granted l now)
granted_cases l now waiting false e is law = rw is law
granted_cases l now [] true e is law =
    let same : l.held ++ [] ≡ l.held = append-nil l.held in
    rw (is, e, same) (let P : List Lease → Type 0 = λ ws. (let t : LeaseTable = record l { waiting = ws } in IsLeaseTable t) in subst P e law)
granted_cases l now (w ∷ ws) true e is law =
    let below : length l.held < l.share = grind (arith, nat_tests) in
    rw (is, e) (granted_one l now w ws e below law)

pub granted_lawful : (l : LeaseTable) (now : ℕ) → IsLeaseTable l → IsLeaseTable (granted l now)
granted_lawful l now law = granted_cases l now l.waiting (has_room l) refl refl law

-- so many waiters are granted, where there is room for them
first_lawful : (count : ℕ) (l : LeaseTable) (now : ℕ) (waiting : List Lease) → l.waiting ≡ waiting → count + length l.held ≤ l.share → IsLeaseTable l → IsLeaseTable (granted_first count l now)
first_lawful zero l now waiting e room law =
    let same : l.held ++ [] ≡ l.held = append-nil l.held in rw same law
first_lawful (suc count) l now [] e room law =
    let same : l.held ++ [] ≡ l.held = append-nil l.held in
    rw (e, same) (let P : List Lease → Type 0 = λ ws. (let t : LeaseTable = record l { waiting = ws } in IsLeaseTable t) in subst P e law)
first_lawful (suc count) l now (w ∷ ws) e room law =
    let next : LeaseTable = record l { held = l.held ++ held_from now l w ∷ []; waiting = ws } in
    let below : length l.held < l.share = omega arith in
    let rest = first_lawful count next now ws refl (omega (arith, length-append l.held (held_from now l w ∷ []))) (granted_one l now w ws e below law) in
    rw (e, ← append_assoc l.held (held_from now l w ∷ []) (map (held_from now l) (take count ws))) rest

pub granted_all_lawful : (l : LeaseTable) (now : ℕ) → IsLeaseTable l → IsLeaseTable (granted_all l now)
granted_all_lawful l now law = first_lawful (l.share - length l.held) l now l.waiting refl (let held = law.held in omega arith) law

pub due_dropped_lawful : (l : LeaseTable) (now : ℕ) → IsLeaseTable l → IsLeaseTable (due_dropped l now)
due_dropped_lawful l now law = kept_lawful (outlasts now) l _ _ law (sym (filter-append (outlasts now) l.held l.waiting)) (length_filter (outlasts now) l.held) (length_filter (outlasts now) l.waiting)

pub cleared_lawful : (l : LeaseTable) → IsLeaseTable l → IsLeaseTable (cleared l)
cleared_lawful l law = kept_lawful (λ x. false) l [] [] law (sym (none_pass (l.held ++ l.waiting))) (omega arith) (omega arith)

pub no_leases_lawful : (share lease_ms wait_ms : ℕ) → (1 ≤ share) × (share ≤ held_limit) → (1 ≤ lease_ms) × (lease_ms ≤ time_limit) → (1 ≤ wait_ms) × (wait_ms ≤ time_limit) → IsLeaseTable (no_leases share lease_ms wait_ms)
no_leases_lawful share lease_ms wait_ms s l w = record {
  share = s;
  lease_ms = l;
  wait_ms = w;
  held = omega arith;
  waiting = omega arith;
  numbers = omega arith;
  deadlines = All-nil IsTimed;
}
