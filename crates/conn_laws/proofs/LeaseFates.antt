-- What each entry makes of the leases that are held and waited for.
use Rattle.std.proofs.Common.{◌≡◌, inl, inr, ℕ, zero, suc, ◌+◌, ◌<◌, ◌≤◌, Bool, true, false, List, [], ◌∷◌, ◌++◌, length, map, take, drop, refl, sym, ap, subst, ◌∙◌, arith}
use Rattle.std.specs.Prelude.{◌-◌, filter, if◌then◌else◌, not}
use Rattle.std.proofs.lemmas.Bool.{cases_Bool}
use Rattle.std.proofs.lemmas.Bool.Decides.{nat_tests}
use Rattle.lease_core.specs.LeaseSteps.{asked, cleared, dropped, due_dropped, granted_all, held_from, is_held_at_once, is_other, next_lease, outlasts}
use Rattle.lease_core.specs.LeaseTables.{IsLeaseTable, Lease, LeaseTable, RiseWithin, deadline_of, is_due, numbers}
use Rattle.conn_core.specs.Entries.{closes}
use Rattle.conn_core.specs.LeasePlaces.{leases_after, leases_by}
use Rattle.conn_core.specs.declared.entries.Entry.{Entry}
use Rattle.conn_core.specs.declared.entries.Event.{Event}
use Rattle.conn_core.specs.declared.entries.Event.TheVariants as events
use Rattle.conn_laws.proofs.Members.{In, in_append, in_filter, in_map}

-- ---- numbers

rise_end : (low high : ℕ) (xs : List Lease) → RiseWithin low (numbers xs) high → low ≤ high
rise_end low high [] rises = rises
rise_end low high (x ∷ xs) rises = let first = rises.0 in let rest = rise_end x.number high xs rises.1 in omega arith

rise_low : (low high : ℕ) (xs : List Lease) (x : Lease) → RiseWithin low (numbers xs) high → In x xs → (low < x.number) × (x.number ≤ high)
rise_low low high [] x rises h = absurd h
rise_low low high (y ∷ ys) x rises (inl is) =
    let P : Lease → Type 0 = λ z. (low < z.number) × (z.number ≤ high) in
    subst P is (rises.0, rise_end y.number high ys rises.1)
rise_low low high (y ∷ ys) x rises (inr h) = let rest = rise_low y.number high ys x rises.1 h in let first = rises.0 in let more = rest.0 in (omega arith, rest.1)

-- two with one number are one
same_lease : (low high : ℕ) (xs : List Lease) (x y : Lease) → RiseWithin low (numbers xs) high → In x xs → In y xs → x.number ≡ y.number → x ≡ y
same_lease low high [] x y rises h k e = absurd h
same_lease low high (z ∷ zs) x y rises (inl a) (inl b) e = sym a ∙ b
same_lease low high (z ∷ zs) x y rises (inl a) (inr k) e =
    let above = (rise_low z.number high zs y rises.1 k).0 in let same : z.number ≡ x.number = ap (λ (l : Lease). l.number) a in absurd (omega arith)
same_lease low high (z ∷ zs) x y rises (inr h) (inl b) e =
    let above = (rise_low z.number high zs x rises.1 h).0 in let same : z.number ≡ y.number = ap (λ (l : Lease). l.number) b in absurd (omega arith)
same_lease low high (z ∷ zs) x y rises (inr h) (inr k) e = same_lease z.number high zs x y rises.1 h k e

in_behind : {X : Type 0} (xs ys : List X) (y : X) → In y ys → In y (xs ++ ys)
in_behind [] ys y h = h
in_behind (x ∷ xs) ys y h = inr (in_behind xs ys y h)

in_before : {X : Type 0} (xs ys : List X) (x : X) → In x xs → In x (xs ++ ys)
in_before [] ys x h = absurd h
in_before (z ∷ zs) ys x (inl is) = inl is
in_before (z ∷ zs) ys x (inr h) = inr (in_before zs ys x h)

-- those in the first list have lesser numbers than those in the second
rise_apart : (low high : ℕ) (xs ys : List Lease) (x y : Lease) → RiseWithin low (numbers (xs ++ ys)) high → In x xs → In y ys → x.number < y.number
rise_apart low high [] ys x y rises h k = absurd h
rise_apart low high (z ∷ zs) ys x y rises (inl is) k =
    let P : Lease → Type 0 = λ l. l.number < y.number in
    subst P is (rise_low z.number high (zs ++ ys) y rises.1 (in_behind zs ys y k)).0
rise_apart low high (z ∷ zs) ys x y rises (inr h) k = rise_apart z.number high zs ys x y rises.1 h k

pub held_one : (l : LeaseTable) (x y : Lease) → IsLeaseTable l → In x l.held → In y l.held → x.number ≡ y.number → x ≡ y
held_one l x y table h k e = same_lease 0 l.drawn (l.held ++ l.waiting) x y table.numbers (in_before l.held l.waiting x h) (in_before l.held l.waiting y k) e

pub held_not_waiting : {Y : Type 0} (l : LeaseTable) (x y : Lease) → IsLeaseTable l → In x l.held → In y l.waiting → x.number ≡ y.number → Y
held_not_waiting l x y table h k e = let apart = rise_apart 0 l.drawn l.held l.waiting x y table.numbers h k in absurd (omega arith)

pub held_drawn : (l : LeaseTable) (x : Lease) → IsLeaseTable l → In x l.held → x.number ≤ l.drawn
held_drawn l x table h = (rise_low 0 l.drawn (l.held ++ l.waiting) x table.numbers (in_before l.held l.waiting x h)).1

-- ---- where a lease comes from

-- a held lease was held, was waited for, or is asked now
pub data HeldFrom (l : LeaseTable) (e : Entry) (x : Lease) : Type 0 where
  kept : In x l.held → ((now : ℕ) → e.event ≡ events.Tick now → now < x.deadline) → HeldFrom l e x
  waited : (y : Lease) → In y l.waiting → y.number ≡ x.number → HeldFrom l e x
  fresh : x.number ≡ l.drawn + 1 → HeldFrom l e x

-- a lease that is waited for was so before, or is asked now
pub data WaitsFrom (l : LeaseTable) (x : Lease) : Type 0 where
  still : In x l.waiting → WaitsFrom l x
  asks : x.number ≡ l.drawn + 1 → WaitsFrom l x

in_taken : {X : Type 0} (n : ℕ) (xs : List X) (x : X) → In x (take n xs) → In x xs
in_taken zero xs x h = absurd h
in_taken (suc n) [] x h = absurd h
in_taken (suc n) (y ∷ ys) x (inl is) = inl is
in_taken (suc n) (y ∷ ys) x (inr h) = inr (in_taken n ys x h)

in_dropped : {X : Type 0} (n : ℕ) (xs : List X) (x : X) → In x (drop n xs) → In x xs
in_dropped zero xs x h = h
in_dropped (suc n) [] x h = absurd h
in_dropped (suc n) (y ∷ ys) x h = inr (in_dropped n ys x h)

-- granted from a table whose leases are some of another's
granted_from : (l m : LeaseTable) (e : Entry) (clock : ℕ) (x : Lease) → ((y : Lease) → In y m.held → HeldFrom l e y) → ((y : Lease) → In y m.waiting → In y l.waiting) → In x (granted_all m clock).held → HeldFrom l e x
granted_from l m e clock x held waiting h =
    elim (in_append m.held (map (held_from clock m) (take (m.share - length m.held) m.waiting)) x h) [
      | inl before ↦ held x before
      | inr new ↦ (
          let y = in_map (held_from clock m) (take (m.share - length m.held) m.waiting) x new in
          waited y.0 (waiting y.0 (in_taken (m.share - length m.held) m.waiting y.0 y.1)) (ap (λ (z : Lease). z.number) y.2))
    ]

other_event : {Y : Type 0} (a b : Event) (f : Event → Bool) → f a ≡ true → f b ≡ false → a ≡ b → Y
other_event a b f x y is = let z : f a ≡ f b = ap f is in absurd (cc)

abbrev is_tick : Event → Bool
is_tick (events.Tick now) = true
is_tick _ = false

-- no tick comes by the event
pub untimed : (l : LeaseTable) (e : Entry) (x : Lease) → is_tick e.event ≡ false → In x l.held → HeldFrom l e x
untimed l e x none h = kept h (λ now is. other_event (events.Tick now) e.event is_tick refl none (sym is))

late_by : (now : ℕ) (x : Lease) → outlasts now x ≡ true → now < x.deadline
late_by now x e = elim (cases_Bool (is_due now x)) [
  | inl due ↦ (let out : outlasts now x ≡ false = ap not due in absurd (cc))
  | inr early ↦ grind (arith, nat_tests)
]

tick_moment : (m n : ℕ) → events.Tick m ≡ events.Tick n → m ≡ n
tick_moment m n e = cc

asked_held : (l : LeaseTable) (e : Entry) (owner clock : ℕ) (x : Lease) (b : Bool) → is_tick e.event ≡ false → is_held_at_once l ≡ b → In x (asked l owner clock).held → HeldFrom l e x
asked_held l e owner clock x true none is h =
    let now : (asked l owner clock).held ≡ l.held ++ next_lease l owner (deadline_of clock l.lease_ms) ∷ [] = rw is refl in
    let P : List Lease → Type 0 = In x in
    elim (in_append l.held (next_lease l owner (deadline_of clock l.lease_ms) ∷ []) x (subst P now h)) [
      | inl before ↦ untimed l e x none before
      | inr last ↦ elim last [ inl same ↦ fresh (sym (ap (λ (y : Lease). y.number) same)) | inr nothing ↦ absurd nothing ]
    ]
asked_held l e owner clock x false none is h =
    let now : (asked l owner clock).held ≡ l.held = rw is refl in
    let P : List Lease → Type 0 = In x in
    untimed l e x none (subst P now h)

asked_waiting : (l : LeaseTable) (owner clock : ℕ) (x : Lease) (b : Bool) → is_held_at_once l ≡ b → In x (asked l owner clock).waiting → WaitsFrom l x
asked_waiting l owner clock x true is h =
    let now : (asked l owner clock).waiting ≡ l.waiting = rw is refl in
    let P : List Lease → Type 0 = In x in
    still (subst P now h)
asked_waiting l owner clock x false is h =
    let now : (asked l owner clock).waiting ≡ l.waiting ++ next_lease l owner (deadline_of clock l.wait_ms) ∷ [] = rw is refl in
    let P : List Lease → Type 0 = In x in
    elim (in_append l.waiting (next_lease l owner (deadline_of clock l.wait_ms) ∷ []) x (subst P now h)) [
      | inl before ↦ still before
      | inr last ↦ elim last [ inl same ↦ asks (sym (ap (λ (y : Lease). y.number) same)) | inr nothing ↦ absurd nothing ]
    ]

held_by : (clock : ℕ) (l : LeaseTable) (e : Entry) (event : Event) (x : Lease) → e.event ≡ event → In x (leases_by clock e.actor event l).held → HeldFrom l e x
held_by clock l e (events.AskLease now) x is h = asked_held l e e.actor clock x (is_held_at_once l) (ap is_tick is) refl h
held_by clock l e (events.Release number now) x is h =
    granted_from l (dropped l number) e clock x
    (λ y there. untimed l e y (ap is_tick is) (in_filter (is_other number) l.held y there).0)
    (λ y there. (in_filter (is_other number) l.waiting y there).0) h
held_by clock l e (events.Tick now) x is h =
    granted_from l (due_dropped l now) e clock x
    (λ y there. (
    let both = in_filter (outlasts now) l.held y there in
    kept both.0 (λ moment same. (let one = tick_moment now moment (sym is ∙ same) in let early = late_by now y both.1 in omega arith))
    ))
    (λ y there. (in_filter (outlasts now) l.waiting y there).0) h
held_by clock l e (events.Submit lease ask timeout now) x is h = untimed l e x (ap is_tick is) h
held_by clock l e events.TakeSend x is h = untimed l e x (ap is_tick is) h
held_by clock l e (events.Frame bytes) x is h = untimed l e x (ap is_tick is) h
held_by clock l e (events.Cancel id) x is h = untimed l e x (ap is_tick is) h
held_by clock l e (events.Collect id) x is h = untimed l e x (ap is_tick is) h
held_by clock l e (events.Close reason) x is h = untimed l e x (ap is_tick is) h
held_by clock l e events.Shutdown x is h = untimed l e x (ap is_tick is) h

waits_by : (clock : ℕ) (l : LeaseTable) (actor : ℕ) (event : Event) (x : Lease) → In x (leases_by clock actor event l).waiting → WaitsFrom l x
waits_by clock l actor (events.AskLease now) x h = asked_waiting l actor clock x (is_held_at_once l) refl h
waits_by clock l actor (events.Release number now) x h = still (in_filter (is_other number) l.waiting x (in_dropped _ (filter (is_other number) l.waiting) x h)).0
waits_by clock l actor (events.Tick now) x h = still (in_filter (outlasts now) l.waiting x (in_dropped _ (filter (outlasts now) l.waiting) x h)).0
waits_by clock l actor (events.Submit lease ask timeout now) x h = still h
waits_by clock l actor events.TakeSend x h = still h
waits_by clock l actor (events.Frame bytes) x h = still h
waits_by clock l actor (events.Cancel id) x h = still h
waits_by clock l actor (events.Collect id) x h = still h
waits_by clock l actor (events.Close reason) x h = still h
waits_by clock l actor events.Shutdown x h = still h

after_cases : (clock : ℕ) (l : LeaseTable) (e : Entry) (P : LeaseTable → Type 0) (b : Bool) → closes e ≡ b → P (leases_after clock l e) → P (if b then cleared l else leases_by clock e.actor e.event l)
after_cases clock l e P b is h = let Q : Bool → Type 0 = λ x. P (if x then cleared l else leases_by clock e.actor e.event l) in subst Q is h

held_if : (clock : ℕ) (l : LeaseTable) (e : Entry) (x : Lease) (b : Bool) → In x (if b then cleared l else leases_by clock e.actor e.event l).held → HeldFrom l e x
held_if clock l e x true h = absurd h
held_if clock l e x false h = held_by clock l e e.event x refl h

waits_if : (clock : ℕ) (l : LeaseTable) (e : Entry) (x : Lease) (b : Bool) → In x (if b then cleared l else leases_by clock e.actor e.event l).waiting → WaitsFrom l x
waits_if clock l e x true h = absurd h
waits_if clock l e x false h = waits_by clock l e.actor e.event x h

-- where a lease that is held, or waited for, after an entry comes from
pub held_after_entry : (clock : ℕ) (l : LeaseTable) (e : Entry) (x : Lease) → In x (leases_after clock l e).held → HeldFrom l e x
held_after_entry clock l e x h = held_if clock l e x (closes e) (after_cases clock l e (λ m. In x m.held) (closes e) refl h)

pub waits_after_entry : (clock : ℕ) (l : LeaseTable) (e : Entry) (x : Lease) → In x (leases_after clock l e).waiting → WaitsFrom l x
waits_after_entry clock l e x h = waits_if clock l e x (closes e) (after_cases clock l e (λ m. In x m.waiting) (closes e) refl h)
