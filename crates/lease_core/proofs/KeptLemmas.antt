-- What the program keeps, step by step.
use Rattle.std.proofs.Common.{◌≡◌, ℕ, ◌+◌, ◌^◌, ◌<◌, Bool, true, false, cond, List, [], ◌∷◌, ◌++◌, length, refl, sym, ap, subst, ◌∙◌, arith, Some, None, ltb}
use Rattle.std.specs.Prelude.{not, ◌==◌, ◌||◌, ◌&&◌, IsTrue, remove, slice_index_or}
use Rattle.std.specs.List.{list_any, position, position_or_len}
use Rattle.std.proofs.lemmas.Bool.Decides.{nat_tests}
use Rattle.std.proofs.lemmas.List.{length-map}
use Rattle.lease_core.specs.KeptLeases.{lease_of, leases_of, table_of}
use Rattle.lease_core.specs.LeaseSteps.{granted_all}
use Rattle.lease_core.specs.LeaseTables.{IsLeaseTable, Lease, LeaseTable, deadline_of, has_number, is_known, is_lease_of, waiters_limit}
use Rattle.lease_core.specs.declared.lists.KeptLease.{KeptLease}
use Rattle.lease_core.specs.DueLaws.{known_held, known_waiting}
use Rattle.lease_core.specs.GrantLaws.{one_of_all}
use Rattle.lease_core.specs.LeaseLaws.{granted_one, held_more, no_length, waiting_more}

leases_push : (xs : List KeptLease) (x : KeptLease) → leases_of (xs ++ x ∷ []) ≡ leases_of xs ++ lease_of x ∷ []
leases_push [] x = refl
leases_push (y ∷ ys) x = ap (λ zs. lease_of y ∷ zs) (leases_push ys x)

-- a lease more is held
pub kept_held : (share lease_ms wait_ms drawn : ℕ) (held waiting new : List KeptLease) (x : KeptLease) → IsLeaseTable (table_of share lease_ms wait_ms held waiting drawn) → length held < share → length waiting ≡ 0 → new ≡ held ++ x ∷ [] → x.number ≡ drawn + 1 → x.deadline < 2 ^ 64 → IsLeaseTable (table_of share lease_ms wait_ms new waiting (drawn + 1))
kept_held share lease_ms wait_ms drawn held waiting new x law room none e n d =
    let l : LeaseTable = table_of share lease_ms wait_ms held waiting drawn in
    let after : leases_of new ≡ leases_of held ++ lease_of x ∷ [] = ap leases_of e ∙ leases_push held x in
    let P : List Lease → Type 0 = λ xs. (let t : LeaseTable = record l { held = xs; drawn = drawn + 1 } in IsLeaseTable t) in
    subst P (sym after) (held_more l (lease_of x) law (omega (arith, length-map held lease_of)) (no_length (leases_of waiting) (length-map waiting lease_of ∙ none)) n d)

-- a lease more is waited for
pub kept_waiting : (share lease_ms wait_ms drawn : ℕ) (held waiting new : List KeptLease) (x : KeptLease) → IsLeaseTable (table_of share lease_ms wait_ms held waiting drawn) → length waiting < waiters_limit → new ≡ waiting ++ x ∷ [] → x.number ≡ drawn + 1 → x.deadline < 2 ^ 64 → IsLeaseTable (table_of share lease_ms wait_ms held new (drawn + 1))
kept_waiting share lease_ms wait_ms drawn held waiting new x law room e n d =
    let l : LeaseTable = table_of share lease_ms wait_ms held waiting drawn in
    let after : leases_of new ≡ leases_of waiting ++ lease_of x ∷ [] = ap leases_of e ∙ leases_push waiting x in
    let P : List Lease → Type 0 = λ xs. (let t : LeaseTable = record l { waiting = xs; drawn = drawn + 1 } in IsLeaseTable t) in
    subst P (sym after) (waiting_more l (lease_of x) law (omega (arith, length-map waiting lease_of)) n d)

-- the first waiter is held
pub record Granted (share lease_ms wait_ms drawn now : ℕ) (held waiting held_then waiting_then : List KeptLease) : Type 0 where
  pub lawful : IsLeaseTable (table_of share lease_ms wait_ms held_then waiting_then drawn)
  pub all : granted_all (table_of share lease_ms wait_ms held_then waiting_then drawn) now ≡ granted_all (table_of share lease_ms wait_ms held waiting drawn) now

granted_at : (share lease_ms wait_ms drawn now : ℕ) (held ws held_then waiting_then : List KeptLease) (w x : KeptLease) → IsLeaseTable (table_of share lease_ms wait_ms held (w ∷ ws) drawn) → length held < share → held_then ≡ held ++ x ∷ [] → waiting_then ≡ ws → x.number ≡ w.number → x.owner ≡ w.owner → x.deadline ≡ deadline_of now lease_ms → Granted share lease_ms wait_ms drawn now held (w ∷ ws) held_then waiting_then
granted_at share lease_ms wait_ms drawn now held ws held_then waiting_then w x law room e f n o d =
    let l : LeaseTable = table_of share lease_ms wait_ms held (w ∷ ws) drawn in
    let given : Lease = record { number = w.number; owner = w.owner; deadline = deadline_of now lease_ms } in
    let same : lease_of x ≡ given = cc in
    let after : leases_of held_then ≡ leases_of held ++ given ∷ [] = ap leases_of e ∙ leases_push held x ∙ ap (λ y. leases_of held ++ y ∷ []) same in
    let left : leases_of waiting_then ≡ leases_of ws = ap leases_of f in
    let below : length (leases_of held) < share = omega (arith, length-map held lease_of) in
    let P : List Lease → List Lease → Type 0 = λ xs ys. (let t : LeaseTable = record l { held = xs; waiting = ys } in IsLeaseTable t) in
    let Q : List Lease → List Lease → Type 0 = λ xs ys. (let t : LeaseTable = record l { held = xs; waiting = ys } in granted_all t now ≡ granted_all l now) in
    record {
      lawful = rw (after, left) (granted_one l now (lease_of w) (leases_of ws) refl below law);
      all = rw (after, left) (one_of_all l now (lease_of w) (leases_of ws) refl below);
    }

pub granted_kept : (share lease_ms wait_ms drawn now : ℕ) (held waiting held_then waiting_then : List KeptLease) (w x : KeptLease) → IsLeaseTable (table_of share lease_ms wait_ms held waiting drawn) → length held < share → 0 < length waiting → w ≡ slice_index_or waiting 0 w → held_then ≡ held ++ x ∷ [] → waiting_then ≡ remove waiting 0 → x.number ≡ w.number → x.owner ≡ w.owner → x.deadline ≡ deadline_of now lease_ms → Granted share lease_ms wait_ms drawn now held waiting held_then waiting_then
granted_kept share lease_ms wait_ms drawn now held [] held_then waiting_then w x law room some first e f n o d = absurd (omega arith)
granted_kept share lease_ms wait_ms drawn now held (v ∷ vs) held_then waiting_then w x law room some first e f n o d =
    granted_at share lease_ms wait_ms drawn now held vs held_then waiting_then v x law room e f (n ∙ ap (λ k. k.number) first) (o ∙ ap (λ k. k.owner) first) d

-- an owner's lease is known
weaker_step : (owner number : ℕ) (x : Lease) (xs : List Lease) (b : Bool) → (b && (x.owner == owner) || list_any (is_lease_of owner number) xs) ≡ true → (list_any (is_lease_of owner number) xs ≡ true → list_any (has_number number) xs ≡ true) → (b || list_any (has_number number) xs) ≡ true
weaker_step owner number x xs true e rest = refl
weaker_step owner number x xs false e rest = rest e

owned_known : (owner number : ℕ) (xs : List Lease) → list_any (is_lease_of owner number) xs ≡ true → list_any (has_number number) xs ≡ true
owned_known owner number [] e = cc
owned_known owner number (x ∷ xs) e = weaker_step owner number x xs (has_number number x) e (owned_known owner number xs)

pub owner_holds : (l : LeaseTable) (owner number : ℕ) → list_any (is_lease_of owner number) l.held ≡ true → IsTrue (is_known l number)
owner_holds l owner number e = known_held l number (owned_known owner number l.held e)

place_step : (p : Lease → Bool) (x : Lease) (xs : List Lease) (b : Bool) → cond (not b) (1 + position_or_len p xs) 0 < length (x ∷ xs) → (position_or_len p xs < length xs → list_any p xs ≡ true) → (b || list_any p xs) ≡ true
place_step p x xs true h rest = refl
place_step p x xs false h rest = rest (omega arith)

any_at_place : (p : Lease → Bool) (xs : List Lease) → position_or_len p xs < length xs → list_any p xs ≡ true
any_at_place p [] h = absurd (omega arith)
any_at_place p (x ∷ xs) h = place_step p x xs (p x) h (any_at_place p xs)

some_place : (n len : ℕ) (b : Bool) (i : ℕ) → ltb n len ≡ b → cond b (Some n) None ≡ Some i → n < len
some_place n len true i is h = grind (arith, nat_tests)
some_place n len false i is h = cc

pub owner_waits : (l : LeaseTable) (owner number place : ℕ) → position (is_lease_of owner number) l.waiting ≡ Some place → IsTrue (is_known l number)
owner_waits l owner number place e =
    known_waiting l number (owned_known owner number l.waiting (any_at_place (is_lease_of owner number) l.waiting (some_place (position_or_len (is_lease_of owner number) l.waiting) (length l.waiting) (ltb (position_or_len (is_lease_of owner number) l.waiting) (length l.waiting)) place refl e)))
