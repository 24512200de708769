-- Granting one waiter after another.
use Rattle.std.proofs.Common.{◌≡◌, ℕ, zero, suc, ◌-◌, ◌<◌, ◌≤◌, List, [], ◌∷◌, ◌++◌, length, take, drop, map, refl, sym, ap, ◌∙◌, arith, append_assoc, append-nil, length-append}
use Rattle.lease_core.specs.LeaseSteps.{granted_all, held_from}
use Rattle.lease_core.specs.LeaseTables.{Lease, LeaseTable}
use Rattle.lease_core.specs.DueLaws.{same_lists}

nothing : {Y : Type 0} (count : ℕ) (f : Lease → Y) → map f (take count []) ≡ []
nothing zero f = refl
nothing (suc count) f = refl

no_rest : (count : ℕ) (none : List Lease) → none ≡ [] → drop count none ≡ []
no_rest zero none e = e
no_rest (suc count) [] e = refl
no_rest (suc count) (x ∷ xs) e = cc

one_more : (l : LeaseTable) (now k : ℕ) (w : Lease) (ws : List Lease) → l.waiting ≡ w ∷ ws → l.share - length l.held ≡ suc k → (let t : LeaseTable = record l { held = l.held ++ held_from now l w ∷ []; waiting = ws } in granted_all t now ≡ granted_all l now)
one_more l now k w ws e room =
    let left : l.share - length (l.held ++ held_from now l w ∷ []) ≡ k = omega (arith, length-append l.held (held_from now l w ∷ [])) in
    let held : (l.held ++ held_from now l w ∷ []) ++ map (held_from now l) (take (l.share - length (l.held ++ held_from now l w ∷ [])) ws) ≡ l.held ++ map (held_from now l) (take (l.share - length l.held) l.waiting)
    = rw (left, room, e) (append_assoc l.held (held_from now l w ∷ []) (map (held_from now l) (take k ws))) in
    let waiting : drop (l.share - length (l.held ++ held_from now l w ∷ [])) ws ≡ drop (l.share - length l.held) l.waiting = rw (left, room, e) refl in
    same_lists l _ _ _ _ held waiting

-- a grant brings the same to all that there is room for
pub one_of_all : (l : LeaseTable) (now : ℕ) (w : Lease) (ws : List Lease) → l.waiting ≡ w ∷ ws → length l.held < l.share → (let t : LeaseTable = record l { held = l.held ++ held_from now l w ∷ []; waiting = ws } in granted_all t now ≡ granted_all l now)
one_of_all l now w ws e room = one_more l now (l.share - length l.held - 1) w ws e (omega arith)

-- where nobody waits, or there is no room, none is granted
pub none_waits : (l : LeaseTable) (now : ℕ) → l.waiting ≡ [] → granted_all l now ≡ l
none_waits l now e =
    let none : map (held_from now l) (take (l.share - length l.held) l.waiting) ≡ [] = rw e (nothing (l.share - length l.held) (held_from now l)) in
    same_lists l _ l.held _ l.waiting (ap (λ xs. l.held ++ xs) none ∙ append-nil l.held) (no_rest (l.share - length l.held) l.waiting e ∙ sym e)

pub no_room : (l : LeaseTable) (now : ℕ) → l.share ≤ length l.held → granted_all l now ≡ l
no_room l now h =
    let none : l.share - length l.held ≡ 0 = omega arith in
    rw none (same_lists l (l.held ++ []) l.held l.waiting l.waiting (append-nil l.held) refl)
