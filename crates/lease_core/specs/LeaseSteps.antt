-- What becomes of the leases: one is asked, one goes, the first waiter is granted, those that are due go.
use Rattle.std.specs.Prelude.{ℕ, ◌+◌, ◌-◌, Bool, not, ◌&&◌, ◌==◌, if◌then◌else◌, List, [], ◌∷◌, ◌++◌, length, map, filter, take, drop, Option, Some, None}
use Rattle.lease_core.specs.LeaseTables.{Lease, LeaseTable, deadline_of, has_number, has_room, is_due}
use Rattle.lease_core.specs.declared.answers.LeaseAnswer.{LeaseAnswer}
use Rattle.lease_core.specs.declared.answers.LeaseAnswer.TheVariants.{Granted, Waiting}

-- a lease that is asked is held at once, where there is room and none waits
abbrev pub is_held_at_once : LeaseTable → Bool
is_held_at_once l = has_room l && (length l.waiting == 0)

-- the next lease, under the next number
abbrev pub next_lease : LeaseTable → ℕ → ℕ → Lease
next_lease l owner deadline = record { number = l.drawn + 1; owner = owner; deadline = deadline }

-- a lease is asked: it is held at once, or is the last waiter
abbrev pub asked : LeaseTable → ℕ → ℕ → LeaseTable
asked l owner now =
    if is_held_at_once l
    then record l { held = l.held ++ next_lease l owner (deadline_of now l.lease_ms) ∷ []; drawn = l.drawn + 1 }
    else record l { waiting = l.waiting ++ next_lease l owner (deadline_of now l.wait_ms) ∷ []; drawn = l.drawn + 1 }

-- what is answered: the number, and for a waiter how many waiters stand before it
abbrev pub asked_answer : LeaseTable → LeaseAnswer
asked_answer l = if is_held_at_once l then Granted (l.drawn + 1) else Waiting (l.drawn + 1) (length l.waiting)

abbrev pub is_other : ℕ → Lease → Bool
is_other number lease = not (has_number number lease)

-- a lease goes, whether it is held or waited for
abbrev pub dropped : LeaseTable → ℕ → LeaseTable
dropped l number = record l { held = filter (is_other number) l.held; waiting = filter (is_other number) l.waiting }

-- not due at a moment
abbrev pub outlasts : ℕ → Lease → Bool
outlasts now lease = not (is_due now lease)

-- the held leases that are due go, and so do the waiters
abbrev pub held_due_dropped : LeaseTable → ℕ → LeaseTable
held_due_dropped l now = record l { held = filter (outlasts now) l.held }

abbrev pub waiting_due_dropped : LeaseTable → ℕ → LeaseTable
waiting_due_dropped l now = record l { waiting = filter (outlasts now) l.waiting }

abbrev pub due_dropped : LeaseTable → ℕ → LeaseTable
due_dropped l now = waiting_due_dropped (held_due_dropped l now) now

-- so many of the first waiters are held from a moment on
abbrev pub held_from : ℕ → LeaseTable → Lease → Lease
held_from now l lease = record lease { deadline = deadline_of now l.lease_ms }

abbrev pub granted_first : ℕ → LeaseTable → ℕ → LeaseTable
granted_first count l now = record l { held = l.held ++ map (held_from now l) (take count l.waiting); waiting = drop count l.waiting }

-- the first waiter is granted, where there is room
abbrev pub granted : LeaseTable → ℕ → LeaseTable
granted l now = if has_room l then granted_first 1 l now else l

-- as many waiters are granted as there is room for
abbrev pub granted_all : LeaseTable → ℕ → LeaseTable
granted_all l now = granted_first (l.share - length l.held) l now

-- the number of the waiter that is granted next
abbrev pub first_number : List Lease → Option ℕ
first_number [] = None
first_number (lease ∷ leases) = Some lease.number

abbrev pub next_granted : LeaseTable → Option ℕ
next_granted l = if has_room l then first_number l.waiting else None

-- no lease is held or waited for
abbrev pub cleared : LeaseTable → LeaseTable
cleared l = record l { held = []; waiting = [] }
