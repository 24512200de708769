-- The leases of a connection: which are held, and which are waited for.
use Rattle.std.specs.Prelude.{ℕ, ◌+◌, ◌-◌, ◌^◌, ◌<◌, ◌≤◌, min, Bool, ◌&&◌, ◌||◌, ◌==◌, nat_lt, nat_le, if◌then◌else◌, List, [], ◌∷◌, ◌++◌, length, map, filter, All, Contains, Option, Some, None}
use Rattle.std.specs.List.{list_any, position}
use Rattle.lease_core.specs.declared.answers.LeaseState.{LeaseState}
use Rattle.lease_core.specs.declared.answers.LeaseState.TheVariants.{Held, Waiting}

-- a lease that is held or waited for, until its deadline
pub record Lease : Type 0 where
  pub number : ℕ
  pub owner : ℕ
  pub deadline : ℕ

-- At most `share` leases are held at a time, each for `lease_ms` milliseconds; each is waited for at most `wait_ms`.
pub record LeaseTable : Type 0 where
  pub share : ℕ
  pub lease_ms : ℕ
  pub wait_ms : ℕ
  -- in the order in which they were granted
  pub held : List Lease
  -- in the order in which they were asked
  pub waiting : List Lease
  -- how many numbers were drawn, from 1 on
  pub drawn : ℕ

-- how many leases may be held, and how many may be waited for
abbrev pub held_limit : ℕ
held_limit = 64

abbrev pub waiters_limit : ℕ
waiters_limit = 64

-- the longest time in milliseconds: a day
abbrev pub time_limit : ℕ
time_limit = 86400000

-- the table from which nothing was asked yet
abbrev pub no_leases : ℕ → ℕ → ℕ → LeaseTable
no_leases share lease_ms wait_ms = record { share = share; lease_ms = lease_ms; wait_ms = wait_ms; held = []; waiting = []; drawn = 0 }

-- a moment and a time after it, ending at the greatest moment
abbrev pub deadline_of : ℕ → ℕ → ℕ
deadline_of moment time = min (moment + time) (2 ^ 64 - 1)

abbrev pub number_of : Lease → ℕ
number_of lease = lease.number

abbrev pub numbers : List Lease → List ℕ
numbers leases = map number_of leases

abbrev pub has_number : ℕ → Lease → Bool
has_number number lease = lease.number == number

abbrev pub is_lease_of : ℕ → ℕ → Lease → Bool
is_lease_of owner number lease = has_number number lease && (lease.owner == owner)

-- the number is that of a lease that is held or waited for
abbrev pub is_known : LeaseTable → ℕ → Bool
is_known l number = list_any (has_number number) l.held || list_any (has_number number) l.waiting

-- fewer leases are held than may be
abbrev pub has_room : LeaseTable → Bool
has_room l = nat_lt (length l.held) l.share

-- what an owner's lease is: held, or waited for behind so many others, or neither
abbrev pub waiting_at : Option ℕ → Option LeaseState
waiting_at None = None
waiting_at (Some place) = Some (Waiting place)

abbrev pub state_of : LeaseTable → ℕ → ℕ → Option LeaseState
state_of l owner number =
    if list_any (is_lease_of owner number) l.held then Some Held else waiting_at (position (is_lease_of owner number) l.waiting)

-- a lease is due at its deadline, and from then on
abbrev pub is_due : ℕ → Lease → Bool
is_due now lease = nat_le lease.deadline now

abbrev pub due_numbers : ℕ → List Lease → List ℕ
due_numbers now leases = numbers (filter (is_due now) leases)

-- the least of some numbers
pub record IsLeast (all : List ℕ) (number : ℕ) : Type 0 where
  pub among : Contains all number
  pub least : All (λ other. number ≤ other) all

-- numbers rise along a list, from above one number to another at most
abbrev pub RiseWithin : ℕ → List ℕ → ℕ → Type 0
RiseWithin low [] high = low ≤ high
RiseWithin low (n ∷ ns) high = (low < n) × RiseWithin n ns high

-- what holds of every table of leases
pub record IsLeaseTable (l : LeaseTable) : Type 0 where
  pub share : (1 ≤ l.share) × (l.share ≤ held_limit)
  pub lease_ms : (1 ≤ l.lease_ms) × (l.lease_ms ≤ time_limit)
  pub wait_ms : (1 ≤ l.wait_ms) × (l.wait_ms ≤ time_limit)
  pub held : length l.held ≤ l.share
  pub waiting : length l.waiting ≤ waiters_limit
  -- Numbers rise along the held leases and then along the waiters, so all of them differ; none is above those that were drawn.
  pub numbers : RiseWithin 0 (numbers (l.held ++ l.waiting)) l.drawn
  pub deadlines : All (λ lease. lease.deadline < 2 ^ 64) (l.held ++ l.waiting)
