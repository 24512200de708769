-- What the program keeps, as the table of leases that contracts see.
use Rattle.std.specs.Prelude.{ℕ, ◌≤◌, List, map}
use Rattle.lease_core.specs.LeaseTables.{IsLeaseTable, Lease, LeaseTable, held_limit, waiters_limit}
use Rattle.lease_core.specs.declared.lists.KeptLease.{KeptLease}

abbrev pub lease_of : KeptLease → Lease
lease_of lease = record { number = lease.number; owner = lease.owner; deadline = lease.deadline }

abbrev pub leases_of : List KeptLease → List Lease
leases_of leases = map lease_of leases

-- the table, by the parts that the program keeps
abbrev pub table_of : ℕ → ℕ → ℕ → List KeptLease → List KeptLease → ℕ → LeaseTable
table_of share lease_ms wait_ms held waiting drawn = record {
  share = share;
  lease_ms = lease_ms;
  wait_ms = wait_ms;
  held = leases_of held;
  waiting = leases_of waiting;
  drawn = drawn;
}

-- both lists have room for as many as may stand in them
pub record IsKept (held_room waiting_room : ℕ) (l : LeaseTable) : Type 0 where
  pub held : held_limit ≤ held_room
  pub waiting : waiters_limit ≤ waiting_room
  pub lawful : IsLeaseTable l
