-- Which leases are held and waited for after a journal, by its entries alone.
use Rattle.std.specs.Prelude.{ℕ, if◌then◌else◌, List, [], ◌∷◌}
use Rattle.lease_core.specs.LeaseSteps.{asked, cleared, dropped, due_dropped, granted_all}
use Rattle.lease_core.specs.LeaseTables.{Lease, LeaseTable, no_leases}
use Rattle.conn_core.specs.Entries.{clock_by, closes}
use Rattle.conn_core.specs.declared.entries.Entry.{Entry}
use Rattle.conn_core.specs.declared.entries.Event.{Event}
use Rattle.conn_core.specs.declared.entries.Event.TheVariants.{AskLease, Release, Tick}
use Rattle.conn_core.specs.declared.settings.Settings.{Settings}

-- what an event does to the leases, once the clock is its
abbrev pub leases_by : (clock actor : ℕ) → Event → LeaseTable → LeaseTable
leases_by clock actor (AskLease now) l = asked l actor clock
leases_by clock actor (Release number now) l = granted_all (dropped l number) clock
leases_by clock actor (Tick now) l = granted_all (due_dropped l now) clock
leases_by clock actor other l = l

-- an entry that closes drops all
abbrev pub leases_after : (clock : ℕ) → LeaseTable → Entry → LeaseTable
leases_after clock l e = if closes e then cleared l else leases_by clock e.actor e.event l

-- from a clock and the leases before the entries
abbrev pub leases_from : (clock : ℕ) → LeaseTable → List Entry → LeaseTable
leases_from clock l [] = l
leases_from clock l (e ∷ es) =
    let next = clock_by clock e.event in
    leases_from next (leases_after next l e) es

-- the leases after a journal
abbrev pub leases_of : Settings → List Entry → LeaseTable
leases_of s journal = leases_from 0 (no_leases s.share s.lease_ms s.wait_ms) journal

abbrev pub held_after : Settings → List Entry → List Lease
held_after s journal = (leases_of s journal).held
