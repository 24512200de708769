-- Requests that end without a reply, by the test that picks them.
use Rattle.std.specs.Prelude.{ℕ, List, [], ◌∷◌}
use Rattle.txn_core.specs.RowSteps.{ended_all}
use Rattle.txn_core.specs.RowTables.{RowTable, has_lease}

-- the live requests of leases end in this way, lease after lease
abbrev pub leases_ended : {X E : Type 0} → E → List ℕ → RowTable X E → RowTable X E
leases_ended kind [] t = t
leases_ended kind (number ∷ numbers) t = leases_ended kind numbers (ended_all (has_lease number) kind t)
