-- Numbers that a program has.
use Rattle.std.specs.Prelude.{Bool, false, ℕ, ◌-◌, ◌^◌, ℤ, Result, Ok, Err, min, not, if◌then◌else◌}
use Rattle.node_tree.specs.declared.faults.EvalFault.{EvalFault}
use Rattle.node_tree.specs.declared.faults.EvalFault.TheVariants.{NullAccess}
use Rattle.mspec_expr.specs.Kinds.{in_range, widest}

-- a number that stays inside the widest range
abbrev pub within : ℤ → Result ℤ EvalFault
within n = if in_range widest n then Ok n else Err NullAccess

-- a number that leaves it
abbrev pub leaves : Result ℤ EvalFault → Bool
leaves (Ok n) = not (in_range widest n)
leaves (Err fault) = false

-- a size, as far as it has room
abbrev pub capped : ℕ → ℕ
capped n = min n (2 ^ 128 - 1)
