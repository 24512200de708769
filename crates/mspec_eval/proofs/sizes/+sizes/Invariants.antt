use Rattle.std.proofs.Common.{◌≡◌, ℕ, ◌+◌, ◌*◌, ◌^◌, drop, length}
use Rattle.mspec_expr.specs.Sizes.{items_measure, measure_to}
use Rattle.mspec_eval.specs.Numbers.{capped}
use Rattle.mspec_eval.proofs.sizes.+sizes.Given as goal

abbrev pub decreases-group_bits : goal.decreases-group_bits
decreases-group_bits l = 2 ^ 70 * l.levels

abbrev pub decreases-items_bits : goal.decreases-items_bits
decreases-items_bits l = 2 ^ 70 * l.levels + 1

abbrev pub decreases-meant_bits : goal.decreases-meant_bits
decreases-meant_bits l = 2 ^ 70 * l.levels + 2

abbrev pub decreases-body_bits : goal.decreases-body_bits
decreases-body_bits l = 2 ^ 70 * l.levels + 3

abbrev pub decreases-entries_bits : goal.decreases-entries_bits
decreases-entries_bits l = 2 ^ 70 * l.levels + 4 + length l.fields.now

abbrev pub decreases-fields_bits : goal.decreases-fields_bits
decreases-fields_bits l = 2 ^ 70 * l.levels + 2 ^ 65 + length l.fields.now

abbrev pub invariant-items_bits-loop-place : goal.invariant-items_bits-loop-place
invariant-items_bits-loop-place l =
    (before : ℕ) × (l.sum ≡ capped before) × ((items_measure (measure_to l.levels l.d) l.def l.counted l.items).bits ≡ before + (items_measure (measure_to l.levels l.d) l.def l.counted (drop l.place l.items)).bits)
