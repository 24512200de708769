use Rattle.std.proofs.Common.{◌≤◌, ◌^◌, ◌∙◌, ap, arith, ℕ}
use Rattle.std.specs.Int.{w128}
use Rattle.std.specs.Prelude.{pos, ◌*ℤ◌}
use Rattle.std.proofs.lemmas.Int.{to_z-of_z, to_z_pos}
use Rattle.mspec_ranges.proofs.SpanLaws.{power_small, times_fits}
use Rattle.mspec_ranges.proofs.spans.times_power.Goals as goal

pub overflow_mul-result : goal.overflow_mul-result
overflow_mul-result c =
    let power = rw (to_z-of_z w128 c.args.places c.ranges.places) at c.power_of_two.ensures.value in
    let small : c.power_of_two.result ≤ 2 ^ 63 = omega (arith, power, power_small c.args.places c.requires.least c.requires.most) in
    rw (to_z-of_z w128 c.args.number c.ranges.number, to_z_pos w128 c.power_of_two.result (omega arith))
    (times_fits c.args.number c.power_of_two.result c.requires.low c.requires.high small)

pub returns : goal.returns
returns c =
    let power = rw (to_z-of_z w128 c.args.places c.ranges.places) at c.power_of_two.ensures.value in
    let small : c.power_of_two.result ≤ 2 ^ 63 = omega (arith, power, power_small c.args.places c.requires.least c.requires.most) in
    rw (to_z-of_z w128 c.args.number c.ranges.number, to_z_pos w128 c.power_of_two.result (omega arith))
    (to_z-of_z w128 (c.args.number *ℤ pos c.power_of_two.result) (times_fits c.args.number c.power_of_two.result c.requires.low c.requires.high small)
    ∙ ap (λ (q : ℕ). c.args.number *ℤ pos q) power)
