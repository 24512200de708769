use Rattle.std.proofs.Common.{◌∙◌, ap}
use Rattle.std.specs.Int.{w128}
use Rattle.std.specs.Int.{int_max, int_min}
use Rattle.std.proofs.lemmas.Int.{to_z-of_z}
use Rattle.mspec_ranges.proofs.SpanLaws.{range_same}
use Rattle.mspec_ranges.proofs.spans.over.Goals as goal

pub returns : goal.returns
returns c =
    let p = to_z-of_z w128 c.args.p c.ranges.p in
    let q = to_z-of_z w128 c.args.q c.ranges.q in
    let r = to_z-of_z w128 c.args.r c.ranges.r in
    let s = to_z-of_z w128 c.args.s c.ranges.s in
    let low = rw (to_z-of_z w128 c.min.result (record { sfits = c.min.type_inv }), to_z-of_z w128 c.min-2.result (record { sfits = c.min-2.type_inv })) at c.min-3.ensures.value in
    let high = rw (to_z-of_z w128 c.max.result (record { sfits = c.max.type_inv }), to_z-of_z w128 c.max-2.result (record { sfits = c.max-2.type_inv })) at c.max-3.ensures.value in
    let low-a = rw (p, q) at c.min.ensures.value in
    let low-b = rw (r, s) at c.min-2.ensures.value in
    let high-a = rw (p, q) at c.max.ensures.value in
    let high-b = rw (r, s) at c.max-2.ensures.value in
    range_same _ _ _ _
    (to_z-of_z w128 c.min-3.result (record { sfits = c.min-3.type_inv }) ∙ low ∙ ap (λ x. int_min x c.min-2.result) low-a ∙ ap (λ x. int_min (int_min c.args.p c.args.q) x) low-b)
    (to_z-of_z w128 c.max-3.result (record { sfits = c.max-3.type_inv }) ∙ high ∙ ap (λ x. int_max x c.max-2.result) high-a ∙ ap (λ x. int_max (int_max c.args.p c.args.q) x) high-b)
