use Rattle.std.proofs.Common.{◌<◌, ◌^◌, ◌∙◌, ap, arith}
use Rattle.std.specs.Prelude.{bit_or, pos, unsigned_abs}
use Rattle.std.specs.Int.{w128}
use Rattle.std.proofs.lemmas.Int.{to_z_pos}
use Rattle.mspec_eval.proofs.ReckonLaws.{or_small, size_is}
use Rattle.mspec_eval.proofs.reckoning.bits_of_either.Goals as goal

pub overflow_cast-result : goal.overflow_cast-result
overflow_cast-result c =
    let left = size_is c.args.x c.unsigned_abs.result c.ranges.x c.unsigned_abs.ensures.value in
    let right = size_is c.args.y c.unsigned_abs-2.result c.ranges.y c.unsigned_abs-2.ensures.value in
    let small : bit_or c.unsigned_abs.result c.unsigned_abs-2.result < 2 ^ 64 = or_small c.args.x c.args.y _ _ c.requires.left c.requires.right left right in
    record { sfits = omega (arith, small) }

pub returns : goal.returns
returns c =
    let left = size_is c.args.x c.unsigned_abs.result c.ranges.x c.unsigned_abs.ensures.value in
    let right = size_is c.args.y c.unsigned_abs-2.result c.ranges.y c.unsigned_abs-2.ensures.value in
    let small : bit_or c.unsigned_abs.result c.unsigned_abs-2.result < 2 ^ 64 = or_small c.args.x c.args.y _ _ c.requires.left c.requires.right left right in
    to_z_pos w128 _ (omega (arith, small)) ∙ ap (λ a. pos (bit_or a c.unsigned_abs-2.result)) left ∙ ap (λ b. pos (bit_or (unsigned_abs c.args.x) b)) right
