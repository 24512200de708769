use Rattle.mspec_eval.proofs.ReckonLaws.{shift_leaves, size_is}
use Rattle.mspec_eval.proofs.reckoning.shifted_left.Goals as goal

pub returns-then-places-gt64 : goal.returns-then-places-gt64
returns-then-places-gt64 c =
    shift_leaves c.args.x c.args.y c.unsigned_abs-places.result c.if-x-eq0.false (size_is c.args.y c.unsigned_abs-places.result c.ranges.y c.unsigned_abs-places.ensures.value) c.if-places-gt64.true
