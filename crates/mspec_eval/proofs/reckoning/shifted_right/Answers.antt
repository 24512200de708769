use Rattle.mspec_eval.proofs.ReckonLaws.{all_shifted, size_is}
use Rattle.mspec_eval.proofs.reckoning.shifted_right.Goals as goal

pub returns-then-places-gt64 : goal.returns-then-places-gt64
returns-then-places-gt64 c =
    all_shifted c.args.x c.args.y c.unsigned_abs-places.result c.requires.left (size_is c.args.y c.unsigned_abs-places.result c.ranges.y c.unsigned_abs-places.ensures.value) c.if-places-gt64.true
