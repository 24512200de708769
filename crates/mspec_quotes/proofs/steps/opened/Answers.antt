use Rattle.std.proofs.Common.{arith}
use Rattle.mspec_quotes.proofs.RoomLaws.{more-deep, more-fits}
use Rattle.mspec_quotes.proofs.steps.opened.Goals as goal

pub returns-then-room-max : goal.returns-then-room-max
returns-then-room-max c = more-deep c.args.next c.args.opens c.requires.deeper (omega arith)

pub going-requires : goal.going-requires
going-requires c = rw c.in_ok-push.ensures (more-fits c.args.next c.args.opens c.requires.deeper c.requires.fits (omega arith))
