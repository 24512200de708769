use Rattle.std.proofs.Common.{arith}
use Rattle.mspec_quotes.specs.declared.pending.Open.TheVariants.{Count}
use Rattle.mspec_quotes.proofs.RoomLaws.{more-deep, more-fits}
use Rattle.mspec_quotes.proofs.steps.count_word.Goals as goal

pub returns-then-room-le1 : goal.returns-then-room-le1
returns-then-room-le1 c = more-deep (Count c.args.place) c.args.opens tt (omega arith)

pub going-requires : goal.going-requires
going-requires c = more-fits (Count c.args.place) c.args.opens tt c.requires (omega arith)
