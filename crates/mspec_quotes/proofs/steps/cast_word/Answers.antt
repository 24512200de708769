use Rattle.std.proofs.Common.{arith}
use Rattle.mspec_quotes.specs.declared.pending.Open.TheVariants.{Cast}
use Rattle.mspec_quotes.proofs.RoomLaws.{more-deep, more-fits}
use Rattle.mspec_quotes.proofs.steps.cast_word.Goals as goal

pub returns-then-room-le1 : goal.returns-then-room-le1
returns-then-room-le1 c = more-deep (Cast c.args.place) c.args.opens tt (omega arith)

pub going-requires : goal.going-requires
going-requires c = more-fits (Cast c.args.place) c.args.opens tt c.requires (omega arith)
