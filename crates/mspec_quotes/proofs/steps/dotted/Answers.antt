use Rattle.std.proofs.Common.{arith}
use Rattle.mspec_quotes.proofs.RoomLaws.{path-deep, path-fits}
use Rattle.mspec_quotes.proofs.steps.dotted.Goals as goal

pub returns-then-room-depth : goal.returns-then-room-depth
returns-then-room-depth c = path-deep c.args.opens c.args.operand (omega arith)

pub going-requires : goal.going-requires
going-requires c = path-fits c.args.opens c.args.operand c.requires (omega arith)
