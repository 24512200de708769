use Rattle.mspec_quotes.proofs.RoomLaws.{path-low}
use Rattle.mspec_quotes.proofs.steps.path.Goals as goal

pub dot-requires : goal.dot-requires
dot-requires c = path-low c.args.opens c.args.read c.requires

pub length_of-requires : goal.length_of-requires
length_of-requires c = path-low c.args.opens c.args.read c.requires
