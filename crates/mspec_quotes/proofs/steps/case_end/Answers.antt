use Rattle.mspec_quotes.proofs.RoomLaws.{path-low}
use Rattle.mspec_quotes.proofs.steps.case_end.Goals as goal

pub cast-requires : goal.cast-requires
cast-requires c = path-low c.args.opens c.args.read c.requires
