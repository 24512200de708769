use Rattle.mspec_quotes.proofs.RoomLaws.{one-fits}
use Rattle.mspec_quotes.proofs.steps.questioned.Goals as goal

pub opened-requires-clause-fits : goal.opened-requires-clause-fits
opened-requires-clause-fits c = one-fits c.args.opens c.args.operand c.requires
