use Rattle.mspec_quotes.proofs.RoomLaws.{one-fits}
use Rattle.mspec_quotes.proofs.steps.between.Goals as goal

pub opened-requires-clause-fits : goal.opened-requires-clause-fits
opened-requires-clause-fits c = one-fits c.in_ok-opens.opens c.in_ok-opens.operand c.in_ok-opens.ensures.fits
