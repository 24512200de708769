use Rattle.mspec_printer.proofs.laws.parses_back.Goals as goal
use Rattle.mspec_printer.proofs.Back.{reads-back}

pub returns : goal.returns
returns c = reads-back
