use Rattle.std.proofs.Common.{[]}
use Rattle.mspec_listings.proofs.PlainLaw.{lines_plain}
use Rattle.mspec_listings.proofs.laws.lines_are_plain.Goals as goal

pub returns : goal.returns
returns c = λ d def node w. lines_plain d w node def [] tt
