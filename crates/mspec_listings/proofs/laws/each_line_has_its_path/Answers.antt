use Rattle.mspec_listings.proofs.PathLaw.{own_paths}
use Rattle.mspec_listings.proofs.laws.each_line_has_its_path.Goals as goal

pub returns : goal.returns
returns c = λ d def node w t p. own_paths d def node w t p
