use Rattle.std.proofs.Common.{[], inl, inr}
use Rattle.mspec_listings.proofs.LeafLaw.{line_for_each_leaf}
use Rattle.mspec_listings.proofs.laws.each_leaf_has_a_line.Goals as goal

pub returns-clause-inside : goal.returns-clause-inside
returns-clause-inside c = λ d def node path h some. line_for_each_leaf d node def path h (inl some)

pub returns-clause-whole : goal.returns-clause-whole
returns-clause-whole c = λ d def node h some. line_for_each_leaf d node def [] h (inr some)
