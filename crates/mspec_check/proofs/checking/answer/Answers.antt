use Rattle.std.proofs.Common.{◌∙◌, refl, sym}
use Rattle.mspec_check.specs.Accepted.{wrongs}
use Rattle.mspec_check.proofs.Told.{none_found}
use Rattle.mspec_check.proofs.checking.answer.Goals as goal

pub invariant_of-result : goal.invariant_of-result
invariant_of-result c = none_found (wrongs c.args.d) (sym c.requires ∙ c.in-None.is)

pub returns-in-None-clause-accepted : goal.returns-in-None-clause-accepted
returns-in-None-clause-accepted c = (refl, none_found (wrongs c.args.d) (sym c.requires ∙ c.in-None.is))
