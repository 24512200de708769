use Rattle.std.proofs.Common.{◌∙◌, sym, rules, tests}
use Rattle.std.proofs.lemmas.Iterator.{YieldsList-from_slice}
use Rattle.std.proofs.lemmas.Iterator.Search.{position_from_yields_List}
use Rattle.lease_core.specs.KeptLeases.{lease_of}
use Rattle.lease_core.specs.LeaseTables.{is_lease_of}
use Rattle.lease_core.proofs.MapLemmas.{position-map}
use Rattle.lease_core.proofs.lists.place_of.Goals as goal

pub returns-clause-place : goal.returns-clause-place
returns-clause-place c =
    position_from_yields_List (λ x. is_lease_of c.args.owner c.args.number (lease_of x)) _ _ c.position.result c.position.ensures.ran (YieldsList-from_slice c.args.leases.now cc) (λ x b q k. search (rules, tests))
    ∙ sym (position-map (is_lease_of c.args.owner c.args.number) lease_of c.args.leases.now)
