use Rattle.std.proofs.Common.{◌∙◌, sym, rules, tests}
use Rattle.std.proofs.lemmas.Iterator.{YieldsList-from_slice}
use Rattle.std.proofs.lemmas.Iterator.Search.{any_from_yields_List}
use Rattle.lease_core.specs.KeptLeases.{lease_of}
use Rattle.lease_core.specs.LeaseTables.{is_lease_of}
use Rattle.lease_core.proofs.MapLemmas.{list_any-map}
use Rattle.lease_core.proofs.lists.is_among.Goals as goal

pub returns : goal.returns
returns c =
    any_from_yields_List (λ x. is_lease_of c.args.owner c.args.number (lease_of x)) _ _ c.any.result c.any.ensures.ran (YieldsList-from_slice c.args.leases.now cc) (λ x b q k. search (rules, tests))
    ∙ sym (list_any-map (is_lease_of c.args.owner c.args.number) lease_of c.args.leases.now)
