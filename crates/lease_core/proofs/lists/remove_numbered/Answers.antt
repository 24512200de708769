use Rattle.std.proofs.Common.{◌∙◌, sym, ap, map, rules, tests}
use Rattle.std.proofs.lemmas.Fn.{filter_same}
use Rattle.lease_core.specs.KeptLeases.{lease_of}
use Rattle.lease_core.specs.LeaseSteps.{is_other}
use Rattle.lease_core.proofs.MapLemmas.{filter-map}
use Rattle.lease_core.proofs.lists.remove_numbered.Goals as goal

pub returns-clause-items : goal.returns-clause-items
returns-clause-items c =
    ap (map lease_of) (filter_same _ (λ x. is_other c.args.number (lease_of x)) _ (λ x b q k. search (rules, tests)) _ _ c.retain.ensures.filtered)
    ∙ sym (filter-map (is_other c.args.number) lease_of c.args.leases.now.items)
