use Rattle.std.proofs.Common.{rules, tests, refl}
use Rattle.std.proofs.lemmas.Iterator.{YieldsList-from_slice}
use Rattle.std.proofs.lemmas.Iterator.Search.{find_from_yields_List}
use Rattle.lease_core.specs.KeptLeases.{lease_of}
use Rattle.lease_core.specs.LeaseTables.{is_due}
use Rattle.lease_core.proofs.MapLemmas.{find-map}
use Rattle.lease_core.proofs.lists.first_due.Goals as goal

pub returns-in_err-lease : goal.returns-in_err-lease
returns-in_err-lease c =
    let found = find_from_yields_List (λ x. is_due c.args.now (lease_of x)) _ _ c.find.result c.find.ensures.ran (YieldsList-from_slice c.args.leases.now cc) (λ x b q k. search (rules, tests)) in
    rw (find-map (is_due c.args.now) lease_of c.args.leases.now, ← found, c.in_err-lease.was) c.from_residual.ensures

pub returns : goal.returns
returns c =
    let found = find_from_yields_List (λ x. is_due c.args.now (lease_of x)) _ _ c.find.result c.find.ensures.ran (YieldsList-from_slice c.args.leases.now cc) (λ x b q k. search (rules, tests)) in
    rw (find-map (is_due c.args.now) lease_of c.args.leases.now, ← found, c.in_ok-lease.was) refl
