use Rattle.std.proofs.Common.{◌∙◌, sym, subst}
use Rattle.std.specs.Prelude.{IsTrue}
use Rattle.lease_core.specs.KeptLeases.{table_of}
use Rattle.lease_core.specs.LeaseTables.{LeaseTable, is_known}
use Rattle.lease_core.proofs.KeptLemmas.{owner_holds, owner_waits}
use Rattle.lease_core.proofs.leases.Leases.state.Goals as goal

pub returns-then-is_among-clause-known : goal.returns-then-is_among-clause-known
returns-then-is_among-clause-known c =
    let P : LeaseTable → Type 0 = λ l. IsTrue (is_known l c.args.lease) in
    subst P c.self.view_is (owner_holds (table_of c.self.inside.share c.self.inside.lease_ms c.self.inside.wait_ms c.self.inside.held.items c.self.inside.waiting.items c.self.inside.drawn) c.args.owner c.args.lease (rw c.deref.ensures.value at (sym c.is_among.ensures ∙ c.if-is_among.true)))

pub returns-clause-known : goal.returns-clause-known
returns-clause-known c =
    let P : LeaseTable → Type 0 = λ l. IsTrue (is_known l c.args.lease) in
    subst P c.self.view_is (owner_waits (table_of c.self.inside.share c.self.inside.lease_ms c.self.inside.wait_ms c.self.inside.held.items c.self.inside.waiting.items c.self.inside.drawn) c.args.owner c.args.lease c.in_ok-place.place (rw c.deref-2.ensures.value at (sym c.place_of.ensures.place ∙ c.in_ok-place.was)))
