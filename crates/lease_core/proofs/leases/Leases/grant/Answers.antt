use Rattle.std.proofs.Common.{◌∙◌, refl, ap, arith}
use Rattle.std.proofs.lemmas.Bool.Decides.{nat_tests}
use Rattle.lease_core.specs.LeaseSteps.{granted_all}
use Rattle.lease_core.proofs.KeptLemmas.{Granted, granted_kept}
use Rattle.lease_core.proofs.leases.Leases.grant.Goals as goal

grants : (c : goal.After-push_reserved) → Granted c.self.inside.share c.self.inside.lease_ms c.self.inside.wait_ms c.self.inside.drawn c.args.now c.self.inside.held.items c.self.inside.waiting.items c.push_reserved.new.self.items c.remove-first.new.self.items
grants c = granted_kept _ _ _ _ _ _ _ _ _ c.remove-first.result _ c.self.invariant.lawful (omega arith) (grind (arith, nat_tests)) c.remove-first.ensures.value c.push_reserved.ensures.items c.remove-first.ensures.items refl refl c.find_deadline-deadline.ensures

pub returns-clause-lawful : goal.returns-clause-lawful
returns-clause-lawful c = (grants c).lawful

pub returns-clause-all : goal.returns-clause-all
returns-clause-all c = (grants c).all ∙ ap (λ l. granted_all l c.args.now) c.self.view_is

pub invariant_of-self : goal.invariant_of-self
invariant_of-self c = record { held = omega arith; waiting = omega arith; lawful = (grants c).lawful }
