use Rattle.std.proofs.Common.{◌<◌, refl, sym, ◌∙◌, arith}
use Rattle.std.proofs.lemmas.Bool.Decides.{nat_tests}
use borrow.Author.Tests.{ltb-true}
use Rattle.lease_core.proofs.KeptLemmas.{kept_held, kept_waiting}
use Rattle.lease_core.proofs.leases.Leases.ask.Goals as goal
use Rattle.lease_core.proofs.leases.Leases.ask.Goals.{then-len-from, else-len-from}

pub returns-then-is_held_at_once-clause-lawful : goal.returns-then-is_held_at_once-clause-lawful
returns-then-is_held_at_once-clause-lawful c =
    elim c.if-len-from.branch [
      | then-len-from w ↦ kept_held _ _ _ _ _ _ _ _ c.self.invariant.lawful (omega arith) (grind (arith, nat_tests)) c.push_reserved.ensures.items refl (omega arith)
      | else-len-from w ↦ let below : c.len-2.result < c.from.result = ltb-true _ _ (sym w.is_held_at_once-is ∙ c.if-is_held_at_once.true) in absurd (omega arith)
    ]

pub invariant_of-self : goal.invariant_of-self
invariant_of-self c = record { held = omega arith; waiting = c.self.invariant.waiting; lawful = returns-then-is_held_at_once-clause-lawful c }

pub returns-clause-lawful : goal.returns-clause-lawful
returns-clause-lawful c = kept_waiting _ _ _ _ _ _ _ _ c.self.invariant.lawful (omega arith) c.push_reserved-2.ensures.items refl (omega arith)

pub invariant_of-self-2 : goal.invariant_of-self-2
invariant_of-self-2 c = record { held = c.self.invariant.held; waiting = omega arith; lawful = returns-clause-lawful c }
