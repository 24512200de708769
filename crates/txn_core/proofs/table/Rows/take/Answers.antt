use Rattle.std.proofs.Common.{◌≡◌, ◌≤◌, None, Err, Some, ap, arith, rules, subst, sym, ◌∙◌}
use Rattle.std.specs.Vec.{vec_capacity}
use Rattle.txn_core.specs.FirstPlaces.{IsPlace}
use Rattle.txn_core.specs.KeptRows.{rows_of, table_of}
use Rattle.txn_core.specs.RowSteps.{answer_of, table_or, taken_from}
use Rattle.txn_core.specs.RowTables.{is_row_of, phase_ended, rows_limit}
use Rattle.txn_core.specs.declared.phases.TakeRefusal.TheVariants as take_refusals
use Rattle.txn_core.proofs.KeptLemmas.{kept_by, no_phase, pending, phase_at, place_in, sound_by, takes}
use Rattle.txn_core.proofs.table.Rows.take.Goals as goal

pub invariant_of-self : goal.invariant_of-self
invariant_of-self g c =
    let a = c.self.inside in
    let p = is_row_of c.args.owner c.args.id in
    let at = c.in_ok-at.at in
    let placed : c.place_of.result ≡ Some at = search rules in
    let first : IsPlace p (rows_of a.rows.items) (Some at) = place_in p c.deref.result.now a.rows.items (Some at) c.deref.ensures.value (subst (IsPlace p (rows_of c.deref.result.now)) placed c.place_of.ensures) in
    let room : rows_limit ≤ vec_capacity c.remove.new.self = let was = c.self.invariant.room in omega arith in
    kept_by _ _ (takes a c.args.owner c.args.id at first.0 c.index.result.now _ c.self.invariant first.1 c.index.ensures (ap phase_ended c.in-Ended.is) c.remove.ensures.items) room c.self.invariant.free_room

pub returns-in-Ended-clause-table : goal.returns-in-Ended-clause-table
returns-in-Ended-clause-table g c =
    let a = c.self.inside in
    let p = is_row_of c.args.owner c.args.id in
    let at = c.in_ok-at.at in
    let placed : c.place_of.result ≡ Some at = search rules in
    let first : IsPlace p (rows_of a.rows.items) (Some at) = place_in p c.deref.result.now a.rows.items (Some at) c.deref.ensures.value (subst (IsPlace p (rows_of c.deref.result.now)) placed c.place_of.ensures) in
    sound_by _ _ _ (takes a c.args.owner c.args.id at first.0 c.index.result.now _ c.self.invariant first.1 c.index.ensures (ap phase_ended c.in-Ended.is) c.remove.ensures.items)

pub returns-in-Ended-clause-answer : goal.returns-in-Ended-clause-answer
returns-in-Ended-clause-answer g c =
    let a = c.self.inside in
    let p = is_row_of c.args.owner c.args.id in
    let at = c.in_ok-at.at in
    let placed : c.place_of.result ≡ Some at = search rules in
    let first : IsPlace p (rows_of a.rows.items) (Some at) = place_in p c.deref.result.now a.rows.items (Some at) c.deref.ensures.value (subst (IsPlace p (rows_of c.deref.result.now)) placed c.place_of.ensures) in
    let phase = phase_at a c.args.owner c.args.id at first.0 c.index.result.now first.1 c.index.ensures ∙ ap Some c.in-Ended.is in
    rw (← c.self.view_is) (sym (ap (λ o. answer_of (taken_from c.args.owner c.args.id (table_of a) o)) phase))

pub returns-in-Ended-clause-rows : goal.returns-in-Ended-clause-rows
returns-in-Ended-clause-rows g c =
    let a = c.self.inside in
    let p = is_row_of c.args.owner c.args.id in
    let at = c.in_ok-at.at in
    let placed : c.place_of.result ≡ Some at = search rules in
    let first : IsPlace p (rows_of a.rows.items) (Some at) = place_in p c.deref.result.now a.rows.items (Some at) c.deref.ensures.value (subst (IsPlace p (rows_of c.deref.result.now)) placed c.place_of.ensures) in
    let phase = phase_at a c.args.owner c.args.id at first.0 c.index.result.now first.1 c.index.ensures ∙ ap Some c.in-Ended.is in
    rw (← c.self.view_is) ((takes a c.args.owner c.args.id at first.0 c.index.result.now _ c.self.invariant first.1 c.index.ensures (ap phase_ended c.in-Ended.is) c.remove.ensures.items).same ∙ sym (ap (λ o. table_or (table_of a) (taken_from c.args.owner c.args.id (table_of a) o)) phase))

pub returns-in-Queued : goal.returns-in-Queued
returns-in-Queued g c =
    let a = c.self.inside in
    let p = is_row_of c.args.owner c.args.id in
    let at = c.in_ok-at.at in
    let placed : c.place_of.result ≡ Some at = search rules in
    let first : IsPlace p (rows_of a.rows.items) (Some at) = place_in p c.deref.result.now a.rows.items (Some at) c.deref.ensures.value (subst (IsPlace p (rows_of c.deref.result.now)) placed c.place_of.ensures) in
    let refused = pending (table_of a) c.args.owner c.args.id c.index.result.now.phase (phase_at a c.args.owner c.args.id at first.0 c.index.result.now first.1 c.index.ensures) c.in-Queued.is in
    rw (← c.self.view_is) (record { answer = sym refused.0; rows = sym refused.1; table = c.self.invariant.table })

pub returns-in_err-at-clause-answer : goal.returns-in_err-at-clause-answer
returns-in_err-at-clause-answer g c =
    let a = c.self.inside in
    let p = is_row_of c.args.owner c.args.id in
    let missing : c.place_of.result ≡ None = search rules in
    let none : IsPlace p (rows_of a.rows.items) None = place_in p c.deref.result.now a.rows.items None c.deref.ensures.value (subst (IsPlace p (rows_of c.deref.result.now)) missing c.place_of.ensures) in
    let phase = no_phase (table_of a) c.args.owner c.args.id none in
    let refused : c.from_residual.result ≡ Err take_refusals.NoRequest = search rules in
    rw (← c.self.view_is) (refused ∙ sym (ap (λ o. answer_of (taken_from c.args.owner c.args.id (table_of a) o)) phase))

pub returns-in_err-at-clause-rows : goal.returns-in_err-at-clause-rows
returns-in_err-at-clause-rows g c =
    let a = c.self.inside in
    let p = is_row_of c.args.owner c.args.id in
    let missing : c.place_of.result ≡ None = search rules in
    let none : IsPlace p (rows_of a.rows.items) None = place_in p c.deref.result.now a.rows.items None c.deref.ensures.value (subst (IsPlace p (rows_of c.deref.result.now)) missing c.place_of.ensures) in
    let phase = no_phase (table_of a) c.args.owner c.args.id none in
    rw (← c.self.view_is) (sym (ap (λ o. table_or (table_of a) (taken_from c.args.owner c.args.id (table_of a) o)) phase))
