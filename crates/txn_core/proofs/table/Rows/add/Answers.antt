use Rattle.std.proofs.Common.{◌≡◌, ◌<◌, ◌≤◌, ◌-◌, ◌^◌, Some, arith, refl, rules, subst, sym, ◌∙◌}
use Rattle.std.specs.Vec.{vec_capacity}
use Rattle.std.specs.VecDeque.{deque_capacity}
use Rattle.txn_core.specs.RowSteps.{Draft}
use Rattle.txn_core.specs.RowTables.{RowTable, rows_limit}
use Rattle.txn_core.proofs.KeptLemmas.{adds, first_drawn, kept_by, not_full, ok_items, sound_by}
use Rattle.txn_core.proofs.table.Rows.add.Goals as goal

pub invariant_of-self-2 : goal.invariant_of-self-2
invariant_of-self-2 g c =
    let a = c.self.inside in
    let draft : Draft (Unit {0}) = record { owner = c.args.owner; lease = c.args.lease; deadline = c.args.deadline; what = tt } in
    let reference = c.in_ok-reference.reference in
    let drawn : c.pop_front.result ≡ Some reference = search rules in
    let first = first_drawn c.pop_front.result _ _ reference c.pop_front.ensures.items drawn in
    let few = subst (λ (t : RowTable (Unit {0}) _). t.drawn < 2 ^ 64 - 1) (sym c.self.view_is) c.requires in
    let room = c.if-len-eq-MAX_ROWS.false in
    let rows_room : rows_limit ≤ vec_capacity c.push.new.self = let was = c.self.invariant.room in omega arith in
    let free_room : a.references ≤ deque_capacity c.pop_front.new.self = omega arith in
    kept_by _ _ (adds a draft _ _ reference _ c.self.invariant (ok_items c.push.result _ _ _ c.unwrap.result c.push.ensures.items c.unwrap.ensures) refl first (not_full a (λ full. room (c.len.ensures ∙ full))) few) rows_room free_room

pub returns-clause-table : goal.returns-clause-table
returns-clause-table g c =
    let a = c.self.inside in
    let draft : Draft (Unit {0}) = record { owner = c.args.owner; lease = c.args.lease; deadline = c.args.deadline; what = tt } in
    let reference = c.in_ok-reference.reference in
    let drawn : c.pop_front.result ≡ Some reference = search rules in
    let first = first_drawn c.pop_front.result _ _ reference c.pop_front.ensures.items drawn in
    let few = subst (λ (t : RowTable (Unit {0}) _). t.drawn < 2 ^ 64 - 1) (sym c.self.view_is) c.requires in
    let room = c.if-len-eq-MAX_ROWS.false in
    sound_by _ _ _ (adds a draft _ _ reference _ c.self.invariant (ok_items c.push.result _ _ _ c.unwrap.result c.push.ensures.items c.unwrap.ensures) refl first (not_full a (λ full. room (c.len.ensures ∙ full))) few)
