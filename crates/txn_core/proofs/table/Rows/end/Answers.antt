use Rattle.std.proofs.Common.{◌≡◌, ◌<◌, ◌≤◌, true, Some, arith, ap, rules, set, subst, sym, ◌∙◌}
use Rattle.std.specs.VecDeque.{deque_capacity, deque_len}
use Rattle.txn_core.specs.FirstPlaces.{IsPlace}
use Rattle.txn_core.specs.KeptRows.{row_of, rows_of, table_of}
use Rattle.txn_core.specs.RowSteps.{ended}
use Rattle.txn_core.specs.RowTables.{has_id, has_live, is_live_and, is_sent}
use Rattle.txn_core.proofs.KeptLemmas.{ends_mark, ends_other, ends_room, ends_sent, kept_by, ok_items, place_in, place_of_live, sound_by, unanswered}
use Rattle.txn_core.proofs.table.Rows.end.Goals as goal

pub unwrap-at-requires : goal.unwrap-at-requires
unwrap-at-requires g c =
    let a = c.self.inside in
    let p = is_live_and (has_id c.args.id) in
    let live : has_live c.args.id (table_of a) ≡ true = subst (λ t. has_live c.args.id t ≡ true) (sym c.self.view_is) c.requires.live in
    place_of_live c.args.id (table_of a) c.place_live.result live (place_in p c.deref.result.now a.rows.items c.place_live.result c.deref.ensures.value c.place_live.ensures)

pub index_mut-requires : goal.index_mut-requires
index_mut-requires g c =
    let a = c.self.inside in
    let k = c.index_mut-row.result.now in
    let at = c.unwrap-at.result in
    let p = is_live_and (has_id c.args.id) in
    let first : IsPlace p (rows_of a.rows.items) (Some at) = place_in p c.deref.result.now a.rows.items (Some at) c.deref.ensures.value (subst (IsPlace p (rows_of c.deref.result.now)) c.unwrap-at.ensures c.place_live.ensures) in
    let low = ends_mark a c.args.id at first.0 k c.self.invariant first.1 c.index_mut-row.ensures.value in
    let len = a.quarantined.ok.0 in
    let same = c.from.ensures in omega arith

pub invariant_of-self : goal.invariant_of-self
invariant_of-self g c =
    let a = c.self.inside in
    let k = c.index_mut-row.result.now in
    let at = c.unwrap-at.result in
    let p = is_live_and (has_id c.args.id) in
    let first : IsPlace p (rows_of a.rows.items) (Some at) = place_in p c.deref.result.now a.rows.items (Some at) c.deref.ensures.value (subst (IsPlace p (rows_of c.deref.result.now)) c.unwrap-at.ensures c.place_live.ensures) in
    let both = unanswered c.args.answered (is_sent (row_of k)) (sym c.stays_out-stays_out.ensures ∙ c.if-stays_out.true) in
    kept_by _ _ (ends_sent a c.args.id c.args.kind at first.0 k _ c.self.invariant first.1 c.index_mut-row.ensures.value both.1 (ap (λ r. set a.quarantined.items r true) c.from.ensures)) c.self.invariant.room c.self.invariant.free_room

pub returns-then-stays_out-clause-table : goal.returns-then-stays_out-clause-table
returns-then-stays_out-clause-table g c =
    let a = c.self.inside in
    let k = c.index_mut-row.result.now in
    let at = c.unwrap-at.result in
    let p = is_live_and (has_id c.args.id) in
    let first : IsPlace p (rows_of a.rows.items) (Some at) = place_in p c.deref.result.now a.rows.items (Some at) c.deref.ensures.value (subst (IsPlace p (rows_of c.deref.result.now)) c.unwrap-at.ensures c.place_live.ensures) in
    let both = unanswered c.args.answered (is_sent (row_of k)) (sym c.stays_out-stays_out.ensures ∙ c.if-stays_out.true) in
    sound_by _ _ _ (ends_sent a c.args.id c.args.kind at first.0 k _ c.self.invariant first.1 c.index_mut-row.ensures.value both.1 (ap (λ r. set a.quarantined.items r true) c.from.ensures))

pub returns-then-stays_out-clause-rows : goal.returns-then-stays_out-clause-rows
returns-then-stays_out-clause-rows g c =
    let a = c.self.inside in
    let k = c.index_mut-row.result.now in
    let at = c.unwrap-at.result in
    let p = is_live_and (has_id c.args.id) in
    let first : IsPlace p (rows_of a.rows.items) (Some at) = place_in p c.deref.result.now a.rows.items (Some at) c.deref.ensures.value (subst (IsPlace p (rows_of c.deref.result.now)) c.unwrap-at.ensures c.place_live.ensures) in
    let both = unanswered c.args.answered (is_sent (row_of k)) (sym c.stays_out-stays_out.ensures ∙ c.if-stays_out.true) in
    rw (← c.self.view_is) ((ends_sent a c.args.id c.args.kind at first.0 k _ c.self.invariant first.1 c.index_mut-row.ensures.value both.1 (ap (λ r. set a.quarantined.items r true) c.from.ensures)).same ∙ ap (λ b. ended c.args.id b c.args.kind (table_of a)) (sym both.0))

pub unwrap-requires : goal.unwrap-requires
unwrap-requires g c =
    let a = c.self.inside in
    let k = c.index_mut-row.result.now in
    let at = c.unwrap-at.result in
    let p = is_live_and (has_id c.args.id) in
    let first : IsPlace p (rows_of a.rows.items) (Some at) = place_in p c.deref.result.now a.rows.items (Some at) c.deref.ensures.value (subst (IsPlace p (rows_of c.deref.result.now)) c.unwrap-at.ensures c.place_live.ensures) in
    let room = ends_room a c.args.id at first.0 c.self.invariant first.1 in
    let len = a.free.ok.0 in
    let fewer : deque_len a.free < deque_capacity a.free = omega arith in search rules

pub invariant_of-self-else-stays_out : goal.invariant_of-self-else-stays_out
invariant_of-self-else-stays_out g c =
    let a = c.self.inside in
    let k = c.index_mut-row.result.now in
    let at = c.unwrap-at.result in
    let p = is_live_and (has_id c.args.id) in
    let first : IsPlace p (rows_of a.rows.items) (Some at) = place_in p c.deref.result.now a.rows.items (Some at) c.deref.ensures.value (subst (IsPlace p (rows_of c.deref.result.now)) c.unwrap-at.ensures c.place_live.ensures) in
    let stays = sym c.stays_out-stays_out.ensures ∙ c.if-stays_out.false in
    let pushed = ok_items c.push_back.result _ _ _ c.unwrap.result c.push_back.ensures.items c.unwrap.ensures in
    let room : a.references ≤ deque_capacity c.push_back.new.self = let was = c.self.invariant.free_room in omega arith in
    kept_by _ _ (ends_other a c.args.id c.args.answered c.args.kind at first.0 k _ c.self.invariant first.1 c.index_mut-row.ensures.value stays pushed) c.self.invariant.room room

pub returns-else-stays_out-clause-table : goal.returns-else-stays_out-clause-table
returns-else-stays_out-clause-table g c =
    let a = c.self.inside in
    let k = c.index_mut-row.result.now in
    let at = c.unwrap-at.result in
    let p = is_live_and (has_id c.args.id) in
    let first : IsPlace p (rows_of a.rows.items) (Some at) = place_in p c.deref.result.now a.rows.items (Some at) c.deref.ensures.value (subst (IsPlace p (rows_of c.deref.result.now)) c.unwrap-at.ensures c.place_live.ensures) in
    let stays = sym c.stays_out-stays_out.ensures ∙ c.if-stays_out.false in
    let pushed = ok_items c.push_back.result _ _ _ c.unwrap.result c.push_back.ensures.items c.unwrap.ensures in
    sound_by _ _ _ (ends_other a c.args.id c.args.answered c.args.kind at first.0 k _ c.self.invariant first.1 c.index_mut-row.ensures.value stays pushed)

pub returns-else-stays_out-clause-rows : goal.returns-else-stays_out-clause-rows
returns-else-stays_out-clause-rows g c =
    let a = c.self.inside in
    let k = c.index_mut-row.result.now in
    let at = c.unwrap-at.result in
    let p = is_live_and (has_id c.args.id) in
    let first : IsPlace p (rows_of a.rows.items) (Some at) = place_in p c.deref.result.now a.rows.items (Some at) c.deref.ensures.value (subst (IsPlace p (rows_of c.deref.result.now)) c.unwrap-at.ensures c.place_live.ensures) in
    let stays = sym c.stays_out-stays_out.ensures ∙ c.if-stays_out.false in
    let pushed = ok_items c.push_back.result _ _ _ c.unwrap.result c.push_back.ensures.items c.unwrap.ensures in
    rw (← c.self.view_is) (ends_other a c.args.id c.args.answered c.args.kind at first.0 k _ c.self.invariant first.1 c.index_mut-row.ensures.value stays pushed).same
