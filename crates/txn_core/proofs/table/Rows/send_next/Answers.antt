use Rattle.std.proofs.Common.{◌<◌, count_by, ap, arith, refl, None, Some}
use Rattle.txn_core.specs.FirstPlaces.{IsPlace, fails_find}
use Rattle.txn_core.specs.KeptRows.{rows_of, table_of}
use Rattle.txn_core.specs.RowTables.{Row, is_queued, is_sent}
use Rattle.txn_core.proofs.KeptLemmas.{kept_by, place_in, sends, sends_next, sends_none, sound_by}
use Rattle.txn_core.proofs.KeptSteps.{here}
use Rattle.txn_core.proofs.table.Rows.send_next.Goals as goal

pub invariant_of-self : goal.invariant_of-self
invariant_of-self g c =
    let a = c.self.inside in
    let k = c.index_mut-row.result.now in
    let at = c.in_ok-at.at in
    let first : IsPlace is_queued (rows_of a.rows.items) (Some at) = place_in is_queued c.deref-2.result.now a.rows.items (Some at) c.deref-2.ensures.value c.in_ok-at.ensures in
    kept_by _ _ (sends a at first.0 k c.self.invariant first.1 c.index_mut-row.ensures.value) c.self.invariant.room c.self.invariant.free_room

pub returns-clause-table : goal.returns-clause-table
returns-clause-table g c =
    let a = c.self.inside in
    let k = c.index_mut-row.result.now in
    let at = c.in_ok-at.at in
    let first : IsPlace is_queued (rows_of a.rows.items) (Some at) = place_in is_queued c.deref-2.result.now a.rows.items (Some at) c.deref-2.ensures.value c.in_ok-at.ensures in
    sound_by _ _ _ (sends a at first.0 k c.self.invariant first.1 c.index_mut-row.ensures.value)

pub returns-clause-answer : goal.returns-clause-answer
returns-clause-answer g c =
    let a = c.self.inside in
    let k = c.index_mut-row.result.now in
    let at = c.in_ok-at.at in
    let first : IsPlace is_queued (rows_of a.rows.items) (Some at) = place_in is_queued c.deref-2.result.now a.rows.items (Some at) c.deref-2.ensures.value c.in_ok-at.ensures in
    let few : count_by is_sent (rows_of a.rows.items) < a.window = let same = ap (λ rows. count_by is_sent (rows_of rows)) c.deref.ensures.value in omega (arith, same) in
    rw (← c.self.view_is, sends_next (table_of a) at first.0 first.1 few) (ap (λ (row : Row _ _). Some row.id) (here is_queued a.rows.items at first.0 k first.1 c.index_mut-row.ensures.value))

pub returns-clause-rows : goal.returns-clause-rows
returns-clause-rows g c =
    let a = c.self.inside in
    let k = c.index_mut-row.result.now in
    let at = c.in_ok-at.at in
    let first : IsPlace is_queued (rows_of a.rows.items) (Some at) = place_in is_queued c.deref-2.result.now a.rows.items (Some at) c.deref-2.ensures.value c.in_ok-at.ensures in
    let few : count_by is_sent (rows_of a.rows.items) < a.window = let same = ap (λ rows. count_by is_sent (rows_of rows)) c.deref.ensures.value in omega (arith, same) in
    rw (← c.self.view_is, sends_next (table_of a) at first.0 first.1 few) (sends a at first.0 k c.self.invariant first.1 c.index_mut-row.ensures.value).same

pub returns-in_err-at-clause-answer : goal.returns-in_err-at-clause-answer
returns-in_err-at-clause-answer g c =
    let a = c.self.inside in
    let none : IsPlace is_queued (rows_of a.rows.items) None = place_in is_queued c.deref-2.result.now a.rows.items None c.deref-2.ensures.value c.in_err-at.ensures in
    rw (← c.self.view_is, sends_none (table_of a) (fails_find is_queued (rows_of a.rows.items) none)) c.from_residual.ensures

pub returns-in_err-at-clause-rows : goal.returns-in_err-at-clause-rows
returns-in_err-at-clause-rows g c =
    let a = c.self.inside in
    let none : IsPlace is_queued (rows_of a.rows.items) None = place_in is_queued c.deref-2.result.now a.rows.items None c.deref-2.ensures.value c.in_err-at.ensures in
    rw (← c.self.view_is, sends_none (table_of a) (fails_find is_queued (rows_of a.rows.items) none)) refl
