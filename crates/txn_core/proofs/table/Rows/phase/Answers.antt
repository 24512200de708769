use Rattle.std.proofs.Common.{None, Some, sym}
use Rattle.txn_core.specs.FirstPlaces.{IsPlace}
use Rattle.txn_core.specs.KeptRows.{rows_of, table_of}
use Rattle.txn_core.specs.RowEnds.{phase_is_live}
use Rattle.txn_core.specs.RowTables.{is_row_of}
use Rattle.txn_core.proofs.KeptLemmas.{no_phase, phase_at, place_in}
use Rattle.txn_core.proofs.table.Rows.phase.Goals as goal

pub returns-clause-answer : goal.returns-clause-answer
returns-clause-answer g c =
    let a = c.self.inside in
    let p = is_row_of c.args.owner c.args.id in
    let first : IsPlace p (rows_of a.rows.items) (Some c.in_ok-at.at) = place_in p c.deref.result.now a.rows.items (Some c.in_ok-at.at) c.deref.ensures.value c.in_ok-at.ensures in
    rw (← c.self.view_is) (sym (phase_at a c.args.owner c.args.id c.in_ok-at.at first.0 c.index.result.now first.1 c.index.ensures))

pub returns-in_err-at-clause-answer : goal.returns-in_err-at-clause-answer
returns-in_err-at-clause-answer g c =
    let a = c.self.inside in
    let p = is_row_of c.args.owner c.args.id in
    let none : IsPlace p (rows_of a.rows.items) None = place_in p c.deref.result.now a.rows.items None c.deref.ensures.value c.in_err-at.ensures in
    rw (← c.self.view_is, no_phase (table_of a) c.args.owner c.args.id none) c.from_residual.ensures

pub returns-clause-live : goal.returns-clause-live
returns-clause-live g c =
    let a = c.self.inside in
    let p = is_row_of c.args.owner c.args.id in
    let first : IsPlace p (rows_of a.rows.items) (Some c.in_ok-at.at) = place_in p c.deref.result.now a.rows.items (Some c.in_ok-at.at) c.deref.ensures.value c.in_ok-at.ensures in
    rw (← c.self.view_is) (phase_is_live (table_of a) c.args.owner c.args.id c.index.result.now.phase (phase_at a c.args.owner c.args.id c.in_ok-at.at first.0 c.index.result.now first.1 c.index.ensures))
