use Rattle.std.proofs.Common.{◌∙◌, sym, subst, refl, arith}
use Rattle.std.proofs.lemmas.Result.{err_from_is_err_and}
use Rattle.conn_core.specs.KeptSteps.{cancelled_kept}
use Rattle.conn_core.specs.declared.entries.Answer.TheVariants as answers
use Rattle.conn_core.specs.declared.entries.Entry.{Entry}
use Rattle.conn_core.specs.declared.entries.Event.TheVariants as events
use Rattle.conn_core.specs.declared.kept.Kept.{Kept}
use Rattle.conn_core.specs.declared.settings.Settings.{Settings}
use Rattle.wire_frames.specs.declared.ends.EndKind.TheVariants as kinds
use Rattle.conn_core.proofs.DoesLemmas.{Written, cancel_err, cancel_ok}
use Rattle.conn_core.proofs.NeedStates.{cancelled_needs, live_some}
use Rattle.conn_core.proofs.kept.Kept.cancel.Goals as goal

pub returns-in_err-cancel : goal.returns-in_err-cancel
returns-in_err-cancel c = λ conn same state.
    let p = err_from_is_err_and c.from_residual.result c.from_residual.ensures.1 in
    let new : Kept = record c.args.self.now { table = c.cancel.new.self } in
    rw (p.1, p.2) (cancel_err conn c.args.actor c.args.id c.args.self.now new c.in_err-cancel.field-0.0 state (sym c.cancel.ensures.answer ∙ c.in_err-cancel.was) refl c.in_err-cancel.ensures.unchanged (omega arith))

pub write_down-requires : goal.write_down-requires
write_down-requires c =
    let less = cancelled_needs c.args.id c.args.self.now.table c.in_ok-cancel.ensures.live in
    let room = c.requires.room in
    rw c.in_ok-cancel.ensures.table (omega arith)

pub returns : goal.returns
returns c = λ conn same state.
    let k = cancelled_kept c.args.id c.args.self.now.table in
    let is = c.in_ok-cancel.ensures.table in
    let e : Entry = record { actor = c.args.actor; event = events.Cancel c.args.id; answer = answers.Cancelled } in
    let P : Settings → Type 0 = λ s. Written s c.args.self.now c.write_down.new.self k e in
    let written = subst P (sym same) (record { journal = rw is at c.write_down.ensures.journal; table = rw is at c.write_down.ensures.table }) in
    let less = cancelled_needs c.args.id c.args.self.now.table c.in_ok-cancel.ensures.live in
    let live = live_some c.args.id c.args.self.now.table.requests kinds.Cancelled c.in_ok-cancel.ensures.live in
    let room = c.requires.room in
    let wide = c.write_down.ensures.capacity in
    cancel_ok conn c.args.actor c.args.id c.args.self.now c.write_down.new.self state (sym c.cancel.ensures.answer ∙ c.in_ok-cancel.was) live (rw is at c.cancel.ensures.rows) written (omega arith)
