use Rattle.std.proofs.Common.{◌∙◌, sym, subst, refl, arith}
use Rattle.std.proofs.lemmas.Result.{err_from_is_err_and}
use Rattle.conn_core.specs.KeptSteps.{released_kept}
use Rattle.conn_core.specs.declared.entries.Answer.TheVariants as answers
use Rattle.conn_core.specs.declared.entries.Entry.{Entry}
use Rattle.conn_core.specs.declared.entries.Event.TheVariants as events
use Rattle.conn_core.specs.declared.kept.Kept.{Kept}
use Rattle.conn_core.specs.declared.settings.Settings.{Settings}
use Rattle.conn_core.proofs.DoesLemmas.{Written, release_err, release_ok}
use Rattle.conn_core.proofs.NeedStates.{released_needs}
use Rattle.conn_core.proofs.kept.Kept.release.Goals as goal

pub returns-in_err-release : goal.returns-in_err-release
returns-in_err-release c = λ conn same state.
    let p = err_from_is_err_and c.from_residual.result c.from_residual.ensures.1 in
    let new : Kept = record c.args.self.now { table = c.release.new.self } in
    rw (p.1, p.2) (release_err conn c.args.actor c.args.lease c.args.now c.args.self.now new c.in_err-release.field-0.0 state (sym c.release.ensures.answer ∙ c.in_err-release.was) refl c.in_err-release.ensures.unchanged (omega arith))

pub write_down-requires : goal.write_down-requires
write_down-requires c =
    let less = released_needs c.args.lease c.args.now c.args.self.now.table c.in_ok-release.ensures.known in
    let room = c.requires.room in
    rw c.in_ok-release.ensures.table (omega arith)

pub returns : goal.returns
returns c = λ conn same state.
    let k = released_kept c.args.lease c.args.now c.args.self.now.table in
    let is = c.in_ok-release.ensures.table in
    let e : Entry = record { actor = c.args.actor; event = events.Release c.args.lease c.args.now; answer = answers.Released } in
    let P : Settings → Type 0 = λ s. Written s c.args.self.now c.write_down.new.self k e in
    let written = subst P (sym same) (record { journal = rw is at c.write_down.ensures.journal; table = rw is at c.write_down.ensures.table }) in
    let less = released_needs c.args.lease c.args.now c.args.self.now.table c.in_ok-release.ensures.known in
    let room = c.requires.room in
    let wide = c.write_down.ensures.capacity in
    release_ok conn c.args.actor c.args.lease c.args.now c.args.self.now c.write_down.new.self state (sym c.release.ensures.answer ∙ c.in_ok-release.was) (rw is at c.in_ok-release.ensures.rows) (rw is at c.in_ok-release.ensures.lawful) written (omega arith)
