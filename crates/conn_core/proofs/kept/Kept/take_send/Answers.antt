use Rattle.std.proofs.Common.{◌∙◌, sym, subst, refl, arith}
use Rattle.std.proofs.lemmas.Result.{err_from_is_err_and}
use Rattle.conn_core.specs.Journals.{table_of}
use Rattle.conn_core.specs.Steps.{take_send}
use Rattle.conn_core.specs.declared.answers.Sending.{Sending}
use Rattle.conn_core.specs.declared.entries.Answer.TheVariants as answers
use Rattle.conn_core.specs.declared.entries.Entry.{Entry}
use Rattle.conn_core.specs.declared.entries.Event.TheVariants as events
use Rattle.conn_core.specs.declared.kept.Kept.{Kept}
use Rattle.conn_core.specs.declared.settings.Settings.{Settings}
use Rattle.conn_core.proofs.DoesLemmas.{Written}
use Rattle.conn_core.proofs.MoveDoes.{moves_err, moves_ok, open_send}
use Rattle.conn_core.proofs.kept.Kept.take_send.Goals as goal

pub write_down-requires : goal.write_down-requires
write_down-requires c =
    let state = c.requires.2 in
    let room = state.room in
    let needs = c.in_ok-sending.ensures.needs in
    omega arith

pub returns-in_err-sending : goal.returns-in_err-sending
returns-in_err-sending c = λ conn same state.
    let p = err_from_is_err_and c.from_residual.result c.from_residual.ensures.1 in
    let old : Kept = c.args.self.now in
    let new : Kept = record old { table = c.send.new.self } in
    let t = table_of conn old.journal.items in
    let moved = c.in_err-sending.ensures.moved old.journal.items t state.stands in
    rw (p.1, p.2) (moves_err conn c.args.actor events.TakeSend (λ (s : Sending). answers.Sent s.id) (take_send t) old new c.in_err-sending.field-0.0 state refl moved.answer refl c.in_err-sending.ensures.unchanged (omega arith))

pub returns : goal.returns
returns c = λ conn same state.
    let old : Kept = c.args.self.now in
    let k = c.send.new.self in
    let t = table_of conn old.journal.items in
    let sending = c.in_ok-sending.sending in
    let e : Entry = record { actor = c.args.actor; event = events.TakeSend; answer = answers.Sent sending.id } in
    let P : Settings → Type 0 = λ s. Written s old c.write_down.new.self k e in
    let written = subst P (sym same) (record { journal = c.write_down.ensures.journal; table = c.write_down.ensures.table }) in
    let moved = c.in_ok-sending.ensures.moved old.journal.items t state.stands in
    let unclosed = state.stands.closed ∙ open_send t sending (sym moved.answer) in
    let room = state.room in
    let needs = c.in_ok-sending.ensures.needs in
    let wide = c.write_down.ensures.capacity in
    moves_ok conn c.args.actor events.TakeSend (λ (s : Sending). answers.Sent s.id) (take_send t) old c.write_down.new.self k sending state unclosed refl refl tt tt (c.in_ok-sending.ensures.closed ∙ unclosed, written) moved.answer moved.stands c.in_ok-sending.ensures.kept (omega arith)
