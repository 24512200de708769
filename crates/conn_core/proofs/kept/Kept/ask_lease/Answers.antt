use Rattle.std.proofs.Common.{◌∙◌, length, sym, ap, subst, arith}
use Rattle.std.proofs.lemmas.Result.{err_from_is_err_and}
use Rattle.conn_core.specs.KeptSteps.{asked_kept}
use Rattle.conn_core.specs.KeptStates.{needs_of}
use Rattle.conn_core.specs.declared.entries.Entry.{Entry}
use Rattle.conn_core.specs.declared.entries.Event.TheVariants as events
use Rattle.conn_core.specs.declared.kept.Kept.{Kept}
use Rattle.conn_core.specs.Steps.{asked_entry}
use Rattle.conn_core.specs.declared.settings.Settings.{Settings}
use Rattle.conn_core.proofs.DoesLemmas.{Written, ask_err, ask_no_memory, ask_ok}
use Rattle.conn_core.proofs.NeedStates.{asked_needs}
use Rattle.conn_core.proofs.kept.Kept.ask_lease.Goals as goal

pub returns-in_err-reserve : goal.returns-in_err-reserve
returns-in_err-reserve c = λ conn same state.
    let p = err_from_is_err_and c.from_residual.result c.from_residual.ensures.1 in
    rw (p.1, p.2) (ask_no_memory conn c.args.actor c.args.now c.args.self.now c.reserve.new.self state c.reserve.ensures.journal c.reserve.ensures.table c.reserve.ensures.capacity)

pub returns-in_err-answer : goal.returns-in_err-answer
returns-in_err-answer c = λ conn same state.
    let p = err_from_is_err_and c.from_residual-in_err-answer.result c.from_residual-in_err-answer.ensures.1 in
    let new : Kept = record c.reserve.new.self { table = c.ask.new.self } in
    let told = rw c.reserve.ensures.table at (sym c.ask.ensures.answer ∙ c.in_err-answer.was) in
    rw (p.1, p.2) (ask_err conn c.args.actor c.args.now c.args.self.now new c.in_err-answer.field-0.0 state told c.reserve.ensures.journal (c.in_err-answer.ensures.unchanged ∙ c.reserve.ensures.table) c.reserve.ensures.capacity)

pub write_down-requires : goal.write_down-requires
write_down-requires c =
    let more = asked_needs c.args.actor c.args.now c.reserve.new.self.table in
    let room = c.in_ok-reserve.ensures.room in
    rw c.in_ok-answer.ensures.table (omega arith)

pub returns : goal.returns
returns c = λ conn same state.
    let k = asked_kept c.args.actor c.args.now c.args.self.now.table in
    let is = c.in_ok-answer.ensures.table ∙ ap (asked_kept c.args.actor c.args.now) c.reserve.ensures.table in
    let e : Entry = record { actor = c.args.actor; event = events.AskLease c.args.now; answer = asked_entry c.in_ok-answer.answer } in
    let P : Settings → Type 0 = λ s. Written s c.args.self.now c.write_down.new.self k e in
    let written = subst P (sym same) (record { journal = rw (is, c.reserve.ensures.journal, c.write_asked.ensures) at c.write_down.ensures.journal; table = rw (is, c.reserve.ensures.journal) at c.write_down.ensures.table }) in
    let more = asked_needs c.args.actor c.args.now c.args.self.now.table in
    let needs = ap needs_of c.reserve.ensures.table in
    let long = ap (length {A = Entry}) c.reserve.ensures.journal in
    let room = c.in_ok-reserve.ensures.room in
    let wide = c.write_down.ensures.capacity in
    let told = rw c.reserve.ensures.table at (sym c.ask.ensures.answer ∙ c.in_ok-answer.was) in
    ask_ok conn c.args.actor c.args.now c.args.self.now c.write_down.new.self c.in_ok-answer.answer state told (rw is at c.in_ok-answer.ensures.lawful) written (omega arith)
