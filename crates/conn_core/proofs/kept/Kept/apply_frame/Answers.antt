use Rattle.std.proofs.Common.{◌≡◌, ◌∙◌, Ok, Err, sym, ap, subst, arith, length}
use Rattle.std.proofs.lemmas.Result.{err_from_is_err_and}
use Rattle.conn_core.specs.Journals.{table_of}
use Rattle.conn_core.specs.KeptMoves.{KeepsOn}
use Rattle.conn_core.specs.Steps.{frame_entry}
use Rattle.conn_core.specs.Tables.{Connection}
use Rattle.conn_core.specs.declared.answers.FrameAnswer.{FrameAnswer}
use Rattle.conn_core.specs.declared.answers.FrameRefusal.TheVariants as frame_refusals
use Rattle.conn_core.specs.declared.entries.Entry.{Entry}
use Rattle.conn_core.specs.declared.entries.Event.TheVariants as events
use Rattle.conn_core.specs.declared.kept.Kept.{Kept}
use Rattle.conn_core.specs.declared.table.KeptTable.{KeptTable}
use Rattle.conn_core.proofs.DoesLemmas.{Written, stays_put}
use Rattle.conn_core.proofs.MoveDoes.{both_stands, frame_does, frame_err, moved_at, no_memory_does}
use Rattle.conn_core.proofs.SoundLemmas.{state_sound}
use Rattle.conn_core.proofs.kept.Kept.apply_frame.Goals as goal

pub reserve-requires : goal.reserve-requires
reserve-requires g c =
    let conn : Connection = record { wire = g.W.Wire.meaning c.args.wire.now; settings = c.args.settings.now } in
    state_sound conn c.args.self.now c.requires

pub returns-in_err-reserve : goal.returns-in_err-reserve
returns-in_err-reserve g c = λ state.
    let conn : Connection = record { wire = g.W.Wire.meaning c.args.wire.now; settings = c.args.settings.now } in
    let old : Kept = c.args.self.now in
    let new : Kept = c.reserve.new.self in
    let p = err_from_is_err_and c.from_residual.result c.from_residual.ensures.1 in
    let next = stays_put conn old new state c.reserve.ensures.journal c.reserve.ensures.table c.reserve.ensures.capacity in
    rw (p.1, p.2) (no_memory_does frame_refusals.NoMemory conn c.args.actor (events.Frame c.args.frame) _ old new state next c.reserve.ensures.journal)

pub returns-in_err-answer : goal.returns-in_err-answer
returns-in_err-answer g c = λ state.
    let conn : Connection = record { wire = g.W.Wire.meaning c.args.wire.now; settings = c.args.settings.now } in
    let old : Kept = c.args.self.now in
    let ready : Kept = c.reserve.new.self in
    let k : KeptTable = c.receive.new.self in
    let new : Kept = record ready { table = k } in
    let t = table_of conn old.journal.items in
    let p = err_from_is_err_and c.from_residual-in_err-answer.result c.from_residual-in_err-answer.ensures.1 in
    let refusal = c.in_err-answer.field-0.0 in
    let journal : c.as_slice.result.now ≡ old.journal.items = c.as_slice.ensures.value ∙ c.reserve.ensures.journal in
    let stands = both_stands old.journal.items c.as_slice.result.now old.table ready.table t journal c.reserve.ensures.table state.stands in
    let moved = moved_at frame_refusals.NoMemory old.journal.items c.as_slice.result.now k t conn.wire c.args.frame c.as_slice-2.result.now (Err refusal) journal c.as_slice-2.ensures (c.in_err-answer.ensures.moved t stands) in
    let next = stays_put conn old new state c.reserve.ensures.journal (c.in_err-answer.ensures.unchanged ∙ c.reserve.ensures.table) c.reserve.ensures.capacity in
    rw (p.1, p.2) (frame_err conn c.args.actor c.args.frame old new k refusal state next c.reserve.ensures.journal moved)

pub returns : goal.returns
returns g c = λ state.
    let conn : Connection = record { wire = g.W.Wire.meaning c.args.wire.now; settings = c.args.settings.now } in
    let old : Kept = c.args.self.now in
    let ready : Kept = c.reserve.new.self in
    let new : Kept = c.write_down.new.self in
    let k : KeptTable = c.receive.new.self in
    let t = table_of conn old.journal.items in
    let answer : FrameAnswer = c.in_ok-answer.answer in
    let journal : c.as_slice.result.now ≡ old.journal.items = c.as_slice.ensures.value ∙ c.reserve.ensures.journal in
    let stands = both_stands old.journal.items c.as_slice.result.now old.table ready.table t journal c.reserve.ensures.table state.stands in
    let moved = moved_at frame_refusals.NoMemory old.journal.items c.as_slice.result.now k t conn.wire c.args.frame c.as_slice-2.result.now (Ok answer) journal c.as_slice-2.ensures (c.in_ok-answer.ensures.moved t stands) in
    let unclosed = ap (λ (x : KeptTable). x.closed) (sym c.reserve.ensures.table) ∙ c.in_ok-answer.ensures.unclosed in
    let P : KeptTable → Type 0 = λ x. KeepsOn x k in
    let keeps = subst P c.reserve.ensures.table c.in_ok-answer.ensures.kept in
    let e : Entry = record { actor = c.args.actor; event = events.Frame c.args.frame; answer = frame_entry answer } in
    let written : Written conn.settings old new k e = record {
      journal = rw (c.reserve.ensures.journal, c.write_received.ensures) at c.write_down.ensures.journal;
      table = rw c.reserve.ensures.journal at c.write_down.ensures.table;
    } in
    let long = ap (length {A = Entry}) c.reserve.ensures.journal in
    let room = c.in_ok-reserve.ensures.room in
    let needs = c.in_ok-answer.ensures.needs in
    let wide = c.write_down.ensures.capacity in
    frame_does conn c.args.actor c.args.frame old new k answer state unclosed moved (c.in_ok-answer.ensures.closed, written) keeps (omega arith)
