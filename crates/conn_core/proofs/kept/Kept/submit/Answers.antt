use Rattle.std.proofs.Common.{◌≡◌, ◌∙◌, List, ℕ, Ok, Err, sym, ap, subst, arith, length}
use Rattle.std.proofs.lemmas.Result.{err_from_is_err_and}
use Rattle.conn_core.specs.Journals.{table_of}
use Rattle.conn_core.specs.KeptMoves.{Starts}
use Rattle.conn_core.specs.KeptStates.{IsKept, IsState}
use Rattle.conn_core.specs.Requests.{request_of, submitted_entry}
use Rattle.conn_core.specs.Tables.{Connection}
use Rattle.conn_core.specs.declared.answers.Accepted.{Accepted}
use Rattle.conn_core.specs.declared.entries.Entry.{Entry}
use Rattle.conn_core.specs.declared.kept.Kept.{Kept}
use Rattle.conn_core.specs.declared.table.KeptTable.{KeptTable}
use Rattle.conn_core.proofs.DoesLemmas.{Written}
use Rattle.conn_core.proofs.MoveDoes.{handed_stands, place_open, prepare_err, roomy_state, start_does, start_err}
use Rattle.conn_core.proofs.kept.Kept.submit.Goals as goal

pub returns-in_err-written : goal.returns-in_err-written
returns-in_err-written g c = λ state.
    let conn : Connection = record { wire = g.W.Wire.meaning c.args.wire.now; settings = c.args.settings.now } in
    let old : Kept = c.args.self.now in
    let new : Kept = c.prepare.new.self in
    let p = err_from_is_err_and c.from_residual.result c.from_residual.ensures.1 in
    let next = roomy_state conn old new c.prepare.ensures.journal c.prepare.ensures.table c.prepare.ensures.handed c.prepare.ensures.capacity state in
    rw (p.1, p.2) (prepare_err conn (request_of c.args.request) old new c.in_err-written.field-0.0 state next c.prepare.ensures.journal c.in_err-written.ensures.prepared)

pub returns-in_err-accepted : goal.returns-in_err-accepted
returns-in_err-accepted g c = λ state.
    let conn : Connection = record { wire = g.W.Wire.meaning c.args.wire.now; settings = c.args.settings.now } in
    let old : Kept = c.args.self.now in
    let ready : Kept = c.prepare.new.self in
    let new : Kept = record ready { table = c.start.new.self } in
    let q = request_of c.args.request in
    let t = table_of conn old.journal.items in
    let p = err_from_is_err_and c.from_residual-in_err-accepted.result c.from_residual-in_err-accepted.ensures.1 in
    let refusal = c.in_err-accepted.field-0.0 in
    let next = roomy_state conn old ready c.prepare.ensures.journal c.prepare.ensures.table c.prepare.ensures.handed c.prepare.ensures.capacity state in
    let P : KeptTable → Type 0 = λ x. (let k : Kept = record ready { table = x } in IsState conn k) in
    let after = subst P (sym c.in_err-accepted.ensures.unchanged) next in
    let stands = handed_stands old.journal.items old.table ready.table t c.prepare.ensures.table c.prepare.ensures.handed state.stands in
    let long = ap (length {A = Entry}) c.prepare.ensures.journal in
    let len = c.len-place.ensures in
    let placed : c.len-place.result ≡ length old.journal.items = omega arith in
    let frames = c.in_ok-written.field-0 in
    let Q : List ℕ → Type 0 = λ f. Starts old.journal.items c.start.new.self t q f (Err refusal) in
    let starts = subst Q c.in_ok-written.ensures.sent (c.in_err-accepted.ensures.moved old.journal.items t placed stands) in
    rw (p.1, p.2) (start_err conn q old new c.start.new.self frames.written refusal state after c.prepare.ensures.journal c.in_ok-written.ensures.prepared starts)

pub returns : goal.returns
returns g c = λ state.
    let conn : Connection = record { wire = g.W.Wire.meaning c.args.wire.now; settings = c.args.settings.now } in
    let law = g.met.W.Wire g.world.𝓛 g.world.𝓜 g.world.𝓡 ((λ s x. x), (λ x. x), (λ x. x), λ x. x) in
    let old : Kept = c.args.self.now in
    let ready : Kept = c.prepare.new.self in
    let new : Kept = c.write_down.new.self in
    let k : KeptTable = c.start.new.self in
    let q = request_of c.args.request in
    let t = table_of conn old.journal.items in
    let accepted : Accepted = c.in_ok-accepted.accepted in
    let next = roomy_state conn old ready c.prepare.ensures.journal c.prepare.ensures.table c.prepare.ensures.handed c.prepare.ensures.capacity state in
    let stands = handed_stands old.journal.items old.table ready.table t c.prepare.ensures.table c.prepare.ensures.handed state.stands in
    let long = ap (length {A = Entry}) c.prepare.ensures.journal in
    let len = c.len-place.ensures in
    let placed : c.len-place.result ≡ length old.journal.items = omega arith in
    let frames = c.in_ok-written.field-0 in
    let Q : List ℕ → Type 0 = λ f. Starts old.journal.items k t q f (Ok accepted) in
    let starts = subst Q c.in_ok-written.ensures.sent (c.in_ok-accepted.ensures.moved old.journal.items t placed stands) in
    let shut = ap (λ (x : KeptTable). x.closed) c.prepare.ensures.table ∙ place_open old.table.closed _ c.in_ok-written.ensures.prepared.0 in
    let R : ℕ → Type 0 = λ n. IsKept conn.settings n ready.table in
    let keeps = c.in_ok-accepted.ensures.kept conn.settings (length old.journal.items) (subst R long next.kept) in
    let e = submitted_entry q accepted frames.written in
    let written : Written conn.settings old new k e = record {
      journal = rw (c.prepare.ensures.journal, c.write_submitted.ensures) at c.write_down.ensures.journal;
      table = rw c.prepare.ensures.journal at c.write_down.ensures.table;
    } in
    let room = c.in_ok-written.ensures.room in
    let needs = c.in_ok-accepted.ensures.needs in
    let wide = c.write_down.ensures.capacity in
    start_does conn q old new k frames.written accepted (law.sized c.args.wire.now) (c.requires.admitted, c.requires.timeout.0, c.requires.timeout.1) state c.in_ok-written.ensures.prepared starts (c.in_ok-accepted.ensures.closed ∙ shut) keeps written (omega arith)
