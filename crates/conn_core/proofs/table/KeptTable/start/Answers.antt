use Rattle.std.proofs.Common.{◌∙◌, ℕ, Ok, refl, ap, subst}
use Rattle.std.specs.Prelude.{Result}
use Rattle.txn_core.specs.RowSteps.{Draft, IsGivenOrNoMemory, added, answer_of, table_or}
use Rattle.txn_core.specs.declared.phases.AddRefusal.{AddRefusal}
use Rattle.txn_core.specs.declared.phases.AddRefusal.TheVariants as add_refusals
use Rattle.conn_core.specs.Requests.{request_of}
use Rattle.conn_core.specs.declared.table.KeptTable.{KeptTable}
use Rattle.conn_core.proofs.StartLemmas.{draft_is, item_is, new_given, start_ok}
use Rattle.conn_core.proofs.table.KeptTable.start.Goals as goal

pub returns-in-Ok-clause-moved : goal.returns-in-Ok-clause-moved
returns-in-Ok-clause-moved c = λ journal t placed stands.
    let k = c.args.self.now in
    let m : KeptTable = record k { requests = c.add.new.self; handed = c.push_reserved.new.self; clock = c.max-clock.result } in
    let q = request_of c.args.request.now in
    let clock = c.max-clock.result in
    let same = draft_is q clock c.find_deadline-deadline.result c.find_deadline-deadline.ensures in
    let P : Draft (Unit {0}) → Type 0 = λ d. IsGivenOrNoMemory add_refusals.NoMemory (Ok (c.in-Ok.id, c.in-Ok.reference)) (answer_of (added d k.requests)) in
    let Q : Result (ℕ × ℕ) AddRefusal → Type 0 = λ r. IsGivenOrNoMemory add_refusals.NoMemory r (answer_of (added (record { owner = q.actor; lease = q.lease; deadline = c.find_deadline-deadline.result; what = tt }) k.requests)) in
    let given = subst P same (subst Q c.in-Ok.is c.add.ensures.answer) in
    let rows = new_given add_refusals.NoMemory (c.in-Ok.id, c.in-Ok.reference) c.add.result c.in-Ok.is c.add.ensures.rows ∙ ap (λ d. table_or k.requests (added d k.requests)) same in
    start_ok journal k m t q c.args.frame add_refusals.NoMemory c.in-Ok.id c.args.place c.in-Ok.reference clock _ placed stands c.max-clock.ensures given rows c.push_reserved.ensures.items (item_is c.in-Ok.id c.args.place c.in-Ok.reference c.args.frame c.new.result c.new.ensures) refl refl refl refl
