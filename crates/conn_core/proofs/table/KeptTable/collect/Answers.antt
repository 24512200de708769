use Rattle.std.proofs.Common.{◌≡◌, ◌∙◌, Ok, Err, refl, sym, ap}
use Rattle.txn_core.specs.RowSteps.{answer_of, taken}
use Rattle.txn_core.specs.RowTables.{RowTable}
use Rattle.wire_frames.specs.declared.ends.EndKind.{EndKind}
use Rattle.conn_core.specs.declared.table.KeptTable.{KeptTable}
use Rattle.conn_core.proofs.KeepLemmas.{collect_keeps}
use Rattle.conn_core.proofs.MoveLemmas.{collect_moves, collect_refused, has_item, none_taken, takes_item}
use Rattle.conn_core.proofs.MoveNeeds.{taken_needs, taken_rows}
use Rattle.conn_core.proofs.table.KeptTable.collect.Goals as goal

pub take_values-values-requires : goal.take_values-values-requires
take_values-values-requires c =
    let k = c.args.self.now in
    let s = takes_item c.requires.standing.0 k c.requires.standing.1 c.args.actor c.args.id c.in-Ok.kind c.requires.table c.requires.standing.2 (sym c.in-Ok.ensures.answer) in
    has_item k.handed.items c.args.id s.split.items_before s.split.item s.split.items_after s.at

pub returns-in-Err-clause-moved : goal.returns-in-Err-clause-moved
returns-in-Err-clause-moved c = λ journal t stands.
    let k = c.args.self.now in
    let refusal = c.in-Err.refusal in
    let told : answer_of (taken c.args.actor c.args.id k.requests) ≡ Err refusal = sym c.in-Err.ensures.answer in
    let m : KeptTable = record k { requests = c.take.new.self } in
    let same : m ≡ k = ap (λ (r : RowTable (Unit {0}) EndKind). record k { requests = r }) (c.in-Err.ensures.rows ∙ none_taken k.requests c.args.actor c.args.id refusal told) in
    collect_refused journal k m t c.args.actor c.args.id refusal stands told same

pub returns-in-Ok-clause-moved : goal.returns-in-Ok-clause-moved
returns-in-Ok-clause-moved c = λ journal t stands.
    let k = c.args.self.now in
    let told : answer_of (taken c.args.actor c.args.id k.requests) ≡ Ok c.in-Ok.kind = sym c.in-Ok.ensures.answer in
    let s = takes_item journal k t c.args.actor c.args.id c.in-Ok.kind c.requires.table stands told in
    let handed = c.take_values-values.ensures s.split.items_before s.split.item s.split.items_after s.at in
    let m : KeptTable = record k { requests = c.take.new.self; handed = c.take_values-values.new.handed } in
    collect_moves journal k m t c.args.actor c.args.id c.in-Ok.kind c.take_values-values.result s c.requires.table stands told c.in-Ok.ensures.rows handed.0 handed.1 refl refl refl refl

pub returns-in-Ok-clause-kept : goal.returns-in-Ok-clause-kept
returns-in-Ok-clause-kept c =
    let k = c.args.self.now in
    let m : KeptTable = record k { requests = c.take.new.self; handed = c.take_values-values.new.handed } in
    collect_keeps k m c.args.actor c.args.id c.in-Ok.kind c.requires.table (sym c.in-Ok.ensures.answer) c.in-Ok.ensures.rows c.in-Ok.ensures.table refl refl refl

pub returns-in-Ok-clause-needs : goal.returns-in-Ok-clause-needs
returns-in-Ok-clause-needs c =
    let k = c.args.self.now in
    let m : KeptTable = record k { requests = c.take.new.self; handed = c.take_values-values.new.handed } in
    taken_needs k m c.args.actor c.args.id c.in-Ok.kind c.requires.table (sym c.in-Ok.ensures.answer) c.in-Ok.ensures.rows refl refl

pub returns-in-Ok-clause-rows : goal.returns-in-Ok-clause-rows
returns-in-Ok-clause-rows c =
    let k = c.args.self.now in
    let m : KeptTable = record k { requests = c.take.new.self; handed = c.take_values-values.new.handed } in
    taken_rows k m c.args.actor c.args.id c.in-Ok.kind c.requires.table (sym c.in-Ok.ensures.answer) c.in-Ok.ensures.rows
