use Rattle.std.proofs.Common.{◌≡◌, ◌∙◌, Some, None, refl, sym, ap}
use Rattle.txn_core.specs.PlainRows.{sent_id}
use Rattle.txn_core.specs.RowSteps.{sent_next}
use Rattle.txn_core.specs.RowTables.{RowTable}
use Rattle.wire_frames.specs.declared.ends.EndKind.{EndKind}
use Rattle.conn_core.specs.declared.table.KeptTable.{KeptTable}
use Rattle.conn_core.proofs.MoveLemmas.{nothing_sent, send_moves, send_nothing, sends_item}
use Rattle.conn_core.proofs.MoveNeeds.{sent_needs}
use Rattle.conn_core.proofs.table.KeptTable.send.Goals as goal

pub hand_out-requires : goal.hand_out-requires
hand_out-requires c =
    let k = c.args.self.now in
    let next : sent_id (sent_next k.requests) ≡ Some c.in-Some-send_next.id = sym c.in-Some-send_next.ensures.answer in
    let s = sends_item c.requires.standing.0 k c.requires.standing.1 c.in-Some-send_next.id c.requires.table c.requires.standing.2 next in
    (s.split.items_before, s.split.item, s.split.items_after, s.row.row.what.frame, s.at, s.frame)

pub returns-in-None-clause-moved : goal.returns-in-None-clause-moved
returns-in-None-clause-moved c = λ journal t stands.
    let k = c.args.self.now in
    let next : sent_id (sent_next k.requests) ≡ None = sym c.in-None.ensures.answer in
    let m : KeptTable = record k { requests = c.send_next.new.self } in
    let same : m ≡ k = ap (λ (r : RowTable (Unit {0}) EndKind). record k { requests = r }) (c.in-None.ensures.rows ∙ nothing_sent k.requests next) in
    send_nothing journal k m t stands c.in_default.is next same

pub returns-in-Some-send_next-clause-moved : goal.returns-in-Some-send_next-clause-moved
returns-in-Some-send_next-clause-moved c = λ journal t stands.
    let k = c.args.self.now in
    let next : sent_id (sent_next k.requests) ≡ Some c.in-Some-send_next.id = sym c.in-Some-send_next.ensures.answer in
    let s = sends_item journal k t c.in-Some-send_next.id c.requires.table stands next in
    let handed = c.hand_out.ensures s.split.items_before s.split.item s.split.items_after s.row.row.what.frame s.at s.frame in
    let m : KeptTable = record k { requests = c.send_next.new.self; handed = c.hand_out.new.handed } in
    send_moves journal k m t c.in-Some-send_next.id c.hand_out.result s stands c.in_default.is c.in-Some-send_next.ensures.rows handed.0 handed.1 refl refl refl refl

pub returns-in-Some-send_next-clause-needs : goal.returns-in-Some-send_next-clause-needs
returns-in-Some-send_next-clause-needs c =
    let k = c.args.self.now in
    let next : sent_id (sent_next k.requests) ≡ Some c.in-Some-send_next.id = sym c.in-Some-send_next.ensures.answer in
    let m : KeptTable = record k { requests = c.send_next.new.self; handed = c.hand_out.new.handed } in
    sent_needs k m c.in-Some-send_next.id c.requires.table next c.in-Some-send_next.ensures.rows refl refl
