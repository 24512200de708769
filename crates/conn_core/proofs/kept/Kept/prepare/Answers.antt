use Rattle.std.proofs.Common.{◌≡◌, ◌∙◌, Ok, sym, ap, subst}
use Rattle.conn_core.specs.Requests.{place_answer, request_of}
use Rattle.conn_core.specs.declared.table.KeptTable.{KeptTable}
use Rattle.conn_core.proofs.MoveDoes.{handed_stands, prepares_from}
use Rattle.conn_core.proofs.kept.Kept.prepare.Goals as goal

pub returns-clause-prepared : goal.returns-clause-prepared
returns-clause-prepared g c =
    let k = c.args.self.now.table in
    let q = request_of c.args.request.now in
    let wire = g.W.Wire.meaning c.args.wire.now in
    let m = c.reserve-2.new.self in
    let same : m ≡ record k { handed = m.handed } = c.reserve-2.ensures.same ∙ ap (λ (x : KeptTable). record x { handed = m.handed }) c.reserve.ensures.table in
    let items = c.reserve-2.ensures.items ∙ ap (λ (x : KeptTable). x.handed.items) c.reserve.ensures.table in
    let P : KeptTable → Type 0 = λ x. c.check_place.result ≡ place_answer q.actor q.lease x.closed x.leases x.requests in
    let place : place_answer q.actor q.lease k.closed k.leases k.requests ≡ Ok tt = sym (subst P same c.check_place.ensures) ∙ c.in_ok-check_place.was in
    let reference = c.peek_reference-reference.result in
    let drafted = c.in_ok-draft.ensures in
    prepares_from wire k q c.take_frames.result reference place
    (λ journal t s. c.peek_reference-reference.ensures.reference t journal (handed_stands journal k m t same items s))
    (c.take_frames.ensures.written (wire.frame_of q.ask reference) drafted)
    (c.take_frames.ensures.err (wire.frame_of q.ask reference) drafted)

pub returns-clause-sent : goal.returns-clause-sent
returns-clause-sent g c =
    let wire = g.W.Wire.meaning c.args.wire.now in
    c.take_frames.ensures.sent (wire.frame_of c.args.request.now.ask c.peek_reference-reference.result) c.in_ok-draft.ensures
