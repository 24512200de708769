use Rattle.std.proofs.Common.{subst}
use Rattle.conn_core.specs.Calls.{Submits}
use Rattle.conn_core.specs.States.{State, connection_of}
use Rattle.conn_core.specs.Steps.{Request}
use Rattle.conn_core.proofs.PromiseLemmas.{seen}
use Rattle.conn_core.proofs.Promises.{submits_request}
use Rattle.conn_core.proofs.SoundLemmas.{state_sound}
use Rattle.conn_core.proofs.conn.ConnState.submit.Goals as goal

pub submit-requires-clause-sound : goal.submit-requires-clause-sound
submit-requires-clause-sound g c = λ lives outlives. state_sound (connection_of g.W.Wire.meaning c.self.inside.key) c.self.inside.kept c.self.invariant

pub returns : goal.returns
returns g c =
    let key = c.self.inside.key in
    let old = c.self.inside.kept in
    let new = c.submit.new.self in
    let meaning = g.W.Wire.meaning in
    let q : Request = record { actor = c.args.actor; lease = c.args.lease; ask = c.args.ask; timeout = c.args.timeout_ms; moment = c.args.now } in
    subst (λ (v : State _). Submits meaning q v (seen key new) c.submit.result) c.self.view_is
    (submits_request meaning key old new q c.submit.result c.self.invariant (c.submit.ensures c.self.invariant))
