use Rattle.std.proofs.Common.{refl, subst}
use Rattle.conn_core.specs.Calls.{TakesSend}
use Rattle.conn_core.specs.States.{State, connection_of}
use Rattle.conn_core.proofs.PromiseLemmas.{seen}
use Rattle.conn_core.proofs.Promises.{takes_send}
use Rattle.conn_core.proofs.StepLaws.{state_sent}
use Rattle.conn_core.proofs.conn.ConnState.take_send.Goals as goal

pub returns : goal.returns
returns g c =
    let key = c.self.inside.key in
    let old = c.self.inside.kept in
    let new = c.take_send.new.self in
    let meaning = g.W.Wire.meaning in
    subst (λ (v : State _). TakesSend meaning c.args.actor v (seen key new) c.take_send.result) c.self.view_is
    (takes_send meaning key old new c.args.actor c.take_send.result c.self.invariant (state_sent (connection_of meaning key) old c.self.invariant) (c.take_send.ensures (connection_of meaning key) refl c.self.invariant))
