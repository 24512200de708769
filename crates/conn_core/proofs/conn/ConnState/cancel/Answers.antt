use Rattle.std.proofs.Common.{refl, subst}
use Rattle.conn_core.specs.Calls.{Cancels}
use Rattle.conn_core.specs.States.{State, connection_of}
use Rattle.conn_core.proofs.PromiseLemmas.{seen}
use Rattle.conn_core.proofs.Promises.{cancels_request}
use Rattle.conn_core.proofs.SoundLemmas.{state_sound}
use Rattle.conn_core.proofs.conn.ConnState.cancel.Goals as goal

pub cancel-requires : goal.cancel-requires
cancel-requires g c = state_sound (connection_of g.W.Wire.meaning c.self.inside.key) c.self.inside.kept c.self.invariant

pub returns : goal.returns
returns g c =
    let key = c.self.inside.key in
    let old = c.self.inside.kept in
    let new = c.cancel.new.self in
    let meaning = g.W.Wire.meaning in
    subst (λ (v : State _). Cancels meaning c.args.actor c.args.id v (seen key new) c.cancel.result) c.self.view_is
    (cancels_request meaning key old new c.args.actor c.args.id c.cancel.result c.self.invariant (c.cancel.ensures (connection_of meaning key) refl c.self.invariant))
