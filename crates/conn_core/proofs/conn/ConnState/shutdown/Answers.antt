use Rattle.std.proofs.Common.{refl, subst}
use Rattle.conn_core.specs.Calls.{ShutsDown}
use Rattle.conn_core.specs.States.{State, connection_of}
use Rattle.conn_core.proofs.PromiseLemmas.{seen}
use Rattle.conn_core.proofs.Promises.{shuts_down}
use Rattle.conn_core.proofs.SoundLemmas.{state_sound}
use Rattle.conn_core.proofs.conn.ConnState.shutdown.Goals as goal

pub shutdown-requires : goal.shutdown-requires
shutdown-requires g c = state_sound (connection_of g.W.Wire.meaning c.self.inside.key) c.self.inside.kept c.self.invariant

pub returns : goal.returns
returns g c =
    let key = c.self.inside.key in
    let old = c.self.inside.kept in
    let new = c.shutdown.new.self in
    let meaning = g.W.Wire.meaning in
    subst (λ (v : State _). ShutsDown meaning c.args.actor v (seen key new) c.shutdown.result) c.self.view_is
    (shuts_down meaning key old new c.args.actor c.shutdown.result c.self.invariant (c.shutdown.ensures (connection_of meaning key) refl c.self.invariant))
