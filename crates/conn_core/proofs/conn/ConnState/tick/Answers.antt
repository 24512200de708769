use Rattle.std.proofs.Common.{refl, subst}
use Rattle.conn_core.specs.Calls.{Ticks}
use Rattle.conn_core.specs.States.{State, connection_of}
use Rattle.conn_core.proofs.PromiseLemmas.{seen}
use Rattle.conn_core.proofs.Promises.{ticks_at}
use Rattle.conn_core.proofs.SoundLemmas.{state_sound}
use Rattle.conn_core.proofs.conn.ConnState.tick.Goals as goal

pub tick-requires : goal.tick-requires
tick-requires g c = state_sound (connection_of g.W.Wire.meaning c.self.inside.key) c.self.inside.kept c.self.invariant

pub returns : goal.returns
returns g c =
    let key = c.self.inside.key in
    let old = c.self.inside.kept in
    let new = c.tick.new.self in
    let meaning = g.W.Wire.meaning in
    subst (λ (v : State _). Ticks meaning c.args.actor c.args.now v (seen key new) c.tick.result) c.self.view_is
    (ticks_at meaning key old new c.args.actor c.args.now c.tick.result c.self.invariant (c.tick.ensures (connection_of meaning key) refl c.self.invariant))
