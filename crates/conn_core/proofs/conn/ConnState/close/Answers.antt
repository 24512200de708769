use Rattle.std.proofs.Common.{refl, subst}
use Rattle.conn_core.specs.Calls.{Closes}
use Rattle.conn_core.specs.States.{State, connection_of}
use Rattle.conn_core.proofs.PromiseLemmas.{seen}
use Rattle.conn_core.proofs.Promises.{closes_connection}
use Rattle.conn_core.proofs.SoundLemmas.{state_sound}
use Rattle.conn_core.proofs.conn.ConnState.close.Goals as goal

pub close-requires-clause-sound : goal.close-requires-clause-sound
close-requires-clause-sound g c = state_sound (connection_of g.W.Wire.meaning c.self.inside.key) c.self.inside.kept c.self.invariant

pub returns : goal.returns
returns g c =
    let key = c.self.inside.key in
    let old = c.self.inside.kept in
    let new = c.close.new.self in
    let meaning = g.W.Wire.meaning in
    subst (λ (v : State _). Closes meaning c.args.actor c.args.reason v (seen key new) c.close.result) c.self.view_is
    (closes_connection meaning key old new c.args.actor c.args.reason c.close.result c.self.invariant (c.close.ensures (connection_of meaning key) refl c.self.invariant))
