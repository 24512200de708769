use Rattle.std.proofs.Common.{refl, subst}
use Rattle.conn_core.specs.Calls.{AsksLease}
use Rattle.conn_core.specs.States.{State, connection_of}
use Rattle.conn_core.proofs.PromiseLemmas.{seen}
use Rattle.conn_core.proofs.Promises.{asks_lease}
use Rattle.conn_core.proofs.SoundLemmas.{state_sound}
use Rattle.conn_core.proofs.conn.ConnState.ask_lease.Goals as goal

pub ask_lease-requires : goal.ask_lease-requires
ask_lease-requires g c = state_sound (connection_of g.W.Wire.meaning c.self.inside.key) c.self.inside.kept c.self.invariant

pub returns : goal.returns
returns g c =
    let key = c.self.inside.key in
    let old = c.self.inside.kept in
    let new = c.ask_lease.new.self in
    let meaning = g.W.Wire.meaning in
    subst (λ (v : State _). AsksLease meaning c.args.actor c.args.now v (seen key new) c.ask_lease.result) c.self.view_is
    (asks_lease meaning key old new c.args.actor c.args.now c.ask_lease.result c.self.invariant (c.ask_lease.ensures (connection_of meaning key) refl c.self.invariant))
