use Rattle.std.proofs.Common.{refl, subst}
use Rattle.conn_core.specs.Calls.{Collects}
use Rattle.conn_core.specs.States.{State, connection_of}
use Rattle.conn_core.proofs.PromiseLemmas.{seen}
use Rattle.conn_core.proofs.Promises.{collects_request}
use Rattle.conn_core.proofs.conn.ConnState.collect.Goals as goal

pub returns : goal.returns
returns g c =
    let key = c.self.inside.key in
    let old = c.self.inside.kept in
    let new = c.collect.new.self in
    let meaning = g.W.Wire.meaning in
    let law = g.met.W.Wire g.world.𝓛 g.world.𝓜 g.world.𝓡 ((λ s x. x), (λ x. x), (λ x. x), λ x. x) in
    subst (λ (v : State _). Collects meaning c.args.actor c.args.id v (seen key new) c.collect.result) c.self.view_is
    (collects_request meaning key old new c.args.actor c.args.id c.collect.result (law.replies key.wire) c.self.invariant (c.collect.ensures (connection_of meaning key) refl c.self.invariant))
