use Rattle.std.proofs.Common.{refl, subst}
use Rattle.conn_core.specs.Calls.{ReleasesLease}
use Rattle.conn_core.specs.States.{State, connection_of}
use Rattle.conn_core.proofs.PromiseLemmas.{seen}
use Rattle.conn_core.proofs.Promises.{releases_lease}
use Rattle.conn_core.proofs.SoundLemmas.{state_sound}
use Rattle.conn_core.proofs.conn.ConnState.release.Goals as goal

pub release-requires : goal.release-requires
release-requires g c = state_sound (connection_of g.W.Wire.meaning c.self.inside.key) c.self.inside.kept c.self.invariant

pub returns : goal.returns
returns g c =
    let key = c.self.inside.key in
    let old = c.self.inside.kept in
    let new = c.release.new.self in
    let meaning = g.W.Wire.meaning in
    subst (λ (v : State _). ReleasesLease meaning c.args.actor c.args.lease c.args.now v (seen key new) c.release.result) c.self.view_is
    (releases_lease meaning key old new c.args.actor c.args.lease c.args.now c.release.result c.self.invariant (c.release.ensures (connection_of meaning key) refl c.self.invariant))
