use Rattle.std.proofs.Common.{subst}
use Rattle.conn_core.specs.Calls.{AppliesFrame}
use Rattle.conn_core.specs.States.{State}
use Rattle.conn_core.proofs.PromiseLemmas.{seen}
use Rattle.conn_core.proofs.Promises.{applies_frame}
use Rattle.conn_core.proofs.conn.ConnState.apply_frame.Goals as goal

pub returns : goal.returns
returns g c =
    let key = c.self.inside.key in
    let old = c.self.inside.kept in
    let new = c.apply_frame.new.self in
    let meaning = g.W.Wire.meaning in
    subst (λ (v : State _). AppliesFrame meaning c.args.actor c.args.frame v (seen key new) c.apply_frame.result) c.self.view_is
    (applies_frame meaning key old new c.args.actor c.args.frame c.apply_frame.result c.self.invariant (c.apply_frame.ensures c.self.invariant))
