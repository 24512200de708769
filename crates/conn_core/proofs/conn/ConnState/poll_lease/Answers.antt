use Rattle.std.proofs.Common.{subst}
use Rattle.conn_core.specs.Calls.{PollsLease}
use Rattle.conn_core.specs.States.{State}
use Rattle.conn_core.proofs.Promises.{polls_lease}
use Rattle.conn_core.proofs.conn.ConnState.poll_lease.Goals as goal

pub returns : goal.returns
returns g c =
    let meaning = g.W.Wire.meaning in
    subst (λ (v : State _). PollsLease meaning c.args.actor c.args.lease v c.poll_lease.result) c.self.view_is
    (polls_lease meaning c.self.inside.key c.self.inside.kept c.args.actor c.args.lease c.poll_lease.result c.self.invariant c.poll_lease.ensures)
