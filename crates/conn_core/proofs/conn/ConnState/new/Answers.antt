use Rattle.std.proofs.Common.{refl}
use Rattle.conn_core.specs.States.{connection_of}
use Rattle.conn_core.proofs.conn.ConnState.new.Goals as goal

pub invariant_of-result : goal.invariant_of-result
invariant_of-result g c =
    c.in_ok-kept.ensures.state (connection_of g.W.Wire.meaning (record { wire = c.args.wire; settings = c.args.settings })) refl
