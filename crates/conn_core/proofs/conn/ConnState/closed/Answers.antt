use Rattle.std.proofs.Common.{subst}
use Rattle.std.specs.Prelude.{IfSome, IsNone}
use Rattle.conn_core.specs.Causes.{ClosesWith, NoneCloses}
use Rattle.conn_core.specs.States.{State}
use Rattle.conn_core.proofs.PromiseLemmas.{closing_cause, closing_none}
use Rattle.conn_core.proofs.conn.ConnState.closed.Goals as goal

pub returns-clause-cause : goal.returns-clause-cause
returns-clause-cause g c =
    let k = c.self.inside.kept in
    subst (λ (v : State _). IfSome k.table.closed (λ reason. ClosesWith v.journal reason)) c.self.view_is (closing_cause k.journal.items k.table.closed c.self.invariant.closes)

pub returns-clause-unclosed : goal.returns-clause-unclosed
returns-clause-unclosed g c =
    let k = c.self.inside.kept in
    subst (λ (v : State _). IsNone k.table.closed → NoneCloses v.journal) c.self.view_is (closing_none k.journal.items k.table.closed c.self.invariant.closes)
