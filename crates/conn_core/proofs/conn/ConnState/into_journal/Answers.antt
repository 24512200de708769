use Rattle.std.proofs.Common.{subst}
use Rattle.conn_core.specs.Calls.{IsJournalOf}
use Rattle.conn_core.specs.States.{State}
use Rattle.conn_core.proofs.Promises.{is_journal_of}
use Rattle.conn_core.proofs.conn.ConnState.into_journal.Goals as goal

pub returns-clause-law : goal.returns-clause-law
returns-clause-law g c =
    let meaning = g.W.Wire.meaning in
    subst (λ (v : State _). IsJournalOf meaning v) c.self.view_is (is_journal_of meaning c.self.inside.key c.self.inside.kept c.self.invariant)
