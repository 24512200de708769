use Rattle.conn_core.proofs.RangeLemmas.{next_some}
use Rattle.std.proofs.Common.{◌<◌, ◌∙◌, sym, ap, subst, ℕ}
use Rattle.std.specs.Prelude.{unwrap_or}
use Rattle.conn_core.proofs.table.KeptTable.peek_reference.Goals as goal

pub returns-clause-some : goal.returns-clause-some
returns-clause-some c =
    let P : ℕ → Type 0 = λ n. 0 < n in
    subst P (sym (c.unwrap_or.ensures ∙ ap (λ o. unwrap_or o 1) c.next_reference.ensures.answer)) (next_some c.args.self.now.requests c.next_reference.ensures.table)
