use Rattle.std.proofs.Common.{sym, ap, ◌∙◌}
use Rattle.txn_core.specs.RowTables.{RowTable}
use Rattle.wire_frames.specs.declared.ends.EndKind.{EndKind}
use Rattle.conn_core.specs.KeptSteps.{cancel_answer}
use Rattle.conn_core.proofs.EndLemmas.{live_answer, live_found, live_unless, some_of}
use Rattle.conn_core.proofs.table.KeptTable.cancel.Goals as goal

pub end-requires : goal.end-requires
end-requires c = record {
  live = live_found c.args.actor c.args.id c.args.self.now.requests c.in_ok-phase.phase (sym c.phase.ensures.answer ∙ some_of _ _ _ (sym c.ok_or.ensures.value ∙ c.in_ok-phase.was)) (live_unless c.in_ok-phase.phase c.in_default.not-Ended);
  sent = λ answered. cc;
}

pub returns : goal.returns
returns c =
    let found = sym c.phase.ensures.answer ∙ some_of _ _ _ (sym c.ok_or.ensures.value ∙ c.in_ok-phase.was) in
    record {
      answer = sym (ap cancel_answer found ∙ live_answer c.in_ok-phase.phase c.in_default.not-Ended);
      table = ap (λ (r : RowTable (Unit {0}) EndKind). record c.args.self.now { requests = r }) c.end.ensures.rows;
      live = live_found c.args.actor c.args.id c.args.self.now.requests c.in_ok-phase.phase found (live_unless c.in_ok-phase.phase c.in_default.not-Ended);
      unchanged = tt;
      rows = c.end.ensures.table;
    }
