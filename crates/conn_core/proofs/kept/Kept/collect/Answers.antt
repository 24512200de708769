use Rattle.std.proofs.Common.{sym, subst, arith}
use Rattle.conn_core.specs.Journals.{table_of}
use Rattle.conn_core.specs.declared.entries.Answer.TheVariants as answers
use Rattle.conn_core.specs.declared.entries.Entry.{Entry}
use Rattle.conn_core.specs.declared.entries.Event.TheVariants as events
use Rattle.conn_core.specs.declared.kept.Kept.{Kept}
use Rattle.conn_core.specs.declared.settings.Settings.{Settings}
use Rattle.conn_core.proofs.DoesLemmas.{Written}
use Rattle.conn_core.proofs.MoveDoes.{collect_ok}
use Rattle.conn_core.proofs.kept.Kept.collect.Goals as goal

pub returns : goal.returns
returns c = λ conn same state.
    let old : Kept = c.args.self.now in
    let k = c.collect.new.self in
    let outcome = c.in_ok-outcome.outcome in
    let e : Entry = record { actor = c.args.actor; event = events.Collect c.args.id; answer = answers.Collected outcome.kind } in
    let P : Settings → Type 0 = λ s. Written s old c.write_down.new.self k e in
    let written = subst P (sym same) (record { journal = c.write_down.ensures.journal; table = c.write_down.ensures.table }) in
    let moved = c.in_ok-outcome.ensures.moved old.journal.items (table_of conn old.journal.items) state.stands in
    let room = state.room in
    let needs = c.in_ok-outcome.ensures.needs in
    let wide = c.write_down.ensures.capacity in
    collect_ok conn c.args.actor c.args.id old c.write_down.new.self k outcome state moved c.in_ok-outcome.ensures.closed c.in_ok-outcome.ensures.kept c.in_ok-outcome.ensures.rows written (omega arith)
