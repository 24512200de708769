use Rattle.std.proofs.Common.{◌≡◌, ◌∙◌, sym, ap, subst, refl, arith}
use Rattle.std.specs.Prelude.{if◌then◌else◌}
use Rattle.conn_core.specs.Steps.{is_nothing}
use Rattle.conn_core.specs.KeptSteps.{ticked_kept}
use Rattle.conn_core.specs.declared.entries.Answer.TheVariants as answers
use Rattle.conn_core.specs.declared.entries.Entry.{Entry}
use Rattle.conn_core.specs.declared.entries.Event.TheVariants as events
use Rattle.conn_core.specs.declared.kept.Kept.{Kept}
use Rattle.conn_core.specs.declared.settings.Settings.{Settings}
use Rattle.conn_core.proofs.DoesLemmas.{Written, tick_none, tick_ok}
use Rattle.conn_core.proofs.NeedStates.{ticked_needs}
use Rattle.conn_core.proofs.kept.Kept.tick.Goals as goal

pub returns-then-is_nothing : goal.returns-then-is_nothing
returns-then-is_nothing c = λ conn same state.
    let none = sym c.is_nothing.ensures ∙ c.if-is_nothing.true in
    let is : c.tick-count.new.self ≡ c.args.self.now.table = c.tick-count.ensures.table ∙ ap (λ b. if b then c.args.self.now.table else ticked_kept c.args.now c.args.self.now.table) none in
    let new : Kept = record c.args.self.now { table = c.tick-count.new.self } in
    tick_none conn c.args.actor c.args.now c.args.self.now new c.tick-count.result state c.tick-count.ensures.count none refl is (omega arith)

pub write_down-requires : goal.write_down-requires
write_down-requires c =
    let due = sym c.is_nothing.ensures ∙ c.if-is_nothing.false in
    let is : c.tick-count.new.self ≡ ticked_kept c.args.now c.args.self.now.table = c.tick-count.ensures.table ∙ ap (λ b. if b then c.args.self.now.table else ticked_kept c.args.now c.args.self.now.table) due in
    let less = ticked_needs c.args.now c.args.self.now.table (ap is_nothing (sym c.tick-count.ensures.count) ∙ due) in
    let room = c.requires.room in
    rw is (omega arith)

pub returns : goal.returns
returns c = λ conn same state.
    let k = ticked_kept c.args.now c.args.self.now.table in
    let count = c.tick-count.result in
    let due = sym c.is_nothing.ensures ∙ c.if-is_nothing.false in
    let is : c.tick-count.new.self ≡ ticked_kept c.args.now c.args.self.now.table = c.tick-count.ensures.table ∙ ap (λ b. if b then c.args.self.now.table else ticked_kept c.args.now c.args.self.now.table) due in
    let e : Entry = record { actor = c.args.actor; event = events.Tick c.args.now; answer = answers.Ticked count.rows count.leases count.waiters } in
    let P : Settings → Type 0 = λ s. Written s c.args.self.now c.write_down.new.self k e in
    let written = subst P (sym same) (record { journal = rw is at c.write_down.ensures.journal; table = rw is at c.write_down.ensures.table }) in
    let less = ticked_needs c.args.now c.args.self.now.table (ap is_nothing (sym c.tick-count.ensures.count) ∙ due) in
    let room = c.requires.room in
    let wide = c.write_down.ensures.capacity in
    tick_ok conn c.args.actor c.args.now c.args.self.now c.write_down.new.self count state c.tick-count.ensures.count due (rw is at c.tick-count.ensures.kept_rows) (rw is at c.tick-count.ensures.kept_lawful) written (omega arith)
