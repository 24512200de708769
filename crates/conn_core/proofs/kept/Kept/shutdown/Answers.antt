use Rattle.std.proofs.Common.{sym, subst, refl, arith}
use Rattle.conn_core.specs.KeptSteps.{closed_kept}
use Rattle.conn_core.specs.declared.entries.Answer.TheVariants as answers
use Rattle.conn_core.specs.declared.entries.Entry.{Entry}
use Rattle.conn_core.specs.declared.entries.Event.TheVariants as events
use Rattle.conn_core.specs.declared.settings.Settings.{Settings}
use Rattle.wire_frames.specs.declared.ends.Reason.TheVariants as reasons
use Rattle.conn_core.proofs.DoesLemmas.{Written, close_ok}
use Rattle.conn_core.proofs.TurnLemmas.{closed_needs}
use Rattle.conn_core.proofs.kept.Kept.shutdown.Goals as goal

pub write_down-requires : goal.write_down-requires
write_down-requires c =
    let less = closed_needs c.args.self.now.table (reasons.Asked) c.in_default.is in
    let room = c.requires.room in
    rw c.close.ensures.table (omega arith)

pub returns : goal.returns
returns c = λ conn same state.
    let k = closed_kept (reasons.Asked) c.args.self.now.table in
    let is = c.close.ensures.table in
    let e : Entry = record { actor = c.args.actor; event = events.Shutdown; answer = answers.Closed } in
    let P : Settings → Type 0 = λ s. Written s c.args.self.now c.write_down.new.self k e in
    let written = subst P (sym same) (record { journal = rw is at c.write_down.ensures.journal; table = rw is at c.write_down.ensures.table }) in
    let less = closed_needs c.args.self.now.table (reasons.Asked) c.in_default.is in
    let room = c.requires.room in
    let wide = c.write_down.ensures.capacity in
    close_ok conn c.args.actor (events.Shutdown) (reasons.Asked) c.args.self.now c.write_down.new.self state c.in_default.is refl (refl, tt, tt, (λ t. refl), written) (omega arith)
