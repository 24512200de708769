use Rattle.std.proofs.Common.{rules, ap, ◌∙◌, length, take}
use Rattle.std.proofs.Math.Seq.{take-append_seam}
use Rattle.answer_texts.proofs.AppendLemmas.{still_begins}
use Rattle.answer_texts.proofs.values.append_more.Goals as goal

pub returns-in_err-append_value : goal.returns-in_err-append_value
returns-in_err-append_value c =
    let old = c.args.text.now.items in
    let so_far = c.loop-value.text.items in
    let middle = c.extend_from_slice.new.self.items in
    let new = c.append_value.new.text.items in
    let begins = still_begins old middle new (still_begins old so_far middle c.loop-value.invariant.begins (ap (take (length so_far)) c.in_ok-extend_from_slice.ensures.items ∙ take-append_seam so_far _)) c.in_err-append_value.ensures in
    search rules
