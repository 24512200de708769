use Rattle.std.proofs.Common.{codes, decimal, ◌++◌}
use Rattle.answer_texts.specs.Texts.{kind_text}
use Rattle.answer_texts.proofs.AppendLemmas.{joined}
use Rattle.answer_texts.proofs.answers.append_effect.Goals as goal

pub returns-in_ok-append_spaced-in-Ended : goal.returns-in_ok-append_spaced-in-Ended
returns-in_ok-append_spaced-in-Ended c =
    let arm = c.in-Ended in
    rw arm.is (joined c.append_kind.result c.args.text.now.items c.append_spaced.new.text.items c.append_kind.new.text.items (codes "ended " ++ decimal arm.id ++ codes " ") (kind_text arm.kind) c.in_ok-append_spaced-in-Ended.ensures c.append_kind.ensures)
