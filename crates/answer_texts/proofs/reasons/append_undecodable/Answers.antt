use Rattle.std.proofs.Common.{codes, decimal, ◌++◌}
use Rattle.answer_texts.specs.Texts.{frame_why_text}
use Rattle.answer_texts.proofs.AppendLemmas.{joined}
use Rattle.answer_texts.proofs.reasons.append_undecodable.Goals as goal

pub returns : goal.returns
returns c =
    joined c.append_frame_why.result c.args.text.now.items c.append_spaced.new.text.items c.append_frame_why.new.text.items (codes "undecodable " ++ decimal c.args.index ++ codes " ") (frame_why_text c.args.why) c.in_ok-append_spaced.ensures c.append_frame_why.ensures
