use Rattle.std.proofs.Common.{codes, sym, ◌∙◌}
use Rattle.host_engine.proofs.WordLemmas.{one_word}
use Rattle.host_engine.proofs.words.is_replay.Goals as goal

pub returns-in-Some : goal.returns-in-Some
returns-in-Some c =
    rw c.eq.ensures (one_word c.args.words.now c.in-Some.command.now (codes "replay") (sym c.len.ensures ∙ c.if-len-eq1.true) c.in-Some.ensures.text)
