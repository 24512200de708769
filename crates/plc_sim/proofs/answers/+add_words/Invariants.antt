use Rattle.std.specs.Prelude.{length}
use Rattle.plc_sim.proofs.answers.+add_words.Given as goal

abbrev pub decreases-add_words : goal.decreases-add_words
decreases-add_words l = length l.words.now
