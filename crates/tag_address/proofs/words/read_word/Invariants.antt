use Rattle.tag_address.specs.Parts.{ArePassed}
use Rattle.tag_address.proofs.words.read_word.Given as goal

abbrev pub invariant-loop-word : goal.invariant-loop-word
invariant-loop-word g l = ArePassed g.W.Spelled.spelling l.words l.word-index l.text l.furthest
