use Rattle.bit_base.proofs.SpellingLemmas.{number-lt, spelling-number}
use Rattle.bit_base.proofs.PlacingLemmas.{put_what_was_read}
use Rattle.bit_base.proofs.laws.read_and_put.Goals as goal

pub returns-clause-one_spelling : goal.returns-clause-one_spelling
returns-clause-one_spelling c = spelling-number

pub returns-clause-fits : goal.returns-clause-fits
returns-clause-fits c = number-lt

pub returns-clause-same : goal.returns-clause-same
returns-clause-same c = put_what_was_read
