use Rattle.bit_base.proofs.SpellingLemmas.{length-spelling, number-spelling}
use Rattle.bit_base.proofs.PlacingLemmas.{take-put_bits, there-put_bits, drop-put_bits, read-put_bits}
use Rattle.bit_base.proofs.laws.put_and_read.Goals as goal

pub returns-clause-spelled : goal.returns-clause-spelled
returns-clause-spelled c = number-spelling

pub returns-clause-length : goal.returns-clause-length
returns-clause-length c = length-spelling

pub returns-clause-there : goal.returns-clause-there
returns-clause-there c = there-put_bits

pub returns-clause-before : goal.returns-clause-before
returns-clause-before c = take-put_bits

pub returns-clause-behind : goal.returns-clause-behind
returns-clause-behind c = drop-put_bits

pub returns-clause-read : goal.returns-clause-read
returns-clause-read c = read-put_bits
