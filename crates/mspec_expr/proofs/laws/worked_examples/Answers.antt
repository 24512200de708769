use Rattle.mspec_expr.proofs.WorkedProofs as worked
use Rattle.mspec_expr.proofs.laws.worked_examples.Goals as goal

pub returns-clause-expressions : goal.returns-clause-expressions
returns-clause-expressions c = worked.expressions

pub returns-clause-greatest : goal.returns-clause-greatest
returns-clause-greatest c = worked.greatest

pub returns-clause-optionals : goal.returns-clause-optionals
returns-clause-optionals c = worked.optionals

pub returns-clause-numbers : goal.returns-clause-numbers
returns-clause-numbers c = worked.numbers

pub returns-clause-switches : goal.returns-clause-switches
returns-clause-switches c = worked.switches

pub returns-clause-count_arrays : goal.returns-clause-count_arrays
returns-clause-count_arrays c = worked.count_arrays

pub returns-clause-length_arrays : goal.returns-clause-length_arrays
returns-clause-length_arrays c = worked.length_arrays

pub returns-clause-arguments : goal.returns-clause-arguments
returns-clause-arguments c = worked.arguments

pub returns-clause-checksums : goal.returns-clause-checksums
returns-clause-checksums c = worked.checksums

pub returns-clause-paddings : goal.returns-clause-paddings
returns-clause-paddings c = worked.paddings

pub returns-clause-lengths : goal.returns-clause-lengths
returns-clause-lengths c = worked.lengths

pub returns-clause-depths : goal.returns-clause-depths
returns-clause-depths c = worked.depths

pub returns-clause-casts : goal.returns-clause-casts
returns-clause-casts c = worked.casts

pub returns-clause-refusals : goal.returns-clause-refusals
returns-clause-refusals c = worked.refusals
