use Rattle.mspec_meaning.proofs.ShapeLaws.{numbers_read}
use Rattle.mspec_meaning.proofs.laws.a_number_for_each_field.Goals as goal

pub returns : goal.returns
returns c = numbers_read
