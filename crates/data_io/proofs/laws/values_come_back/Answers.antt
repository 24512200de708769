use Rattle.data_io.proofs.Readings.{data_reading, one_list}
use Rattle.data_io.proofs.laws.values_come_back.Goals as goal

pub returns : goal.returns
returns c = λ kind registers list h. (data_reading kind registers list h, λ others g. one_list _ others list g (data_reading kind registers list h))
