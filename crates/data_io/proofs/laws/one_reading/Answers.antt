use Rattle.data_io.proofs.Readings.{one_list}
use Rattle.data_io.proofs.laws.one_reading.Goals as goal

pub returns : goal.returns
returns c = one_list
