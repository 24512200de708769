use Rattle.txn_core.specs.RowEnds.{count_first, count_none_left, ended_first, ended_none}
use Rattle.txn_core.proofs.laws.ends_one_by_one.Goals as goal

pub returns : goal.returns
returns g c = record { first = ended_first; last = ended_none; fewer = count_first; none = count_none_left }
