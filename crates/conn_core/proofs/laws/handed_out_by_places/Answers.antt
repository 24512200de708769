use Rattle.conn_core.proofs.RequestLemmas.{handed_outcome, handed_sending}
use Rattle.conn_core.proofs.laws.handed_out_by_places.Goals as goal

pub returns-clause-sent : goal.returns-clause-sent
returns-clause-sent c = handed_sending

pub returns-clause-collected : goal.returns-clause-collected
returns-clause-collected c = handed_outcome
