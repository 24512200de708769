use Rattle.conn_core.proofs.RequestLemmas.{request_law}
use Rattle.conn_core.proofs.laws.requests_by_places.Goals as goal

pub returns : goal.returns
returns c = request_law
