use Rattle.conn_core.proofs.EntryLemmas.{entry_law}
use Rattle.conn_core.proofs.laws.entries_by_places.Goals as goal

pub returns : goal.returns
returns c = entry_law
