use Rattle.conn_core.proofs.StepLaws.{legal_walked}
use Rattle.conn_laws.proofs.HistoryParts.{history_law}
use Rattle.conn_laws.proofs.OwnEnds.{own_ends}
use Rattle.conn_laws.proofs.TablePlaces.{history_table}
use Rattle.conn_laws.proofs.histories.history.Goals as goal

pub returns : goal.returns
returns c = record {
  law = history_law;
  own_ends = λ c journal s legal. own_ends c journal s (legal_walked c journal legal);
  table = λ c journal s legal. history_table c journal s (legal_walked c journal legal);
}
