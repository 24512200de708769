use Rattle.conn_core.proofs.StepLaws.{legal_walked}
use Rattle.conn_laws.proofs.EndPlaces.{already_ended, cancels, collected, pending, unknown_cancelled, unknown_collected}
use Rattle.conn_laws.proofs.ends.ends_by_places.Goals as goal

pub returns : goal.returns
returns c = record {
  already_ended = λ c journal actor id kind s legal. already_ended c journal actor id kind s (legal_walked c journal legal);
  cancels = λ c journal actor id s legal. cancels c journal actor id s (legal_walked c journal legal);
  nothing_to_cancel = λ c journal actor id s legal. unknown_cancelled c journal actor id s (legal_walked c journal legal);
  collected = λ c journal actor id outcome s legal. collected c journal actor id outcome s (legal_walked c journal legal);
  pending = λ c journal actor id s legal. pending c journal actor id s (legal_walked c journal legal);
  nothing_to_collect = λ c journal actor id s legal. unknown_collected c journal actor id s (legal_walked c journal legal);
}
