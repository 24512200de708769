use Rattle.conn_core.proofs.StepLaws.{legal_walked}
use Rattle.conn_laws.proofs.NoReference.{accepted_drew, else_draws, no_reference}
use Rattle.conn_laws.proofs.drawing.no_reference_is_exact.Goals as goal

pub returns : goal.returns
returns c = record {
  no_reference = λ c journal q s legal. no_reference c journal q s (legal_walked c journal legal);
  else_draws = λ c journal s legal. else_draws c journal s (legal_walked c journal legal);
  accepted = λ c journal q started s legal is. accepted_drew c journal q started s (legal_walked c journal legal) is;
}
