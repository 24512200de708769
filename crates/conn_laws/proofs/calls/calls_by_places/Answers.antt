use Rattle.conn_laws.proofs.CallPlaces.{cancels_by, collects_by, is_history, submits_by}
use Rattle.conn_laws.proofs.calls.calls_by_places.Goals as goal

pub returns : goal.returns
returns c s = record {
  journal = λ state j. is_history _ state j;
  submit = λ q old new result j h. submits_by _ q old new result j h;
  cancel = λ actor id old new result j h. cancels_by _ actor id old new result j h;
  collect = λ actor id old new result j h. collects_by _ actor id old new result j h;
}
