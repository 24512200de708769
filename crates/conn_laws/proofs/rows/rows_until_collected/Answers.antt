use Rattle.conn_laws.proofs.RowsKept.{accepted_once, collected_behind, collected_once, gone, kept, only}
use Rattle.conn_laws.proofs.RowsThroughout.{collects, throughout}
use Rattle.conn_laws.proofs.rows.rows_until_collected.Goals as goal

pub returns : goal.returns
returns c = record {
  kept = kept;
  gone = gone;
  only = only;
  throughout = throughout;
  collects = collects;
  collected_behind = collected_behind;
  accepted_once = accepted_once;
  collected_once = collected_once;
}
