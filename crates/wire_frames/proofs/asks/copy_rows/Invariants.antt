use Rattle.std.proofs.Common.{◌≡◌, take}
use Rattle.wire_frames.proofs.asks.copy_rows.Given as goal

abbrev pub invariant-loop-row : goal.invariant-loop-row
invariant-loop-row l = l.copy ≡ take l.row-index l.rows
