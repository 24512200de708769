use Rattle.std.proofs.Common.{◌≡◌, take, pos}
use Rattle.std.specs.Prelude.{map}
use Rattle.wire_frames.specs.declared.kinds.PlcValue.TheVariants.{Whole}
use Rattle.wire_frames.proofs.raw.bytes_read.Given as goal

-- the row so far is the bytes so far
abbrev pub invariant-loop-byte : goal.invariant-loop-byte
invariant-loop-byte l = l.row ≡ map (λ b. Whole (pos b)) (take l.byte-index l.payload)
