use Rattle.wire_frames.proofs.RawLemmas.{raw_carries}
use Rattle.wire_frames.proofs.laws.raw_frames_carry.Goals as goal

pub returns : goal.returns
returns c = raw_carries
