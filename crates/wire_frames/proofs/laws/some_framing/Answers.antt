use Rattle.wire_frames.proofs.FrameLemmas.{some_way}
use Rattle.wire_frames.proofs.laws.some_framing.Goals as goal

pub returns : goal.returns
returns c = some_way
