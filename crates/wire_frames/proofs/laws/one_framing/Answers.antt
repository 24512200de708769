use Rattle.wire_frames.proofs.FrameLemmas.{one_way}
use Rattle.wire_frames.proofs.laws.one_framing.Goals as goal

pub returns : goal.returns
returns c = one_way
