use Rattle.wire_frames.proofs.FrameLemmas.{gives_frames}
use Rattle.wire_frames.proofs.laws.frames_in_any_cut.Goals as goal

pub returns : goal.returns
returns c = gives_frames
