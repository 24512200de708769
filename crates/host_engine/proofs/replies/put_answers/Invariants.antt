use Rattle.std.proofs.Common.{◌≡◌, ◌+◌, ◌≤◌, List, ℕ, length}
use Rattle.host_engine.specs.Lines.{AreWholeLines, lines_in}
use Rattle.host_engine.specs.Runs.{Adds}
use Rattle.host_engine.proofs.ReplyLemmas.{GoesOn}
use Rattle.host_engine.proofs.replies.put_answers.Given as goal

-- These answers were put out or gathered, whole lines, and whatever answers the lines that are left have go on from them. No
-- more lines were counted than bytes were taken.
abbrev pub invariant-loop-line : goal.invariant-loop-line
invariant-loop-line g l =
    (text : List ℕ)
    × Adds (g.K.Sink.seen l.fn.out).held (g.K.Sink.seen l.out).held l.fn.gathered.items l.gathered.items text
    × ((g.K.Sink.seen l.out).faults ≡ (g.K.Sink.seen l.fn.out).faults)
    × GoesOn (lines_in l.ended l.bytes) l.replay.next l.replay.conn (lines_in l.ended l.rest) text
    × AreWholeLines text
    × (l.replay.next + length l.rest ≤ 1 + length l.bytes)

abbrev pub decreases-loop-line : goal.decreases-loop-line
decreases-loop-line g l = length l.rest
