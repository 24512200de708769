use Rattle.std.proofs.Common.{◌+◌, ◌≤◌, Ok, sym, subst}
use Rattle.conn_core.specs.KeptMoves.{MovesOrNoMemory}
use Rattle.conn_core.specs.KeptStates.{IsKept, needs_of}
use Rattle.conn_core.specs.Steps.{apply_frame}
use Rattle.conn_core.specs.declared.answers.FrameAnswer.{FrameAnswer}
use Rattle.conn_core.specs.declared.answers.FrameRefusal.TheVariants as frame_refusals
use Rattle.conn_core.specs.declared.table.KeptTable.{KeptTable}
use Rattle.conn_core.proofs.FrameLemmas.{read_moves, unread_moves}
use Rattle.conn_core.proofs.KeepLemmas.{counted_keeps, undecodable_keeps, undecodable_needs}
use Rattle.conn_core.proofs.table.KeptTable.receive.Goals as goal

pub returns-in_ok-answer-in-Ok-clause-moved : goal.returns-in_ok-answer-in-Ok-clause-moved
returns-in_ok-answer-in-Ok-clause-moved g c = λ t stands.
    let k = c.args.self.now in
    let read = c.in-Ok.ensures in
    read_moves (g.W.Wire.meaning c.args.wire.now) c.args.journal.now k c.arrive.new.self t c.args.bytes.now c.in-Ok.reply.reference c.in-Ok.reply.reading c.in_ok-answer-in-Ok.answer stands c.in_default.is read.0 read.1 (c.in_ok-answer-in-Ok.ensures.moved t stands)

pub returns-in_ok-answer-in-Ok-clause-kept : goal.returns-in_ok-answer-in-Ok-clause-kept
returns-in_ok-answer-in-Ok-clause-kept g c = λ s entries was.
    counted_keeps s entries c.arrive.new.self (c.in_ok-answer-in-Ok.ensures.kept s entries was)

pub returns-in-Undecodable-clause-moved : goal.returns-in-Undecodable-clause-moved
returns-in-Undecodable-clause-moved g c = λ t stands.
    let k = c.args.self.now in
    let wire = g.W.Wire.meaning c.args.wire.now in
    let P : FrameAnswer → Type 0 = λ a. MovesOrNoMemory frame_refusals.NoMemory c.args.journal.now c.refuse.new.self t (apply_frame wire t c.args.bytes.now) (Ok a) in
    subst P (sym c.refuse.ensures.answer) (unread_moves wire c.args.journal.now k c.refuse.new.self t c.args.bytes.now c.in-Undecodable.why stands c.in_default.is (rw c.in-Undecodable.is at c.in-Err.ensures) c.refuse.ensures.table)

pub returns-in-Undecodable-clause-kept : goal.returns-in-Undecodable-clause-kept
returns-in-Undecodable-clause-kept g c = λ s entries was.
    let P : KeptTable → Type 0 = IsKept s (entries + 1) in
    subst P (sym c.refuse.ensures.table) (undecodable_keeps c.in-Undecodable.why c.args.self.now s entries was)

pub returns-in-Undecodable-clause-needs : goal.returns-in-Undecodable-clause-needs
returns-in-Undecodable-clause-needs g c =
    let P : KeptTable → Type 0 = λ m. needs_of m ≤ needs_of c.args.self.now in
    subst P (sym c.refuse.ensures.table) (undecodable_needs c.in-Undecodable.why c.args.self.now c.in_default.is)
