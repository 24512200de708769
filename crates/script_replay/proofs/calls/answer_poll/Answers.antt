use Rattle.std.proofs.Common.{ap}
use Rattle.answer_texts.specs.Answers.{polled_text}
use Rattle.script_replay.proofs.PollLaws.{polled_is}
use Rattle.script_replay.proofs.calls.answer_poll.Goals as goal

pub returns : goal.returns
returns c = ap polled_text (polled_is c.args.conn.now c.args.caller c.args.lease c.poll_lease.result c.requires c.poll_lease.ensures)
