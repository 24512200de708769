-- How a reply is spelled.
use Rattle.std.specs.Prelude.{ℕ, List, [], ◌++◌, codes, Option, Some, None}
use Rattle.answer_texts.specs.Answers.{asked_text, cancelled_text, collected_text, polled_text, received_text, released_text, sent_text, stopped_text, submitted_text, ticked_text}
use Rattle.script_replay.specs.declared.replies.Reply.{Reply}
use Rattle.script_replay.specs.declared.replies.Reply.TheVariants.{Asked, Polled, Released, NotAdmitted, Submitted, Sent, Received, Cancelled, Collected, Ticks, Stopped}

-- by what the call answered, without a line's end
abbrev pub spelled : Reply → List ℕ
spelled (Asked answer) = asked_text answer
spelled (Polled answer) = polled_text answer
spelled (Released answer) = released_text answer
spelled NotAdmitted = codes "not admitted"
spelled (Submitted answer) = submitted_text answer
spelled (Sent answer) = sent_text answer
spelled (Received answer) = received_text answer
spelled (Cancelled answer) = cancelled_text answer
spelled (Collected answer) = collected_text answer
spelled (Ticks ticked) = ticked_text ticked
spelled (Stopped answer) = stopped_text answer

-- a line for a reply, if there is one
abbrev pub spelled_line : Option Reply → List ℕ
spelled_line None = []
spelled_line (Some reply) = spelled reply ++ codes "\n"
