-- What an entry says by itself: whether it closes the connection, and the moment that it brings.
use Rattle.std.specs.Prelude.{ℕ, max, Bool, true, false, is_some, List, [], ◌∷◌, Option, Some, None, count_by}
use Rattle.wire_frames.specs.declared.ends.Reason.{Reason}
use Rattle.wire_frames.specs.declared.ends.Reason.TheVariants as reasons
use Rattle.conn_core.specs.declared.entries.Answer.{Answer}
use Rattle.conn_core.specs.declared.entries.Answer.TheVariants as answers
use Rattle.conn_core.specs.declared.entries.Entry.{Entry}
use Rattle.conn_core.specs.declared.entries.Event.{Event}
use Rattle.conn_core.specs.declared.entries.Event.TheVariants.{AskLease, Release, Submit, TakeSend, Frame, Cancel, Collect, Tick, Close, Shutdown}

-- why a frame with this answer closes the connection, if it does
abbrev pub frame_reason : Answer → Option Reason
frame_reason (answers.Undecodable index why) = Some (reasons.Undecodable index why)
frame_reason _ = None

abbrev pub event_reason : Event → Answer → Option Reason
event_reason (Close reason) answer = Some reason
event_reason Shutdown answer = Some reasons.Asked
event_reason (Frame bytes) answer = frame_reason answer
event_reason (AskLease now) answer = None
event_reason (Release lease now) answer = None
event_reason (Submit lease ask timeout now) answer = None
event_reason TakeSend answer = None
event_reason (Cancel id) answer = None
event_reason (Collect id) answer = None
event_reason (Tick now) answer = None

-- why an entry closes the connection, if it does
abbrev pub closing_reason : Entry → Option Reason
closing_reason e = event_reason e.event e.answer

-- an entry that closes the connection
abbrev pub closes : Entry → Bool
closes e = is_some (closing_reason e)

-- the clock after an event: where it has a moment that is later, that
abbrev pub clock_by : ℕ → Event → ℕ
clock_by clock (AskLease now) = max clock now
clock_by clock (Release lease now) = max clock now
clock_by clock (Submit lease ask timeout now) = max clock now
clock_by clock (Tick now) = max clock now
clock_by clock TakeSend = clock
clock_by clock (Frame bytes) = clock
clock_by clock (Cancel id) = clock
clock_by clock (Collect id) = clock
clock_by clock (Close reason) = clock
clock_by clock Shutdown = clock

abbrev pub clock_from : ℕ → List Entry → ℕ
clock_from clock [] = clock
clock_from clock (e ∷ es) = clock_from (clock_by clock e.event) es

-- the greatest moment of a journal
abbrev pub clock_of : List Entry → ℕ
clock_of journal = clock_from 0 journal

-- a frame comes by the event
abbrev pub is_frame : Event → Bool
is_frame (Frame bytes) = true
is_frame _ = false

-- a request is handed in by the event
abbrev pub is_submit : Event → Bool
is_submit (Submit lease ask timeout now) = true
is_submit _ = false

-- a lease is asked for by the event
abbrev pub is_ask : Event → Bool
is_ask (AskLease now) = true
is_ask _ = false

-- how many entries of a journal are frames, how many are requests, and how many ask for a lease
abbrev pub frames_in : List Entry → ℕ
frames_in journal = count_by (λ e. is_frame e.event) journal

abbrev pub requests_in : List Entry → ℕ
requests_in journal = count_by (λ e. is_submit e.event) journal

abbrev pub asks_in : List Entry → ℕ
asks_in journal = count_by (λ e. is_ask e.event) journal
