-- What the lines of a script are answered, by the steps of the request table over the raw wire.
use Rattle.std.specs.Prelude.{◌≡◌, ◌⊎◌, ℕ, ◌+◌, ◌-◌, ◌^◌, min, if◌then◌else◌, List, [], ◌∷◌, ◌++◌, length, codes, Option, Some, None, Result, ok_or}
use Rattle.lease_core.specs.LeaseTables.{state_of}
use Rattle.lease_core.specs.declared.answers.LeaseState.{LeaseState}
use Rattle.txn_core.specs.RowSteps.{answer_of}
use Rattle.wire_frames.specs.RawFrames.{raw_admits, raw_meaning}
use Rattle.wire_frames.specs.WireMeaning.{WireMeaning}
use Rattle.wire_frames.specs.declared.asks.Ask.TheVariants.{Raw}
use Rattle.wire_frames.specs.declared.ends.Reason.TheVariants as reasons
use Rattle.wire_frames.specs.declared.raw.RawWire.{RawWire}
use Rattle.conn_core.specs.Calls.{tick_answer}
use Rattle.conn_core.specs.States.{State, state_after, table_in}
use Rattle.conn_core.specs.Steps as steps
use Rattle.conn_core.specs.Steps.{Request, accepted_of, when_open}
use Rattle.conn_core.specs.Tables.{Table}
use Rattle.conn_core.specs.declared.answers.LeaseRefusal.{LeaseRefusal}
use Rattle.conn_core.specs.declared.answers.LeaseRefusal.TheVariants as lease_refusals
use Rattle.conn_core.specs.declared.entries.Event.{Event}
use Rattle.conn_core.specs.declared.entries.Event.TheVariants as events
use Rattle.conn_core.specs.declared.settings.Settings.{Settings}
use Rattle.answer_texts.specs.Answers.{asked_text, cancelled_text, collected_text, polled_text, received_text, released_text, sent_text, stopped_text, submitted_text, ticked_text}
use Rattle.script_lines.specs.Scripts.{IsLine}
use Rattle.script_lines.specs.declared.commands.Call.{Call}
use Rattle.script_lines.specs.declared.commands.Call.TheVariants.{AskLease, PollLease, Release, Submit, TakeSend, Frame, Cancel, Collect, Tick, Shutdown}
use Rattle.script_lines.specs.declared.commands.Command.{Command}
use Rattle.script_lines.specs.declared.commands.Command.TheVariants.{Table as TableLine, Calls}
use Rattle.script_replay.specs.declared.replays.ScriptEnd.{ScriptEnd}
use Rattle.script_replay.specs.declared.replays.ScriptEnd.TheVariants.{Answered, Refused}

-- every raw wire means the same
abbrev pub raw : RawWire → WireMeaning
raw wire = raw_meaning

-- a connection to which nothing has happened
abbrev pub opened : Settings → State RawWire
opened s = record { key = record { wire = record {}; settings = s }; journal = [] }

-- ---- a call

-- an event of a connection, and who causes it
pub record Act : Type 0 where
  pub actor : ℕ
  pub event : Event

-- what a call comes to: the event that it asks for, if it asks for one, and its answer
pub record Turn : Type 0 where
  pub act : Option Act
  pub answer : List ℕ

abbrev pub acting : (actor : ℕ) → Event → (answer : List ℕ) → Turn
acting actor event answer = record { act = Some (record { actor = actor; event = event }); answer = answer }

abbrev pub telling : (answer : List ℕ) → Turn
telling answer = record { act = None; answer = answer }

-- what a lease is to a caller, unless the table is closed
abbrev pub polled : Table → (caller lease : ℕ) → Result LeaseState LeaseRefusal
polled t caller lease = when_open lease_refusals.Closed t.closed (ok_or (state_of t.leases caller lease) lease_refusals.NoLease)

-- a caller's request, unless the wire doesn't admit it
abbrev pub submitting : Table → (caller lease now timeout : ℕ) → (payload : List ℕ) → Turn
submitting t caller lease now timeout payload =
    let request : Request = record { actor = caller; lease = lease; ask = Raw payload; timeout = timeout; moment = now } in
    if raw_admits (Raw payload)
    then acting caller (events.Submit lease (Raw payload) timeout now) (submitted_text (accepted_of (answer_of (steps.submit raw_meaning t request))))
    else telling (codes "not admitted")

-- What each command asks of the table, and how the table's answer reads. Callers act as themselves; `send`, `frame` and `tick`
-- act as 0.
abbrev pub turn_of : Table → Call → Turn
turn_of t (AskLease caller now) = acting caller (events.AskLease now) (asked_text (answer_of (steps.ask_lease t caller now)))
turn_of t (PollLease caller lease) = telling (polled_text (polled t caller lease))
turn_of t (Release caller lease now) = acting caller (events.Release lease now) (released_text (answer_of (steps.release t caller lease now)))
turn_of t (Submit caller lease now timeout payload) = submitting t caller lease now timeout payload
turn_of t TakeSend = acting 0 events.TakeSend (sent_text (answer_of (steps.take_send t)))
turn_of t (Frame bytes) = acting 0 (events.Frame bytes) (received_text (answer_of (steps.apply_frame raw_meaning t bytes)))
turn_of t (Cancel caller id) = acting caller (events.Cancel id) (cancelled_text (answer_of (steps.cancel t caller id)))
turn_of t (Collect caller id) = acting caller (events.Collect id) (collected_text (answer_of (steps.collect t caller id)))
turn_of t (Tick now) = acting 0 (events.Tick now) (ticked_text (tick_answer (steps.tick t now)))
turn_of t (Shutdown caller) = acting caller events.Shutdown (stopped_text (answer_of (steps.close t reasons.Asked)))

-- what a call is answered
abbrev pub answer_text : State RawWire → Call → List ℕ
answer_text st call = (turn_of (table_in raw st) call).answer

-- the state after what a call asks for: the one before it, where it asks for no event or its event is refused
abbrev pub after_act : State RawWire → Option Act → State RawWire
after_act st None = st
after_act st (Some act) = state_after raw st act.actor act.event

abbrev pub after_call : State RawWire → Call → State RawWire
after_call st call = after_act st (turn_of (table_in raw st) call).act

-- ---- a script

-- The table line makes the connection, and has no answer. Before it there is none, and no other line stands there.
abbrev pub after_command : Option (State RawWire) → Command → Option (State RawWire)
after_command conn (TableLine s) = Some (opened s)
after_command (Some st) (Calls call) = Some (after_call st call)
after_command None (Calls call) = None

-- A line for each answer. No script has the last case, so it has no text: calls stand behind the table alone.
abbrev pub command_text : Option (State RawWire) → Command → List ℕ
command_text conn (TableLine s) = []
command_text (Some st) (Calls call) = answer_text st call ++ codes "\n"
command_text None (Calls call) = []

-- where a script is: the number of its next line, and the connection, once there is one
pub record Position : Type 0 where
  pub next : ℕ
  pub conn : Option (State RawWire)

-- where it is once its next line was this command
abbrev pub after_line : Position → Command → Position
after_line p command = record { next = p.next + 1; conn = after_command p.conn command }

-- the same as 64 bits count the lines: the number stands still at their end
abbrev pub in_64_bits : Position → Position
in_64_bits p = record { next = min p.next (2 ^ 64 - 1); conn = p.conn }

-- These lines all stand, and lead from the one place to the other.
abbrev pub Leads : Position → List (List ℕ) → Position → Type 0
Leads here [] there = there ≡ here
Leads here (line ∷ lines) there =
    (command : Command) × IsLine here.next line command × Leads (after_line here command) lines there

-- how many entries the journal has, where there is a connection
abbrev pub entries : Option (State RawWire) → ℕ
entries None = 0
entries (Some st) = length st.journal

-- From the line with this number on, these lines are answered by this text, up to the first that is refused.
abbrev pub AreAnswered : (n : ℕ) → Option (State RawWire) → List (List ℕ) → (text : List ℕ) → ScriptEnd → Type 0
AreAnswered n conn [] text end = (text ≡ []) × (end ≡ Answered n (entries conn))
AreAnswered n conn (line ∷ lines) text end =
    ((command : Command) × (rest : List ℕ) × IsLine n line command × (text ≡ command_text conn command ++ rest) × AreAnswered (n + 1) (after_command conn command) lines rest end)
    ⊎ (((command : Command) → IsLine n line command → ⊥) × (text ≡ []) × (end ≡ Refused n))

-- a script, from its first line on
abbrev pub Script : List (List ℕ) → (text : List ℕ) → ScriptEnd → Type 0
Script lines text end = AreAnswered 1 None lines text end

-- how many answers a script has, by how its lines end: one for each line that was taken but the first
abbrev pub answers_by : ScriptEnd → ℕ
answers_by (Answered next entries) = next - 2
answers_by (Refused line) = line - 2
