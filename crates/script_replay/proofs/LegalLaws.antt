-- What a script asks of its connection is a legal journal.
use Rattle.std.proofs.Common.{◌≡◌, ℕ, ◌+◌, Bool, true, false, Option, Some, None, refl, arith}
use Rattle.std.specs.Prelude.{MatchOption, if◌then◌else◌}
use Rattle.wire_frames.specs.RawFrames.{raw_admits}
use Rattle.wire_frames.specs.declared.asks.Ask.TheVariants.{Raw}
use Rattle.wire_frames.specs.declared.raw.RawWire.{RawWire}
use Rattle.conn_core.specs.Journals.{Legal, opened as nothing_yet, turned, is_worn}
use Rattle.conn_core.specs.States.{State, connection_of, grown, table_in}
use Rattle.conn_core.specs.Steps.{step}
use Rattle.conn_core.specs.Tables.{Table}
use Rattle.conn_core.specs.declared.entries.Answer.{Answer}
use Rattle.conn_core.specs.declared.entries.Event.{Event}
use Rattle.script_lines.specs.Scripts.{IsAt}
use Rattle.script_lines.specs.declared.commands.Call.{Call}
use Rattle.script_lines.specs.declared.commands.Call.TheVariants.{AskLease, PollLease, Release, Submit, TakeSend, Frame, Cancel, Collect, Tick, Shutdown}
use Rattle.script_lines.specs.declared.commands.Command.{Command}
use Rattle.script_lines.specs.declared.commands.Command.TheVariants.{Table as TableLine, Calls}
use Rattle.script_replay.specs.Replays.{Act, Turn, after_act, after_call, after_command, raw, turn_of}
use Rattle.script_replay.specs.Timed.{IsLegal, IsLegalIfAny}

-- an event, if there is one, that isn't the close by a full journal
abbrev pub IsPlain : Option Act → Type 0
IsPlain None = Unit {0}
IsPlain (Some act) = is_worn act.event ≡ false

if_plain : (b : Bool) (one other : Turn) → IsPlain one.act → IsPlain other.act → IsPlain (if b then one else other).act
if_plain true one other h k = h
if_plain false one other h k = k

call_plain : (t : Table) (call : Call) → IsPlain (turn_of t call).act
call_plain t (AskLease caller now) = refl
call_plain t (PollLease caller lease) = tt
call_plain t (Release caller lease now) = refl
call_plain t (Submit caller lease now timeout payload) = if_plain (raw_admits (Raw payload)) _ _ refl tt
call_plain t TakeSend = refl
call_plain t (Frame bytes) = refl
call_plain t (Cancel caller id) = refl
call_plain t (Collect caller id) = refl
call_plain t (Tick now) = refl
call_plain t (Shutdown caller) = refl

grown_legal : (st : State RawWire) (actor : ℕ) (event : Event) (o : Option (Table × Answer)) → step (connection_of raw st.key) (table_in raw st) actor event ≡ o → is_worn event ≡ false → IsLegal st → Legal (connection_of raw st.key) (grown (connection_of raw st.key) st.journal actor event o)
grown_legal st actor event None steps plain legal = legal
grown_legal st actor event (Some p) steps plain legal = turned st.journal (record { actor = actor; event = event; answer = p.1 }) p.0 legal plain steps

act_legal : (st : State RawWire) (act : Option Act) → IsPlain act → IsLegal st → IsLegal (after_act st act)
act_legal st None plain legal = legal
act_legal st (Some act) plain legal =
    grown_legal st act.actor act.event (step (connection_of raw st.key) (table_in raw st) act.actor act.event) refl plain legal

pub call_legal : (st : State RawWire) (call : Call) → IsLegal st → IsLegal (after_call st call)
call_legal st call legal = act_legal st (turn_of (table_in raw st) call).act (call_plain (table_in raw st) call) legal

pub command_legal : (conn : Option (State RawWire)) (command : Command) → IsLegalIfAny conn → IsLegalIfAny (after_command conn command)
command_legal conn (TableLine s) legal = nothing_yet
command_legal (Some st) (Calls call) legal = call_legal st call legal
command_legal None (Calls call) legal = tt

-- a connection with a legal journal behind the first line, and none before it
abbrev pub IsSound : ℕ → Option (State RawWire) → Type 0
IsSound n conn = MatchOption conn (n ≡ 1) (λ st. IsLegal st)

-- each line leads from a sound place to the next
pub line_sound : (n : ℕ) (conn : Option (State RawWire)) (command : Command) → IsAt n command → IsSound n conn → IsSound (n + 1) (after_command conn command)
line_sound n conn (TableLine s) here sound = nothing_yet
line_sound n (Some st) (Calls call) here sound = call_legal st call sound
line_sound n None (Calls call) here sound = absurd (omega arith)
