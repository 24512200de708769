-- What making a table, and handing in a request, need of their numbers, and what polling a lease needs of the journal. Each line
-- of a script has it, and only the private functions that run a line ask for it.
use Rattle.std.specs.Prelude.{◌≤◌, Option, Some, None}
use Rattle.wire_frames.specs.declared.raw.RawWire.{RawWire}
use Rattle.conn_core.specs.Journals.{Legal, timeout_limit}
use Rattle.conn_core.specs.States.{State, connection_of}
use Rattle.conn_core.specs.Tables.{IsSettings}
use Rattle.script_lines.specs.declared.commands.Call.{Call}
use Rattle.script_lines.specs.declared.commands.Call.TheVariants.{Submit}
use Rattle.script_lines.specs.declared.commands.Command.{Command}
use Rattle.script_lines.specs.declared.commands.Command.TheVariants.{Table, Calls}
use Rattle.script_replay.specs.Replays.{raw}

-- the timeout of a request is from 1 ms to an hour
abbrev pub HasTimeout : Call → Type 0
HasTimeout (Submit caller lease now timeout payload) = (1 ≤ timeout) × (timeout ≤ timeout_limit)
HasTimeout _ = Unit {0}

-- the ranges that a connection and its calls need
abbrev pub IsInRanges : Command → Type 0
IsInRanges (Table s) = IsSettings s
IsInRanges (Calls call) = HasTimeout call

-- a connection whose journal is legal
abbrev pub IsLegal : State RawWire → Type 0
IsLegal st = Legal (connection_of raw st.key) st.journal

abbrev pub IsLegalIfAny : Option (State RawWire) → Type 0
IsLegalIfAny None = Unit {0}
IsLegalIfAny (Some st) = IsLegal st
