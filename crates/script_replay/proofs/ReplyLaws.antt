-- Some text answers the lines of each script.
use Rattle.std.proofs.Common.{ℕ, ◌+◌, List, [], ◌∷◌, ◌++◌, Option, refl, inl, inr}
use Rattle.wire_frames.specs.declared.raw.RawWire.{RawWire}
use Rattle.conn_core.specs.States.{State}
use Rattle.script_lines.proofs.LineTotal.{line_decided}
use Rattle.script_replay.specs.Replays.{AreAnswered, after_command, entries, command_text}
use Rattle.script_replay.specs.declared.replays.ScriptEnd.{ScriptEnd}
use Rattle.script_replay.specs.declared.replays.ScriptEnd.TheVariants.{Answered, Refused}

pub some_replies : (n : ℕ) (conn : Option (State RawWire)) (lines : List (List ℕ)) → (text : List ℕ) × (end : ScriptEnd) × AreAnswered n conn lines text end
some_replies n conn [] = ([], Answered n (entries conn), (refl, refl))
some_replies n conn (line ∷ lines) =
    elim (line_decided n line) [
      | inl found ↦
          let rest = some_replies (n + 1) (after_command conn found.0) lines in
          (command_text conn found.0 ++ rest.0, rest.1, inl (found.0, rest.0, found.1, refl, rest.2))
      | inr none ↦ ([], Refused n, inr (none, refl, refl))
    ]
