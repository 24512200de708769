-- The first lines of a script are answered by a front of its text.
use Rattle.std.proofs.Common.{◌≡◌, ℕ, zero, suc, ◌+◌, List, [], ◌∷◌, ◌++◌, Option, take, refl, inl, inr, sym, ap, ◌∙◌, append_assoc}
use Rattle.wire_frames.specs.declared.raw.RawWire.{RawWire}
use Rattle.conn_core.specs.States.{State}
use Rattle.script_replay.specs.Replays.{AreAnswered, after_command, entries, command_text}
use Rattle.script_replay.specs.declared.replays.ScriptEnd.{ScriptEnd}
use Rattle.script_replay.specs.declared.replays.ScriptEnd.TheVariants.{Answered}

pub front_answered : (count n : ℕ) (conn : Option (State RawWire)) (lines : List (List ℕ)) (text : List ℕ) (end : ScriptEnd) → AreAnswered n conn lines text end → (front rest : List ℕ) × (last : ScriptEnd) × (text ≡ front ++ rest) × AreAnswered n conn (take count lines) front last
front_answered zero n conn lines text end h = ([], text, Answered n (entries conn), refl, (refl, refl))
front_answered (suc count) n conn [] text end h = ([], [], end, h.0, (refl, h.1))
front_answered (suc count) n conn (line ∷ lines) text end h =
    elim h [
      | inl here ↦
          let more = front_answered count (n + 1) (after_command conn here.0) lines here.1 end here.4 in
          let answer = command_text conn here.0 in (
            answer ++ more.0,
            more.1,
            more.2,
            here.3 ∙ ap (λ (rest : List ℕ). answer ++ rest) more.3 ∙ sym (append_assoc answer more.0 more.1),
            inl (here.0, more.0, here.2, refl, more.4),
          )
      | inr none ↦ ([], [], end, none.1, inr (none.0, refl, none.2))
    ]
