-- Before a refused line all lines are answered.
use Rattle.std.proofs.Common.{◌≡◌, ◌-◌, ℕ, zero, suc, ◌+◌, List, [], ◌∷◌, Option, Some, None, take, refl, inl, inr, sym, ◌∙◌, ap, subst, arith}
use Rattle.std.specs.Prelude.{slice_get}
use Rattle.wire_frames.specs.declared.raw.RawWire.{RawWire}
use Rattle.conn_core.specs.States.{State}
use Rattle.script_lines.specs.Scripts.{IsLine}
use Rattle.script_lines.specs.declared.commands.Command.{Command}
use Rattle.script_replay.specs.Replays.{AreAnswered, Script, after_command, entries}
use Rattle.script_replay.specs.declared.replays.ScriptEnd.{ScriptEnd}
use Rattle.script_replay.specs.declared.replays.ScriptEnd.TheVariants.{Answered, Refused}

-- so many lines behind line n, line m is none, and the lines before it are answered
record StopsBehind (n : ℕ) (conn : Option (State RawWire)) (lines : List (List ℕ)) (text : List ℕ) (m : ℕ) : Type 0 where
  behind : ℕ
  line : List ℕ
  count : ℕ
  number : m ≡ n + behind
  stands : slice_get lines behind ≡ Some line
  none : (command : Command) → IsLine m line command → ⊥
  answered : AreAnswered n conn (take behind lines) text (Answered m count)

stops : (n : ℕ) (conn : Option (State RawWire)) (lines : List (List ℕ)) (text : List ℕ) (end : ScriptEnd) (m : ℕ) → end ≡ Refused m → AreAnswered n conn lines text end → StopsBehind n conn lines text m
stops n conn [] text end m is h =
    let both : ◌≡◌ {A = ScriptEnd} (Answered n (entries conn)) (Refused m) = sym h.1 ∙ is in absurd (cc)
stops n conn (line ∷ lines) text end m is h =
    elim h [
      | inl here ↦
          let rest = stops (n + 1) (after_command conn here.0) lines here.1 end m is here.4 in
          record {
            behind = suc rest.behind;
            line = rest.line;
            count = rest.count;
            number = omega (arith, rest.number);
            stands = rest.stands;
            none = rest.none;
            answered = inl (here.0, here.1, here.2, here.3, rest.answered);
          }
      | inr none ↦
          let both : ◌≡◌ {A = ScriptEnd} (Refused n) (Refused m) = sym none.2 ∙ is in
          let same : n ≡ m = cc in
          record {
            behind = zero;
            line = line;
            count = entries conn;
            number = omega arith;
            stands = refl;
            none = λ command there. none.0 command (subst (λ (k : ℕ). IsLine k line command) (sym same) there);
            answered = (none.1, ap (λ (k : ℕ). Answered k (entries conn)) (sym same));
          }
    ]

pub behind_answered : (lines : List (List ℕ)) (text : List ℕ) (n : ℕ) → Script lines text (Refused n) → (line : List ℕ) × (count : ℕ) × (slice_get lines (n - 1) ≡ Some line) × ((command : Command) → IsLine n line command → ⊥) × Script (take (n - 1) lines) text (Answered n count)
behind_answered lines text n h =
    let found = stops 1 None lines text (Refused n) n refl h in
    let place : found.behind ≡ n - 1 = omega (arith, found.number) in (
      found.line,
      found.count,
      subst (λ (k : ℕ). slice_get lines k ≡ Some found.line) place found.stands,
      found.none,
      subst (λ (k : ℕ). Script (take k lines) text (Answered n found.count)) place found.answered,
    )
