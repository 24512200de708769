-- Lines have one text and one end, and lead to a connection with a legal journal.
use Rattle.std.proofs.Common.{◌≡◌, inl, inr, ℕ, ◌+◌, ◌≤◌, List, [], ◌∷◌, ◌++◌, Option, Some, None, length, refl, sym, ap, ◌∙◌, subst, arith}
use Rattle.wire_frames.specs.declared.raw.RawWire.{RawWire}
use Rattle.conn_core.specs.States.{State}
use Rattle.script_lines.specs.Scripts.{AreSpelled, Bytes, Number, Operand, Spells, spelling_of}
use Rattle.script_lines.specs.declared.commands.Call.TheVariants.{AskLease, PollLease, Release, Submit, TakeSend, Frame, Cancel, Collect, Tick, Shutdown}
use Rattle.script_lines.specs.declared.commands.Command.{Command}
use Rattle.script_lines.specs.declared.commands.Command.TheVariants.{Table, Calls}
use Rattle.script_lines.proofs.LineLaws.{same_command}
use Rattle.script_replay.specs.Replays.{Leads, Position, AreAnswered, after_command, entries, command_text}
use Rattle.script_replay.specs.Timed.{IsInRanges, IsLegal}
use Rattle.script_replay.specs.declared.replays.ScriptEnd.{ScriptEnd}
use Rattle.script_replay.specs.declared.replays.ScriptEnd.TheVariants.{Answered, Refused}
use Rattle.script_replay.proofs.LegalLaws.{IsSound, line_sound}

abbrev pub AreSame : (text other : List ℕ) (end last : ScriptEnd) → Type 0
AreSame text other end last = (text ≡ other) × (end ≡ last)

-- two runs from one place on
pub same_replies : (n : ℕ) (conn : Option (State RawWire)) (lines : List (List ℕ)) (text other : List ℕ) (end last : ScriptEnd) → AreAnswered n conn lines text end → AreAnswered n conn lines other last → AreSame text other end last
same_replies n conn [] text other end last h k = (h.0 ∙ sym k.0, h.1 ∙ sym k.1)
same_replies n conn (line ∷ lines) text other end last h k =
    elim h [
      | inl here ↦
          elim k [
            | inl there ↦
                let same : there.0 ≡ here.0 = same_command n line there.0 here.0 there.2 here.2 in
                let goes : AreAnswered (n + 1) (after_command conn here.0) lines there.1 last = subst (λ (command : Command). AreAnswered (n + 1) (after_command conn command) lines there.1 last) same there.4 in
                let rest = same_replies (n + 1) (after_command conn here.0) lines here.1 there.1 end last here.4 goes in
                (here.3 ∙ ap (λ more. command_text conn here.0 ++ more) rest.0 ∙ ap (λ command. command_text conn command ++ there.1) (sym same) ∙ sym there.3, rest.1)
            | inr none ↦ absurd (none.0 here.0 here.2)
          ]
      | inr none ↦
          elim k [
            | inl there ↦ absurd (none.0 there.0 there.2)
            | inr other_none ↦ (none.1 ∙ sym other_none.1, none.2 ∙ sym other_none.2)
          ]
    ]

-- lines that were answered up to their end have come from this place to that connection
abbrev pub HasCome : Position → List (List ℕ) → ℕ → ℕ → Type 0
HasCome here lines next count =
    (conn : Option (State RawWire)) × IsSound next conn × (count ≡ entries conn) × Leads here lines (record { next = next; conn = conn })

come : (n : ℕ) (conn : Option (State RawWire)) (lines : List (List ℕ)) (text : List ℕ) (end : ScriptEnd) (next count : ℕ) → end ≡ Answered next count → IsSound n conn → AreAnswered n conn lines text end → HasCome (record { next = n; conn = conn }) lines next count
come n conn [] text end next count is sound h =
    let both : ◌≡◌ {A = ScriptEnd} (Answered n (entries conn)) (Answered next count) = sym h.1 ∙ is in
    let place : n ≡ next = cc in
    let many : count ≡ entries conn = cc in
    let stays : ◌≡◌ {A = Position} (record { next = next; conn = conn }) (record { next = n; conn = conn }) = ap (λ k. record { next = k; conn = conn }) (sym place) in
    (conn, subst (λ k. IsSound k conn) place sound, many, stays)
come n conn (line ∷ lines) text end next count is sound h =
    elim h [
      | inl here ↦
          let rest = come (n + 1) (after_command conn here.0) lines here.1 end next count is (line_sound n conn here.0 here.2.1 sound) here.4 in
          (rest.0, rest.1, rest.2, (here.0, here.2, rest.3))
      | inr none ↦ let both : ◌≡◌ {A = ScriptEnd} (Refused n) (Answered next count) = sym none.2 ∙ is in absurd (cc)
    ]

-- behind its first line a script has a connection
abbrev pub IsLegalAt : List (List ℕ) → ℕ → ℕ → Type 0
IsLegalAt lines next count =
    (state : State RawWire) × IsLegal state × (count ≡ length state.journal) × Leads (record { next = 1; conn = None }) lines (record { next = next; conn = Some state })

behind : (lines : List (List ℕ)) (next count : ℕ) (conn : Option (State RawWire)) → 2 ≤ next → IsSound next conn → count ≡ entries conn → Leads (record { next = 1; conn = None }) lines (record { next = next; conn = conn }) → IsLegalAt lines next count
behind lines next count (Some state) far sound is leads = (state, sound, is, leads)
behind lines next count None far sound is leads = absurd (omega arith)

pub legal_end : (lines : List (List ℕ)) (text : List ℕ) (next count : ℕ) → AreAnswered 1 None lines text (Answered next count) → 2 ≤ next → IsLegalAt lines next count
legal_end lines text next count h far =
    let some = come 1 None lines text (Answered next count) next count refl refl h in behind lines next count some.0 far some.1 some.2 some.3

-- ---- the numbers of a line are in their ranges

abbrev AreWithin : List Operand → Type 0
AreWithin [] = Unit {0}
AreWithin (Number low high value ∷ operands) = ((low ≤ value) × (value ≤ high)) × AreWithin operands
AreWithin (Bytes bytes ∷ operands) = Unit {0} × AreWithin operands

operands_within : (words : List (List ℕ)) (operands : List Operand) → AreSpelled words operands → AreWithin operands
operands_within [] [] h = tt
operands_within [] (operand ∷ operands) h = absurd h
operands_within (word ∷ words) [] h = tt
operands_within (word ∷ words) (Number low high value ∷ operands) h = ((h.0.1, h.0.2), operands_within words operands h.1)
operands_within (word ∷ words) (Bytes bytes ∷ operands) h = (tt, operands_within words operands h.1)

pub in_ranges : (words : List (List ℕ)) (command : Command) → Spells words command → IsInRanges command
in_ranges [] command h = absurd h
in_ranges (word ∷ words) (Table s) h =
    let within = operands_within words (spelling_of (Table s)).operands h.1 in
    record {
      references = (within.0.0, omega (arith, within.0.1));
      window = within.1.0;
      share = within.1.1.0;
      journal = within.1.1.1.0;
      lease_ms = within.1.1.1.1.0;
      wait_ms = within.1.1.1.1.1.0;
    }
in_ranges (word ∷ words) (Calls (Submit caller lease now timeout payload)) h =
    let within = operands_within words (spelling_of (Calls (Submit caller lease now timeout payload))).operands h.1 in within.1.1.1.0
in_ranges (word ∷ words) (Calls (AskLease caller now)) h = tt
in_ranges (word ∷ words) (Calls (PollLease caller lease)) h = tt
in_ranges (word ∷ words) (Calls (Release caller lease now)) h = tt
in_ranges (word ∷ words) (Calls TakeSend) h = tt
in_ranges (word ∷ words) (Calls (Frame bytes)) h = tt
in_ranges (word ∷ words) (Calls (Cancel caller id)) h = tt
in_ranges (word ∷ words) (Calls (Collect caller id)) h = tt
in_ranges (word ∷ words) (Calls (Tick now)) h = tt
in_ranges (word ∷ words) (Calls (Shutdown caller)) h = tt
