-- A script's answers stand line by line, in words that stand apart.
use Rattle.std.proofs.Common.{◌≡◌, ◌-◌, ℕ, ◌+◌, ◌≤◌, Bool, true, false, List, [], ◌∷◌, ◌++◌, Some, None, codes, length, refl, inl, inr, ◌∙◌, ap, arith}
use Rattle.std.specs.Prelude.{if◌then◌else◌}
use Rattle.std.specs.List.{AllByRecursion, flat_map}
use Rattle.txn_core.specs.RowSteps.{answer_of}
use Rattle.wire_frames.specs.RawFrames.{raw_admits}
use Rattle.wire_frames.specs.declared.asks.Ask.TheVariants.{Raw}
use Rattle.wire_frames.specs.declared.raw.RawWire.{RawWire}
use Rattle.conn_core.specs.States.{State, table_in}
use Rattle.conn_core.specs.Steps.{collect, take_send}
use Rattle.answer_texts.specs.Lines.{IsFeedless, IsSpaced, IsWordLine}
use Rattle.answer_texts.proofs.AnswerLaws as answers
use Rattle.answer_texts.proofs.LineLemmas.{feedless_apart, feedless_frame, feedless_rows, feedless_word, spaced_apart, spaced_frame, spaced_rows, spaced_word}
use Rattle.answer_texts.proofs.WordLemmas.{written}
use Rattle.script_lines.specs.Scripts.{IsLine}
use Rattle.script_lines.specs.declared.commands.Call.{Call}
use Rattle.script_lines.specs.declared.commands.Call.TheVariants.{AskLease, PollLease, Release, Submit, TakeSend, Frame, Cancel, Collect, Tick, Shutdown}
use Rattle.script_lines.specs.declared.commands.Command.{Command}
use Rattle.script_lines.specs.declared.commands.Command.TheVariants.{Table as TableLine, Calls}
use Rattle.script_replay.specs.Replays.{AreAnswered, Script, Turn, after_call, after_command, answer_text, answers_by, opened, raw, command_text}
use Rattle.script_replay.specs.declared.replays.ScriptEnd.{ScriptEnd}
use Rattle.script_replay.specs.declared.replays.ScriptEnd.TheVariants.{Answered, Refused}
use Rattle.script_replay.proofs.StepWords.{collected_some, sent_some}

if_answer : (P : List ℕ → Type 0) (b : Bool) (one other : Turn) → P one.answer → P other.answer → P (if b then one else other).answer
if_answer P true one other h k = h
if_answer P false one other h k = k

not_admitted : IsFeedless (codes "not admitted")
not_admitted = feedless_apart (codes "not") (codes "admitted") (feedless_word (codes "not") (written (codes "not") refl)) (feedless_word (codes "admitted") (written (codes "admitted") refl))

answer_feedless : (st : State RawWire) (call : Call) → IsFeedless (answer_text st call)
answer_feedless st (AskLease caller now) = answers.asked IsFeedless feedless_word feedless_apart _
answer_feedless st (PollLease caller lease) = answers.polled IsFeedless feedless_word feedless_apart _
answer_feedless st (Release caller lease now) = answers.released IsFeedless feedless_word feedless_apart _
answer_feedless st (Submit caller lease now timeout payload) =
    if_answer IsFeedless (raw_admits (Raw payload)) _ _ (answers.submitted IsFeedless feedless_word feedless_apart _) not_admitted
answer_feedless st TakeSend = answers.sent IsFeedless feedless_word feedless_apart _ (feedless_frame _)
answer_feedless st (Frame bytes) = answers.received IsFeedless feedless_word feedless_apart _
answer_feedless st (Cancel caller id) = answers.cancelled IsFeedless feedless_word feedless_apart _
answer_feedless st (Collect caller id) = answers.collected IsFeedless feedless_word feedless_apart _ (feedless_rows _)
answer_feedless st (Tick now) = answers.ticked IsFeedless feedless_word feedless_apart _
answer_feedless st (Shutdown caller) = answers.stopped IsFeedless feedless_word feedless_apart _

-- ---- words stand apart

not_admitted_spaced : IsSpaced (codes "not admitted")
not_admitted_spaced = spaced_apart (codes "not") (codes "admitted") (spaced_word (codes "not") (written (codes "not") refl)) (spaced_word (codes "admitted") (written (codes "admitted") refl))

answer_spaced : (st : State RawWire) (call : Call) → IsSpaced (answer_text st call)
answer_spaced st (AskLease caller now) = answers.asked IsSpaced spaced_word spaced_apart _
answer_spaced st (PollLease caller lease) = answers.polled IsSpaced spaced_word spaced_apart _
answer_spaced st (Release caller lease now) = answers.released IsSpaced spaced_word spaced_apart _
answer_spaced st (Submit caller lease now timeout payload) =
    if_answer IsSpaced (raw_admits (Raw payload)) _ _ (answers.submitted IsSpaced spaced_word spaced_apart _) not_admitted_spaced
answer_spaced st TakeSend =
    let sent = answer_of (take_send (table_in raw st)) in answers.sent IsSpaced spaced_word spaced_apart sent (spaced_frame sent (sent_some st))
answer_spaced st (Frame bytes) = answers.received IsSpaced spaced_word spaced_apart _
answer_spaced st (Cancel caller id) = answers.cancelled IsSpaced spaced_word spaced_apart _
answer_spaced st (Collect caller id) =
    let taken = answer_of (collect (table_in raw st) caller id) in
    answers.collected IsSpaced spaced_word spaced_apart taken (spaced_rows taken (collected_some st caller id))
answer_spaced st (Tick now) = answers.ticked IsSpaced spaced_word spaced_apart _
answer_spaced st (Shutdown caller) = answers.stopped IsSpaced spaced_word spaced_apart _

-- the line behind the last one that was taken
abbrev pub place_of : ScriptEnd → ℕ
place_of (Answered next entries) = next
place_of (Refused line) = line

abbrev pub in_lines : List (List ℕ) → List ℕ
in_lines all = flat_map (λ answer. answer ++ codes "\n") all

-- from line n on, each line that was taken has a line of the text
record Stand (n : ℕ) (text : List ℕ) (end : ScriptEnd) : Type 0 where
  all : List (List ℕ)
  lines : AllByRecursion IsWordLine all
  joined : text ≡ in_lines all
  count : length all + n ≡ place_of end

none_taken : (n : ℕ) (text : List ℕ) (end : ScriptEnd) → text ≡ [] → place_of end ≡ n → Stand n text end
none_taken n text end empty place = record { all = []; lines = tt; joined = empty; count = omega (arith, place) }

taken : (n : ℕ) (st : State RawWire) (line : List ℕ) (command : Command) (text rest : List ℕ) (end : ScriptEnd) → 2 ≤ n → IsLine n line command → text ≡ command_text (Some st) command ++ rest → Stand (n + 1) rest end → Stand n text end
taken n st line (TableLine s) text rest end two here is more = let first = here.1 in absurd (omega arith)
taken n st line (Calls call) text rest end two here is more =
    record {
      all = answer_text st call ∷ more.all;
      lines = ((answer_feedless st call, answer_spaced st call), more.lines);
      joined = is ∙ ap (λ (x : List ℕ). (answer_text st call ++ codes "\n") ++ x) more.joined;
      count = omega (arith, more.count);
    }

-- behind the first line there is a connection, so what holds from any connection on holds behind the next line
goes_on : (n : ℕ) (st : State RawWire) (line : List ℕ) (command : Command) (lines : List (List ℕ)) (rest : List ℕ) (end : ScriptEnd) → 2 ≤ n → IsLine n line command → AreAnswered (n + 1) (after_command (Some st) command) lines rest end → ((next : State RawWire) → AreAnswered (n + 1) (Some next) lines rest end → Stand (n + 1) rest end) → Stand (n + 1) rest end
goes_on n st line (TableLine s) lines rest end two here more each = let first = here.1 in absurd (omega arith)
goes_on n st line (Calls call) lines rest end two here more each = each (after_call st call) more

behind : (n : ℕ) (st : State RawWire) (lines : List (List ℕ)) (text : List ℕ) (end : ScriptEnd) → 2 ≤ n → AreAnswered n (Some st) lines text end → Stand n text end
behind n st [] text end two h = none_taken n text end h.0 (ap place_of h.1)
behind n st (line ∷ lines) text end two h =
    elim h [
      | inl here ↦
          taken n st line here.0 text here.1 end two here.2 here.3
          (goes_on n st line here.0 lines here.1 end two here.2 here.4 (λ next more. behind (n + 1) next lines here.1 end (omega arith) more))
      | inr none ↦ none_taken n text end none.1 (ap place_of none.2)
    ]

answers_before : (end : ScriptEnd) → answers_by end ≡ place_of end - 2
answers_before (Answered next entries) = refl
answers_before (Refused line) = refl

abbrev pub AreAnswers : (text : List ℕ) → ScriptEnd → Type 0
AreAnswers text end =
    (all : List (List ℕ)) × AllByRecursion IsWordLine all × (text ≡ flat_map (λ answer. answer ++ codes "\n") all) × (length all ≡ answers_by end)

told : (text : List ℕ) (end : ScriptEnd) → Stand 2 text end → AreAnswers text end
told text end h = (h.all, h.lines, h.joined, omega (arith, h.count, answers_before end))

nothing_told : (n : ℕ) (text : List ℕ) (end : ScriptEnd) → n ≡ 1 → text ≡ [] → place_of end ≡ n → AreAnswers text end
nothing_told n text end first empty place = ([], tt, empty, omega (arith, place, answers_before end))

table_first : (line : List ℕ) (command : Command) (lines : List (List ℕ)) (text rest : List ℕ) (end : ScriptEnd) → IsLine 1 line command → text ≡ command_text None command ++ rest → AreAnswered 2 (after_command None command) lines rest end → AreAnswers text end
table_first line (TableLine s) lines text rest end here is more =
    let all = told rest end (behind 2 (opened s) lines rest end (omega arith) more) in (all.0, all.1, is ∙ all.2, all.3)
table_first line (Calls call) lines text rest end here is more = let far = here.1 in absurd (omega arith)

pub line_by_line : (lines : List (List ℕ)) (text : List ℕ) (end : ScriptEnd) → Script lines text end → AreAnswers text end
line_by_line [] text end h = nothing_told 1 text end refl h.0 (ap place_of h.1)
line_by_line (line ∷ lines) text end h =
    elim h [
      | inl here ↦ table_first line here.0 lines text here.1 end here.2 here.3 here.4
      | inr none ↦ nothing_told 1 text end refl none.1 (ap place_of none.2)
    ]
