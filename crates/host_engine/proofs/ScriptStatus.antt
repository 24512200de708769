-- What a script's run says of a line that is refused.
use Rattle.std.proofs.Common.{◌≡◌, ℕ, true, false, List, ◌++◌, take, Option, Some, None, refl, sym, ap, ◌∙◌, arith}
use Rattle.std.specs.Prelude.{if◌then◌else◌}
use Rattle.link_io.specs.Streams.{SourceSeen, after_taking}
use Rattle.script_lines.specs.Scripts.{must_stand}
use Rattle.script_replay.specs.Replays.{Script}
use Rattle.script_replay.specs.declared.replays.ScriptEnd.{ScriptEnd}
use Rattle.script_replay.specs.declared.replays.ScriptEnd.TheVariants.{Answered, Refused as LineRefused}
use Rattle.host_engine.specs.declared.inputs.How.{How}
use Rattle.host_engine.specs.declared.inputs.How.TheVariants.{Ended, Failed, Over}
use Rattle.host_engine.specs.Lines.{lines_of}
use Rattle.host_engine.specs.Runs.{InputTaken}
use Rattle.host_engine.specs.Tool.{AreReplay, ComesTo, Course, IsDecided, Said, Taken, Tool, WordsRefused, FileFault, TextRefused, NotBuilt, TypeRefused, Values, Answers, Described, entries_said, input_limit, refusal_of_line, refused_line, said, script_last}
use Rattle.host_engine.proofs.StatusLemmas.{not_last}

refused_at : (left : How) (end : ScriptEnd) → (script_last (Some left) end).status ≡ 10 → (line : ℕ) × (refused_line left end ≡ Some line) × ((script_last (Some left) end).text ≡ (refusal_of_line line).text)
refused_at left (LineRefused n) e = (n, refl, refl)
refused_at Failed (Answered next entries) e = absurd (omega (arith, e))
refused_at Over (Answered next entries) e = absurd (omega (arith, e))
refused_at Ended (Answered next entries) e =
    elim (must_stand next) as (λ v. (if v then refusal_of_line next else entries_said entries).status ≡ 10 → (line : ℕ) × ((if v then Some next else None) ≡ Some line) × ((if v then refusal_of_line next else entries_said entries).text ≡ (refusal_of_line line).text))
    [ true ↦ λ h. (next, refl, refl) | false ↦ λ h. absurd (omega (arith, h)) ] e

-- a run that says that a line is refused is a script's, whose lines end at this one
line_by : (words : List (List ℕ)) (file : Option (List ℕ)) (bytes : List ℕ) (how : Option How) (course : Course) (outcome : Said) (before after : SourceSeen) (held held' : Option (List ℕ)) → ComesTo words (record { file = file; bytes = bytes; how = how }) course → IsDecided how course → outcome ≡ said how course → outcome.status ≡ 10 → InputTaken before after bytes how → held' ≡ after_taking outcome.text held
    → AreReplay words × ((taken : List ℕ) × (left : How) × (text : List ℕ) × (end : ScriptEnd) × (line : ℕ) × InputTaken before after taken (Some left) × Script (lines_of (Some left) (take input_limit taken)) text end × (refused_line left end ≡ Some line) × (held' ≡ after_taking (text ++ (refusal_of_line line).text) held))
line_by words file bytes how WordsRefused outcome before after held held' comes decided is e input put = absurd (omega (arith, e, ap (λ (o : Said). o.status) is))
line_by words file bytes how FileFault outcome before after held held' comes decided is e input put = absurd (omega (arith, e, ap (λ (o : Said). o.status) is))
line_by words file bytes how (TextRefused place why) outcome before after held held' comes decided is e input put = absurd (omega (arith, e, ap (λ (o : Said). o.status) is))
line_by words file bytes how NotBuilt outcome before after held held' comes decided is e input put = absurd (omega (arith, e, ap (λ (o : Said). o.status) is))
line_by words file bytes how TypeRefused outcome before after held held' comes decided is e input put = absurd (omega (arith, e, ap (λ (o : Said). o.status) is))
line_by words file bytes how (Values d def readings ending) outcome before after held held' comes decided is e input put =
    absurd (not_last how ending 10 refl (sym e ∙ ap (λ (o : Said). o.status) is))
line_by words file bytes None (Answers text end) outcome before after held held' comes decided is e input put = absurd decided
line_by words file bytes (Some left) (Answers text end) outcome before after held held' comes decided is e input put =
    let at = refused_at left end (ap (λ (o : Said). o.status) (sym is) ∙ e) in
    let all : held' ≡ after_taking (text ++ (refusal_of_line at.0).text) held = put ∙ ap (λ (o : Said). after_taking o.text held) is ∙ ap (λ (last : List ℕ). after_taking (text ++ last) held) at.2 in
    (comes.0, (bytes, left, text, end, at.0, input, comes.1, at.1, all))
line_by words file bytes how (Described command d) outcome before after held held' comes decided is e input put = absurd (omega (arith, e, ap (λ (o : Said). o.status) is))

pub line_at_10 : (words : List (List ℕ)) (t : Taken) (outcome : Said) (before after : SourceSeen) (held held' : Option (List ℕ)) → Tool words t outcome → outcome.status ≡ 10 → InputTaken before after t.bytes t.how → held' ≡ after_taking outcome.text held
    → AreReplay words × ((taken : List ℕ) × (left : How) × (text : List ℕ) × (end : ScriptEnd) × (line : ℕ) × InputTaken before after taken (Some left) × Script (lines_of (Some left) (take input_limit taken)) text end × (refused_line left end ≡ Some line) × (held' ≡ after_taking (text ++ (refusal_of_line line).text) held))
line_at_10 words t outcome before after held held' tool e input put =
    line_by words t.file t.bytes t.how tool.0 outcome before after held held' tool.1 tool.2 tool.3 e input put
