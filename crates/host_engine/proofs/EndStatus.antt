-- What a run that read its input to the end says: values up to their ending, or a script.
use Rattle.std.proofs.Common.{◌≡◌, ◌<◌, ◌≤◌, ◌+◌, ◌==◌, ℕ, ◌⊎◌, true, false, List, [], ◌∷◌, ◌++◌, length, take, Option, Some, None, refl, inl, inr, sym, ap, subst, ◌∙◌, arith}
use Rattle.std.specs.Prelude.{if◌then◌else◌}
use Rattle.std.proofs.lemmas.Bool.Decides.{nat_tests}
use Rattle.node_tree.specs.declared.readings.Reading.{Reading}
use Rattle.mspec_tree.specs.declared.defs.Description.{Description}
use Rattle.mspec_meaning.specs.Stream.{Ending, End, TooFew, Refused}
use Rattle.wire_frames.specs.declared.raw.RawWire.{RawWire}
use Rattle.conn_core.specs.Journals.{Legal}
use Rattle.conn_core.specs.States.{State, connection_of}
use Rattle.link_io.specs.Streams.{after_taking}
use Rattle.script_lines.specs.Scripts.{must_stand}
use Rattle.script_replay.proofs.ScriptLaws.{legal_end}
use Rattle.script_replay.specs.Replays.{AreAnswered, Leads, Script, after_command, raw}
use Rattle.script_replay.specs.declared.replays.ScriptEnd.{ScriptEnd}
use Rattle.script_replay.specs.declared.replays.ScriptEnd.TheVariants.{Answered, Refused as LineRefused}
use Rattle.host_engine.specs.declared.inputs.How.{How}
use Rattle.host_engine.specs.declared.words.FileCommand.{FileCommand}
use Rattle.host_engine.specs.declared.words.FileCommand.TheVariants.{Check, Print}
use Rattle.host_engine.specs.declared.inputs.How.TheVariants.{Ended, Failed, Over}
use Rattle.host_engine.specs.Lines.{lines_of}
use Rattle.host_engine.specs.Runs.{FileTaken, InputTaken, Shown, Took, WasChecked, WasDecoded, WasDescribed, WasPrinted, WasReplayed}
use Rattle.host_engine.specs.Tool.{ComesTo, Course, IsDecided, Said, Taken, Tool, WordsRefused, FileFault, TextRefused, NotBuilt, TypeRefused, Values, Answers, Described, entries_said, input_limit, last_said, refusal_of_line, said, script_said}
use Rattle.host_engine.proofs.StatusLemmas.{not_script}

-- ---- values

well_values : (how : Option How) (d : Description) (def : ℕ) (readings : List Reading) (ending : Ending) → (last_said how ending).status ≡ 0 → IsDecided how (Values d def readings ending) → (how ≡ Some Ended) × (ending ≡ End)
well_values how d def readings (Refused bit why) e decided = absurd (omega (arith, e))
well_values None d def readings End e decided = absurd decided
well_values None d def readings (TooFew n) e decided = absurd decided
well_values (Some Ended) d def readings End e decided = (refl, refl)
well_values (Some Ended) d def readings (TooFew n) e decided = absurd (omega (arith, e))
well_values (Some Failed) d def readings End e decided = absurd (omega (arith, e))
well_values (Some Failed) d def readings (TooFew n) e decided = absurd (omega (arith, e))
well_values (Some Over) d def readings End e decided = absurd (omega (arith, e))
well_values (Some Over) d def readings (TooFew n) e decided = absurd (omega (arith, e))

cut_values : (how : Option How) (d : Description) (def : ℕ) (readings : List Reading) (ending : Ending) → (last_said how ending).status ≡ 7 → IsDecided how (Values d def readings ending) → (how ≡ Some Ended) × ((left : ℕ) × (ending ≡ TooFew left))
cut_values how d def readings (Refused bit why) e decided = absurd (omega (arith, e))
cut_values None d def readings End e decided = absurd decided
cut_values None d def readings (TooFew n) e decided = absurd decided
cut_values (Some Ended) d def readings End e decided = absurd (omega (arith, e))
cut_values (Some Ended) d def readings (TooFew n) e decided = (refl, (n, refl))
cut_values (Some Failed) d def readings End e decided = absurd (omega (arith, e))
cut_values (Some Failed) d def readings (TooFew n) e decided = absurd (omega (arith, e))
cut_values (Some Over) d def readings End e decided = absurd (omega (arith, e))
cut_values (Some Over) d def readings (TooFew n) e decided = absurd (omega (arith, e))

decoded : (words : List (List ℕ)) (counts_with : List ℕ → List ℕ → Type 0) (b a : Shown) (t : Taken) (d : Description) (def : ℕ) (readings : List Reading) (ending : Ending) (outcome : Said) → Took words counts_with b.files a.files b.input a.input t → ComesTo words t (Values d def readings ending) → t.how ≡ Some Ended → outcome ≡ said t.how (Values d def readings ending) → a.out.held ≡ after_taking outcome.text b.out.held
    → WasDecoded words counts_with b a ending
decoded words counts_with b a t d def readings ending outcome took comes ended is put =
    record {
      d = d;
      def = def;
      taken = t.bytes;
      readings = readings;
      ready = (comes.0, comes.1, comes.2, comes.3, subst (λ (f : Option (List ℕ)). FileTaken words counts_with b.files a.files f) comes.4 took.from_files, comes.5, comes.6);
      from_input = subst (λ (h : Option How). InputTaken b.input a.input t.bytes h) ended took.from_input;
      values = comes.7;
      put_out = put ∙ ap (λ (o : Said). after_taking o.text b.out.held) (is ∙ ap (λ (h : Option How). said h (Values d def readings ending)) ended);
    }

-- ---- scripts

-- lines that were all answered are counted
counted : (n : ℕ) (at : Option (State RawWire)) (lines : List (List ℕ)) (text : List ℕ) (next entries : ℕ) → AreAnswered n at lines text (Answered next entries) → n ≤ next
counted n at [] text next entries answered = let same : next ≡ n = cc in omega (arith, same)
counted n at (line ∷ lines) text next entries answered =
    elim answered [
      | inl more ↦ let rest = counted (n + 1) (after_command at more.0) lines more.1 next entries more.4 in omega (arith, rest)
      | inr refused ↦ absurd cc
    ]

-- a line that needn't stand is behind the first
behind_first : (next : ℕ) → 1 ≤ next → must_stand next ≡ false → 1 < next
behind_first next some h = let past : (next == 1) ≡ false = h in grind (arith, nat_tests)

-- the lines of a script that was answered to its end
abbrev AnsweredBy : List (List ℕ) → (text last : List ℕ) → Type 0
AnsweredBy lines text last =
    (next : ℕ)
    × (state : State RawWire)
    × Script lines text (Answered next (length state.journal))
    × Leads (record { next = 1; conn = None }) lines (record { next = next; conn = Some state })
    × Legal (connection_of raw state.key) state.journal
    × (last ≡ (entries_said (length state.journal)).text)
    × (1 < next)

answered_to_the_end : (lines : List (List ℕ)) (text : List ℕ) (next entries : ℕ) → Script lines text (Answered next entries) → (script_said next entries).status ≡ 0 → AnsweredBy lines text (script_said next entries).text
answered_to_the_end lines text next entries script e =
    elim (must_stand next) as (λ v. must_stand next ≡ v → (if v then refusal_of_line next else entries_said entries).status ≡ 0 → AnsweredBy lines text (if v then refusal_of_line next else entries_said entries).text) [
      | true ↦ λ past h. absurd (omega (arith, h))
      | false ↦ λ past h.
          let first = behind_first next (counted 1 None lines text next entries script) past in
          let come = legal_end lines text next entries script first in
          (next, come.0, subst (λ n. Script lines text (Answered next n)) come.2 script, come.3, come.1, ap (λ (n : ℕ). (entries_said n).text) come.2, first)
    ] refl e

replayed : (words : List (List ℕ)) (b a : Shown) (file : Option (List ℕ)) (bytes : List ℕ) (how : Option How) (text : List ℕ) (end : ScriptEnd) (outcome : Said) → InputTaken b.input a.input bytes how → ComesTo words (record { file = file; bytes = bytes; how = how }) (Answers text end) → IsDecided how (Answers text end) → outcome ≡ said how (Answers text end) → outcome.status ≡ 0 → a.out.held ≡ after_taking outcome.text b.out.held
    → WasReplayed words b a
replayed words b a file bytes how text (LineRefused n) outcome input comes decided is e put = absurd (omega (arith, e, ap (λ (o : Said). o.status) is))
replayed words b a file bytes None text (Answered next entries) outcome input comes decided is e put = absurd decided
replayed words b a file bytes (Some Failed) text (Answered next entries) outcome input comes decided is e put = absurd (omega (arith, e, ap (λ (o : Said). o.status) is))
replayed words b a file bytes (Some Over) text (Answered next entries) outcome input comes decided is e put = absurd (omega (arith, e, ap (λ (o : Said). o.status) is))
replayed words b a file bytes (Some Ended) text (Answered next entries) outcome input comes decided is e put =
    let by = answered_to_the_end (lines_of (Some Ended) (take input_limit bytes)) text next entries comes.1 (ap (λ (o : Said). o.status) (sym is) ∙ e) in
    record {
      taken = bytes;
      text = text;
      next = by.0;
      state = by.1;
      are_replay = comes.0;
      from_input = input;
      answered = by.2;
      leads = by.3;
      legal = by.4;
      first = by.6;
      put_out = put ∙ ap (λ (o : Said). after_taking o.text b.out.held) is ∙ ap (λ (last : List ℕ). after_taking (text ++ last) b.out.held) by.5;
    }

-- ---- by the status

described : (words : List (List ℕ)) (counts_with : List ℕ → List ℕ → Type 0) (b a : Shown) (t : Taken) (command : FileCommand) (d : Description) (outcome : Said) → Took words counts_with b.files a.files b.input a.input t → ComesTo words t (Described command d) → outcome ≡ said t.how (Described command d) → a.out.held ≡ after_taking outcome.text b.out.held
    → WasDescribed words command counts_with b a
described words counts_with b a t command d outcome took comes is put =
    record {
      file_name = comes.0;
      text = comes.1;
      d = d;
      are_words = comes.2;
      from_files = subst (λ (f : Option (List ℕ)). FileTaken words counts_with b.files a.files f) comes.3 took.from_files;
      described = comes.4;
      put_out = put ∙ ap (λ (o : Said). after_taking o.text b.out.held) is;
    }

abbrev EndsWell : (words : List (List ℕ)) → (counts_with : List ℕ → List ℕ → Type 0) → (b a : Shown) → Type 0
EndsWell words counts_with b a =
    WasDecoded words counts_with b a End
    ⊎ WasReplayed words b a
    ⊎ WasPrinted words counts_with b a
    ⊎ WasChecked words counts_with b a

by_command : (words : List (List ℕ)) (command : FileCommand) (counts_with : List ℕ → List ℕ → Type 0) (b a : Shown) → WasDescribed words command counts_with b a → EndsWell words counts_with b a
by_command words Check counts_with b a was = inr (inr (inr was))
by_command words Print counts_with b a was = inr (inr (inl was))

well_by : (words : List (List ℕ)) (counts_with : List ℕ → List ℕ → Type 0) (b a : Shown) (t : Taken) (course : Course) (outcome : Said) → Took words counts_with b.files a.files b.input a.input t → ComesTo words t course → IsDecided t.how course → outcome ≡ said t.how course → outcome.status ≡ 0 → a.out.held ≡ after_taking outcome.text b.out.held
    → EndsWell words counts_with b a
well_by words counts_with b a t WordsRefused outcome took comes decided is e put = absurd (omega (arith, e, ap (λ (o : Said). o.status) is))
well_by words counts_with b a t FileFault outcome took comes decided is e put = absurd (omega (arith, e, ap (λ (o : Said). o.status) is))
well_by words counts_with b a t (TextRefused place why) outcome took comes decided is e put = absurd (omega (arith, e, ap (λ (o : Said). o.status) is))
well_by words counts_with b a t NotBuilt outcome took comes decided is e put = absurd (omega (arith, e, ap (λ (o : Said). o.status) is))
well_by words counts_with b a t TypeRefused outcome took comes decided is e put = absurd (omega (arith, e, ap (λ (o : Said). o.status) is))
well_by words counts_with b a t (Values d def readings ending) outcome took comes decided is e put =
    let h = well_values t.how d def readings ending (ap (λ (o : Said). o.status) (sym is) ∙ e) decided in
    inl (subst (λ (last : Ending). WasDecoded words counts_with b a last) h.1 (decoded words counts_with b a t d def readings ending outcome took comes h.0 is put))
well_by words counts_with b a t (Answers text end) outcome took comes decided is e put =
    inr (inl (replayed words b a t.file t.bytes t.how text end outcome took.from_input comes decided is e put))
well_by words counts_with b a t (Described command d) outcome took comes decided is e put =
    by_command words command counts_with b a (described words counts_with b a t command d outcome took comes is put)

pub well_at_0 : (words : List (List ℕ)) (counts_with : List ℕ → List ℕ → Type 0) (b a : Shown) (t : Taken) (outcome : Said) → Took words counts_with b.files a.files b.input a.input t → Tool words t outcome → outcome.status ≡ 0 → a.out.held ≡ after_taking outcome.text b.out.held
    → WasDecoded words counts_with b a End ⊎ WasReplayed words b a ⊎ WasPrinted words counts_with b a ⊎ WasChecked words counts_with b a
well_at_0 words counts_with b a t outcome took tool e put = well_by words counts_with b a t tool.0 outcome took tool.1 tool.2 tool.3 e put

cut_by : (words : List (List ℕ)) (counts_with : List ℕ → List ℕ → Type 0) (b a : Shown) (t : Taken) (course : Course) (outcome : Said) → Took words counts_with b.files a.files b.input a.input t → ComesTo words t course → IsDecided t.how course → outcome ≡ said t.how course → outcome.status ≡ 7 → a.out.held ≡ after_taking outcome.text b.out.held
    → (left : ℕ) × WasDecoded words counts_with b a (TooFew left)
cut_by words counts_with b a t WordsRefused outcome took comes decided is e put = absurd (omega (arith, e, ap (λ (o : Said). o.status) is))
cut_by words counts_with b a t FileFault outcome took comes decided is e put = absurd (omega (arith, e, ap (λ (o : Said). o.status) is))
cut_by words counts_with b a t (TextRefused place why) outcome took comes decided is e put = absurd (omega (arith, e, ap (λ (o : Said). o.status) is))
cut_by words counts_with b a t NotBuilt outcome took comes decided is e put = absurd (omega (arith, e, ap (λ (o : Said). o.status) is))
cut_by words counts_with b a t TypeRefused outcome took comes decided is e put = absurd (omega (arith, e, ap (λ (o : Said). o.status) is))
cut_by words counts_with b a t (Values d def readings ending) outcome took comes decided is e put =
    let h = cut_values t.how d def readings ending (ap (λ (o : Said). o.status) (sym is) ∙ e) decided in
    (h.1.0, subst (λ (last : Ending). WasDecoded words counts_with b a last) h.1.1 (decoded words counts_with b a t d def readings ending outcome took comes h.0 is put))
cut_by words counts_with b a t (Answers text end) outcome took comes decided is e put =
    absurd (not_script t.how end 7 refl (sym e ∙ ap (λ (o : Said). o.status) is))
cut_by words counts_with b a t (Described command d) outcome took comes decided is e put = absurd (omega (arith, e, ap (λ (o : Said). o.status) is))

pub cut_at_7 : (words : List (List ℕ)) (counts_with : List ℕ → List ℕ → Type 0) (b a : Shown) (t : Taken) (outcome : Said) → Took words counts_with b.files a.files b.input a.input t → Tool words t outcome → outcome.status ≡ 7 → a.out.held ≡ after_taking outcome.text b.out.held
    → (left : ℕ) × WasDecoded words counts_with b a (TooFew left)
cut_at_7 words counts_with b a t outcome took tool e put = cut_by words counts_with b a t tool.0 outcome took tool.1 tool.2 tool.3 e put
