-- Where the streams tell all, and no call fails, a run says what the tool says of what they tell.
use Rattle.std.proofs.Common.{◌≡◌, ℕ, ◌+◌, ◌<◌, ◌≤◌, ◌⊎◌, false, List, [], length, take, Option, Some, None, refl, inl, inr, sym, ap, ◌∙◌, subst, arith}
use Rattle.std.specs.Option.{IfSome}
use Rattle.std.specs.Prelude.{◌==◌, if◌then◌else◌}
use Rattle.std.proofs.lemmas.Bool.Decides.{nat_tests}
use Rattle.std.proofs.lemmas.List.{length-take, take_all}
use Rattle.mspec_tree.specs.declared.defs.Description.{Description}
use Rattle.mspec_meaning.specs.Stream.{Stream, End, TooFew, Refused}
use Rattle.std.proofs.lemmas.Bool.{cases_eq}
use Rattle.link_io.specs.Counts.{Rose}
use Rattle.link_io.specs.Streams.{ShelfSeen, SourceSeen, Tape, AreAllLeft, AreNext, AreNext-all, IsAtEnd, after_taking}
use Rattle.script_lines.specs.Scripts.{must_stand}
use Rattle.script_replay.specs.Replays.{Script}
use Rattle.script_replay.specs.declared.replays.ScriptEnd.TheVariants.{Answered}
use Rattle.host_engine.specs.declared.inputs.How.{How}
use Rattle.host_engine.specs.declared.words.FileCommand.{FileCommand}
use Rattle.host_engine.specs.declared.inputs.How.TheVariants.{Ended, Failed, Over}
use Rattle.host_engine.specs.Lines.{lines_of}
use Rattle.host_engine.specs.Runs.{FileSeen, InputTaken, IsRun, Shown}
use Rattle.host_engine.specs.Texts.{Describes}
use Rattle.host_engine.specs.Told.{GivesSo, InputTold, IsTold, NoneFailed, TellsScript, TellsValues}
use Rattle.host_engine.specs.Tool.{AreOverFile, NamesFile, ComesTo, Course, IsDecided, Said, Taken, Tool, WordsRefused, FileFault, TextRefused, NotBuilt, TypeRefused, Values, Answers, Described, entries_said, input_limit, refusal_of_line, said, script_said}
use Rattle.host_engine.proofs.NoRefusal.{no_refusal}
use Rattle.host_engine.proofs.OneSaid.{moved_description, one_said}
use Rattle.host_engine.proofs.StatusLemmas.{names_no_script, no_text, refused_file}
use Rattle.host_engine.proofs.WordLemmas.{one_file}

-- ---- what was taken is what was told

file_told : (name : List ℕ) (before after : ShelfSeen) (file : Option (List ℕ)) (text : List ℕ) → FileSeen name before after file → (Rose (before.faults name) (after.faults name) → ⊥) → before.file name ≡ Some text → file ≡ Some text
file_told name before after None text seen well told = absurd (well seen)
file_told name before after (Some read) text seen well told =
    ap (λ (bytes : List ℕ). Some bytes) (subst (λ (f : Option (List ℕ)). IfSome f (λ bytes. read ≡ bytes)) told seen.1)

-- the input was left as it is told
abbrev LeftAsTold : (taken : List ℕ) → How → (bytes : List ℕ) → (left : How) → Type 0
LeftAsTold taken how bytes left = (taken ≡ bytes) × (how ≡ left)

ended_told : (tape : Tape) (taken bytes : List ℕ) (left : How) → tape.left ≡ taken → length taken ≤ input_limit → GivesSo left tape.left bytes → LeftAsTold taken Ended bytes left
ended_told tape taken bytes Ended all short gives = (sym all ∙ sym gives.0, refl)
ended_told tape taken bytes Over all short gives = absurd (omega (arith, ap length all, short, gives.1))
ended_told tape taken bytes Failed all short gives = absurd gives

over_told : (tape : Tape) (taken bytes : List ℕ) (left : How) → take (length taken) tape.left ≡ taken → length taken ≡ 1 + input_limit → GivesSo left tape.left bytes → LeftAsTold taken Over bytes left
over_told tape taken bytes Ended next long gives =
    absurd (omega (arith, ap length next, length-take (length taken) tape.left, long, gives.1))
over_told tape taken bytes Over next long gives =
    (sym next ∙ ap (λ n. take n tape.left) long ∙ sym gives.0, refl)
over_told tape taken bytes Failed next long gives = absurd gives

left_told : (before after : SourceSeen) (tape : Tape) (taken bytes : List ℕ) (how left : How) → InputTaken before after taken (Some how) → (Rose before.faults after.faults → ⊥) → before.tape ≡ Some tape → GivesSo left tape.left bytes → LeftAsTold taken how bytes left
left_told before after tape taken bytes Ended left input well tells gives =
    let end = subst (λ (t : Option Tape). IsAtEnd t) input.given (input.at_end refl) in
    let all = AreNext-all taken before.tape input.next end in
    ended_told tape taken bytes left (subst (λ (t : Option Tape). AreAllLeft taken t) tells all) input.left.2 gives
left_told before after tape taken bytes Over left input well tells gives =
    over_told tape taken bytes left (subst (λ (t : Option Tape). AreNext taken t) tells input.next) input.left.2 gives
left_told before after tape taken bytes Failed left input well tells gives = absurd (well input.left.1)

-- ---- a run that left its input

decided_so : (how : Option How) (course : Course) → IsDecided None course → IsDecided how course
decided_so None course decided = decided
decided_so (Some left) course decided = tt

-- What a run says that took nothing of its input, each says that took the same file.
without_input : (words : List (List ℕ)) (file : Option (List ℕ)) (bytes : List ℕ) (u : Taken) (course : Course) → ((name : List ℕ) → NamesFile words name → u.file ≡ file) → ComesTo words (record { file = file; bytes = bytes; how = None }) course → IsDecided None course → Tool words u (said None course)
without_input words file bytes u WordsRefused same comes decided = (WordsRefused, comes, decided_so u.how WordsRefused decided, refl)
without_input words file bytes u FileFault same comes decided =
    (FileFault, (comes.0, comes.1, same comes.0 comes.1 ∙ comes.2), decided_so u.how FileFault decided, refl)
without_input words file bytes u (TextRefused place why) same comes decided =
    (TextRefused place why, (comes.0, comes.1, comes.2, same comes.0 comes.2 ∙ comes.3, comes.4), decided_so u.how (TextRefused place why) decided, refl)
without_input words file bytes u NotBuilt same comes decided =
    (NotBuilt, (comes.0, comes.1, comes.2, comes.3, comes.4, same comes.0 (inl (comes.1, comes.4)) ∙ comes.5, comes.6, comes.7), decided_so u.how NotBuilt decided, refl)
without_input words file bytes u TypeRefused same comes decided =
    (TypeRefused, (comes.0, comes.1, comes.2, comes.3, comes.4, same comes.0 (inl (comes.1, comes.4)) ∙ comes.5, comes.6, comes.7), decided_so u.how TypeRefused decided, refl)
without_input words file bytes u (Values d def readings End) same comes decided = absurd decided
without_input words file bytes u (Values d def readings (TooFew left)) same comes decided = absurd decided
without_input words file bytes u (Values d def readings (Refused bit why)) same comes decided =
    absurd (no_refusal comes.2 d def (take input_limit bytes) readings bit why comes.5 comes.7)
without_input words file bytes u (Answers text end) same comes decided = absurd decided
without_input words file bytes u (Described command d) same comes decided =
    (Described command d, (comes.0, comes.1, comes.2, same comes.0 (inr (command, comes.2)) ∙ comes.3, comes.4), decided_so u.how (Described command d) decided, refl)

left_alone : (words : List (List ℕ)) (t u : Taken) (outcome : Said) → ((name : List ℕ) → NamesFile words name → u.file ≡ t.file) → t.how ≡ None → Tool words t outcome → Tool words u outcome
left_alone words t u outcome same none tool =
    let comes = subst (λ (how : Option How). ComesTo words (record { file = t.file; bytes = t.bytes; how = how }) tool.0) none tool.1 in
    let decided = subst (λ (how : Option How). IsDecided how tool.0) none tool.2 in
    let is = tool.3 ∙ ap (λ (how : Option How). said how tool.0) none in
    subst (λ (o : Said). Tool words u o) (sym is) (without_input words t.file t.bytes u tool.0 same comes decided)

-- ---- a run

-- runs that took the same say the same
same_taken : (words : List (List ℕ)) (file other : Option (List ℕ)) (bytes : List ℕ) (how : How) (course : Course) → ((name : List ℕ) → NamesFile words name → other ≡ file) → ComesTo words (record { file = file; bytes = bytes; how = Some how }) course → ComesTo words (record { file = other; bytes = bytes; how = Some how }) course
same_taken words file other bytes how WordsRefused same comes = comes
same_taken words file other bytes how FileFault same comes = (comes.0, comes.1, same comes.0 comes.1 ∙ comes.2)
same_taken words file other bytes how (TextRefused place why) same comes =
    (comes.0, comes.1, comes.2, same comes.0 comes.2 ∙ comes.3, comes.4)
same_taken words file other bytes how NotBuilt same comes =
    (comes.0, comes.1, comes.2, comes.3, comes.4, same comes.0 (inl (comes.1, comes.4)) ∙ comes.5, comes.6, comes.7)
same_taken words file other bytes how TypeRefused same comes =
    (comes.0, comes.1, comes.2, comes.3, comes.4, same comes.0 (inl (comes.1, comes.4)) ∙ comes.5, comes.6, comes.7)
same_taken words file other bytes how (Values d def readings ending) same comes =
    (comes.0, comes.1, comes.2, comes.3, same comes.0 (inl (comes.1, comes.3)) ∙ comes.4, comes.5, comes.6, comes.7)
same_taken words file other bytes how (Answers text end) same comes = comes
same_taken words file other bytes how (Described command d) same comes =
    (comes.0, comes.1, comes.2, same comes.0 (inr (command, comes.2)) ∙ comes.3, comes.4)

as_told : (words : List (List ℕ)) (before after : SourceSeen) (t : Taken) (file : Option (List ℕ)) (taken : List ℕ) (how : Option How) (one other : Said) → ((name : List ℕ) → NamesFile words name → file ≡ t.file) → ((t.how ≡ None) × (t.bytes ≡ [])) ⊎ InputTold before t.bytes t.how → (Rose before.faults after.faults → ⊥) → InputTaken before after taken how → Tool words t one → Tool words (record { file = file; bytes = taken; how = how }) other → other ≡ one
as_told words before after t file taken None one other same told well input tool ran =
    one_said words t other one (left_alone words (record { file = file; bytes = taken; how = None }) t other (λ name names. sym (same name names)) refl ran) tool
as_told words before after t file taken (Some how) one other same told well input tool ran =
    let u : Taken = record { file = file; bytes = taken; how = Some how } in
    elim told [
      | inl none ↦ one_said words u other one ran (left_alone words t u one same none.0 tool)
      | inr all ↦
          let left = left_told before after all.tape taken t.bytes how all.left input well all.tells all.gives in
          let there : t.how ≡ Some how = all.is_left ∙ ap (λ (h : How). Some h) (sym left.1) in
          let comes : ComesTo words (record { file = t.file; bytes = taken; how = Some how }) tool.0 =
          subst (λ (bytes : List ℕ). ComesTo words (record { file = t.file; bytes = bytes; how = Some how }) tool.0) (sym left.0)
          (subst (λ (h : Option How). ComesTo words (record { file = t.file; bytes = t.bytes; how = h }) tool.0) there tool.1) in
          let is : one ≡ said (Some how) tool.0 = tool.3 ∙ ap (λ (h : Option How). said h tool.0) there in
          one_said words u other one ran (tool.0, same_taken words t.file file taken how tool.0 same comes, tt, is)
    ]

pub complete : (words : List (List ℕ)) (counts_with : List ℕ → List ℕ → Type 0) (before after : Shown) (status : ℕ) → IsRun words counts_with before after status → (t : Taken) (outcome : Said) → IsTold words before.files before.input t → Tool words t outcome → NoneFailed words before after
    → (status ≡ 8) ⊎ ((status ≡ outcome.status) × (after.out.held ≡ after_taking outcome.text before.out.held))
complete words counts_with before after status run t outcome told tool well =
    elim (cases_eq status 5) [
      | inl five ↦ absurd (well.out (run.out_failed five))
      | inr put ↦ elim (cases_eq status 8) [
        | inl eight ↦ inl eight
        | inr enough ↦
            let s = run.said put enough in
            let same : (name : List ℕ) → NamesFile words name → s.0.file ≡ t.file =
            λ name names.
            let text = told.from_file name names in
            file_told name before.files after.files s.0.file text.0 (s.2.from_files.named name names) (well.file name names) text.1 ∙ sym text.2 in
            let is : s.1 ≡ outcome = as_told words before.input after.input t s.0.file s.0.bytes s.0.how outcome s.1 same told.from_input well.input s.2.from_input tool s.3 in
            inr (s.5 ∙ ap (λ (o : Said). o.status) is, s.4 ∙ ap (λ (o : Said). after_taking o.text before.out.held) is)
      ]
    ]

-- ---- values and scripts

-- bytes within the limit all count
all_count : (bytes : List ℕ) → length bytes ≤ input_limit → take input_limit bytes ≡ bytes
all_count bytes short = take_all input_limit bytes short

pub values_well : (words : List (List ℕ)) (counts_with : List ℕ → List ℕ → Type 0) (before after : Shown) (status : ℕ) → IsRun words counts_with before after status → TellsValues words before.files before.input → NoneFailed words before after → (status ≡ 0) ⊎ (status ≡ 8)
values_well words counts_with before after status run v well =
    let t : Taken = record { file = Some v.text; bytes = v.tape.left; how = Some Ended } in
    let named : (name : List ℕ) → NamesFile words name → v.file_name ≡ name = λ name names. one_file words v.file_name name (inl (v.type_name, v.are_decode)) names in
    let told : IsTold words before.files before.input t =
    record {
      from_file = λ name names. (v.text, ap before.files.file (sym (named name names)) ∙ v.file, refl);
      from_input = inr (record { tape = v.tape; left = Ended; tells = v.source; is_left = refl; gives = (refl, v.within) });
    } in
    let stream = subst (λ (bytes : List ℕ). Stream v.d v.def [] bytes v.readings End) (sym (all_count v.tape.left v.within)) v.values in
    let tool : Tool words t (said (Some Ended) (Values v.d v.def v.readings End)) =
    (Values v.d v.def v.readings End, (v.file_name, v.type_name, v.text, v.are_decode, refl, v.form, v.names, stream), tt, refl) in
    elim (complete words counts_with before after status run t (said (Some Ended) (Values v.d v.def v.readings End)) told tool well)
    [ inl eight ↦ inr eight | inr done ↦ inl done.0 ]

-- a line behind the first needn't stand
behind : (next : ℕ) → 1 < next → (next == 1) ≡ false
behind next past = grind (arith, nat_tests)

past_first : (next entries : ℕ) → 1 < next → (script_said next entries).status ≡ 0
past_first next entries past =
    let free : must_stand next ≡ false = behind next past in
    ap (λ v. (if v then refusal_of_line next else entries_said entries).status) free

pub script_well : (words : List (List ℕ)) (counts_with : List ℕ → List ℕ → Type 0) (before after : Shown) (status : ℕ) → IsRun words counts_with before after status → TellsScript words before.input → NoneFailed words before after → (status ≡ 0) ⊎ (status ≡ 8)
script_well words counts_with before after status run s well =
    let t : Taken = record { file = None; bytes = s.tape.left; how = Some Ended } in
    let told : IsTold words before.files before.input t =
    record {
      from_file = λ name names. absurd (names_no_script words name names s.are_replay);
      from_input = inr (record { tape = s.tape; left = Ended; tells = s.source; is_left = refl; gives = (refl, s.within) });
    } in
    let lines = subst (λ (bytes : List ℕ). Script (lines_of (Some Ended) bytes) s.text (Answered s.next s.entries)) (sym (all_count s.tape.left s.within)) s.lines in
    let tool : Tool words t (said (Some Ended) (Answers s.text (Answered s.next s.entries))) =
    (Answers s.text (Answered s.next s.entries), (s.are_replay, lines), tt, refl) in
    elim (complete words counts_with before after status run t (said (Some Ended) (Answers s.text (Answered s.next s.entries))) told tool well)
    [ inl eight ↦ inr eight | inr done ↦ inl (done.0 ∙ past_first s.next s.entries s.first) ]

-- ---- descriptions

described_decided : (how : Option How) (command : FileCommand) (d : Description) → IsDecided how (Described command d)
described_decided None command d = tt
described_decided (Some left) command d = tt

pub answered_well : (words : List (List ℕ)) (counts_with : List ℕ → List ℕ → Type 0) (before after : Shown) (status : ℕ) → IsRun words counts_with before after status → (command : FileCommand) (name text : List ℕ) (d : Description) → AreOverFile words command name → before.files.file name ≡ Some text → Describes text d → (Rose (before.files.faults name) (after.files.faults name) → ⊥) → (Rose before.out.faults after.out.faults → ⊥) → (status ≡ 0) ⊎ (status ≡ 8)
answered_well words counts_with before after status run command name text d over told described well out =
    elim (cases_eq status 5) [
      | inl five ↦ absurd (out (run.out_failed five))
      | inr put ↦ elim (cases_eq status 8) [
        | inl eight ↦ inr eight
        | inr enough ↦
            let s = run.said put enough in
            let file = file_told name before.files after.files s.0.file text (s.2.from_files.named name (inr (command, over))) well told in
            let tool : Tool words s.0 (said s.0.how (Described command d)) = (Described command d, (name, text, over, file, described), described_decided s.0.how command d, refl) in
            let same : s.1 ≡ said s.0.how (Described command d) = one_said words s.0 s.1 (said s.0.how (Described command d)) s.3 tool in
            inl (s.5 ∙ ap (λ (o : Said). o.status) same)
      ]
    ]

-- a file that is no accepted description's is refused
only_refused : (words : List (List ℕ)) (t : Taken) (name text : List ℕ) (course : Course) → ComesTo words t course → NamesFile words name → t.file ≡ Some text → ((d : Description) → Describes text d → ⊥) → (said t.how course).status ≡ 1
only_refused words t name text WordsRefused comes names told none = absurd (refused_file words name comes names)
only_refused words t name text FileFault comes names told none = absurd (no_text t.file text comes.2 told)
only_refused words t name text (TextRefused place why) comes names told none = refl
only_refused words t name text NotBuilt comes names told none = refl
only_refused words t name text TypeRefused comes names told none =
    absurd (none comes.3 (moved_description t.file text comes.2 comes.3 told comes.5 comes.6.0))
only_refused words t name text (Values d def readings ending) comes names told none =
    absurd (none d (moved_description t.file text comes.2 d told comes.4 comes.5.0))
only_refused words t name text (Answers answers end) comes names told none = absurd (names_no_script words name names comes.0)
only_refused words t name text (Described command d) comes names told none =
    absurd (none d (moved_description t.file text comes.1 d told comes.3 comes.4))

pub refused_text : (words : List (List ℕ)) (counts_with : List ℕ → List ℕ → Type 0) (before after : Shown) (status : ℕ) → IsRun words counts_with before after status → (name text : List ℕ) → NamesFile words name → before.files.file name ≡ Some text → (Rose (before.files.faults name) (after.files.faults name) → ⊥) → ((d : Description) → Describes text d → ⊥) → (status ≡ 1) ⊎ ((status ≡ 5) ⊎ (status ≡ 8))
refused_text words counts_with before after status run name text names told well none =
    elim (cases_eq status 5) [
      | inl five ↦ inr (inl five)
      | inr put ↦ elim (cases_eq status 8) [
        | inl eight ↦ inr (inr eight)
        | inr enough ↦
            let s = run.said put enough in
            let file = file_told name before.files after.files s.0.file text (s.2.from_files.named name names) well told in
            inl (s.5 ∙ ap (λ (o : Said). o.status) s.3.3 ∙ only_refused words s.0 name text s.3.0 s.3.1 names file none)
      ]
    ]
