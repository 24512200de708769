-- What each status tells.
use Rattle.std.proofs.Common.{◌≡◌, ◌≢◌, ℕ, ◌==◌, ◌||◌, ◌<◌, ◌⊎◌, Bool, true, false, List, [], ◌∷◌, length, codes, Option, Some, None, refl, inl, inr, sym, ap, ◌∙◌, subst, arith}
use Rattle.std.specs.Prelude.{if◌then◌else◌}
use Rattle.std.proofs.lemmas.Bool.{false≢true}
use Rattle.mspec_meaning.specs.Stream.{Ending, End, TooFew, Refused}
use Rattle.link_io.specs.Counts.{Rose}
use Rattle.link_io.specs.Streams.{ShelfSeen, SourceSeen}
use Rattle.script_lines.specs.Scripts.{must_stand}
use Rattle.host_engine.specs.declared.inputs.How.{How}
use Rattle.host_engine.specs.declared.inputs.How.TheVariants.{Ended, Failed, Over}
use Rattle.host_engine.specs.Runs.{StopsEarly, FileSeen, InputTaken, LeftSo}
use Rattle.script_replay.specs.declared.replays.ScriptEnd.{ScriptEnd}
use Rattle.script_replay.specs.declared.replays.ScriptEnd.TheVariants.{Answered, Refused as LineRefused}
use Rattle.mspec_tree.specs.declared.words.Place.{Place}
use Rattle.host_engine.specs.declared.describing.TextWhy.{TextWhy}
use Rattle.host_engine.specs.declared.words.FileCommand.{FileCommand}
use Rattle.host_engine.specs.Texts.{text_why_text}
use Rattle.host_engine.specs.Tool.{AreDecode, AreOverFile, AreReplay, AreRefused, NamesFile, ComesTo, Course, Said, Taken, Tool, WordsRefused, FileFault, TextRefused, NotBuilt, TypeRefused, Values, Answers, Described, IsDecided, command_word, description_refused, entries_said, last_said, refusal_of_line, script_said, script_last, said}

-- the statuses of values
abbrev is_last : ℕ → Bool
is_last s = s == 0 || s == 4 || s == 6 || s == 7 || s == 13

last_status : (how : Option How) (ending : Ending) → is_last (last_said how ending).status ≡ true
last_status how (Refused bit why) = refl
last_status None End = refl
last_status None (TooFew left) = refl
last_status (Some Ended) End = refl
last_status (Some Ended) (TooFew left) = refl
last_status (Some Failed) End = refl
last_status (Some Failed) (TooFew left) = refl
last_status (Some Over) End = refl
last_status (Some Over) (TooFew left) = refl

-- values have no other status
pub not_last : (how : Option How) (ending : Ending) (s : ℕ) → is_last s ≡ false → s ≡ (last_said how ending).status → ⊥
not_last how ending s other e = false≢true (sym other ∙ ap is_last e ∙ last_status how ending)

pub not_early : (how : Option How) (ending : Ending) (s : ℕ) → StopsEarly s → s ≡ (last_said how ending).status → ⊥
not_early how ending s early e =
    elim early [
      | inl one ↦ not_last how ending 1 refl (sym one ∙ e)
      | inr more ↦ elim more [
        | inl two ↦ not_last how ending 2 refl (sym two ∙ e)
        | inr rest ↦ elim rest [ inl three ↦ not_last how ending 3 refl (sym three ∙ e) | inr twelve ↦ not_last how ending 12 refl (sym twelve ∙ e) ]
      ]
    ]

-- the statuses of an input that was read to its end
abbrev pub is_end : ℕ → Bool
is_end s = s == 0 || s == 7

-- the statuses of a script
abbrev is_script : ℕ → Bool
is_script s = s == 0 || s == 4 || s == 10 || s == 13

said_status : (next entries : ℕ) → is_script (script_said next entries).status ≡ true
said_status next entries =
    elim (must_stand next) as (λ v. is_script (if v then refusal_of_line next else entries_said entries).status ≡ true)
    [ true ↦ refl | false ↦ refl ]

script_status : (how : Option How) (end : ScriptEnd) → is_script (script_last how end).status ≡ true
script_status how (LineRefused n) = refl
script_status None (Answered next entries) = said_status next entries
script_status (Some Ended) (Answered next entries) = said_status next entries
script_status (Some Failed) (Answered next entries) = refl
script_status (Some Over) (Answered next entries) = refl

-- a script has no other status
pub not_script : (how : Option How) (end : ScriptEnd) (s : ℕ) → is_script s ≡ false → s ≡ (script_last how end).status → ⊥
not_script how end s other e = false≢true (sym other ∙ ap is_script e ∙ script_status how end)

pub script_not_early : (how : Option How) (end : ScriptEnd) (s : ℕ) → StopsEarly s → s ≡ (script_last how end).status → ⊥
script_not_early how end s early e =
    elim early [
      | inl one ↦ not_script how end 1 refl (sym one ∙ e)
      | inr more ↦ elim more [
        | inl two ↦ not_script how end 2 refl (sym two ∙ e)
        | inr rest ↦ elim rest [ inl three ↦ not_script how end 3 refl (sym three ∙ e) | inr twelve ↦ not_script how end 12 refl (sym twelve ∙ e) ]
      ]
    ]

not_said : (next entries s : ℕ) → s ≡ (script_said next entries).status → s ≢ 0 → s ≢ 10 → ⊥
not_said next entries s e not_0 not_10 =
    elim (must_stand next) as (λ v. s ≡ (if v then refusal_of_line next else entries_said entries).status → ⊥)
    [ true ↦ λ h. not_10 h | false ↦ λ h. not_0 h ] e

script_at_4 : (how : Option How) (end : ScriptEnd) (before after : SourceSeen) (taken : List ℕ) → (script_last how end).status ≡ 4 → LeftSo how before after taken → Rose before.faults after.faults
script_at_4 how (LineRefused n) before after taken e left = absurd (omega (arith, e))
script_at_4 None (Answered next entries) before after taken e left = absurd (not_said next entries 4 (sym e) (λ h. absurd (omega (arith, h))) (λ h. absurd (omega (arith, h))))
script_at_4 (Some Ended) (Answered next entries) before after taken e left = absurd (not_said next entries 4 (sym e) (λ h. absurd (omega (arith, h))) (λ h. absurd (omega (arith, h))))
script_at_4 (Some Over) (Answered next entries) before after taken e left = absurd (omega (arith, e))
script_at_4 (Some Failed) (Answered next entries) before after taken e left = left.1

script_ended_at : (how : Option How) (text : List ℕ) (end : ScriptEnd) (before after : SourceSeen) (taken : List ℕ) → is_end (script_last how end).status ≡ true → IsDecided how (Answers text end) → LeftSo how before after taken → Rose before.ends after.ends
script_ended_at None text end before after taken e decided left = absurd decided
script_ended_at (Some Ended) text end before after taken e decided left = left.0
script_ended_at (Some Over) text (LineRefused n) before after taken e decided left = absurd (false≢true e)
script_ended_at (Some Failed) text (LineRefused n) before after taken e decided left = absurd (false≢true e)
script_ended_at (Some Over) text (Answered next entries) before after taken e decided left = absurd (false≢true e)
script_ended_at (Some Failed) text (Answered next entries) before after taken e decided left = absurd (false≢true e)

-- the statuses of a run that neither its output nor its memory cut off
abbrev is_status : ℕ → Bool
is_status s = is_last s || s == 10 || s == 1 || s == 2 || s == 3 || s == 12

script_said_status : (next entries : ℕ) → is_status (script_said next entries).status ≡ true
script_said_status next entries =
    elim (must_stand next) as (λ v. is_status (if v then refusal_of_line next else entries_said entries).status ≡ true)
    [ true ↦ refl | false ↦ refl ]

course_status : (how : Option How) (course : Course) → is_status (said how course).status ≡ true
course_status how WordsRefused = refl
course_status how FileFault = refl
course_status how (TextRefused place why) = refl
course_status how NotBuilt = refl
course_status how TypeRefused = refl
course_status how (Values d def readings (Refused bit why)) = refl
course_status None (Values d def readings End) = refl
course_status None (Values d def readings (TooFew left)) = refl
course_status (Some Ended) (Values d def readings End) = refl
course_status (Some Ended) (Values d def readings (TooFew left)) = refl
course_status (Some Failed) (Values d def readings End) = refl
course_status (Some Failed) (Values d def readings (TooFew left)) = refl
course_status (Some Over) (Values d def readings End) = refl
course_status (Some Over) (Values d def readings (TooFew left)) = refl
course_status how (Answers text (LineRefused n)) = refl
course_status None (Answers text (Answered next entries)) = script_said_status next entries
course_status (Some Ended) (Answers text (Answered next entries)) = script_said_status next entries
course_status (Some Failed) (Answers text (Answered next entries)) = refl
course_status (Some Over) (Answers text (Answered next entries)) = refl
course_status how (Described command d) = refl

-- no run says another status
pub not_said_by : (words : List (List ℕ)) (t : Taken) (outcome : Said) (s : ℕ) → is_status s ≡ false → Tool words t outcome → s ≡ outcome.status → ⊥
not_said_by words t outcome s other tool e =
    false≢true (sym other ∙ ap is_status (e ∙ ap (λ (o : Said). o.status) tool.3) ∙ course_status t.how tool.0)

-- a run that isn't cut off says another status than those of a run that is
pub cut_status : (words : List (List ℕ)) (t : Taken) (outcome : Said) → Tool words t outcome → (outcome.status ≢ 5) × (outcome.status ≢ 8)
cut_status words t outcome tool =
    (λ e. not_said_by words t outcome 5 refl tool (sym e), λ e. not_said_by words t outcome 8 refl tool (sym e))

-- the words of one command are not another's
pub not_both : (words : List (List ℕ)) (name kind : List ℕ) → AreDecode words name kind → AreReplay words → ⊥
not_both words name kind decode replay =
    let same : codes "decode" ∷ name ∷ kind ∷ [] ≡ codes "replay" ∷ [] = sym decode.spelled ∙ replay in
    absurd (omega (arith, ap length same))

pub words_at_2 : (words : List (List ℕ)) (t : Taken) (course : Course) → ComesTo words t course → (said t.how course).status ≡ 2 → AreRefused words
words_at_2 words t WordsRefused comes e = comes
words_at_2 words t FileFault comes e = absurd (omega (arith, e))
words_at_2 words t (TextRefused place why) comes e = absurd (omega (arith, e))
words_at_2 words t NotBuilt comes e = absurd (omega (arith, e))
words_at_2 words t TypeRefused comes e = absurd (omega (arith, e))
words_at_2 words t (Values d def readings ending) comes e = absurd (not_last t.how ending 2 refl (sym e))
words_at_2 words t (Answers text end) comes e = absurd (not_script t.how end 2 refl (sym e))
words_at_2 words t (Described command d) comes e = absurd (omega (arith, e))

-- words of no command name no file
pub refused_file : (words : List (List ℕ)) (name : List ℕ) → AreRefused words → NamesFile words name → ⊥
refused_file words name none (inl decode) = none.0 name decode.0 decode.1
refused_file words name none (inr over) = none.2 over.0 name over.1

pub only_words : (words : List (List ℕ)) (t : Taken) (course : Course) → ComesTo words t course → AreRefused words → (said t.how course).status ≡ 2
only_words words t WordsRefused comes none = refl
only_words words t FileFault comes none = absurd (refused_file words comes.0 none comes.1)
only_words words t (TextRefused place why) comes none = absurd (refused_file words comes.0 none comes.2)
only_words words t NotBuilt comes none = absurd (none.0 comes.0 comes.1 comes.4)
only_words words t TypeRefused comes none = absurd (none.0 comes.0 comes.1 comes.4)
only_words words t (Values d def readings ending) comes none = absurd (none.0 comes.0 comes.1 comes.3)
only_words words t (Answers text end) comes none = absurd (none.1 comes.0)
only_words words t (Described command d) comes none = absurd (none.2 command comes.0 comes.2)

pub fault_at_3 : (words : List (List ℕ)) (t : Taken) (course : Course) → ComesTo words t course → (said t.how course).status ≡ 3 → (name : List ℕ) × NamesFile words name × (t.file ≡ None)
fault_at_3 words t WordsRefused comes e = absurd (omega (arith, e))
fault_at_3 words t FileFault comes e = comes
fault_at_3 words t (TextRefused place why) comes e = absurd (omega (arith, e))
fault_at_3 words t NotBuilt comes e = absurd (omega (arith, e))
fault_at_3 words t TypeRefused comes e = absurd (omega (arith, e))
fault_at_3 words t (Values d def readings ending) comes e = absurd (not_last t.how ending 3 refl (sym e))
fault_at_3 words t (Answers text end) comes e = absurd (not_script t.how end 3 refl (sym e))
fault_at_3 words t (Described command d) comes e = absurd (omega (arith, e))

pub rose_at_none : (name : List ℕ) (before after : ShelfSeen) (file : Option (List ℕ)) → file ≡ None → FileSeen name before after file → Rose (before.faults name) (after.faults name)
rose_at_none name before after None e seen = seen
rose_at_none name before after (Some text) e seen = absurd cc

-- where the file's count rose, nothing was seen of it
pub none_at_rise : (name : List ℕ) (before after : ShelfSeen) (file : Option (List ℕ)) → FileSeen name before after file → before.faults name < after.faults name → file ≡ None
none_at_rise name before after None seen rise = refl
none_at_rise name before after (Some text) seen rise = absurd (omega (arith, seen.0 name, rise))

pub no_text : (file : Option (List ℕ)) (text : List ℕ) → file ≡ None → file ≡ Some text → ⊥
no_text file text none some = cc

-- the words of a script name no file
pub names_no_script : (words : List (List ℕ)) (name : List ℕ) → NamesFile words name → AreReplay words → ⊥
names_no_script words name (inl decode) replay = not_both words name decode.0 decode.1 replay
names_no_script words name (inr over) replay =
    let same : command_word over.0 ∷ name ∷ [] ≡ codes "replay" ∷ [] = sym over.1.spelled ∙ replay in
    absurd (omega (arith, ap length same))

pub only_fault : (words : List (List ℕ)) (t : Taken) (name : List ℕ) (course : Course) → ComesTo words t course → NamesFile words name → t.file ≡ None → (said t.how course).status ≡ 3
only_fault words t name WordsRefused comes names e = absurd (refused_file words name comes names)
only_fault words t name FileFault comes names e = refl
only_fault words t name (TextRefused place why) comes names e = absurd (no_text t.file comes.1 e comes.3)
only_fault words t name NotBuilt comes names e = absurd (no_text t.file comes.2 e comes.5)
only_fault words t name TypeRefused comes names e = absurd (no_text t.file comes.2 e comes.5)
only_fault words t name (Values d def readings ending) comes names e = absurd (no_text t.file comes.2 e comes.4)
only_fault words t name (Answers text end) comes names e = absurd (names_no_script words name names comes.0)
only_fault words t name (Described command d) comes names e = absurd (no_text t.file comes.1 e comes.3)

last_at_4 : (how : Option How) (ending : Ending) (before after : SourceSeen) (taken : List ℕ) → (last_said how ending).status ≡ 4 → LeftSo how before after taken → Rose before.faults after.faults
last_at_4 how (Refused bit why) before after taken e left = absurd (omega (arith, e))
last_at_4 None End before after taken e left = absurd (omega (arith, e))
last_at_4 None (TooFew n) before after taken e left = absurd (omega (arith, e))
last_at_4 (Some Ended) End before after taken e left = absurd (omega (arith, e))
last_at_4 (Some Ended) (TooFew n) before after taken e left = absurd (omega (arith, e))
last_at_4 (Some Over) End before after taken e left = absurd (omega (arith, e))
last_at_4 (Some Over) (TooFew n) before after taken e left = absurd (omega (arith, e))
last_at_4 (Some Failed) End before after taken e left = left.1
last_at_4 (Some Failed) (TooFew n) before after taken e left = left.1

pub rose_at_4 : (how : Option How) (course : Course) (before after : SourceSeen) (taken : List ℕ) → (said how course).status ≡ 4 → LeftSo how before after taken → Rose before.faults after.faults
rose_at_4 how WordsRefused before after taken e left = absurd (omega (arith, e))
rose_at_4 how FileFault before after taken e left = absurd (omega (arith, e))
rose_at_4 how (TextRefused place why) before after taken e left = absurd (omega (arith, e))
rose_at_4 how NotBuilt before after taken e left = absurd (omega (arith, e))
rose_at_4 how TypeRefused before after taken e left = absurd (omega (arith, e))
rose_at_4 how (Values d def readings ending) before after taken e left = last_at_4 how ending before after taken e left
rose_at_4 how (Answers text end) before after taken e left = script_at_4 how end before after taken e left
rose_at_4 how (Described command d) before after taken e left = absurd (omega (arith, e))

end_at : (how : Option How) (d : _) (def : ℕ) (readings : _) (ending : Ending) (before after : SourceSeen) (taken : List ℕ) → is_end (last_said how ending).status ≡ true → IsDecided how (Values d def readings ending) → LeftSo how before after taken → Rose before.ends after.ends
end_at how d def readings (Refused bit why) before after taken e decided left = absurd (false≢true e)
end_at None d def readings End before after taken e decided left = absurd decided
end_at None d def readings (TooFew n) before after taken e decided left = absurd decided
end_at (Some Ended) d def readings End before after taken e decided left = left.0
end_at (Some Ended) d def readings (TooFew n) before after taken e decided left = left.0
end_at (Some Over) d def readings End before after taken e decided left = absurd (false≢true e)
end_at (Some Over) d def readings (TooFew n) before after taken e decided left = absurd (false≢true e)
end_at (Some Failed) d def readings End before after taken e decided left = absurd (false≢true e)
end_at (Some Failed) d def readings (TooFew n) before after taken e decided left = absurd (false≢true e)

-- a run that took a description alone
abbrev pub IsDescribed : Course → Type 0
IsDescribed (Described command d) = Unit {0}
IsDescribed other = ⊥

pub described_by : (words : List (List ℕ)) (t : Taken) (course : Course) → ComesTo words t course → IsDescribed course → (command : FileCommand) × (name : List ℕ) × AreOverFile words command name
described_by words t (Described command d) comes is = (command, comes.0, comes.2)
described_by words t other comes is = absurd is

pub described_not_7 : (how : Option How) (course : Course) → (said how course).status ≡ 7 → IsDescribed course → ⊥
described_not_7 how (Described command d) e is = absurd (omega (arith, e))
described_not_7 how other e is = absurd is

pub ended_at : (how : Option How) (course : Course) (before after : SourceSeen) (taken : List ℕ) → is_end (said how course).status ≡ true → (IsDescribed course → ⊥) → IsDecided how course → LeftSo how before after taken → Rose before.ends after.ends
ended_at how WordsRefused before after taken e other decided left = absurd (false≢true e)
ended_at how FileFault before after taken e other decided left = absurd (false≢true e)
ended_at how (TextRefused place why) before after taken e other decided left = absurd (false≢true e)
ended_at how NotBuilt before after taken e other decided left = absurd (false≢true e)
ended_at how TypeRefused before after taken e other decided left = absurd (false≢true e)
ended_at how (Values d def readings ending) before after taken e other decided left = end_at how d def readings ending before after taken e decided left
ended_at how (Answers text end) before after taken e other decided left = script_ended_at how text end before after taken e decided left
ended_at how (Described command d) before after taken e other decided left = absurd (other tt)

last_at_13 : (how : Option How) (ending : Ending) → (last_said how ending).status ≡ 13 → how ≡ Some Over
last_at_13 how (Refused bit why) e = absurd (omega (arith, e))
last_at_13 None End e = absurd (omega (arith, e))
last_at_13 None (TooFew n) e = absurd (omega (arith, e))
last_at_13 (Some Ended) End e = absurd (omega (arith, e))
last_at_13 (Some Ended) (TooFew n) e = absurd (omega (arith, e))
last_at_13 (Some Failed) End e = absurd (omega (arith, e))
last_at_13 (Some Failed) (TooFew n) e = absurd (omega (arith, e))
last_at_13 (Some Over) ending e = refl

script_at_13 : (how : Option How) (end : ScriptEnd) → (script_last how end).status ≡ 13 → how ≡ Some Over
script_at_13 how (LineRefused n) e = absurd (omega (arith, e))
script_at_13 None (Answered next entries) e = absurd (not_said next entries 13 (sym e) (λ h. absurd (omega (arith, h))) (λ h. absurd (omega (arith, h))))
script_at_13 (Some Ended) (Answered next entries) e = absurd (not_said next entries 13 (sym e) (λ h. absurd (omega (arith, h))) (λ h. absurd (omega (arith, h))))
script_at_13 (Some Failed) (Answered next entries) e = absurd (omega (arith, e))
script_at_13 (Some Over) (Answered next entries) e = refl

how_at_13 : (how : Option How) (course : Course) → (said how course).status ≡ 13 → how ≡ Some Over
how_at_13 how WordsRefused e = absurd (omega (arith, e))
how_at_13 how FileFault e = absurd (omega (arith, e))
how_at_13 how (TextRefused place why) e = absurd (omega (arith, e))
how_at_13 how NotBuilt e = absurd (omega (arith, e))
how_at_13 how TypeRefused e = absurd (omega (arith, e))
how_at_13 how (Values d def readings ending) e = last_at_13 how ending e
how_at_13 how (Answers text end) e = script_at_13 how end e
how_at_13 how (Described command d) e = absurd (omega (arith, e))

-- an input is too long only where more bytes were taken than count
pub over_at_13 : (how : Option How) (course : Course) (before after : SourceSeen) (taken : List ℕ) → (said how course).status ≡ 13 → InputTaken before after taken how → InputTaken before after taken (Some Over)
over_at_13 how course before after taken e input = subst (λ (h : Option How). InputTaken before after taken h) (how_at_13 how course e) input

pub refused_at_12 : (words : List (List ℕ)) (t : Taken) (course : Course) → ComesTo words t course → (said t.how course).status ≡ 12 → ComesTo words t TypeRefused
refused_at_12 words t WordsRefused comes e = absurd (omega (arith, e))
refused_at_12 words t FileFault comes e = absurd (omega (arith, e))
refused_at_12 words t (TextRefused place why) comes e = absurd (omega (arith, e))
refused_at_12 words t NotBuilt comes e = absurd (omega (arith, e))
refused_at_12 words t TypeRefused comes e = comes
refused_at_12 words t (Values d def readings ending) comes e = absurd (not_last t.how ending 12 refl (sym e))
refused_at_12 words t (Answers text end) comes e = absurd (not_script t.how end 12 refl (sym e))
refused_at_12 words t (Described command d) comes e = absurd (omega (arith, e))

-- what was seen of a file whose bytes were taken
pub seen_of : (name : List ℕ) (before after : ShelfSeen) (file : Option (List ℕ)) (text : List ℕ) → file ≡ Some text → FileSeen name before after file → FileSeen name before after (Some text)
seen_of name before after file text e seen = subst (λ (f : Option (List ℕ)). FileSeen name before after f) e seen

-- a description was refused, for its text or for its form
pub refused_at_1 : (words : List (List ℕ)) (t : Taken) (course : Course) → ComesTo words t course → (said t.how course).status ≡ 1
    → ((place : Place) × (why : TextWhy) × ComesTo words t (TextRefused place why) × (said t.how course ≡ description_refused place (text_why_text why))) ⊎ ComesTo words t NotBuilt
refused_at_1 words t WordsRefused comes e = absurd (omega (arith, e))
refused_at_1 words t FileFault comes e = absurd (omega (arith, e))
refused_at_1 words t (TextRefused place why) comes e = inl (place, why, comes, refl)
refused_at_1 words t NotBuilt comes e = inr comes
refused_at_1 words t TypeRefused comes e = absurd (omega (arith, e))
refused_at_1 words t (Values d def readings ending) comes e = absurd (not_last t.how ending 1 refl (sym e))
refused_at_1 words t (Answers text end) comes e = absurd (not_script t.how end 1 refl (sym e))
refused_at_1 words t (Described command d) comes e = absurd (omega (arith, e))
