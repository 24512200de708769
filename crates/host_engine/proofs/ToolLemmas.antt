-- What a run says, and the fronts of it that a run that was cut off has said.
use Rattle.std.proofs.Common.{◌≡◌, ℕ, List, [], ◌++◌, length, take, min, Option, Some, None, Result, Ok, Err, refl, inl, inr, sym, ap, ◌∙◌, subst, append_assoc, arith}
use Rattle.std.specs.Result.{IfOk}
use Rattle.std.proofs.lemmas.Bool.{cases_lt}
use Rattle.std.proofs.lemmas.Grind.{flat_map-append}
use Rattle.std.proofs.lemmas.List.{take_all, append-nil}
use Rattle.node_tree.specs.declared.readings.Reading.{Reading}
use Rattle.mspec_tree.specs.declared.defs.Description.{Description}
use Rattle.mspec_meaning.specs.Stream.{Stream, Ending, End, TooFew, Refused}
use Rattle.link_io.specs.Streams.{ShelfSeen, SourceSeen, Tape, AreNext, after_giving-nil}
use Rattle.host_engine.specs.declared.inputs.How.{How}
use Rattle.host_engine.specs.declared.inputs.How.TheVariants.{Ended}
use Rattle.host_engine.specs.declared.preparing.Refusal.{Refusal}
use Rattle.host_engine.specs.declared.preparing.Refusal.TheVariants as refusals
use Rattle.host_engine.specs.FirstForm.{FirstForm}
use Rattle.host_engine.specs.Listing.{listing, fields_at}
use Rattle.host_engine.specs.Preparing.{ComesToRefusal, refusal_said, untaken}
use Rattle.host_engine.specs.Lines.{lines_of}
use Rattle.host_engine.specs.Runs.{FileTaken, InputTaken, IsScriptFront}
use Rattle.script_replay.specs.Replays.{Script}
use Rattle.script_replay.specs.declared.replays.ScriptEnd.{ScriptEnd}
use Rattle.host_engine.proofs.StatusLemmas.{names_no_script}
use Rattle.host_engine.specs.Tool.{AreDecode, AreReplay, Answers, input_limit, script_last, Names, ComesTo, WordsRefused, FileFault, TextRefused, NotBuilt, TypeRefused, Values, Described, Said, Taken, Tool, Course, IsDecided, IsFront, said, listings, last_said, text_so_far}

next_none : (tape : Option Tape) → AreNext [] tape
next_none None = tt
next_none (Some tape) = refl

-- an input that was left alone
pub untouched : (seen : SourceSeen) → InputTaken seen seen [] None
untouched seen = record { given = sym (after_giving-nil seen.tape); next = next_none seen.tape; at_end = λ e. absurd (let h : None ≡ Some Ended = e in cc); left = (refl, refl, omega arith) }

pub both_ok : {T E : Type 0} (r : Result T E) (P Q R : T → Type 0) → IfOk r P → IfOk r Q → ((x : T) → P x → Q x → R x) → IfOk r R
both_ok (Ok x) P Q R p q f = f x p q
both_ok (Err e) P Q R p q f = tt

-- what a refusal says is what the tool says
pub refusal_tool : (words : List (List ℕ)) (file : Option (List ℕ)) (r : Refusal) → (r ≡ refusals.NoMemory → ⊥) → ComesToRefusal words file r → Tool words (untaken file) (refusal_said r)
refusal_tool words file refusals.WordsRefused h comes = (WordsRefused, comes, tt, refl)
refusal_tool words file refusals.FileFault h comes = (FileFault, comes, tt, refl)
refusal_tool words file (refusals.TextRefused place why) h comes = (TextRefused place why, comes, tt, refl)
refusal_tool words file refusals.NotBuilt h comes = (NotBuilt, comes, tt, refl)
refusal_tool words file refusals.TypeRefused h comes = (TypeRefused, comes, tt, refl)
refusal_tool words file refusals.NoMemory h comes = absurd (h refl)

-- the bytes that count
counted : (n : ℕ) (bytes : List ℕ) → take (min (length bytes) n) bytes ≡ take n bytes
counted n bytes = elim (cases_lt n (length bytes)) [
  | inl h ↦ ap (λ m. take m bytes) (omega arith)
  | inr h ↦ ap (λ m. take m bytes) (omega arith) ∙ take_all (length bytes) bytes (omega arith) ∙ sym (take_all n bytes h)
]

-- the bytes that were read are those that count
pub decoded : (n : ℕ) (items now : List ℕ) (len : ℕ) → now ≡ items → length now ≡ len → n ≡ min len 16777216 → take n now ≡ take 16777216 items
decoded n items now len value long e =
    ap (λ k. take k now) (e ∙ ap (λ k. min k 16777216) (sym long)) ∙ counted 16777216 now ∙ ap (λ xs. take 16777216 xs) value

-- a file of this text, and these bytes of an input that was left so
abbrev pub taken_so : (text bytes : List ℕ) → How → Taken
taken_so text bytes how = record { file = Some text; bytes = bytes; how = Some how }

-- the words, the file and the type lead to these values
pub comes_to_values : (words : List (List ℕ)) (name kind text taken bytes : List ℕ) (how : How) (d : Description) (def : ℕ) (readings : List Reading) (ending : Ending) → AreDecode words name kind → FirstForm text d → Names d def kind → bytes ≡ take 16777216 taken → Stream d def [] bytes readings ending → ComesTo words (taken_so text taken how) (Values d def readings ending)
comes_to_values words name kind text taken bytes how d def readings ending decode form named e stream =
    (name, kind, text, decode, refl, form, named, subst (λ (bs : List ℕ). Stream d def [] bs readings ending) e stream)

-- the listings of the first values are a front
pub front_of_values : (words : List (List ℕ)) (text taken : List ℕ) (how : How) (d : Description) (def : ℕ) (front back : List Reading) (ending : Ending) → ComesTo words (taken_so text taken how) (Values d def (front ++ back) ending) → IsFront words (taken_so text taken how) (listings d def front)
front_of_values words text taken how d def front back ending comes =
    let all = flat_map-append (λ (r : Reading). listing (fields_at d def) r.node) front back in
    let last = (last_said (Some how) ending).text in
    inr (
      Values d def (front ++ back) ending,
      listings d def back ++ last,
      comes,
      sym (append_assoc (listings d def front) (listings d def back) last) ∙ ap (λ (xs : List ℕ). xs ++ last) (sym all),
    )

-- the listings of all values are a front
pub front_before_last : (words : List (List ℕ)) (text taken : List ℕ) (how : How) (d : Description) (def : ℕ) (readings : List Reading) (ending : Ending) → ComesTo words (taken_so text taken how) (Values d def readings ending) → IsFront words (taken_so text taken how) (listings d def readings)
front_before_last words text taken how d def readings ending comes =
    inr (Values d def readings ending, (last_said (Some how) ending).text, comes, refl)

-- the values, read to their end
pub values_tool : (words : List (List ℕ)) (text taken : List ℕ) (how : How) (d : Description) (def : ℕ) (readings : List Reading) (ending : Ending) → ComesTo words (taken_so text taken how) (Values d def readings ending) → Tool words (taken_so text taken how) (said (Some how) (Values d def readings ending))
values_tool words text taken how d def readings ending comes = (Values d def readings ending, comes, tt, refl)

-- of a run that was decided the whole text is told
told_whole : (how : Option How) (course : Course) → IsDecided how course → (said how course).text ≡ text_so_far how course
told_whole None WordsRefused decided = refl
told_whole None FileFault decided = refl
told_whole None (TextRefused place why) decided = refl
told_whole None NotBuilt decided = refl
told_whole None TypeRefused decided = refl
told_whole None (Values d def readings End) decided = absurd decided
told_whole None (Values d def readings (TooFew left)) decided = absurd decided
told_whole None (Values d def readings (Refused bit why)) decided = refl
told_whole None (Answers text end) decided = absurd decided
told_whole None (Described command d) decided = refl
told_whole (Some left) course decided = refl

-- the text of a run is a front of itself
pub front_of_tool : (words : List (List ℕ)) (t : Taken) (outcome : Said) → Tool words t outcome → IsFront words t outcome.text
front_of_tool words t outcome tool =
    inr (tool.0, [], tool.1, append-nil outcome.text ∙ ap (λ (s : Said). s.text) tool.3 ∙ told_whole t.how tool.0 tool.2)

-- ---- scripts

-- no file is named by the words of a script
pub shelf_alone : (words : List (List ℕ)) (counts_with : List ℕ → List ℕ → Type 0) (seen : ShelfSeen) (file : Option (List ℕ)) → AreReplay words → FileTaken words counts_with seen seen file
shelf_alone words counts_with seen file replay =
    record { named = λ name names. absurd (names_no_script words name names replay); others = λ other h. refl }

-- these bytes of an input, and no file
abbrev pub script_taken : List ℕ → Option How → Taken
script_taken bytes how = record { file = None; bytes = bytes; how = how }

pub script_tool : (words : List (List ℕ)) (taken : List ℕ) (how : How) (text : List ℕ) (end : ScriptEnd) → AreReplay words → Script (lines_of (Some how) (take input_limit taken)) text end → Tool words (script_taken taken (Some how)) (said (Some how) (Answers text end))
script_tool words taken how text end replay script = (Answers text end, (replay, script), tt, refl)

pub front_of_script : (words : List (List ℕ)) (taken : List ℕ) (how : Option How) (front : List ℕ) → AreReplay words → IsScriptFront how taken front → IsFront words (script_taken taken how) front
front_of_script words taken how front replay is =
    elim is [
      | inl none ↦ inl none
      | inr s ↦
          let last = (script_last (Some s.0) s.3).text in
          let same = sym (append_assoc front s.2 last) ∙ ap (λ (xs : List ℕ). xs ++ last) s.6 in
          let all : IsFront words (script_taken taken (Some s.0)) front = inr (Answers s.1 s.3, s.2 ++ last, (replay, s.5), same) in
          subst (λ (left : Option How). IsFront words (script_taken taken left) front) (sym s.4) all
    ]
