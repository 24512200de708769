-- By its words, and what it took, a run says one thing.
use Rattle.std.proofs.Common.{◌≡◌, ℕ, false, List, [], take, Option, Some, None, refl, inl, inr, sym, ap, ◌∙◌, subst}
use Rattle.std.proofs.lemmas.Bool.{false≢true}
use Rattle.node_tree.specs.declared.readings.Reading.{Reading}
use Rattle.mspec_tree.specs.declared.defs.Description.{Description}
use Rattle.mspec_meaning.proofs.OneStream.{one_list}
use Rattle.mspec_meaning.specs.Stream.{Ending, Stream}
use Rattle.script_replay.proofs.ScriptLaws.{same_replies}
use Rattle.script_replay.specs.declared.replays.ScriptEnd.{ScriptEnd}
use Rattle.mspec_tree.specs.declared.words.Place.{Place}
use Rattle.host_engine.specs.declared.describing.TextWhy.{TextWhy}
use Rattle.host_engine.specs.declared.words.FileCommand.{FileCommand}
use Rattle.host_engine.specs.FirstForm.{FirstForm, is_first_form}
use Rattle.host_engine.specs.Texts.{IsRefusedText, Describes}
use Rattle.host_engine.specs.Lines.{lines_of}
use Rattle.host_engine.specs.Tool.{ComesTo, Course, Names, Said, Taken, Tool, WordsRefused, FileFault, TextRefused, NotBuilt, TypeRefused, Values, Answers, Described, input_limit, said}
use Rattle.host_engine.proofs.FormLaws.{found_def, one_plain}
use Rattle.host_engine.proofs.StatusLemmas.{names_no_script, no_text, refused_file}
use Rattle.host_engine.proofs.TextLaws.{never_both, one_no_text, one_description}
use Rattle.host_engine.proofs.WordLemmas.{decode_or_other, one_decode, one_over_file}

pub first_place : (text : List ℕ) (d : Description) (def : ℕ) (kind : List ℕ) → FirstForm text d → Names d def kind → def ≡ 0
first_place text d def kind form named = (found_def d (one_plain d form.1) def named.0 named.1).0

same_text : (file : Option (List ℕ)) (text other : List ℕ) → file ≡ Some text → file ≡ Some other → other ≡ text
same_text file text other a b = cc

pub moved_description : (file : Option (List ℕ)) (text other : List ℕ) (d : Description) → file ≡ Some text → file ≡ Some other → Describes other d → Describes text d
moved_description file text other d a b tree = subst (λ (x : List ℕ). Describes x d) (same_text file text other a b) tree

moved_fault : (file : Option (List ℕ)) (text other : List ℕ) (place : Place) (why : TextWhy) → file ≡ Some text → file ≡ Some other → IsRefusedText other place why → IsRefusedText text place why
moved_fault file text other place why a b fault = subst (λ (x : List ℕ). IsRefusedText x place why) (same_text file text other a b) fault

-- a file has no description beside a fault
both_of_file : (file : Option (List ℕ)) (text other : List ℕ) (d : Description) (place : Place) (why : TextWhy) → file ≡ Some text → file ≡ Some other → Describes text d → IsRefusedText other place why → ⊥
both_of_file file text other d place why a b tree fault = never_both text d place why tree (moved_fault file text other place why a b fault)

-- a file has one description
file_description : (file : Option (List ℕ)) (text other : List ℕ) (d e : Description) → file ≡ Some text → file ≡ Some other → Describes text d → Describes other e → d ≡ e
file_description file text other d e a b one two = one_description text d e one (moved_description file text other e a b two)

-- a file's description is in the first form or outside it
in_and_out : (file : Option (List ℕ)) (text other : List ℕ) (d e : Description) → file ≡ Some text → file ≡ Some other → Describes text d → is_first_form d ≡ false → FirstForm other e → ⊥
in_and_out file text other d e a b tree out form =
    let same = file_description file text other d e a b tree form.0 in
    false≢true (sym out ∙ ap is_first_form same ∙ form.1)

same_refusal : (words : List (List ℕ)) (t : Taken) (one other : Place) (why reason : TextWhy) → ComesTo words t (TextRefused one why) → ComesTo words t (TextRefused other reason) → TextRefused one why ≡ TextRefused other reason
same_refusal words t one other why reason a b =
    let same = one_no_text a.1 one other why reason a.4 (moved_fault t.file a.1 b.1 other reason a.3 b.3 b.4) in
    let places = same.0 in
    let reasons = same.1 in
    cc

same_answer : (words : List (List ℕ)) (t : Taken) (command asked : FileCommand) (d e : Description) → ComesTo words t (Described command d) → ComesTo words t (Described asked e) → Described command d ≡ Described asked e
same_answer words t command asked d e a b =
    let commands = (one_over_file words command asked a.0 b.0 a.2 b.2).0 in
    let descriptions = file_description t.file a.1 b.1 d e a.3 b.3 a.4 b.4 in
    ap (λ (c : FileCommand). Described c d) commands ∙ ap (λ (x : Description). Described asked x) descriptions

-- a type that was refused isn't found
refused_type : (words : List (List ℕ)) (t : Taken) (d : Description) (def : ℕ) (readings : List Reading) (ending : Ending) → ComesTo words t TypeRefused → ComesTo words t (Values d def readings ending) → ⊥
refused_type words t d def readings ending a b =
    let kinds = one_decode words a.0 a.1 b.0 b.1 a.4 b.3 in
    let same = file_description t.file a.2 b.2 a.3 d a.5 b.4 a.6.0 b.5.0 in
    a.7 def (subst (λ (kind : List ℕ). Names a.3 def kind) (sym kinds.1) (subst (λ (e : Description). Names e def b.1) (sym same) b.6))

same_values : (words : List (List ℕ)) (t : Taken) (d e : Description) (def place : ℕ) (one other : List Reading) (end last : Ending) → ComesTo words t (Values d def one end) → ComesTo words t (Values e place other last) → Values d def one end ≡ Values e place other last
same_values words t d e def place one other end last a b =
    let trees : e ≡ d = sym (file_description t.file a.2 b.2 d e a.4 b.4 a.5.0 b.5.0) in
    let places : place ≡ def = first_place b.2 e place b.1 b.5 b.6 ∙ sym (first_place a.2 d def a.1 a.5 a.6) in
    let bytes = take input_limit t.bytes in
    let there : Stream d def [] bytes other last = subst (λ (n : ℕ). Stream d n [] bytes other last) places (subst (λ (tree : Description). Stream tree place [] bytes other last) trees b.7) in
    let same = one_list d def [] bytes one other end last a.7 there in
    cc

same_answers : (words : List (List ℕ)) (t : Taken) (text other : List ℕ) (end last : ScriptEnd) → ComesTo words t (Answers text end) → ComesTo words t (Answers other last) → Answers text end ≡ Answers other last
same_answers words t text other end last a b =
    let same = same_replies 1 None (lines_of t.how (take input_limit t.bytes)) text other end last a.1 b.1 in cc

same_course : (words : List (List ℕ)) (t : Taken) (x y : Course) → ComesTo words t x → ComesTo words t y → x ≡ y
same_course words t WordsRefused WordsRefused a b = refl
same_course words t WordsRefused FileFault a b = absurd (refused_file words b.0 a b.1)
same_course words t WordsRefused (TextRefused other reason) a b = absurd (refused_file words b.0 a b.2)
same_course words t WordsRefused NotBuilt a b = absurd (refused_file words b.0 a (inl (b.1, b.4)))
same_course words t WordsRefused TypeRefused a b = absurd (refused_file words b.0 a (inl (b.1, b.4)))
same_course words t WordsRefused (Values e at others last) a b = absurd (refused_file words b.0 a (inl (b.1, b.3)))
same_course words t WordsRefused (Answers other last) a b = absurd (a.1 b.0)
same_course words t WordsRefused (Described asked e) a b = absurd (refused_file words b.0 a (inr (asked, b.2)))
same_course words t FileFault WordsRefused a b = absurd (refused_file words a.0 b a.1)
same_course words t FileFault FileFault a b = refl
same_course words t FileFault (TextRefused other reason) a b = absurd (no_text t.file b.1 a.2 b.3)
same_course words t FileFault NotBuilt a b = absurd (no_text t.file b.2 a.2 b.5)
same_course words t FileFault TypeRefused a b = absurd (no_text t.file b.2 a.2 b.5)
same_course words t FileFault (Values e at others last) a b = absurd (no_text t.file b.2 a.2 b.4)
same_course words t FileFault (Answers other last) a b = absurd (names_no_script words a.0 a.1 b.0)
same_course words t FileFault (Described asked e) a b = absurd (no_text t.file b.1 a.2 b.3)
same_course words t (TextRefused place why) WordsRefused a b = absurd (refused_file words a.0 b a.2)
same_course words t (TextRefused place why) FileFault a b = absurd (no_text t.file a.1 b.2 a.3)
same_course words t (TextRefused place why) (TextRefused other reason) a b = same_refusal words t place other why reason a b
same_course words t (TextRefused place why) NotBuilt a b = absurd (both_of_file t.file b.2 a.1 b.3 place why b.5 a.3 b.6 a.4)
same_course words t (TextRefused place why) TypeRefused a b = absurd (both_of_file t.file b.2 a.1 b.3 place why b.5 a.3 b.6.0 a.4)
same_course words t (TextRefused place why) (Values e at others last) a b = absurd (both_of_file t.file b.2 a.1 e place why b.4 a.3 b.5.0 a.4)
same_course words t (TextRefused place why) (Answers other last) a b = absurd (names_no_script words a.0 a.2 b.0)
same_course words t (TextRefused place why) (Described asked e) a b = absurd (both_of_file t.file b.1 a.1 e place why b.3 a.3 b.4 a.4)
same_course words t NotBuilt WordsRefused a b = absurd (refused_file words a.0 b (inl (a.1, a.4)))
same_course words t NotBuilt FileFault a b = absurd (no_text t.file a.2 b.2 a.5)
same_course words t NotBuilt (TextRefused other reason) a b = absurd (both_of_file t.file a.2 b.1 a.3 other reason a.5 b.3 a.6 b.4)
same_course words t NotBuilt NotBuilt a b = refl
same_course words t NotBuilt TypeRefused a b = absurd (in_and_out t.file a.2 b.2 a.3 b.3 a.5 b.5 a.6 a.7 b.6)
same_course words t NotBuilt (Values e at others last) a b = absurd (in_and_out t.file a.2 b.2 a.3 e a.5 b.4 a.6 a.7 b.5)
same_course words t NotBuilt (Answers other last) a b = absurd (names_no_script words a.0 (inl (a.1, a.4)) b.0)
same_course words t NotBuilt (Described asked e) a b = absurd (decode_or_other words a.0 a.1 asked b.0 a.4 b.2)
same_course words t TypeRefused WordsRefused a b = absurd (refused_file words a.0 b (inl (a.1, a.4)))
same_course words t TypeRefused FileFault a b = absurd (no_text t.file a.2 b.2 a.5)
same_course words t TypeRefused (TextRefused other reason) a b = absurd (both_of_file t.file a.2 b.1 a.3 other reason a.5 b.3 a.6.0 b.4)
same_course words t TypeRefused NotBuilt a b = absurd (in_and_out t.file b.2 a.2 b.3 a.3 b.5 a.5 b.6 b.7 a.6)
same_course words t TypeRefused TypeRefused a b = refl
same_course words t TypeRefused (Values e at others last) a b = absurd (refused_type words t e at others last a b)
same_course words t TypeRefused (Answers other last) a b = absurd (names_no_script words a.0 (inl (a.1, a.4)) b.0)
same_course words t TypeRefused (Described asked e) a b = absurd (decode_or_other words a.0 a.1 asked b.0 a.4 b.2)
same_course words t (Values d def readings ending) WordsRefused a b = absurd (refused_file words a.0 b (inl (a.1, a.3)))
same_course words t (Values d def readings ending) FileFault a b = absurd (no_text t.file a.2 b.2 a.4)
same_course words t (Values d def readings ending) (TextRefused other reason) a b = absurd (both_of_file t.file a.2 b.1 d other reason a.4 b.3 a.5.0 b.4)
same_course words t (Values d def readings ending) NotBuilt a b = absurd (in_and_out t.file b.2 a.2 b.3 d b.5 a.4 b.6 b.7 a.5)
same_course words t (Values d def readings ending) TypeRefused a b = absurd (refused_type words t d def readings ending b a)
same_course words t (Values d def readings ending) (Values e at others last) a b = same_values words t d e def at readings others ending last a b
same_course words t (Values d def readings ending) (Answers other last) a b = absurd (names_no_script words a.0 (inl (a.1, a.3)) b.0)
same_course words t (Values d def readings ending) (Described asked e) a b = absurd (decode_or_other words a.0 a.1 asked b.0 a.3 b.2)
same_course words t (Answers text end) WordsRefused a b = absurd (b.1 a.0)
same_course words t (Answers text end) FileFault a b = absurd (names_no_script words b.0 b.1 a.0)
same_course words t (Answers text end) (TextRefused other reason) a b = absurd (names_no_script words b.0 b.2 a.0)
same_course words t (Answers text end) NotBuilt a b = absurd (names_no_script words b.0 (inl (b.1, b.4)) a.0)
same_course words t (Answers text end) TypeRefused a b = absurd (names_no_script words b.0 (inl (b.1, b.4)) a.0)
same_course words t (Answers text end) (Values e at others last) a b = absurd (names_no_script words b.0 (inl (b.1, b.3)) a.0)
same_course words t (Answers text end) (Answers other last) a b = same_answers words t text other end last a b
same_course words t (Answers text end) (Described asked e) a b = absurd (names_no_script words b.0 (inr (asked, b.2)) a.0)
same_course words t (Described command d) WordsRefused a b = absurd (refused_file words a.0 b (inr (command, a.2)))
same_course words t (Described command d) FileFault a b = absurd (no_text t.file a.1 b.2 a.3)
same_course words t (Described command d) (TextRefused other reason) a b = absurd (both_of_file t.file a.1 b.1 d other reason a.3 b.3 a.4 b.4)
same_course words t (Described command d) NotBuilt a b = absurd (decode_or_other words b.0 b.1 command a.0 b.4 a.2)
same_course words t (Described command d) TypeRefused a b = absurd (decode_or_other words b.0 b.1 command a.0 b.4 a.2)
same_course words t (Described command d) (Values e at others last) a b = absurd (decode_or_other words b.0 b.1 command a.0 b.3 a.2)
same_course words t (Described command d) (Answers other last) a b = absurd (names_no_script words a.0 (inr (command, a.2)) b.0)
same_course words t (Described command d) (Described asked e) a b = same_answer words t command asked d e a b

pub one_said : (words : List (List ℕ)) (t : Taken) (one other : Said) → Tool words t one → Tool words t other → one ≡ other
one_said words t one other a b =
    a.3 ∙ ap (λ (course : Course). said t.how course) (same_course words t a.0 b.0 a.1 b.1) ∙ sym b.3
