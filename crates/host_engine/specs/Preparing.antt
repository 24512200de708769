-- What a run needs before it reads its input or speaks of a description, and why it may stop there.
use Rattle.std.specs.Prelude.{ℕ, ◌≡◌, List, [], Option, Some, None}
use Rattle.host_engine.specs.declared.words.FileCommand.{FileCommand}
use Rattle.host_engine.specs.declared.preparing.Refusal.{Refusal}
use Rattle.host_engine.specs.declared.preparing.Refusal.TheVariants as refusals
use Rattle.host_engine.specs.declared.files.FileFault as files
use Rattle.host_engine.specs.declared.files.FileFault.TheVariants as file_faults
use Rattle.host_engine.specs.declared.describing.TextFault as texts
use Rattle.host_engine.specs.declared.describing.TextFault.TheVariants as text_faults
use Rattle.host_engine.specs.Texts.{Describes, IsRefusedText}
use Rattle.host_engine.specs.Tool.{ComesTo, Course, WordsRefused, FileFault, TextRefused, NotBuilt, TypeRefused, Described, Said, Taken, said}

-- the file, and nothing of the input
abbrev pub untaken : Option (List ℕ) → Taken
untaken file = record { file = file; bytes = []; how = None }

-- the description in a file of which this was taken is refused so, unless memory ran out
abbrev pub IsRefusedFile : (file : Option (List ℕ)) → Refusal → Type 0
IsRefusedFile file refusals.FileFault = file ≡ None
IsRefusedFile file (refusals.TextRefused place why) = (text : List ℕ) × (file ≡ Some text) × IsRefusedText text place why
IsRefusedFile file refusals.NoMemory = Unit {0}
IsRefusedFile file other = ⊥

-- what this command comes to over the description in a file of which this was taken
abbrev pub AnswerComesTo : FileCommand → (file : Option (List ℕ)) → Course → Type 0
AnswerComesTo command file FileFault = file ≡ None
AnswerComesTo command file (TextRefused place why) = (text : List ℕ) × (file ≡ Some text) × IsRefusedText text place why
AnswerComesTo command file (Described asked d) = (asked ≡ command) × ((text : List ℕ) × (file ≡ Some text) × Describes text d)
AnswerComesTo command file other = ⊥

-- a run that took nothing of its input comes to this refusal, unless memory ran out
abbrev pub ComesToRefusal : (words : List (List ℕ)) → (file : Option (List ℕ)) → Refusal → Type 0
ComesToRefusal words file refusals.WordsRefused = ComesTo words (untaken file) WordsRefused
ComesToRefusal words file refusals.FileFault = ComesTo words (untaken file) FileFault
ComesToRefusal words file (refusals.TextRefused place why) = ComesTo words (untaken file) (TextRefused place why)
ComesToRefusal words file refusals.NotBuilt = ComesTo words (untaken file) NotBuilt
ComesToRefusal words file refusals.TypeRefused = ComesTo words (untaken file) TypeRefused
ComesToRefusal words file refusals.NoMemory = Unit {0}

-- the refusal that a fault of the file or of its text comes to
abbrev pub from_file : files.FileFault → Refusal
from_file file_faults.Failed = refusals.FileFault
from_file file_faults.NoMemory = refusals.NoMemory

abbrev pub from_text : texts.TextFault → Refusal
from_text (text_faults.At place why) = refusals.TextRefused place why
from_text text_faults.NoMemory = refusals.NoMemory

-- what a refusal says; at want of memory the run is cut off before it says anything
abbrev pub refusal_said : Refusal → Said
refusal_said refusals.WordsRefused = said None WordsRefused
refusal_said refusals.FileFault = said None FileFault
refusal_said (refusals.TextRefused place why) = said None (TextRefused place why)
refusal_said refusals.NotBuilt = said None NotBuilt
refusal_said refusals.TypeRefused = said None TypeRefused
refusal_said refusals.NoMemory = record { text = []; status = 8 }
