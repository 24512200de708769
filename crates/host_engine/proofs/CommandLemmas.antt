-- What a command over a file comes to is what the tool says of it.
use Rattle.std.proofs.Common.{◌≡◌, ℕ, List, Option, None, refl, inr, subst, sym}
use Rattle.host_engine.specs.declared.words.FileCommand.{FileCommand}
use Rattle.host_engine.specs.declared.preparing.Refusal.{Refusal}
use Rattle.host_engine.specs.declared.preparing.Refusal.TheVariants as refusals
use Rattle.host_engine.specs.Preparing.{AnswerComesTo, IsRefusedFile, refusal_said, untaken}
use Rattle.host_engine.specs.Tool.{AreOverFile, Course, FileFault, TextRefused, Described, Tool, said}

-- a command over a description that was refused comes to the refusal
pub refused_answer : (command : FileCommand) (file : Option (List ℕ)) (r : Refusal) → IsRefusedFile file r → (r ≡ refusals.NoMemory → ⊥) → (course : Course) × AnswerComesTo command file course × (refusal_said r ≡ said None course)
refused_answer command file refusals.WordsRefused is h = absurd is
refused_answer command file refusals.FileFault is h = (FileFault, is, refl)
refused_answer command file (refusals.TextRefused place why) is h = (TextRefused place why, is, refl)
refused_answer command file refusals.NotBuilt is h = absurd is
refused_answer command file refusals.TypeRefused is h = absurd is
refused_answer command file refusals.NoMemory is h = absurd (h refl)

pub answer_tool : (words : List (List ℕ)) (command : FileCommand) (name : List ℕ) (file : Option (List ℕ)) (course : Course) → AreOverFile words command name → AnswerComesTo command file course → Tool words (untaken file) (said None course)
answer_tool words command name file FileFault over is = (FileFault, (name, inr (command, over), is), tt, refl)
answer_tool words command name file (TextRefused place why) over is =
    (TextRefused place why, (name, is.0, inr (command, over), is.1, is.2), tt, refl)
answer_tool words command name file (Described asked d) over is =
    let same = subst (λ (c : FileCommand). AreOverFile words c name) (sym is.0) over in
    (Described asked d, (name, is.1.0, same, is.1.1, is.1.2), tt, refl)
answer_tool words command name file other over is = absurd is
