-- What the streams of a run tell before it, and a run in which no call failed.
use Rattle.std.specs.Prelude.{ℕ, ◌≡◌, ◌+◌, ◌<◌, ◌≤◌, ◌⊎◌, List, [], take, length, Option, Some, None}
use Rattle.link_io.specs.Counts.{Rose}
use Rattle.link_io.specs.Streams.{ShelfSeen, SourceSeen, Tape}
use Rattle.node_tree.specs.declared.readings.Reading.{Reading}
use Rattle.mspec_tree.specs.declared.defs.Description.{Description}
use Rattle.mspec_meaning.specs.Stream.{End, Stream}
use Rattle.script_replay.specs.Replays.{Script}
use Rattle.script_replay.specs.declared.replays.ScriptEnd.TheVariants.{Answered}
use Rattle.host_engine.specs.declared.inputs.How.{How}
use Rattle.host_engine.specs.declared.inputs.How.TheVariants.{Ended, Failed, Over}
use Rattle.host_engine.specs.FirstForm.{FirstForm}
use Rattle.host_engine.specs.Lines.{lines_of}
use Rattle.host_engine.specs.Runs.{Shown}
use Rattle.host_engine.specs.Tool.{AreDecode, AreReplay, Names, NamesFile, Taken, input_limit}

-- These bytes are taken of those that an input has left, and it is left so, where no read fails: all, where they are within the
-- limit, and else one byte past it.
abbrev pub GivesSo : How → (left bytes : List ℕ) → Type 0
GivesSo Ended left bytes = (bytes ≡ left) × (length left ≤ input_limit)
GivesSo Over left bytes = (bytes ≡ take (1 + input_limit) left) × (input_limit < length left)
GivesSo Failed left bytes = ⊥

-- The input tells its bytes, and these are taken of it, which leaves it so, where no read fails.
pub record InputTold (input : SourceSeen) (bytes : List ℕ) (how : Option How) : Type 0 where
  pub tape : Tape
  pub left : How
  pub tells : input.tape ≡ Some tape
  pub is_left : how ≡ Some left
  pub gives : GivesSo left tape.left bytes

-- What a run takes where no call fails, as its streams tell it before the run: the file that its words name, if they name one,
-- and nothing of the input, or the input.
pub record IsTold (words : List (List ℕ)) (files : ShelfSeen) (input : SourceSeen) (t : Taken) : Type 0 where
  pub from_file : (file_name : List ℕ) → NamesFile words file_name → (text : List ℕ) × (files.file file_name ≡ Some text) × (t.file ≡ Some text)
  pub from_input : ((t.how ≡ None) × (t.bytes ≡ [])) ⊎ InputTold input t.bytes t.how

-- No call failed: the counts of faults of the file that the words name, of the input and of the output didn't rise by one, which
-- is all that they rise by in a run. Of a count at its top, which stands still, this says nothing.
pub record NoneFailed (words : List (List ℕ)) (before after : Shown) : Type 0 where
  pub file : (file_name : List ℕ) → NamesFile words file_name → Rose (before.files.faults file_name) (after.files.faults file_name) → ⊥
  pub input : Rose before.input.faults after.input.faults → ⊥
  pub out : Rose before.out.faults after.out.faults → ⊥

-- The words lead to values, as the streams tell it: the file is in the first form and has the type, and the input has only whole
-- values of it, within the limit.
pub record TellsValues (words : List (List ℕ)) (files : ShelfSeen) (input : SourceSeen) : Type 0 where
  pub file_name : List ℕ
  pub type_name : List ℕ
  pub text : List ℕ
  pub d : Description
  pub def : ℕ
  pub tape : Tape
  pub readings : List Reading
  pub are_decode : AreDecode words file_name type_name
  pub file : files.file file_name ≡ Some text
  pub form : FirstForm text d
  pub names : Names d def type_name
  pub source : input.tape ≡ Some tape
  pub within : length tape.left ≤ input_limit
  pub values : Stream d def [] tape.left readings End

-- The words are `replay`, and the input, as it tells it, is a script within the limit, of which all lines stand, and the first
-- among them, which must.
pub record TellsScript (words : List (List ℕ)) (input : SourceSeen) : Type 0 where
  pub tape : Tape
  pub text : List ℕ
  pub next : ℕ
  pub entries : ℕ
  pub are_replay : AreReplay words
  pub source : input.tape ≡ Some tape
  pub within : length tape.left ≤ input_limit
  pub lines : Script (lines_of (Some Ended) tape.left) text (Answered next entries)
  pub first : 1 < next
