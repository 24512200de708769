-- What a run of the program did with its streams, as they tell it and by their counts.
use Rattle.std.specs.Prelude.{ℕ, ◌≡◌, ◌≢◌, ◌+◌, ◌<◌, ◌≤◌, ◌⊎◌, List, [], ◌++◌, take, length, codes, Option, Some, None, Result, Ok, Err, IfOk, IfSome, IsTrue}
use Rattle.link_io.specs.Counts.{Rose}
use Rattle.link_io.specs.Streams.{LeavesFiles, ShelfSeen, SinkSeen, SourceSeen, after_giving, AreNext, IsAtEnd, after_taking}
use Rattle.node_tree.specs.declared.readings.Reading.{Reading}
use Rattle.host_engine.specs.declared.faults.Cut.{Cut}
use Rattle.host_engine.specs.declared.faults.Cut.TheVariants.{NoMemory, WriteFault}
use Rattle.host_engine.specs.declared.inputs.How.{How}
use Rattle.host_engine.specs.declared.inputs.How.TheVariants.{Ended, Failed, Over}
use Rattle.host_engine.specs.declared.statuses.Status.{Status}
use Rattle.host_engine.specs.declared.words.FileCommand.{FileCommand}
use Rattle.host_engine.specs.declared.words.FileCommand.TheVariants.{Check, Print}
use Rattle.mspec_tree.specs.declared.defs.Description.{Description}
use Rattle.mspec_meaning.specs.Stream.{Ending, Stream}
use Rattle.wire_frames.specs.declared.raw.RawWire.{RawWire}
use Rattle.conn_core.specs.Journals.{Legal}
use Rattle.conn_core.specs.States.{State, connection_of}
use Rattle.script_replay.specs.Replays.{Leads, Script, raw}
use Rattle.script_replay.specs.declared.replays.ScriptEnd.{ScriptEnd}
use Rattle.script_replay.specs.declared.replays.ScriptEnd.TheVariants.{Answered}
use Rattle.host_engine.specs.FirstForm.{FirstForm}
use Rattle.host_engine.specs.Lines.{AreWholeLines, lines_of}
use Rattle.host_engine.specs.Statuses.{number_of}
use Rattle.host_engine.specs.Texts.{Describes}
use Rattle.host_engine.specs.Tool.{AreDecode, AreOverFile, AreReplay, IsFront, Names, NamesFile, Said, Taken, Tool, answer_of, entries_said, input_limit, last_said, listings}

-- How the input was left, by its two counts and the bytes that were taken.
abbrev pub LeftSo : Option How → (before after : SourceSeen) → (taken : List ℕ) → Type 0
LeftSo (Some Ended) before after taken =
    Rose before.ends after.ends × (after.faults ≡ before.faults) × (length taken ≤ input_limit)
LeftSo (Some Failed) before after taken =
    (after.ends ≡ before.ends) × Rose before.faults after.faults × (length taken ≤ input_limit)
LeftSo (Some Over) before after taken =
    (after.ends ≡ before.ends) × (after.faults ≡ before.faults) × (length taken ≡ 1 + input_limit)
LeftSo None before after taken =
    (after.ends ≡ before.ends) × (after.faults ≡ before.faults) × (length taken ≤ input_limit)

-- What was taken of the file of this name: nothing, and its count rose, or its bytes as the shelf tells them, and no count
-- changed. Where the shelf tells that there is no such file it is nothing. A run that ran out of memory may not have read all of
-- these bytes, nor one whose file is longer than a description may be.
abbrev pub FileSeen : (name : List ℕ) → (before after : ShelfSeen) → Option (List ℕ) → Type 0
FileSeen name before after None = Rose (before.faults name) (after.faults name)
FileSeen name before after (Some text) =
    ((other : List ℕ) → after.faults other ≡ before.faults other)
    × IfSome (before.file name) (λ bytes. text ≡ bytes)
    × (IsTrue (before.lacks name) → ⊥)

-- These bytes were added to what goes out: some have gone, and the rest is gathered behind them.
abbrev pub Adds : (held held' : Option (List ℕ)) → (gathered gathered' added : List ℕ) → Type 0
Adds held held' gathered gathered' added =
    (gone : List ℕ) × (held' ≡ after_taking gone held) × (gone ++ gathered' ≡ gathered ++ added)

-- A front of these bytes has gone out.
abbrev pub PutsFront : (held held' : Option (List ℕ)) → (bytes : List ℕ) → Type 0
PutsFront held held' bytes = (front rest : List ℕ) × (front ++ rest ≡ bytes) × (held' ≡ after_taking front held)

-- the shelf counts this name together with the file that the words name
abbrev pub IsCountedWithFile : (counts_with : List ℕ → List ℕ → Type 0) → (words : List (List ℕ)) → (other : List ℕ) → Type 0
IsCountedWithFile counts_with words other = (file_name : List ℕ) × NamesFile words file_name × counts_with file_name other

-- the words name a file that the shelf tells there isn't
abbrev pub LacksFile : (words : List (List ℕ)) → ShelfSeen → Type 0
LacksFile words files = (file_name : List ℕ) × NamesFile words file_name × IsTrue (files.lacks file_name)

-- What was taken of the shelf: the file that the words name, if they do. No count has changed but those of names that the shelf
-- counts together with it.
pub record FileTaken (words : List (List ℕ)) (counts_with : List ℕ → List ℕ → Type 0) (before after : ShelfSeen) (file : Option (List ℕ)) : Type 0 where
  pub named : (file_name : List ℕ) → NamesFile words file_name → FileSeen file_name before after file
  pub others : (other : List ℕ) → (IsCountedWithFile counts_with words other → ⊥) → after.faults other ≡ before.faults other

-- What was taken from the input, the next bytes that it had, and how it was left: at its end, if it ended.
pub record InputTaken (before after : SourceSeen) (taken : List ℕ) (how : Option How) : Type 0 where
  pub given : after.tape ≡ after_giving taken before.tape
  pub next : AreNext taken before.tape
  pub at_end : how ≡ Some Ended → IsAtEnd after.tape
  pub left : LeftSo how before after taken

-- A run by these words took this from its shelf and its input.
pub record Took (words : List (List ℕ)) (counts_with : List ℕ → List ℕ → Type 0) (files files' : ShelfSeen) (input input' : SourceSeen) (t : Taken) : Type 0 where
  pub from_files : FileTaken words counts_with files files' t.file
  pub from_input : InputTaken input input' t.bytes t.how

-- What the shelf, the input and the output show at one moment.
pub record Shown : Type 0 where
  pub files : ShelfSeen
  pub input : SourceSeen
  pub out : SinkSeen

abbrev pub shown : ShelfSeen → SourceSeen → SinkSeen → Shown
shown files input out = record { files = files; input = input; out = out }

-- A run by these words, with this shown before it and after it, came to this status or was cut off, with this gathered before it
-- and after it.
pub record RunsTo (words : List (List ℕ)) (counts_with : List ℕ → List ℕ → Type 0) (before after : Shown) (gathered gathered' : List ℕ) (ran : Result Status Cut) : Type 0 where
  -- The tool's text was added, and the status is the tool's.
  pub said : IfOk ran (λ status. (t : Taken) × (outcome : Said)
      × Took words counts_with before.files after.files before.input after.input t
      × Tool words t outcome
      × Adds before.out.held after.out.held gathered gathered' outcome.text
      × (number_of status ≡ outcome.status))
  -- Where memory ran out a front of it was added, of whole lines.
  pub no_memory : ran ≡ Err NoMemory → (t : Taken) × (front : List ℕ)
      × Took words counts_with before.files after.files before.input after.input t
      × IsFront words t front
      × Adds before.out.held after.out.held gathered gathered' front
      × AreWholeLines front
  -- Where the output failed a front of it went out, or a front of what was gathered before.
  pub cut : ran ≡ Err WriteFault → (t : Taken) × (front : List ℕ)
      × Took words counts_with before.files after.files before.input after.input t
      × IsFront words t front
      × PutsFront before.out.held after.out.held (gathered ++ front)
  -- The output failed exactly where its count rose.
  pub out_failed : ran ≡ Err WriteFault → Rose before.out.faults after.out.faults
  pub out_well : (ran ≡ Err WriteFault) ⊎ (after.out.faults ≡ before.out.faults)
  -- It leaves every file.
  pub files : LeavesFiles before.files after.files

-- the last line and the status of a run that came to this
abbrev pub last_of : Result Status Cut → Said
last_of (Ok status) = record { text = []; status = number_of status }
last_of (Err NoMemory) = record { text = codes "no memory\n"; status = 8 }
last_of (Err WriteFault) = record { text = []; status = 5 }

-- A run by these words, with this shown before it and after it, answered this status.
pub record IsRun (words : List (List ℕ)) (counts_with : List ℕ → List ℕ → Type 0) (before after : Shown) (status : ℕ) : Type 0 where
  -- What is put out is the tool's text, and the status is the tool's.
  pub said : status ≢ 5 → status ≢ 8 → (t : Taken) × (outcome : Said)
      × Took words counts_with before.files after.files before.input after.input t
      × Tool words t outcome
      × (after.out.held ≡ after_taking outcome.text before.out.held)
      × (status ≡ outcome.status)
  -- Where memory ran out it is a front of that text, of whole lines, and then a line that says so.
  pub no_memory : status ≡ 8 → (t : Taken) × (front : List ℕ)
      × Took words counts_with before.files after.files before.input after.input t
      × IsFront words t front
      × (after.out.held ≡ after_taking (front ++ codes "no memory\n") before.out.held)
      × AreWholeLines front
  -- Where the output failed it is a front of what would have been put out otherwise.
  pub write_fault : status ≡ 5 → (t : Taken) × (whole : List ℕ)
      × Took words counts_with before.files after.files before.input after.input t
      × (IsFront words t whole ⊎ ((front : List ℕ) × IsFront words t front × AreWholeLines front × (whole ≡ front ++ codes "no memory\n")))
      × PutsFront before.out.held after.out.held whole
  -- The output failed exactly where its count rose.
  pub out_failed : status ≡ 5 → Rose before.out.faults after.out.faults
  pub out_well : status ≢ 5 → after.out.faults ≡ before.out.faults
  -- It leaves every file.
  pub files : LeavesFiles before.files after.files

-- The words name a file that was read, a description in it, and a type of it, so that the input is to be read.
abbrev pub IsReady : (words : List (List ℕ)) → (counts_with : List ℕ → List ℕ → Type 0) → (before after : ShelfSeen) → (d : Description) → (def : ℕ) → Type 0
IsReady words counts_with before after d def =
    (file_name type_name text : List ℕ)
    × AreDecode words file_name type_name
    × FileTaken words counts_with before after (Some text)
    × FirstForm text d
    × Names d def type_name

-- The words lead to values, and the input ended. Its bytes are these values, up to this ending.
pub record WasDecoded (words : List (List ℕ)) (counts_with : List ℕ → List ℕ → Type 0) (before after : Shown) (ending : Ending) : Type 0 where
  pub d : Description
  pub def : ℕ
  pub taken : List ℕ
  pub readings : List Reading
  pub ready : IsReady words counts_with before.files after.files d def
  pub from_input : InputTaken before.input after.input taken (Some Ended)
  pub values : Stream d def [] (take input_limit taken) readings ending
  pub put_out : after.out.held ≡ after_taking (listings d def readings ++ (last_said (Some Ended) ending).text) before.out.held

-- The words are `replay`, and the input ended. All its lines were answered, and have led to a connection with a legal journal.
pub record WasReplayed (words : List (List ℕ)) (before after : Shown) : Type 0 where
  pub taken : List ℕ
  pub text : List ℕ
  pub next : ℕ
  pub state : State RawWire
  pub are_replay : AreReplay words
  pub from_input : InputTaken before.input after.input taken (Some Ended)
  pub answered : Script (lines_of (Some Ended) (take input_limit taken)) text (Answered next (length state.journal))
  pub leads : Leads (record { next = 1; conn = None }) (lines_of (Some Ended) (take input_limit taken)) (record { next = next; conn = Some state })
  pub legal : Legal (connection_of raw state.key) state.journal
  -- The first line stands, which must.
  pub first : 1 < next
  pub put_out : after.out.held ≡ after_taking (text ++ (entries_said (length state.journal)).text) before.out.held

-- The words are this command over a file, whose description is accepted, and what the command says of it is put out.
pub record WasDescribed (words : List (List ℕ)) (command : FileCommand) (counts_with : List ℕ → List ℕ → Type 0) (before after : Shown) : Type 0 where
  pub file_name : List ℕ
  pub text : List ℕ
  pub d : Description
  pub are_words : AreOverFile words command file_name
  pub from_files : FileTaken words counts_with before.files after.files (Some text)
  pub described : Describes text d
  pub put_out : after.out.held ≡ after_taking (answer_of command d) before.out.held

-- a description was accepted, which is what was put out
abbrev pub WasChecked : (words : List (List ℕ)) → (counts_with : List ℕ → List ℕ → Type 0) → (before after : Shown) → Type 0
WasChecked words counts_with before after = WasDescribed words Check counts_with before after

-- the printed form of an accepted description was put out
abbrev pub WasPrinted : (words : List (List ℕ)) → (counts_with : List ℕ → List ℕ → Type 0) → (before after : Shown) → Type 0
WasPrinted words counts_with before after = WasDescribed words Print counts_with before after

-- the statuses of a run that stops before it reads its input
abbrev pub StopsEarly : ℕ → Type 0
StopsEarly status = (status ≡ 1) ⊎ ((status ≡ 2) ⊎ ((status ≡ 3) ⊎ (status ≡ 12)))

-- a front of the answers of an input's lines, where the input was left in one of the three ways
abbrev pub IsScriptFront : Option How → (taken front : List ℕ) → Type 0
IsScriptFront how taken front =
    (front ≡ [])
    ⊎ ((left : How)
    × (text rest : List ℕ)
    × (end : ScriptEnd)
    × (how ≡ Some left)
    × Script (lines_of (Some left) (take input_limit taken)) text end
    × (front ++ rest ≡ text))
