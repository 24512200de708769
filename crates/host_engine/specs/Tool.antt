-- What the program puts out and its status: by its words, the file that they name, the bytes that were taken from the
-- input, and how the input was left.
use Rattle.std.specs.Prelude.{ℕ, ◌≡◌, ◌≢◌, ◌⊎◌, if◌then◌else◌, false, List, [], ◌∷◌, ◌++◌, take, codes, Option, Some, None, slice_get}
use Rattle.std.specs.List.{flat_map}
use Rattle.std.specs.Fmt.{decimal}
use Rattle.node_tree.specs.declared.readings.Reading.{Reading}
use Rattle.mspec_tree.specs.declared.defs.Def.{Def}
use Rattle.mspec_tree.specs.declared.defs.Description.{Description}
use Rattle.mspec_tree.specs.declared.words.Place.{Place}
use Rattle.mspec_lexer.specs.Tokens.{text_of}
use Rattle.mspec_printer.specs.Printed.{printed}
use Rattle.mspec_meaning.specs.Stream.{Stream, Ending, End, TooFew, Refused, Why, Value, Unaligned}
use Rattle.host_engine.specs.declared.inputs.How.{How}
use Rattle.host_engine.specs.declared.inputs.How.TheVariants.{Ended, Failed, Over}
use Rattle.script_lines.specs.Scripts.{must_stand}
use Rattle.script_replay.specs.Replays.{Script}
use Rattle.script_replay.specs.declared.replays.ScriptEnd.{ScriptEnd}
use Rattle.script_replay.specs.declared.replays.ScriptEnd.TheVariants.{Answered, Refused as LineRefused}
use Rattle.answer_texts.specs.Texts.{read_why_text}
use Rattle.host_engine.specs.declared.describing.TextWhy.{TextWhy}
use Rattle.host_engine.specs.declared.words.FileCommand.{FileCommand}
use Rattle.host_engine.specs.declared.words.FileCommand.TheVariants.{Check, Print}
use Rattle.host_engine.specs.FirstForm.{FirstForm, is_first_form}
use Rattle.host_engine.specs.Texts.{Describes, IsRefusedText, text_why_text}
use Rattle.host_engine.specs.Lines.{lines_of}
use Rattle.host_engine.specs.Listing.{listing, fields_at}

-- ---- words

-- a word that isn't an option and isn't empty
abbrev pub IsPositional : List ℕ → Type 0
IsPositional [] = ⊥
IsPositional (b ∷ bs) = b ≢ 45

-- the words are `decode FILE TYPE`, with the name of a file and that of a type
pub record AreDecode (words : List (List ℕ)) (file_name type_name : List ℕ) : Type 0 where
  pub spelled : words ≡ codes "decode" ∷ file_name ∷ type_name ∷ []
  pub file_word : IsPositional file_name
  pub type_word : IsPositional type_name

-- the words are `replay`
abbrev pub AreReplay : List (List ℕ) → Type 0
AreReplay words = words ≡ codes "replay" ∷ []

-- the first word of a command over a file alone
abbrev pub command_word : FileCommand → List ℕ
command_word Check = codes "check"
command_word Print = codes "print"

-- the words are this command and the name of a file
pub record AreOverFile (words : List (List ℕ)) (command : FileCommand) (file_name : List ℕ) : Type 0 where
  pub spelled : words ≡ command_word command ∷ file_name ∷ []
  pub file_word : IsPositional file_name

-- the words are `check FILE`, with the name of a file
abbrev pub AreCheck : (words : List (List ℕ)) → (file_name : List ℕ) → Type 0
AreCheck words file_name = AreOverFile words Check file_name

-- the words are `print FILE`, with the name of a file
abbrev pub ArePrint : (words : List (List ℕ)) → (file_name : List ℕ) → Type 0
ArePrint words file_name = AreOverFile words Print file_name

-- the words name this file
abbrev pub NamesFile : (words : List (List ℕ)) → (file_name : List ℕ) → Type 0
NamesFile words file_name =
    ((type_name : List ℕ) × AreDecode words file_name type_name) ⊎ ((command : FileCommand) × AreOverFile words command file_name)

-- the words are no command's
abbrev pub AreRefused : List (List ℕ) → Type 0
AreRefused words =
    ((file_name type_name : List ℕ) → AreDecode words file_name type_name → ⊥)
    × (AreReplay words → ⊥)
    × ((command : FileCommand) (file_name : List ℕ) → AreOverFile words command file_name → ⊥)

-- ---- the run

-- the definition at this place has this name
abbrev pub Names : Description → (def : ℕ) → (name : List ℕ) → Type 0
Names d def name = (found : Def) × (slice_get d.defs def ≡ Some found) × (found.name ≡ name)

-- bytes of the input past this limit are left out of account
abbrev pub input_limit : ℕ
input_limit = 16777216

-- What a run took: the bytes of the file that its words name, as the shelf tells them, unless the file failed; the bytes that
-- were taken from the input; and how the input was left, if it ended, failed or had more bytes than the limit.
pub record Taken : Type 0 where
  pub file : Option (List ℕ)
  pub bytes : List ℕ
  pub how : Option How

-- What a run comes to, in the order in which it is tested. The last three are that of the values, up to their end, that of
-- the lines of a script, up to theirs, with the text of their answers, and that of a command over a description.
pub data Course : Type 0 where
  WordsRefused : Course
  FileFault : Course
  TextRefused : (place : Place) (why : TextWhy) → Course
  NotBuilt : Course
  TypeRefused : Course
  Values : (d : Description) (def : ℕ) (readings : List Reading) (ending : Ending) → Course
  Answers : (text : List ℕ) (end : ScriptEnd) → Course
  Described : (command : FileCommand) (d : Description) → Course

-- By these words, and what it took, a run comes to this.
abbrev pub ComesTo : (words : List (List ℕ)) → Taken → Course → Type 0
ComesTo words t WordsRefused = AreRefused words
ComesTo words t FileFault = (file_name : List ℕ) × NamesFile words file_name × (t.file ≡ None)
ComesTo words t (TextRefused place why) =
    (file_name text : List ℕ) × NamesFile words file_name × (t.file ≡ Some text) × IsRefusedText text place why
ComesTo words t NotBuilt =
    (file_name type_name text : List ℕ)
    × (d : Description)
    × AreDecode words file_name type_name
    × (t.file ≡ Some text)
    × Describes text d
    × (is_first_form d ≡ false)
ComesTo words t TypeRefused =
    (file_name type_name text : List ℕ)
    × (d : Description)
    × AreDecode words file_name type_name
    × (t.file ≡ Some text)
    × FirstForm text d
    × ((def : ℕ) → Names d def type_name → ⊥)
ComesTo words t (Values d def readings ending) =
    (file_name type_name text : List ℕ)
    × AreDecode words file_name type_name
    × (t.file ≡ Some text)
    × FirstForm text d
    × Names d def type_name
    × Stream d def [] (take input_limit t.bytes) readings ending
ComesTo words t (Answers text end) = AreReplay words × Script (lines_of t.how (take input_limit t.bytes)) text end
ComesTo words t (Described command d) =
    (file_name text : List ℕ) × AreOverFile words command file_name × (t.file ≡ Some text) × Describes text d

-- ---- texts

abbrev pub why_text : Why → List ℕ
why_text (Value why) = read_why_text why
why_text Unaligned = codes "Unaligned"

-- what is put out, and the status
pub record Said : Type 0 where
  pub text : List ℕ
  pub status : ℕ

-- the last line and the status of values that end so, in an input that was left so. That of an input which was left before
-- its end stands here only as a case: no run says it, by `IsDecided`.
abbrev pub last_said : Option How → Ending → Said
last_said how (Refused bit why) =
    record { text = codes "value refused " ++ decimal bit ++ codes " " ++ why_text why ++ codes "\n"; status = 6 }
last_said (Some Failed) End = record { text = codes "read fault\n"; status = 4 }
last_said (Some Failed) (TooFew left) = record { text = codes "read fault\n"; status = 4 }
last_said (Some Over) End = record { text = codes "input too long\n"; status = 13 }
last_said (Some Over) (TooFew left) = record { text = codes "input too long\n"; status = 13 }
last_said (Some Ended) End = record { text = []; status = 0 }
last_said (Some Ended) (TooFew left) = record { text = codes "truncated " ++ decimal left ++ codes "\n"; status = 7 }
last_said None End = record { text = []; status = 0 }
last_said None (TooFew left) = record { text = codes "truncated " ++ decimal left ++ codes "\n"; status = 7 }

-- a description is refused at this place, for what this word says
abbrev pub description_refused : Place → (word : List ℕ) → Said
description_refused place word =
    record {
      text = codes "description refused " ++ decimal place.line ++ codes ":" ++ decimal place.column ++ codes " " ++ word ++ codes "\n";
      status = 1;
    }

abbrev pub refusal_of_line : ℕ → Said
refusal_of_line n = record { text = codes "line refused " ++ decimal n ++ codes "\n"; status = 10 }

abbrev pub entries_said : ℕ → Said
entries_said entries = record { text = codes "entries " ++ decimal entries ++ codes "\n"; status = 0 }

-- a script's first line must stand; behind it a script may end at any line
abbrev pub script_said : (next entries : ℕ) → Said
script_said next entries = if must_stand next then refusal_of_line next else entries_said entries

-- the line that is refused, where a script's lines end so in an input that was left so: one that is no line of a script there, or the one
-- that must stand and is missing at the input's end
abbrev pub refused_line : How → ScriptEnd → Option ℕ
refused_line how (LineRefused n) = Some n
refused_line Ended (Answered next entries) = if must_stand next then Some next else None
refused_line Failed (Answered next entries) = None
refused_line Over (Answered next entries) = None

-- the last line and the status of a script whose lines end so, in an input that was left so
abbrev pub script_last : Option How → ScriptEnd → Said
script_last how (LineRefused n) = refusal_of_line n
script_last (Some Failed) (Answered next entries) = record { text = codes "read fault\n"; status = 4 }
script_last (Some Over) (Answered next entries) = record { text = codes "input too long\n"; status = 13 }
script_last (Some Ended) (Answered next entries) = script_said next entries
script_last None (Answered next entries) = script_said next entries

-- the values of a type, each with an empty line behind it
abbrev pub listings : Description → ℕ → List Reading → List ℕ
listings d def readings = flat_map (λ reading. listing (fields_at d def) reading.node) readings

-- what a command says of an accepted description
abbrev pub answer_of : FileCommand → Description → List ℕ
answer_of Check d = codes "accepted\n"
answer_of Print d = text_of (printed d)

abbrev pub said : Option How → Course → Said
said how WordsRefused = record { text = codes "words refused\n"; status = 2 }
said how FileFault = record { text = codes "file fault\n"; status = 3 }
said how (TextRefused place why) = description_refused place (text_why_text why)
said how NotBuilt = record { text = codes "description refused 1:1 NotBuilt\n"; status = 1 }
said how TypeRefused = record { text = codes "type refused\n"; status = 12 }
said how (Values d def readings ending) =
    record {
      text = listings d def readings ++ (last_said how ending).text;
      status = (last_said how ending).status;
    }
said how (Answers text end) = record { text = text ++ (script_last how end).text; status = (script_last how end).status }
said how (Described command d) = record { text = answer_of command d; status = 0 }

-- The run was decided: where values were read and none was refused, and where lines were read, the input ended, failed or
-- had more bytes than the limit. So no run that was decided has the text of an input that was left before its end, but for
-- a value that was refused in it.
abbrev pub IsDecided : Option How → Course → Type 0
IsDecided None (Values d def readings End) = ⊥
IsDecided None (Values d def readings (TooFew left)) = ⊥
IsDecided None (Answers text end) = ⊥
IsDecided how course = Unit {0}

-- By these words, and what it took, a run says this.
abbrev pub Tool : (words : List (List ℕ)) → Taken → Said → Type 0
Tool words t outcome = (course : Course) × ComesTo words t course × IsDecided t.how course × (outcome ≡ said t.how course)

-- The text that a run comes to, as far as what it took tells: all of it where the run was decided, and else the values and the
-- answers without a last line, since more of the input may come.
abbrev pub text_so_far : Option How → Course → List ℕ
text_so_far None (Values d def readings End) = listings d def readings
text_so_far None (Values d def readings (TooFew left)) = listings d def readings
text_so_far None (Answers text end) = text
text_so_far how course = (said how course).text

-- A front of the text, as far as what was taken tells it.
abbrev pub IsFront : (words : List (List ℕ)) → Taken → (front : List ℕ) → Type 0
IsFront words t front =
    (front ≡ []) ⊎ ((course : Course) × (rest : List ℕ) × ComesTo words t course × (front ++ rest ≡ text_so_far t.how course))
