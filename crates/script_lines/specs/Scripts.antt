-- Scripts of the request table: what their lines say.
use Rattle.std.specs.Prelude.{◌≡◌, ◌≢◌, ℕ, ◌-◌, ◌≤◌, ◌^◌, ◌==◌, Bool, List, [], ◌∷◌, codes, Ok}
use Rattle.std.specs.List.{slice_split}
use Rattle.std.specs.Str.Parse.{IsNumeral, digits_value}
use Rattle.hex.specs.Hex.{decode_of}
use Rattle.conn_core.specs.Journals.{timeout_limit}
use Rattle.script_lines.specs.declared.commands.Call.TheVariants.{AskLease, PollLease, Release, Submit, TakeSend, Frame, Cancel, Collect, Tick, Shutdown}
use Rattle.script_lines.specs.declared.commands.Command.{Command}
use Rattle.script_lines.specs.declared.commands.Command.TheVariants.{Table, Calls}

-- ---- words

-- the words of a line stand apart by one space: they are the parts between its spaces
abbrev pub words_of : List ℕ → List (List ℕ)
words_of line = slice_split (λ b. b == 32) line

-- decimal digits, of which leading zeros change nothing, and their number
abbrev pub IsNumber : List ℕ → ℕ → Type 0
IsNumber word n = IsNumeral 10 word × (digits_value 10 word ≡ n)

-- the same of a number within bounds
abbrev pub IsWithin : (low high : ℕ) → List ℕ → ℕ → Type 0
IsWithin low high word n = IsNumber word n × (low ≤ n) × (n ≤ high)

-- one or more pairs of hexadecimal digits in either case, and their bytes
abbrev pub IsHex : List ℕ → List ℕ → Type 0
IsHex word bytes = (word ≢ []) × (decode_of word ≡ Ok bytes)

-- ---- commands

-- what a word behind a command's name stands for
pub data Operand : Type 0 where
  -- a number between bounds
  Number : (low high value : ℕ) → Operand
  Bytes : (bytes : List ℕ) → Operand

-- a caller
abbrev pub by : ℕ → Operand
by caller = Number 1 1000 caller

-- a moment, the number of a lease, or the id of a request: below 2^64
abbrev pub long : ℕ → Operand
long n = Number 0 (2 ^ 64 - 1) n

-- how long a lease or a wait for it lasts
abbrev pub lasting : ℕ → Operand
lasting ms = Number 1 86400000 ms

-- how a command is spelled: its name, and what the words behind it stand for
pub record Spelling : Type 0 where
  pub name : List ℕ
  pub operands : List Operand

-- One row for each command.
abbrev pub spelling_of : Command → Spelling
spelling_of (Table s) = record {
  name = codes "table";
  operands = Number 1 65535 s.references ∷ Number 1 64 s.window ∷ Number 1 64 s.share ∷ Number 64 262144 s.journal ∷ lasting s.lease_ms ∷ lasting s.wait_ms ∷ [];
}
spelling_of (Calls (AskLease caller now)) = record { name = codes "ask"; operands = by caller ∷ long now ∷ [] }
spelling_of (Calls (PollLease caller lease)) = record { name = codes "poll"; operands = by caller ∷ long lease ∷ [] }
spelling_of (Calls (Release caller lease now)) = record { name = codes "release"; operands = by caller ∷ long lease ∷ long now ∷ [] }
spelling_of (Calls (Submit caller lease now timeout payload)) = record {
  name = codes "submit";
  operands = by caller ∷ long lease ∷ long now ∷ Number 1 timeout_limit timeout ∷ Bytes payload ∷ [];
}
spelling_of (Calls TakeSend) = record { name = codes "send"; operands = [] }
spelling_of (Calls (Frame bytes)) = record { name = codes "frame"; operands = Bytes bytes ∷ [] }
spelling_of (Calls (Cancel caller id)) = record { name = codes "cancel"; operands = by caller ∷ long id ∷ [] }
spelling_of (Calls (Collect caller id)) = record { name = codes "collect"; operands = by caller ∷ long id ∷ [] }
spelling_of (Calls (Tick now)) = record { name = codes "tick"; operands = long now ∷ [] }
spelling_of (Calls (Shutdown caller)) = record { name = codes "shutdown"; operands = by caller ∷ [] }

abbrev pub IsSpelled : List ℕ → Operand → Type 0
IsSpelled word (Number low high value) = IsWithin low high word value
IsSpelled word (Bytes bytes) = IsHex word bytes

-- each word spells its operand, and there are as many words as operands
abbrev pub AreSpelled : List (List ℕ) → List Operand → Type 0
AreSpelled [] [] = Unit {0}
AreSpelled [] (operand ∷ operands) = ⊥
AreSpelled (word ∷ words) [] = ⊥
AreSpelled (word ∷ words) (operand ∷ operands) = IsSpelled word operand × AreSpelled words operands

-- a command's name, and then its operands
abbrev pub Spells : List (List ℕ) → Command → Type 0
Spells [] command = ⊥
Spells (word ∷ words) command = (word ≡ (spelling_of command).name) × AreSpelled words (spelling_of command).operands

-- ---- lines

-- Lines count from 1. The first must stand: it makes the table.
abbrev pub must_stand : ℕ → Bool
must_stand n = n == 1

-- which command may stand at which line: the table at the first, and calls behind it
abbrev pub IsAt : ℕ → Command → Type 0
IsAt n (Table s) = n ≡ 1
IsAt n (Calls call) = 2 ≤ n

-- the line with this number, counted from 1, is this command
abbrev pub IsLine : ℕ → List ℕ → Command → Type 0
IsLine n line command = Spells (words_of line) command × IsAt n command
