-- What one step of the reading comes to.
use Rattle.std.specs.Prelude.{ℕ, ◌≡◌, ◌≤◌, ◌<◌, true, false, List, Result, Ok, Err}
use Rattle.std.specs.Str.{bytes_eq}
use Rattle.mspec_tree.specs.Depth.{depth_limit}
use Rattle.mspec_grammar.specs.Meanings.{static_call}
use Rattle.mspec_quotes.specs.declared.pending.Open.TheVariants as open_
use Rattle.mspec_quotes.specs.declared.steps.Expected.{Expected}
use Rattle.mspec_quotes.specs.declared.steps.Expected.TheVariants as expected
use Rattle.mspec_quotes.specs.declared.steps.Moved.{Moved}
use Rattle.mspec_quotes.specs.declared.steps.Moved.TheVariants as moved
use Rattle.mspec_quotes.specs.declared.steps.Halt.{Halt}
use Rattle.mspec_quotes.specs.declared.steps.Halt.TheVariants as halt
use Rattle.mspec_quotes.specs.Machine.{Mode, Operand, Behind, Opening, Path, CaseName, CaseQuoted, CaseQuote, CaseEnd, Move, Go, Finish, Stop, least}

abbrev pub mode_of : Expected → Mode
mode_of expected.Operand = Operand
mode_of (expected.Behind e) = Behind e
mode_of (expected.Count place) = Opening (open_.Count place)
mode_of (expected.Cast place) = Opening (open_.Cast place)
mode_of (expected.Path place e) = Path place e
mode_of (expected.CaseName place e) = CaseName place e
mode_of (expected.CaseQuoted place e) = CaseQuoted place e
mode_of (expected.CaseQuote place e name) = CaseQuote place e name
mode_of (expected.CaseEnd place e name) = CaseEnd place e name

-- the move goes on, but to something too deep
abbrev pub IsTooDeep : Move → Type 0
IsTooDeep (Go opens mode) = depth_limit < least opens mode
IsTooDeep (Finish e) = ⊥
IsTooDeep Stop = ⊥

-- what was answered is the move
abbrev pub Moves : Result Moved Halt → Move → Type 0
Moves (Ok (moved.Go r)) move = (move ≡ Go r.opens (mode_of r.expected)) × (least r.opens (mode_of r.expected) ≤ depth_limit)
Moves (Ok (moved.Finish e)) move = move ≡ Finish e
Moves (Err halt.Refused) move = move ≡ Stop
Moves (Err halt.TooDeep) move = IsTooDeep move
Moves (Err halt.NoMemory) move = Unit {0}

-- what was answered is the name, unless it is the word that is left out
abbrev pub Names : Result (List ℕ) Halt → List ℕ → Type 0
Names (Ok name) bytes = (name ≡ bytes) × (bytes_eq bytes static_call ≡ false)
Names (Err halt.Refused) bytes = bytes_eq bytes static_call ≡ true
Names (Err halt.TooDeep) bytes = ⊥
Names (Err halt.NoMemory) bytes = Unit {0}
