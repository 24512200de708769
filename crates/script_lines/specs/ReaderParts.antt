-- What the private readers of a line give, part by part. What a line means is said in Scripts, and the laws in proofs/ lead
-- from here to there.
use Rattle.std.specs.Prelude.{◌≡◌, ◌^◌, ◌==◌, ◌&&◌, nat_lt, nat_le, ℕ, Bool, List, [], ◌∷◌, length, codes, Option, Some, None, Result, Ok, Err, option_and_then, if◌then◌else◌}
use Rattle.std.specs.Char.{is_ascii_digit}
use Rattle.std.specs.List.{list_all}
use Rattle.std.specs.Result.{result_ok}
use Rattle.std.specs.Str.{bytes_eq}
use Rattle.std.specs.Str.Parse.{digits_value}
use Rattle.hex.specs.Hex.{decode_of}
use Rattle.conn_core.specs.Journals.{timeout_limit}
use Rattle.conn_core.specs.declared.settings.Settings.{Settings}
use Rattle.script_lines.specs.declared.commands.Call.{Call}
use Rattle.script_lines.specs.declared.commands.Call.TheVariants.{AskLease, PollLease, Release, Submit, TakeSend, Frame, Cancel, Collect, Tick, Shutdown}
use Rattle.script_lines.specs.declared.commands.Command.{Command}
use Rattle.script_lines.specs.declared.commands.Command.TheVariants.{Table, Calls}
use Rattle.script_lines.specs.declared.commands.LineFault.{LineFault}
use Rattle.script_lines.specs.declared.commands.LineFault.TheVariants.{Refused, NoMemory}

infixl 10 ◌>>=◌
abbrev pub ◌>>=◌ : {A B : Type 0} → Option A → (A → Option B) → Option B
o >>= f = option_and_then f o

-- what a function returned is given by this reading, unless memory ran out
abbrev pub IsGivenBy : {X : Type 0} → Result X LineFault → Option X → Type 0
IsGivenBy (Ok x) read = read ≡ Some x
IsGivenBy (Err Refused) read = read ≡ None
IsGivenBy (Err NoMemory) read = Unit {0}

-- ---- words

unfoldable pub number_of : List ℕ → Option ℕ
number_of word =
    if list_all is_ascii_digit word && (nat_lt 0 (length word) && nat_lt (digits_value 10 word) (2 ^ 64))
    then Some (digits_value 10 word)
    else None

unfoldable pub within_of : (low high : ℕ) → List ℕ → Option ℕ
within_of low high word = do
  n ← number_of word
  if nat_le low n && nat_le n high then Some n else None

unfoldable pub hex_of : List ℕ → Option (List ℕ)
hex_of word = if length word == 0 then None else result_ok (decode_of word)

-- ---- the words behind a line's first

unfoldable pub table_of : List (List ℕ) → Option Settings
table_of (a ∷ b ∷ c ∷ d ∷ e ∷ f ∷ []) = do
  references ← within_of 1 65535 a
  window ← within_of 1 64 b
  share ← within_of 1 64 c
  journal ← within_of 64 262144 d
  lease_ms ← within_of 1 86400000 e
  wait_ms ← within_of 1 86400000 f
  Some (record { references = references; window = window; share = share; journal = journal; lease_ms = lease_ms; wait_ms = wait_ms })
table_of _ = None

-- a caller, and a number
unfoldable pub pair_of : List (List ℕ) → Option (ℕ × ℕ)
pair_of (a ∷ b ∷ []) = do
  caller ← within_of 1 1000 a
  n ← number_of b
  Some (caller, n)
pair_of _ = None

unfoldable pub ask_of : List (List ℕ) → Option Call
ask_of words = do
  p ← pair_of words
  Some (AskLease p.0 p.1)

unfoldable pub poll_of : List (List ℕ) → Option Call
poll_of words = do
  p ← pair_of words
  Some (PollLease p.0 p.1)

unfoldable pub release_of : List (List ℕ) → Option Call
release_of (a ∷ b ∷ c ∷ []) = do
  caller ← within_of 1 1000 a
  lease ← number_of b
  now ← number_of c
  Some (Release caller lease now)
release_of _ = None

unfoldable pub submit_of : List (List ℕ) → Option Call
submit_of (a ∷ b ∷ c ∷ d ∷ e ∷ []) = do
  caller ← within_of 1 1000 a
  lease ← number_of b
  now ← number_of c
  timeout ← within_of 1 timeout_limit d
  payload ← hex_of e
  Some (Submit caller lease now timeout payload)
submit_of _ = None

unfoldable pub send_of : List (List ℕ) → Option Call
send_of [] = Some TakeSend
send_of _ = None

unfoldable pub frame_of : List (List ℕ) → Option Call
frame_of (a ∷ []) = do
  bytes ← hex_of a
  Some (Frame bytes)
frame_of _ = None

unfoldable pub cancel_of : List (List ℕ) → Option Call
cancel_of words = do
  p ← pair_of words
  Some (Cancel p.0 p.1)

unfoldable pub collect_of : List (List ℕ) → Option Call
collect_of words = do
  p ← pair_of words
  Some (Collect p.0 p.1)

unfoldable pub tick_of : List (List ℕ) → Option Call
tick_of (a ∷ []) = do
  now ← number_of a
  Some (Tick now)
tick_of _ = None

unfoldable pub shutdown_of : List (List ℕ) → Option Call
shutdown_of (a ∷ []) = do
  caller ← within_of 1 1000 a
  Some (Shutdown caller)
shutdown_of _ = None

-- ---- a line

unfoldable pub call_of : List ℕ → List (List ℕ) → Option Call
call_of name words =
    if bytes_eq name (codes "ask") then ask_of words
    else (if bytes_eq name (codes "poll") then poll_of words
    else (if bytes_eq name (codes "release") then release_of words
    else (if bytes_eq name (codes "submit") then submit_of words
    else (if bytes_eq name (codes "send") then send_of words
    else (if bytes_eq name (codes "frame") then frame_of words
    else (if bytes_eq name (codes "cancel") then cancel_of words
    else (if bytes_eq name (codes "collect") then collect_of words
    else (if bytes_eq name (codes "tick") then tick_of words
    else (if bytes_eq name (codes "shutdown") then shutdown_of words else None)))))))))

abbrev pub command_at : List ℕ → List (List ℕ) → Option Command
command_at name words =
    if bytes_eq name (codes "table") then (do
      s ← table_of words
      Some (Table s))
    else (do
      call ← call_of name words
      Some (Calls call))

unfoldable pub command_of : List (List ℕ) → Option Command
command_of [] = None
command_of (name ∷ words) = command_at name words

-- which command may stand at which line
abbrev pub is_at : ℕ → Command → Bool
is_at n (Table s) = n == 1
is_at n (Calls call) = nat_le 2 n
