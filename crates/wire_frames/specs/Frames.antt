-- Frames in a stream of bytes. Each frame tells its length in its head, in 16 bits with the higher byte first.
use Rattle.std.specs.Prelude.{ℕ, ◌≡◌, ◌+◌, ◌<◌, ◌≤◌, ◌⊎◌, Bool, true, false, ◌&&◌, nat_le, nat_lt, if◌then◌else◌, List, [], ◌∷◌, ◌++◌, length, IsTrue}
use Rattle.std.specs.List.{AllByRecursion, flat_map}
use Rattle.wire_frames.specs.RawFrames.{number_at}
use Rattle.wire_frames.specs.declared.wires.LengthRule.{LengthRule}
use Rattle.wire_frames.specs.declared.wires.LengthRule.TheVariants.{Raw, Modbus, Tpkt}

-- how many bytes of a frame tell its length: those up to the length and with it
abbrev pub head_of : LengthRule → ℕ
head_of Raw = 2
head_of Modbus = 6
head_of Tpkt = 4

-- how many bytes a frame has, as its head tells
abbrev pub total_of : LengthRule → List ℕ → ℕ
total_of Raw bytes = number_at bytes 0
total_of Modbus bytes = number_at bytes 4 + 6
total_of Tpkt bytes = number_at bytes 2

abbrev pub is_between : ℕ → ℕ → ℕ → Bool
is_between least most n = nat_le least n && nat_le n most

-- how many bytes a frame may have
abbrev pub is_good : LengthRule → ℕ → Bool
is_good Raw total = is_between 4 4096 total
is_good Modbus total = is_between 8 260 total
is_good Tpkt total = is_between 7 4096 total

-- bytes that are one whole frame
pub record IsFrame (rule : LengthRule) (frame : List ℕ) : Type 0 where
  pub head : head_of rule ≤ length frame
  pub total : total_of rule frame ≡ length frame
  pub good : IsTrue (is_good rule (total_of rule frame))

-- bytes with which a frame may begin, and fewer than it has: its head isn't whole, or tells of more than these
abbrev pub IsPiece : LengthRule → List ℕ → Type 0
IsPiece rule bytes =
    (length bytes < head_of rule)
    ⊎ ((head_of rule ≤ length bytes) × IsTrue (is_good rule (total_of rule bytes)) × (length bytes < total_of rule bytes))

-- bytes with which no frame begins: their head tells of so many, and no frame has them
pub record IsBad (rule : LengthRule) (bytes : List ℕ) (got : ℕ) : Type 0 where
  pub head : head_of rule ≤ length bytes
  pub told : got ≡ total_of rule bytes
  pub bad : is_good rule got ≡ false

-- what stands behind the whole frames of a stream
pub data Rest : Type 0 where
  Piece : (bytes : List ℕ) → Rest
  BadLength : (got : ℕ) → Rest

abbrev pub IsRest : LengthRule → List ℕ → Rest → Type 0
IsRest rule bytes (Piece piece) = IsPiece rule bytes × (piece ≡ bytes)
IsRest rule bytes (BadLength got) = IsBad rule bytes got

-- frames one after another
abbrev pub joined : List (List ℕ) → List ℕ
joined frames = flat_map (λ frame. frame) frames

-- The bytes are these whole frames, one after another, and then this rest. What follows a bad length is never a frame.
pub record Frames (rule : LengthRule) (bytes : List ℕ) (frames : List (List ℕ)) (rest : Rest) : Type 0 where
  pub behind : List ℕ
  pub are : bytes ≡ joined frames ++ behind
  pub each : AllByRecursion (IsFrame rule) frames
  pub ends : IsRest rule behind rest
