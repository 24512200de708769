-- The raw wire: a frame is its length, a reference and a payload, the first two of 16 bits.
use Rattle.std.specs.Prelude.{ℕ, ◌+◌, ◌*◌, Bool, false, ◌&&◌, nat_lt, nat_le, ◌==◌, if◌then◌else◌, List, [], ◌∷◌, ◌++◌, length, map, drop, slice_index, pos, Ok, Err}
use Rattle.std.specs.Int.{w16, to_be_bytes, from_be_bytes}
use Rattle.node_tree.specs.declared.nodes.Node.{Node}
use Rattle.node_tree.specs.declared.nodes.Node.TheVariants.{Blob}
use Rattle.node_tree.specs.declared.readings.Reading.{Reading}
use Rattle.wire_frames.specs.WireMeaning.{WireMeaning}
use Rattle.wire_frames.specs.declared.asks.Ask.{Ask}
use Rattle.wire_frames.specs.declared.asks.Ask.TheVariants as asks
use Rattle.wire_frames.specs.declared.ends.EndKind.TheVariants.{Done, Remote, Mismatch}
use Rattle.wire_frames.specs.declared.ends.FrameWhy.TheVariants.{Length}
use Rattle.wire_frames.specs.declared.ends.Outcome.{Outcome}
use Rattle.wire_frames.specs.declared.kinds.PlcValue.TheVariants.{Whole}
use Rattle.wire_frames.specs.declared.wires.LengthRule.TheVariants as rules

-- how many bytes stand before the payload, and how many a frame and a payload have at most
abbrev pub head_size : ℕ
head_size = 4

abbrev pub frame_limit : ℕ
frame_limit = 4096

abbrev pub payload_limit : ℕ
payload_limit = 4092

-- the number of the two bytes from `at` on, the higher one first
abbrev pub number_at : List ℕ → ℕ → ℕ
number_at frame at = from_be_bytes w16 (slice_index frame at ∷ slice_index frame (at + 1) ∷ [])

-- the length that a frame states; bytes without a length state 0
abbrev pub stated_length : List ℕ → ℕ
stated_length frame = if nat_lt (length frame) 2 then 0 else number_at frame 0

-- it is whole where it has as many bytes as it states, at least those before its payload and at most the limit
abbrev pub is_whole : List ℕ → Bool
is_whole frame = (stated_length frame == length frame) && (nat_le head_size (length frame) && nat_le (length frame) frame_limit)

abbrev pub raw_frame : List ℕ → ℕ → List ℕ
raw_frame payload reference = to_be_bytes w16 (length payload + head_size) ++ to_be_bytes w16 reference ++ payload

-- one node, the payload, which begins behind the 32 bits of length and reference
abbrev pub raw_reading : List ℕ → Reading
raw_reading frame = record { node = Blob (drop head_size frame); bits = 8 * length frame; spans = record { from = 32; to = 8 * length frame } ∷ [] }

-- one row of values, the bytes
abbrev pub done_bytes : List ℕ → Outcome
done_bytes bytes = record { kind = Done; values = map (λ b. Whole (pos b)) bytes ∷ [] }

-- what a payload makes of a raw ask
abbrev pub payload_fit : List ℕ → Outcome
payload_fit [] = record { kind = Mismatch 1 0; values = [] }
payload_fit (b ∷ []) = done_bytes (b ∷ [])
payload_fit (b ∷ c ∷ []) = if b == 255 then record { kind = Remote c; values = [] } else done_bytes (b ∷ c ∷ [])
payload_fit (b ∷ c ∷ d ∷ rest) = done_bytes (b ∷ c ∷ d ∷ rest)

-- the payload that a reading holds
abbrev pub payload_of : Node → List ℕ
payload_of (Blob payload) = payload
payload_of _ = []

abbrev pub raw_admits : Ask → Bool
raw_admits (asks.Raw payload) = nat_le (length payload) payload_limit
raw_admits (asks.Read items) = false
raw_admits (asks.Write items values) = false

-- the payload of an ask that the raw wire carries
abbrev pub asked_payload : Ask → List ℕ
asked_payload (asks.Raw payload) = payload
asked_payload (asks.Read items) = []
asked_payload (asks.Write items values) = []

abbrev pub raw_meaning : WireMeaning
raw_meaning = record {
  rule = rules.Raw;
  admits = raw_admits;
  size = λ ask. length (asked_payload ask) + head_size;
  limit = frame_limit;
  frame_of = λ ask reference. Ok (raw_frame (asked_payload ask) reference);
  reading_of = λ frame. if is_whole frame then Ok (raw_reading frame) else Err (Length (stated_length frame));
  reference_of = λ frame. number_at frame 2;
  fit = λ ask reading. payload_fit (payload_of reading.node);
}
