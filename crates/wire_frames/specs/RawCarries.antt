-- What a raw frame carries is read back from it.
use Rattle.std.specs.Prelude.{◌≡◌, ℕ, ◌≤◌, List, length, Ok}
use Rattle.wire_frames.specs.RawFrames.{payload_of, raw_frame, raw_meaning, raw_reading}
use Rattle.wire_frames.specs.declared.asks.Ask.TheVariants as asks

pub record RawCarries (payload : List ℕ) (reference : ℕ) : Type 0 where
  -- An ask for the payload goes out as the frame.
  pub framed : raw_meaning.frame_of (asks.Raw payload) reference ≡ Ok (raw_frame payload reference)
  -- The frame can be read, and what is read is the payload.
  pub reads : raw_meaning.reading_of (raw_frame payload reference) ≡ Ok (raw_reading (raw_frame payload reference))
  pub carries : payload_of (raw_reading (raw_frame payload reference)).node ≡ payload
  -- It tells its reference.
  pub refers : raw_meaning.reference_of (raw_frame payload reference) ≡ reference
  -- It has as many bytes as the wire says of the ask, and no more than a frame may have.
  pub sized : length (raw_frame payload reference) ≡ raw_meaning.size (asks.Raw payload)
  pub within : length (raw_frame payload reference) ≤ raw_meaning.limit
