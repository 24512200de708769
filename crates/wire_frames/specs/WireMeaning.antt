-- What a wire is, as functions.
use Rattle.std.specs.Prelude.{◌≡◌, ◌⊎◌, ℕ, Bool, List, [], length, Result, Ok, Err}
use Rattle.node_tree.specs.declared.faults.WriteWhy.{WriteWhy}
use Rattle.node_tree.specs.declared.readings.Reading.{Reading}
use Rattle.wire_frames.specs.declared.asks.Ask.{Ask}
use Rattle.wire_frames.specs.declared.asks.Ask.TheVariants as asks
use Rattle.wire_frames.specs.declared.ends.EndKind.{EndKind}
use Rattle.wire_frames.specs.declared.ends.EndKind.TheVariants.{Done, Written, Remote, Mismatch, Cancelled, Expired, LeaseGone, Lost}
use Rattle.wire_frames.specs.declared.ends.FrameWhy.{FrameWhy}
use Rattle.wire_frames.specs.declared.ends.Outcome.{Outcome}
use Rattle.wire_frames.specs.declared.kinds.PlcValue.{PlcValue}
use Rattle.wire_frames.specs.declared.wires.FrameFault.{FrameFault}
use Rattle.wire_frames.specs.declared.wires.FrameFault.TheVariants as frame_faults
use Rattle.wire_frames.specs.declared.wires.LengthRule.{LengthRule}
use Rattle.wire_frames.specs.declared.wires.Reply.{Reply}
use Rattle.wire_frames.specs.declared.wires.ReplyFault.{ReplyFault}
use Rattle.wire_frames.specs.declared.wires.ReplyFault.TheVariants as reply_faults

-- the part of an ask's tree that can't be written, and why
pub record Refused : Type 0 where
  pub entry : ℕ
  pub why : WriteWhy

pub record WireMeaning : Type 0 where
  -- how frames tell their length
  pub rule : LengthRule
  -- which asks it carries
  pub admits : Ask → Bool
  -- the bytes of the larger of the request frame and the reply frame that completes it; of the raw wire alone those of the
  -- request frame
  pub size : Ask → ℕ
  -- how many bytes a frame may have
  pub limit : ℕ
  -- the frame of an ask under a reference
  pub frame_of : Ask → ℕ → Result (List ℕ) Refused
  -- the reading of a frame
  pub reading_of : List ℕ → Result Reading FrameWhy
  -- the reference of a frame that can be read
  pub reference_of : List ℕ → ℕ
  -- what a reading makes of an ask
  pub fit : Ask → Reading → Outcome

-- `frame` answered what the frame is, or found no memory
abbrev pub FramesAs : Result (List ℕ) Refused → Result (List ℕ) FrameFault → Type 0
FramesAs wanted (Ok bytes) = wanted ≡ Ok bytes
FramesAs wanted (Err (frame_faults.Unwritable e w)) = wanted ≡ Err (record { entry = e; why = w })
FramesAs wanted (Err frame_faults.NoMemory) = Unit {0}

-- `reply` answered the frame itself with its reading and its reference, or why it can't be read, or found no memory
abbrev pub ReadsAs : WireMeaning → List ℕ → Result Reply ReplyFault → Type 0
ReadsAs m frame (Ok reply) = (m.reading_of frame ≡ Ok reply.reading) × (reply.reference ≡ m.reference_of frame) × (reply.frame.now ≡ frame)
ReadsAs m frame (Err (reply_faults.Undecodable why)) = m.reading_of frame ≡ Err why
ReadsAs m frame (Err reply_faults.NoMemory) = Unit {0}

-- how many rows of values answer an ask: one per item, or one for a raw ask
abbrev pub rows_of : Ask → ℕ
rows_of (asks.Read items) = length items
rows_of (asks.Write items values) = length items
rows_of (asks.Raw payload) = 1

-- what a reply makes of an ask, by its kind and values: it is done, with all rows of values or none, or it is written,
-- refused by the device or mismatched, without values
abbrev pub IsReplyWith : Ask → EndKind → List (List PlcValue) → Type 0
IsReplyWith ask Done values = (values ≡ []) ⊎ (length values ≡ rows_of ask)
IsReplyWith ask Written values = values ≡ []
IsReplyWith ask (Remote code) values = values ≡ []
IsReplyWith ask (Mismatch place got) values = values ≡ []
IsReplyWith ask Cancelled values = ⊥
IsReplyWith ask Expired values = ⊥
IsReplyWith ask LeaseGone values = ⊥
IsReplyWith ask (Lost reason) values = ⊥

-- an outcome of a reply, by its kind and values
abbrev pub IsReplyOutcome : Ask → Outcome → Type 0
IsReplyOutcome ask outcome = IsReplyWith ask outcome.kind outcome.values

-- an outcome has no values, or it is done and has as many rows of them as answer the ask
abbrev pub HasValuesFor : Ask → Outcome → Type 0
HasValuesFor ask outcome = (outcome.values ≡ []) ⊎ ((outcome.kind ≡ Done) × (length outcome.values ≡ rows_of ask))
