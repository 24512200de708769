-- How values, ends and reasons are spelled.
use Rattle.std.specs.Prelude.{ℕ, ◌==◌, true, false, if◌then◌else◌, List, ◌++◌, map, drop, codes}
use Rattle.std.specs.Fmt.{decimal, signed_decimal}
use Rattle.std.specs.Int.{w64, to_be_bytes}
use Rattle.std.specs.List.{flat_map, join_with_byte}
use Rattle.hex.specs.Hex.{encode_upper}
use Rattle.node_tree.specs.declared.faults.EvalFault.{EvalFault}
use Rattle.node_tree.specs.declared.faults.EvalFault.TheVariants as evals
use Rattle.node_tree.specs.declared.faults.ReadWhy.{ReadWhy}
use Rattle.node_tree.specs.declared.faults.ReadWhy.TheVariants as reads
use Rattle.node_tree.specs.declared.faults.WriteWhy.{WriteWhy}
use Rattle.node_tree.specs.declared.faults.WriteWhy.TheVariants as writes
use Rattle.wire_frames.specs.declared.ends.EndKind.{EndKind}
use Rattle.wire_frames.specs.declared.ends.EndKind.TheVariants.{Done, Written, Remote, Mismatch, Cancelled, Expired, LeaseGone, Lost}
use Rattle.wire_frames.specs.declared.ends.FrameWhy.{FrameWhy}
use Rattle.wire_frames.specs.declared.ends.FrameWhy.TheVariants as frames
use Rattle.wire_frames.specs.declared.ends.Outcome.{Outcome}
use Rattle.wire_frames.specs.declared.ends.Reason.{Reason}
use Rattle.wire_frames.specs.declared.ends.Reason.TheVariants as reasons
use Rattle.wire_frames.specs.declared.kinds.PlcValue.{PlcValue}
use Rattle.wire_frames.specs.declared.kinds.PlcValue.TheVariants.{Bool, Whole, Raw}

abbrev pub eval_fault_text : EvalFault → List ℕ
eval_fault_text evals.NullAccess = codes "NullAccess"
eval_fault_text evals.CastFails = codes "CastFails"
eval_fault_text evals.EnumAttr = codes "EnumAttr"

-- why bits aren't a value
abbrev pub read_why_text : ReadWhy → List ℕ
read_why_text reads.ConstMismatch = codes "ConstMismatch"
read_why_text reads.NoCase = codes "NoCase"
read_why_text reads.CountRange = codes "CountRange"
read_why_text reads.LengthOverrun = codes "LengthOverrun"
read_why_text reads.ZeroItem = codes "ZeroItem"
read_why_text reads.ValueRange = codes "ValueRange"
read_why_text reads.ChecksumMismatch = codes "ChecksumMismatch"
read_why_text reads.NullAccess = codes "NullAccess"
read_why_text reads.CastFails = codes "CastFails"
read_why_text reads.EnumAttr = codes "EnumAttr"
read_why_text reads.TooDeep = codes "TooDeep"
read_why_text reads.TooLong = codes "TooLong"

-- why a value can't be written
abbrev pub write_why_text : WriteWhy → List ℕ
write_why_text writes.LocalDisagrees = codes "LocalDisagrees"
write_why_text writes.CountDisagrees = codes "CountDisagrees"
write_why_text writes.CaseDisagrees = codes "CaseDisagrees"
write_why_text writes.ValueRange = codes "ValueRange"
write_why_text writes.Shape = codes "Shape"
write_why_text writes.ZeroItem = codes "ZeroItem"
write_why_text (writes.Eval fault) = eval_fault_text fault
write_why_text writes.Unaligned = codes "Unaligned"
write_why_text writes.TooLong = codes "TooLong"
write_why_text writes.TooDeep = codes "TooDeep"

-- why a frame can't be read
abbrev pub frame_why_text : FrameWhy → List ℕ
frame_why_text (frames.Length got) = codes "length " ++ decimal got
frame_why_text frames.Short = codes "short"
frame_why_text (frames.Unused bits) = codes "unused " ++ decimal bits
frame_why_text (frames.Bad bit why) = codes "bad " ++ decimal bit ++ codes " " ++ read_why_text why
frame_why_text frames.NotReply = codes "not reply"

-- why a connection closed
abbrev pub reason_text : Reason → List ℕ
reason_text reasons.PeerEnded = codes "peer ended"
reason_text reasons.ReadFault = codes "read fault"
reason_text reasons.WriteFault = codes "write fault"
reason_text (reasons.Undecodable index why) = codes "undecodable " ++ decimal index ++ codes " " ++ frame_why_text why
reason_text reasons.Worn = codes "worn"
reason_text reasons.Asked = codes "asked"
reason_text reasons.NoMemory = codes "no memory"

-- how a request ended
abbrev pub kind_text : EndKind → List ℕ
kind_text Done = codes "done"
kind_text Written = codes "written"
kind_text (Remote code) = codes "remote " ++ decimal code
kind_text (Mismatch place got) = codes "mismatch " ++ decimal place ++ codes " " ++ decimal got
kind_text Cancelled = codes "cancelled"
kind_text Expired = codes "expired"
kind_text LeaseGone = codes "lease gone"
kind_text (Lost reason) = codes "lost " ++ reason_text reason

-- `16#` and capital digits: 8 of them for 32 bits, else 16
abbrev pub raw_text : (bits width : ℕ) → List ℕ
raw_text bits width = let digits = encode_upper (to_be_bytes w64 bits) in codes "16#" ++ (if width == 32 then drop 8 digits else digits)

-- a value
abbrev pub value_text : PlcValue → List ℕ
value_text (Bool true) = codes "true"
value_text (Bool false) = codes "false"
value_text (Whole number) = signed_decimal number
value_text (Raw bits width) = raw_text bits width

-- the values of one item, commas between them
abbrev pub values_text : List PlcValue → List ℕ
values_text values = join_with_byte 44 (map value_text values)

-- a word for each item, each behind a space
abbrev pub items_text : List (List PlcValue) → List ℕ
items_text items = flat_map (λ values. codes " " ++ values_text values) items

-- how a request ended; only one that is done goes on with a word for each item that was read
abbrev pub ended_text : EndKind → List (List PlcValue) → List ℕ
ended_text Done items = kind_text Done ++ items_text items
ended_text kind items = kind_text kind

abbrev pub outcome_text : Outcome → List ℕ
outcome_text outcome = ended_text outcome.kind outcome.values
