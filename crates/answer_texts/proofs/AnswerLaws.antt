-- What holds of each word, and of two texts with a space between them, holds of each answer.
use Rattle.std.proofs.Common.{◌≡◌, ℕ, true, List, [], ◌∷◌, ◌++◌, refl, subst, append_assoc, codes, Result, Ok, Err}
use Rattle.std.specs.Prelude.{IfOk}
use Rattle.std.specs.Fmt.{decimal}
use Rattle.std.specs.List.{AllByRecursion}
use Rattle.std.proofs.lemmas.List.{append-nil}
use Rattle.hex.specs.Hex.{encode_lower}
use Rattle.node_tree.specs.declared.faults.EvalFault.{EvalFault}
use Rattle.node_tree.specs.declared.faults.EvalFault.TheVariants as evals
use Rattle.node_tree.specs.declared.faults.ReadWhy.{ReadWhy}
use Rattle.node_tree.specs.declared.faults.ReadWhy.TheVariants as reads
use Rattle.node_tree.specs.declared.faults.WriteWhy.{WriteWhy}
use Rattle.node_tree.specs.declared.faults.WriteWhy.TheVariants as writes
use Rattle.wire_frames.specs.declared.ends.EndKind.{EndKind}
use Rattle.wire_frames.specs.declared.ends.EndKind.TheVariants.{Done, Written, Remote, Mismatch, Cancelled, Expired, LeaseGone, Lost}
use Rattle.wire_frames.specs.declared.ends.FrameWhy.{FrameWhy}
use Rattle.wire_frames.specs.declared.ends.FrameWhy.TheVariants as frames
use Rattle.wire_frames.specs.declared.ends.Outcome.{Outcome}
use Rattle.wire_frames.specs.declared.ends.Reason.{Reason}
use Rattle.wire_frames.specs.declared.ends.Reason.TheVariants as reasons
use Rattle.wire_frames.specs.declared.kinds.PlcValue.{PlcValue}
use Rattle.conn_core.specs.declared.answers.Accepted.{Accepted}
use Rattle.conn_core.specs.declared.answers.AskRefusal.{AskRefusal}
use Rattle.conn_core.specs.declared.answers.AskRefusal.TheVariants as ask_refusals
use Rattle.conn_core.specs.declared.answers.CancelRefusal.{CancelRefusal}
use Rattle.conn_core.specs.declared.answers.CancelRefusal.TheVariants as cancel_refusals
use Rattle.conn_core.specs.declared.answers.FrameAnswer.{FrameAnswer}
use Rattle.conn_core.specs.declared.answers.FrameAnswer.TheVariants as frame_answers
use Rattle.conn_core.specs.declared.answers.FrameRefusal.{FrameRefusal}
use Rattle.conn_core.specs.declared.answers.FrameRefusal.TheVariants as frame_refusals
use Rattle.conn_core.specs.declared.answers.LeaseRefusal.{LeaseRefusal}
use Rattle.conn_core.specs.declared.answers.LeaseRefusal.TheVariants as lease_refusals
use Rattle.conn_core.specs.declared.answers.SendRefusal.{SendRefusal}
use Rattle.conn_core.specs.declared.answers.SendRefusal.TheVariants as send_refusals
use Rattle.conn_core.specs.declared.answers.Sending.{Sending}
use Rattle.conn_core.specs.declared.answers.SubmitRefusal.{SubmitRefusal}
use Rattle.conn_core.specs.declared.answers.SubmitRefusal.TheVariants as submit_refusals
use Rattle.conn_core.specs.declared.answers.Ticked.{Ticked}
use Rattle.lease_core.specs.declared.answers.LeaseAnswer.{LeaseAnswer}
use Rattle.lease_core.specs.declared.answers.LeaseAnswer.TheVariants as lease_answers
use Rattle.lease_core.specs.declared.answers.LeaseState.{LeaseState}
use Rattle.lease_core.specs.declared.answers.LeaseState.TheVariants as lease_states
use Rattle.txn_core.specs.declared.phases.TakeRefusal.{TakeRefusal}
use Rattle.txn_core.specs.declared.phases.TakeRefusal.TheVariants as take_refusals
use Rattle.answer_texts.specs.Answers.{asked_text, cancelled_text, closed_text, collected_text, polled_text, received_text, released_text, sent_text, stopped_text, submitted_text, ticked_text}
use Rattle.answer_texts.specs.Texts.{ended_text, eval_fault_text, frame_why_text, items_text, kind_text, read_why_text, reason_text, values_text, write_why_text}
use Rattle.answer_texts.proofs.WordLemmas.{IsWord, decimal_word, is_word, written}

eval_fault_word : (fault : EvalFault) → IsWord (eval_fault_text fault)
eval_fault_word evals.NullAccess = written _ refl
eval_fault_word evals.CastFails = written _ refl
eval_fault_word evals.EnumAttr = written _ refl

read_why_word : (why : ReadWhy) → IsWord (read_why_text why)
read_why_word reads.ConstMismatch = written _ refl
read_why_word reads.NoCase = written _ refl
read_why_word reads.CountRange = written _ refl
read_why_word reads.LengthOverrun = written _ refl
read_why_word reads.ZeroItem = written _ refl
read_why_word reads.ValueRange = written _ refl
read_why_word reads.ChecksumMismatch = written _ refl
read_why_word reads.NullAccess = written _ refl
read_why_word reads.CastFails = written _ refl
read_why_word reads.EnumAttr = written _ refl
read_why_word reads.TooDeep = written _ refl
read_why_word reads.TooLong = written _ refl

write_why_word : (why : WriteWhy) → IsWord (write_why_text why)
write_why_word writes.LocalDisagrees = written _ refl
write_why_word writes.CountDisagrees = written _ refl
write_why_word writes.CaseDisagrees = written _ refl
write_why_word writes.ValueRange = written _ refl
write_why_word writes.Shape = written _ refl
write_why_word writes.ZeroItem = written _ refl
write_why_word (writes.Eval fault) = eval_fault_word fault
write_why_word writes.Unaligned = written _ refl
write_why_word writes.TooLong = written _ refl
write_why_word writes.TooDeep = written _ refl

module _ (P : List ℕ → Type 0) (word : (bytes : List ℕ) → IsWord bytes → P bytes) (apart : (xs ys : List ℕ) → P xs → P ys → P (xs ++ 32 ∷ [] ++ ys)) where
  -- a word that is written out
  plain : (bytes : List ℕ) → is_word bytes ≡ true → P bytes
  plain bytes h = word bytes (written bytes h)

  number : (n : ℕ) → P (decimal n)
  number n = word (decimal n) (decimal_word n)

  two_words : (first second : List ℕ) → is_word first ≡ true → is_word second ≡ true → P (first ++ 32 ∷ [] ++ second)
  two_words first second h k = apart first second (plain first h) (plain second k)

  -- a word that is written out, and a text behind it
  named : (name bytes : List ℕ) → is_word name ≡ true → P bytes → P (name ++ 32 ∷ [] ++ bytes)
  named name bytes h k = apart name bytes (plain name h) k

  -- the same with a number between them
  numbered : (name : List ℕ) (n : ℕ) (bytes : List ℕ) → is_word name ≡ true → P bytes → P (name ++ 32 ∷ [] ++ decimal n ++ 32 ∷ [] ++ bytes)
  numbered name n bytes h k = apart (name ++ 32 ∷ [] ++ decimal n) bytes (named name (decimal n) h (number n)) k

  frame_why : (why : FrameWhy) → P (frame_why_text why)
  frame_why (frames.Length got) = named (codes "length") (decimal got) refl (number got)
  frame_why frames.Short = plain (codes "short") refl
  frame_why (frames.Unused bits) = named (codes "unused") (decimal bits) refl (number bits)
  frame_why (frames.Bad bit why) = numbered (codes "bad") bit (read_why_text why) refl (word (read_why_text why) (read_why_word why))
  frame_why frames.NotReply = two_words (codes "not") (codes "reply") refl refl

  reason : (r : Reason) → P (reason_text r)
  reason reasons.PeerEnded = two_words (codes "peer") (codes "ended") refl refl
  reason reasons.ReadFault = two_words (codes "read") (codes "fault") refl refl
  reason reasons.WriteFault = two_words (codes "write") (codes "fault") refl refl
  reason (reasons.Undecodable index why) = numbered (codes "undecodable") index (frame_why_text why) refl (frame_why why)
  reason reasons.Worn = plain (codes "worn") refl
  reason reasons.Asked = plain (codes "asked") refl
  reason reasons.NoMemory = two_words (codes "no") (codes "memory") refl refl

  kind : (k : EndKind) → P (kind_text k)
  kind Done = plain (codes "done") refl
  kind Written = plain (codes "written") refl
  kind (Remote code) = named (codes "remote") (decimal code) refl (number code)
  kind (Mismatch place got) = numbered (codes "mismatch") place (decimal got) refl (number got)
  kind Cancelled = plain (codes "cancelled") refl
  kind Expired = plain (codes "expired") refl
  kind LeaseGone = two_words (codes "lease") (codes "gone") refl refl
  kind (Lost r) = named (codes "lost") (reason_text r) refl (reason r)

  abbrev EachRow : List (List PlcValue) → Type 0
  EachRow rows = AllByRecursion (λ row. P (values_text row)) rows

  items : (before : List ℕ) (rows : List (List PlcValue)) → P before → EachRow rows → P (before ++ items_text rows)
  items before [] h each = rw (append-nil before) h
  items before (row ∷ rows) h each =
      let rest = items (before ++ 32 ∷ [] ++ values_text row) rows (apart before (values_text row) h each.0) each.1 in
      let whole : before ++ 32 ∷ [] ++ values_text row ++ items_text rows ≡ before ++ items_text (row ∷ rows) = simp append_assoc in
      subst P whole rest

  ended : (k : EndKind) (rows : List (List PlcValue)) → EachRow rows → P (ended_text k rows)
  ended Done rows each = items (codes "done") rows (kind Done) each
  ended k rows each = kind k

  closed : (r : Reason) → P (closed_text r)
  closed r = named (codes "closed") (reason_text r) refl (reason r)

  pub asked : (answer : Result LeaseAnswer AskRefusal) → P (asked_text answer)
  asked (Ok (lease_answers.Granted lease)) = named (codes "granted") (decimal lease) refl (number lease)
  asked (Ok (lease_answers.Waiting lease place)) = numbered (codes "waiting") lease (decimal place) refl (number place)
  asked (Err (ask_refusals.Closed r)) = closed r
  asked (Err ask_refusals.QueueFull) = two_words (codes "queue") (codes "full") refl refl
  asked (Err ask_refusals.NoMemory) = two_words (codes "no") (codes "memory") refl refl

  pub polled : (answer : Result LeaseState LeaseRefusal) → P (polled_text answer)
  polled (Ok lease_states.Held) = plain (codes "held") refl
  polled (Ok (lease_states.Waiting place)) = named (codes "waiting") (decimal place) refl (number place)
  polled (Err (lease_refusals.Closed r)) = closed r
  polled (Err lease_refusals.NoLease) = two_words (codes "no") (codes "lease") refl refl

  pub released : (answer : Result (Unit {0}) LeaseRefusal) → P (released_text answer)
  released (Ok _) = plain (codes "released") refl
  released (Err (lease_refusals.Closed r)) = closed r
  released (Err lease_refusals.NoLease) = two_words (codes "no") (codes "lease") refl refl

  too_large : (size limit : ℕ) → P (codes "too large " ++ decimal size ++ codes " " ++ decimal limit)
  too_large size limit =
      let name = codes "too large" in
      apart (name ++ 32 ∷ [] ++ decimal size) (decimal limit) (apart name (decimal size) (two_words (codes "too") (codes "large") refl refl) (number size)) (number limit)

  pub submitted : (answer : Result Accepted SubmitRefusal) → P (submitted_text answer)
  submitted (Ok accepted) = numbered (codes "started") accepted.id (decimal accepted.reference) refl (number accepted.reference)
  submitted (Err (submit_refusals.Closed r)) = closed r
  submitted (Err submit_refusals.NoLease) = two_words (codes "no") (codes "lease") refl refl
  submitted (Err submit_refusals.TableFull) = two_words (codes "table") (codes "full") refl refl
  submitted (Err (submit_refusals.Unwritable entry why)) = named (codes "unwritable") (write_why_text why) refl (word (write_why_text why) (write_why_word why))
  submitted (Err (submit_refusals.TooLarge size limit)) = too_large size limit
  submitted (Err submit_refusals.NoReference) = two_words (codes "no") (codes "reference") refl refl
  submitted (Err submit_refusals.NoMemory) = two_words (codes "no") (codes "memory") refl refl

  pub sent : (answer : Result Sending SendRefusal) → IfOk answer (λ sending. P (encode_lower sending.frame)) → P (sent_text answer)
  sent (Ok sending) h = numbered (codes "sent") sending.id (encode_lower sending.frame) refl h
  sent (Err (send_refusals.Closed r)) h = closed r
  sent (Err send_refusals.Nothing) h = plain (codes "nothing") refl

  pub received : (answer : Result FrameAnswer FrameRefusal) → P (received_text answer)
  received (Ok (frame_answers.Ended id k)) = numbered (codes "ended") id (kind_text k) refl (kind k)
  received (Ok (frame_answers.Late reference)) = named (codes "late") (decimal reference) refl (number reference)
  received (Ok (frame_answers.Stray reference)) = named (codes "stray") (decimal reference) refl (number reference)
  received (Ok (frame_answers.Undecodable index why)) = numbered (codes "undecodable") index (frame_why_text why) refl (frame_why why)
  received (Err (frame_refusals.Closed r)) = closed r
  received (Err frame_refusals.NoMemory) = two_words (codes "no") (codes "memory") refl refl

  pub cancelled : (answer : Result (Unit {0}) CancelRefusal) → P (cancelled_text answer)
  cancelled (Ok _) = plain (codes "cancelled") refl
  cancelled (Err (cancel_refusals.AlreadyEnded k)) = named (codes "ended") (kind_text k) refl (kind k)
  cancelled (Err cancel_refusals.NoRequest) = two_words (codes "no") (codes "request") refl refl

  pub collected : (answer : Result Outcome TakeRefusal) → IfOk answer (λ outcome. EachRow outcome.values) → P (collected_text answer)
  collected (Ok outcome) each = ended outcome.kind outcome.values each
  collected (Err take_refusals.Pending) each = plain (codes "pending") refl
  collected (Err take_refusals.NoRequest) each = two_words (codes "no") (codes "request") refl refl

  pub ticked : (count : Ticked) → P (ticked_text count)
  ticked count =
      let name = codes "ticked" in
      let rows = named name (decimal count.rows) refl (number count.rows) in
      let leases = apart (name ++ 32 ∷ [] ++ decimal count.rows) (decimal count.leases) rows (number count.leases) in
      apart (name ++ 32 ∷ [] ++ decimal count.rows ++ 32 ∷ [] ++ decimal count.leases) (decimal count.waiters) leases (number count.waiters)

  pub stopped : (answer : Result (Unit {0}) Reason) → P (stopped_text answer)
  stopped (Ok _) = plain (codes "stopping") refl
  stopped (Err r) = closed r
