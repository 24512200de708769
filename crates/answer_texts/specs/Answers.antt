-- How the answers of a request table's calls are spelled, each as one line without its end.
use Rattle.std.specs.Prelude.{ℕ, List, ◌++◌, codes, Result, Ok, Err}
use Rattle.std.specs.Fmt.{decimal}
use Rattle.hex.specs.Hex.{encode_lower}
use Rattle.wire_frames.specs.declared.ends.Outcome.{Outcome}
use Rattle.wire_frames.specs.declared.ends.Reason.{Reason}
use Rattle.conn_core.specs.declared.answers.Accepted.{Accepted}
use Rattle.conn_core.specs.declared.answers.AskRefusal.{AskRefusal}
use Rattle.conn_core.specs.declared.answers.AskRefusal.TheVariants as ask_refusals
use Rattle.conn_core.specs.declared.answers.CancelRefusal.{CancelRefusal}
use Rattle.conn_core.specs.declared.answers.CancelRefusal.TheVariants as cancel_refusals
use Rattle.conn_core.specs.declared.answers.FrameAnswer.{FrameAnswer}
use Rattle.conn_core.specs.declared.answers.FrameAnswer.TheVariants as frame_answers
use Rattle.conn_core.specs.declared.answers.FrameRefusal.{FrameRefusal}
use Rattle.conn_core.specs.declared.answers.FrameRefusal.TheVariants as frame_refusals
use Rattle.conn_core.specs.declared.answers.LeaseRefusal.{LeaseRefusal}
use Rattle.conn_core.specs.declared.answers.LeaseRefusal.TheVariants as lease_refusals
use Rattle.conn_core.specs.declared.answers.SendRefusal.{SendRefusal}
use Rattle.conn_core.specs.declared.answers.SendRefusal.TheVariants as send_refusals
use Rattle.conn_core.specs.declared.answers.Sending.{Sending}
use Rattle.conn_core.specs.declared.answers.SubmitRefusal.{SubmitRefusal}
use Rattle.conn_core.specs.declared.answers.SubmitRefusal.TheVariants as submit_refusals
use Rattle.conn_core.specs.declared.answers.Ticked.{Ticked}
use Rattle.lease_core.specs.declared.answers.LeaseAnswer.{LeaseAnswer}
use Rattle.lease_core.specs.declared.answers.LeaseAnswer.TheVariants as lease_answers
use Rattle.lease_core.specs.declared.answers.LeaseState.{LeaseState}
use Rattle.lease_core.specs.declared.answers.LeaseState.TheVariants as lease_states
use Rattle.txn_core.specs.declared.phases.TakeRefusal.{TakeRefusal}
use Rattle.txn_core.specs.declared.phases.TakeRefusal.TheVariants as take_refusals
use Rattle.answer_texts.specs.Texts.{frame_why_text, kind_text, outcome_text, reason_text, write_why_text}

abbrev pub closed_text : Reason → List ℕ
closed_text reason = codes "closed " ++ reason_text reason

-- a lease was asked
abbrev pub asked_text : Result LeaseAnswer AskRefusal → List ℕ
asked_text (Ok (lease_answers.Granted lease)) = codes "granted " ++ decimal lease
asked_text (Ok (lease_answers.Waiting lease place)) = codes "waiting " ++ decimal lease ++ codes " " ++ decimal place
asked_text (Err (ask_refusals.Closed reason)) = closed_text reason
asked_text (Err ask_refusals.QueueFull) = codes "queue full"
asked_text (Err ask_refusals.NoMemory) = codes "no memory"

-- what a lease is was asked
abbrev pub polled_text : Result LeaseState LeaseRefusal → List ℕ
polled_text (Ok lease_states.Held) = codes "held"
polled_text (Ok (lease_states.Waiting place)) = codes "waiting " ++ decimal place
polled_text (Err (lease_refusals.Closed reason)) = closed_text reason
polled_text (Err lease_refusals.NoLease) = codes "no lease"

-- a lease was given back
abbrev pub released_text : Result (Unit {0}) LeaseRefusal → List ℕ
released_text (Ok _) = codes "released"
released_text (Err (lease_refusals.Closed reason)) = closed_text reason
released_text (Err lease_refusals.NoLease) = codes "no lease"

-- a request was handed in
abbrev pub submitted_text : Result Accepted SubmitRefusal → List ℕ
submitted_text (Ok accepted) = codes "started " ++ decimal accepted.id ++ codes " " ++ decimal accepted.reference
submitted_text (Err (submit_refusals.Closed reason)) = closed_text reason
submitted_text (Err submit_refusals.NoLease) = codes "no lease"
submitted_text (Err submit_refusals.TableFull) = codes "table full"
submitted_text (Err (submit_refusals.Unwritable entry why)) = codes "unwritable " ++ write_why_text why
submitted_text (Err (submit_refusals.TooLarge size limit)) = codes "too large " ++ decimal size ++ codes " " ++ decimal limit
submitted_text (Err submit_refusals.NoReference) = codes "no reference"
submitted_text (Err submit_refusals.NoMemory) = codes "no memory"

-- the next frame was asked for
abbrev pub sent_text : Result Sending SendRefusal → List ℕ
sent_text (Ok sending) = codes "sent " ++ decimal sending.id ++ codes " " ++ encode_lower sending.frame
sent_text (Err (send_refusals.Closed reason)) = closed_text reason
sent_text (Err send_refusals.Nothing) = codes "nothing"

-- a frame came
abbrev pub received_text : Result FrameAnswer FrameRefusal → List ℕ
received_text (Ok (frame_answers.Ended id kind)) = codes "ended " ++ decimal id ++ codes " " ++ kind_text kind
received_text (Ok (frame_answers.Late reference)) = codes "late " ++ decimal reference
received_text (Ok (frame_answers.Stray reference)) = codes "stray " ++ decimal reference
received_text (Ok (frame_answers.Undecodable index why)) = codes "undecodable " ++ decimal index ++ codes " " ++ frame_why_text why
received_text (Err (frame_refusals.Closed reason)) = closed_text reason
received_text (Err frame_refusals.NoMemory) = codes "no memory"

-- a request was to be cancelled
abbrev pub cancelled_text : Result (Unit {0}) CancelRefusal → List ℕ
cancelled_text (Ok _) = codes "cancelled"
cancelled_text (Err (cancel_refusals.AlreadyEnded kind)) = codes "ended " ++ kind_text kind
cancelled_text (Err cancel_refusals.NoRequest) = codes "no request"

-- the outcome of a request was asked for
abbrev pub collected_text : Result Outcome TakeRefusal → List ℕ
collected_text (Ok outcome) = outcome_text outcome
collected_text (Err take_refusals.Pending) = codes "pending"
collected_text (Err take_refusals.NoRequest) = codes "no request"

-- a moment was told: how many requests, leases and waiters it ended
abbrev pub ticked_text : Ticked → List ℕ
ticked_text ticked = codes "ticked " ++ decimal ticked.rows ++ codes " " ++ decimal ticked.leases ++ codes " " ++ decimal ticked.waiters

-- the connection was asked to close
abbrev pub stopped_text : Result (Unit {0}) Reason → List ℕ
stopped_text (Ok _) = codes "stopping"
stopped_text (Err reason) = closed_text reason
