-- What calls hand out, by the journal.
use Rattle.std.specs.Prelude.{◌≡◌, ℕ, List, Ok}
use Rattle.wire_frames.specs.WireMeaning.{HasValuesFor}
use Rattle.wire_frames.specs.declared.ends.Outcome.{Outcome}
use Rattle.conn_core.specs.Journals.{IsCarried}
use Rattle.conn_core.specs.Places.{Submitted}
use Rattle.conn_core.specs.RowLaw.{IsOutcomeOf}
use Rattle.conn_core.specs.Tables.{Connection}
use Rattle.conn_core.specs.declared.answers.Sending.{Sending}
use Rattle.conn_core.specs.declared.entries.Entry.{Entry}

-- a sending is a request that the journal accepted, under its reference and in its frame, which is that of its ask
pub record IsSending (c : Connection) (journal : List Entry) (sending : Sending) : Type 0 where
  pub request : Submitted journal sending.id
  pub reference : sending.reference ≡ request.reference
  pub frame : sending.frame ≡ request.frame
  pub framed : c.wire.frame_of request.ask request.reference ≡ Ok request.frame

-- and it is carried by that frame
abbrev pub IsCarriedSending : Connection → List Entry → Sending → Type 0
IsCarriedSending c journal sending = (h : IsSending c journal sending) × IsCarried c h.request.ask h.request.reference h.request.frame

-- an outcome is that of the actor's request with the id
pub record IsCollected (c : Connection) (journal : List Entry) (actor id : ℕ) (outcome : Outcome) : Type 0 where
  pub request : Submitted journal id
  pub own : request.actor ≡ actor
  pub outcome_of : IsOutcomeOf c request outcome

-- and it has no values, or it is done and has as many rows of them as answer the ask
abbrev pub IsShapedOutcome : Connection → List Entry → ℕ → ℕ → Outcome → Type 0
IsShapedOutcome c journal actor id outcome = (h : IsCollected c journal actor id outcome) × HasValuesFor h.request.ask outcome
