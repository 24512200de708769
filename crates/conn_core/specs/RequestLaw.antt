-- What entries of a legal journal say of requests, by the entries before them.
use Rattle.std.specs.Prelude.{◌≡◌, ℕ, List, take, Ok}
use Rattle.node_tree.specs.declared.readings.Reading.{Reading}
use Rattle.wire_frames.specs.declared.ends.EndKind.{EndKind}
use Rattle.wire_frames.specs.declared.ends.Outcome.{Outcome}
use Rattle.conn_core.specs.HandedOut.{IsCollected, IsSending}
use Rattle.conn_core.specs.Places.{SentAt, Stands, Submitted}
use Rattle.conn_core.specs.Tables.{Connection}
use Rattle.conn_core.specs.declared.answers.Sending.{Sending}
use Rattle.conn_core.specs.declared.entries.Answer.{Answer}
use Rattle.conn_core.specs.declared.entries.Answer.TheVariants as answers
use Rattle.conn_core.specs.declared.entries.Entry.{Entry}
use Rattle.conn_core.specs.declared.entries.Event.TheVariants as events

-- the actor handed in the request with the id
abbrev pub HandedIn : List Entry → ℕ → ℕ → Type 0
HandedIn journal actor id = (r : Submitted journal id) × (r.actor ≡ actor)

-- a request was sent, and the frame has its reference, and its reading fits the ask with this kind
pub record IsReplyTo (c : Connection) (journal : List Entry) (id : ℕ) (bytes : List ℕ) (kind : EndKind) : Type 0 where
  pub request : Submitted journal id
  pub sent : ℕ
  pub sent_at : SentAt journal id sent
  pub refers : c.wire.reference_of bytes ≡ request.reference
  pub reading : Reading
  pub reads : c.wire.reading_of bytes ≡ Ok reading
  pub fits : kind ≡ (c.wire.fit request.ask reading).kind

pub record RequestLaw (c : Connection) (journal : List Entry) : Type 0 where
  -- What is sent or collected is a request of the journal.
  pub sent : (k actor id : ℕ)
      → Stands journal k actor events.TakeSend (answers.Sent id)
      → (sending : Sending) × (sending.id ≡ id) × IsSending c (take k journal) sending
  pub collected : (k actor id : ℕ) (kind : EndKind)
      → Stands journal k actor (events.Collect id) (answers.Collected kind)
      → (outcome : Outcome) × (kind ≡ outcome.kind) × IsCollected c (take k journal) actor id outcome
  -- Only its actor cancels or collects a request.
  pub own_cancelled : (k actor id : ℕ) (answer : Answer)
      → Stands journal k actor (events.Cancel id) answer
      → HandedIn (take k journal) actor id
  pub own_collected : (k actor id : ℕ) (answer : Answer)
      → Stands journal k actor (events.Collect id) answer
      → HandedIn (take k journal) actor id
  -- A frame ends a request only after its sending, with its reference, and as the frame's reading fits its ask.
  pub replies : (k actor : ℕ) (bytes : List ℕ) (id : ℕ) (kind : EndKind)
      → Stands journal k actor (events.Frame bytes) (answers.Ended id kind)
      → IsReplyTo c (take k journal) id bytes kind
