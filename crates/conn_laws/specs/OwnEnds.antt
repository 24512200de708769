-- What ends a request is its own: one end, by its actor or by a frame that was awaited for it alone.
use Rattle.std.specs.Prelude.{◌≡◌, ℕ, ◌<◌, List}
use Rattle.wire_frames.specs.declared.ends.EndKind.{EndKind}
use Rattle.wire_frames.specs.declared.ends.EndKind.TheVariants as kinds
use Rattle.conn_core.specs.Ends.{IsEndPlace}
use Rattle.conn_core.specs.Places.{FrameComes, SentAt, Stands, Submitted}
use Rattle.conn_core.specs.Tables.{Connection}
use Rattle.conn_core.specs.declared.entries.Answer.{Answer}
use Rattle.conn_core.specs.declared.entries.Answer.TheVariants as answers
use Rattle.conn_core.specs.declared.entries.Entry.{Entry}
use Rattle.conn_core.specs.declared.entries.Event.TheVariants as events

-- a request that was sent with a reference and ended before a frame with it came
pub record EndedBefore (c : Connection) (journal : List Entry) (reference k : ℕ) : Type 0 where
  pub id : ℕ
  pub request : Submitted journal id
  pub refers : request.reference ≡ reference
  pub sent : ℕ
  pub sent_at : SentAt journal id sent
  pub place : ℕ
  pub kind : EndKind
  pub ending : IsEndPlace c journal id request place kind
  pub before : place < k
  -- no frame with the reference came in between
  pub none_since : (j : ℕ) (answer : Answer) → sent < j → j < k → ¬ FrameComes c journal j reference answer

pub record OwnEnds (c : Connection) (journal : List Entry) : Type 0 where
  -- A request ends at one place at most, in one way.
  pub once : (id j k : ℕ) (r other : Submitted journal id) (kind by : EndKind)
      → IsEndPlace c journal id r j kind
      → IsEndPlace c journal id other k by
      → (j ≡ k) × (kind ≡ by)
  -- Only its actor cancels it, which ends it, and only its actor collects it.
  pub cancelled : (k actor id : ℕ) (answer : Answer)
      → Stands journal k actor (events.Cancel id) answer
      → (r : Submitted journal id) × (r.actor ≡ actor) × IsEndPlace c journal id r k kinds.Cancelled
  pub collected : (k actor id : ℕ) (answer : Answer)
      → Stands journal k actor (events.Collect id) answer
      → (r : Submitted journal id) × (r.actor ≡ actor)
  -- A frame that is answered by an end, and a cancellation, end no other request.
  pub frame_ends_own : (k actor : ℕ) (bytes : List ℕ) (id : ℕ) (kind : EndKind)
      → Stands journal k actor (events.Frame bytes) (answers.Ended id kind)
      → (other : ℕ) (r : Submitted journal other) (by : EndKind) → IsEndPlace c journal other r k by → other ≡ id
  pub cancel_ends_own : (k actor id : ℕ) (answer : Answer)
      → Stands journal k actor (events.Cancel id) answer
      → (other : ℕ) (r : Submitted journal other) (by : EndKind) → IsEndPlace c journal other r k by → other ≡ id
  -- A late frame is awaited for a request that has ended before it came.
  pub late_is_ended : (k actor : ℕ) (bytes : List ℕ) (reference : ℕ)
      → Stands journal k actor (events.Frame bytes) (answers.Late reference)
      → EndedBefore c journal reference k
  -- Nothing is awaited twice under one reference: between two sendings with it comes a frame with it.
  pub awaited_once : (id other j k : ℕ) (r : Submitted journal id) (q : Submitted journal other)
      → SentAt journal id j
      → SentAt journal other k
      → j < k
      → r.reference ≡ q.reference
      → ¬ ((m : ℕ) (answer : Answer) → j < m → m < k → ¬ FrameComes c journal m r.reference answer)
