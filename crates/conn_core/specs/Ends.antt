-- How a request ends, by places in the journal alone.
use Rattle.std.specs.Prelude.{◌≡◌, ℕ, ◌+◌, ◌<◌, ◌≤◌, ◌==◌, Bool, true, false, List, [], take, Some, Ok}
use Rattle.std.specs.List.{slice_get, list_any}
use Rattle.node_tree.specs.declared.readings.Reading.{Reading}
use Rattle.wire_frames.specs.declared.ends.EndKind.{EndKind}
use Rattle.wire_frames.specs.declared.ends.EndKind.TheVariants as kinds
use Rattle.wire_frames.specs.declared.ends.Outcome.{Outcome}
use Rattle.wire_frames.specs.declared.ends.Reason.{Reason}
use Rattle.lease_core.specs.LeaseTables.{deadline_of}
use Rattle.conn_core.specs.Entries.{clock_of, closes, closing_reason}
use Rattle.conn_core.specs.LeasePlaces.{held_after}
use Rattle.conn_core.specs.Places.{Stands, Submitted}
use Rattle.conn_core.specs.Tables.{Connection}
use Rattle.conn_core.specs.declared.entries.Answer.{Answer}
use Rattle.conn_core.specs.declared.entries.Answer.TheVariants as answers
use Rattle.conn_core.specs.declared.entries.Entry.{Entry}
use Rattle.conn_core.specs.declared.entries.Event.TheVariants as events

-- a request's deadline: the clock at its Submit plus its time
abbrev pub request_deadline : {journal : List Entry} {id : ℕ} → Submitted journal id → ℕ
request_deadline {journal} r = deadline_of (clock_of (take (r.place + 1) journal)) r.timeout

-- a request's lease is held, by whomever, after so many entries
abbrev pub lease_stands_after : {journal : List Entry} {id : ℕ} → Connection → Submitted journal id → ℕ → Bool
lease_stands_after {journal} c r k = list_any (λ held. held.number == r.lease) (held_after c.settings (take k journal))

-- what stands at a place ends a request without a reply, and how
pub data EndsUnanswered (c : Connection) (journal : List Entry) (id : ℕ) (r : Submitted journal id) (k : ℕ) : EndKind → Type 0 where
  -- its cancellation
  cancelled : (actor : ℕ)
      → Stands journal k actor (events.Cancel id) answers.Cancelled
      → EndsUnanswered c journal id r k kinds.Cancelled
  -- a tick at or past its deadline
  expired : (actor now : ℕ) (answer : Answer)
      → Stands journal k actor (events.Tick now) answer
      → request_deadline r ≤ now
      → EndsUnanswered c journal id r k kinds.Expired
  -- an entry that takes its lease and doesn't close; where a tick does both, the request has expired
  lease_gone : (e : Entry)
      → slice_get journal k ≡ Some e
      → closes e ≡ false
      → ((now : ℕ) → e.event ≡ events.Tick now → now < request_deadline r)
      → lease_stands_after c r k ≡ true
      → lease_stands_after c r (k + 1) ≡ false
      → EndsUnanswered c journal id r k kinds.LeaseGone
  -- an entry that closes
  lost : (e : Entry) (reason : Reason)
      → slice_get journal k ≡ Some e
      → closing_reason e ≡ Some reason
      → EndsUnanswered c journal id r k (kinds.Lost reason)

-- what stands at a place ends a request, and how: a frame that is answered by its end, or one of these
pub data EndsAs (c : Connection) (journal : List Entry) (id : ℕ) (r : Submitted journal id) (k : ℕ) : EndKind → Type 0 where
  answered : (actor : ℕ) (bytes : List ℕ) (kind : EndKind)
      → Stands journal k actor (events.Frame bytes) (answers.Ended id kind)
      → EndsAs c journal id r k kind
  unanswered : (kind : EndKind)
      → EndsUnanswered c journal id r k kind
      → EndsAs c journal id r k kind

-- the first place after its Submit that ends it
pub record IsEndPlace (c : Connection) (journal : List Entry) (id : ℕ) (r : Submitted journal id) (k : ℕ) (kind : EndKind) : Type 0 where
  pub after : r.place < k
  pub ends : EndsAs c journal id r k kind
  pub first : (j : ℕ) (other : EndKind) → r.place < j → j < k → ¬ EndsAs c journal id r j other

-- its outcome: the values are those of the fit, where a frame ended it, else there are none
pub data IsOutcome (c : Connection) (journal : List Entry) (id : ℕ) (r : Submitted journal id) (k : ℕ) : Outcome → Type 0 where
  fitted : (actor : ℕ) (bytes : List ℕ) (kind : EndKind) (reading : Reading)
      → Stands journal k actor (events.Frame bytes) (answers.Ended id kind)
      → c.wire.reading_of bytes ≡ Ok reading
      → IsEndPlace c journal id r k (c.wire.fit r.ask reading).kind
      → IsOutcome c journal id r k (c.wire.fit r.ask reading)
  bare : (kind : EndKind)
      → IsEndPlace c journal id r k kind
      → ((actor : ℕ) (bytes : List ℕ) (by : EndKind) → ¬ Stands journal k actor (events.Frame bytes) (answers.Ended id by))
      → IsOutcome c journal id r k (record { kind = kind; values = [] })
