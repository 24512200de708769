-- What the rows of a legal journal's table are: requests that the journal accepted, and what became of them.
use Rattle.std.specs.Prelude.{◌≡◌, ◌⊎◌, ℕ, ◌<◌, ◌≤◌, true, false, List, [], ◌∷◌, Some, Ok}
use Rattle.std.specs.List.{list_any}
use Rattle.node_tree.specs.declared.readings.Reading.{Reading}
use Rattle.lease_core.specs.LeaseTables.{has_number}
use Rattle.txn_core.specs.RowTables.{IsRising, Row, ids_of, is_live}
use Rattle.txn_core.specs.declared.phases.Phase.{Phase}
use Rattle.txn_core.specs.declared.phases.Phase.TheVariants.{Queued, Sent, Ended}
use Rattle.wire_frames.specs.declared.ends.EndKind.{EndKind}
use Rattle.wire_frames.specs.declared.ends.EndKind.TheVariants as kinds
use Rattle.wire_frames.specs.declared.ends.Outcome.{Outcome}
use Rattle.wire_frames.specs.declared.ends.Reason.{Reason}
use Rattle.conn_core.specs.Ends.{EndsUnanswered, request_deadline}
use Rattle.conn_core.specs.Places.{SentAt, Stands, Submitted}
use Rattle.conn_core.specs.Tables.{Connection, Handed, Table}
use Rattle.conn_core.specs.declared.entries.Answer.TheVariants as answers
use Rattle.conn_core.specs.declared.entries.Entry.{Entry}
use Rattle.conn_core.specs.declared.entries.Event.TheVariants as events

-- a reply ended the request: a frame with its reference came after its sending, and the outcome is what the wire makes of the
-- request's ask by the frame's reading
pub record IsFitted (c : Connection) (journal : List Entry) (id : ℕ) (r : Submitted journal id) (outcome : Outcome) : Type 0 where
  pub place : ℕ
  pub actor : ℕ
  pub bytes : List ℕ
  pub reading : Reading
  pub sent : ℕ
  pub stands : Stands journal place actor (events.Frame bytes) (answers.Ended id outcome.kind)
  pub reads : c.wire.reading_of bytes ≡ Ok reading
  pub refers : c.wire.reference_of bytes ≡ r.reference
  pub fits : outcome ≡ c.wire.fit r.ask reading
  pub sent_at : SentAt journal id sent
  pub after : sent < place

-- No reply ended the request: at some place behind its own stands what ends a request without one, in this way, and only its
-- actor cancels it. That it is the first such place isn't said yet.
pub record IsUnanswered (c : Connection) (journal : List Entry) (id : ℕ) (r : Submitted journal id) (kind : EndKind) : Type 0 where
  pub place : ℕ
  pub behind : r.place < place
  pub ends : EndsUnanswered c journal id r place kind
  pub own : kind ≡ kinds.Cancelled → Stands journal place r.actor (events.Cancel id) answers.Cancelled

-- an outcome without a reply, and so without values
abbrev pub IsBare : {journal : List Entry} {id : ℕ} → Connection → Submitted journal id → Outcome → Type 0
IsBare {journal} {id} c r outcome = IsUnanswered c journal id r outcome.kind × (outcome.values ≡ [])

-- how a request ended: by a reply, or without one
abbrev pub IsOutcomeOf : {journal : List Entry} {id : ℕ} → Connection → Submitted journal id → Outcome → Type 0
IsOutcomeOf {journal} {id} c r outcome = IsFitted c journal id r outcome ⊎ IsBare c r outcome

-- what a row's phase says of its request: sent, it was sent; ended, it has its outcome
abbrev pub IsPhaseOf : {journal : List Entry} {id : ℕ} → Connection → Submitted journal id → Phase Outcome → Type 0
IsPhaseOf c r Queued = Unit {0}
IsPhaseOf {journal} {id} c r Sent = (k : ℕ) × SentAt journal id k
IsPhaseOf c r (Ended outcome) = IsOutcomeOf c r outcome

pub record IsRowOf (c : Connection) (journal : List Entry) (row : Row Handed Outcome) : Type 0 where
  -- The journal accepted it, as the row says.
  pub request : Submitted journal row.id
  pub actor : request.actor ≡ row.owner
  pub lease : request.lease ≡ row.lease
  pub ask : request.ask ≡ row.what.ask
  pub frame : request.frame ≡ row.what.frame
  pub reference : request.reference ≡ row.reference
  pub deadline : row.deadline ≡ request_deadline request
  -- Its frame is that of its ask under its reference, and the ask's size is within the wire's limit.
  pub framed : c.wire.frame_of request.ask request.reference ≡ Ok request.frame
  pub within : c.wire.size request.ask ≤ c.wire.limit
  -- What became of it is what the row's phase says.
  pub phase : IsPhaseOf c request row.phase

-- each of the rows
abbrev pub EachRow : (Row Handed Outcome → Type 0) → List (Row Handed Outcome) → Type 0
EachRow P [] = Unit {0}
EachRow P (row ∷ rows) = P row × EachRow P rows

pub record RowLaw (c : Connection) (journal : List Entry) (t : Table) : Type 0 where
  -- Each row is a request that the journal accepted, with what became of it.
  pub requests : EachRow (IsRowOf c journal) t.requests.rows
  -- They stand by rising id.
  pub rising : IsRising 0 t.requests.drawn (ids_of t.requests.rows)
  -- The lease of a live row is held. So once the table is closed each row has ended.
  pub leased : EachRow (λ row. is_live row ≡ true → list_any (has_number row.lease) t.leases.held ≡ true) t.requests.rows
  pub ended : (reason : Reason) → t.closed ≡ Some reason → EachRow (λ row. is_live row ≡ false) t.requests.rows
