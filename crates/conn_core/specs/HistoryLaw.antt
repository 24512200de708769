-- What a connection's whole history is to meet, by places in the journal and by the free list.
use Rattle.std.specs.Prelude.{◌≡◌, ◌⊎◌, ◌==◌, ◌↔◌, ℕ, ◌<◌, ◌≤◌, true, List, take, Some, Ok, count_by}
use Rattle.std.specs.List.{slice_get}
use Rattle.node_tree.specs.declared.readings.Reading.{Reading}
use Rattle.wire_frames.specs.declared.asks.Ask.{Ask}
use Rattle.wire_frames.specs.declared.ends.EndKind.{EndKind}
use Rattle.wire_frames.specs.declared.ends.EndKind.TheVariants as kinds
use Rattle.conn_core.specs.Ends.{IsEndPlace}
use Rattle.conn_core.specs.Entries.{closes}
use Rattle.conn_core.specs.Journals.{table_of}
use Rattle.conn_core.specs.Places.{FrameComes, SentAt, Stands, Submitted}
use Rattle.conn_core.specs.Tables.{Connection}
use Rattle.conn_core.specs.declared.entries.Answer.{Answer}
use Rattle.conn_core.specs.declared.entries.Answer.TheVariants as answers
use Rattle.conn_core.specs.declared.entries.Entry.{Entry}
use Rattle.conn_core.specs.declared.entries.Event.TheVariants as events

-- ---- live and awaited

-- a request has no end in the journal
abbrev pub IsUnended : (c : Connection) (journal : List Entry) (id : ℕ) → Submitted journal id → Type 0
IsUnended c journal id r = (k : ℕ) (kind : EndKind) → ¬ IsEndPlace c journal id r k kind

-- some live request has the reference
pub record Live (c : Connection) (journal : List Entry) (reference : ℕ) : Type 0 where
  pub id : ℕ
  pub request : Submitted journal id
  pub refers : request.reference ≡ reference
  pub live : IsUnended c journal id request

-- some live request with the reference was sent
pub record LiveSent (c : Connection) (journal : List Entry) (reference : ℕ) : Type 0 where
  pub id : ℕ
  pub request : Submitted journal id
  pub refers : request.reference ≡ reference
  pub live : IsUnended c journal id request
  pub sent : ℕ
  pub sent_at : SentAt journal id sent

-- a request with the reference was sent, and no frame with it came since
pub record Awaited (c : Connection) (journal : List Entry) (reference : ℕ) : Type 0 where
  pub id : ℕ
  pub request : Submitted journal id
  pub refers : request.reference ≡ reference
  pub sent : ℕ
  pub sent_at : SentAt journal id sent
  pub none_since : (k : ℕ) (answer : Answer) → sent < k → ¬ FrameComes c journal k reference answer

-- a number that a request may go out under: no live request has it, and no answer to it is awaited
abbrev pub IsFree : Connection → List Entry → ℕ → Type 0
IsFree c journal reference =
    (1 ≤ reference) × (reference ≤ c.settings.references) × (¬ Live c journal reference) × (¬ Awaited c journal reference)

-- a frame with the reference comes late: an answer is awaited, and no live request has it
abbrev pub IsLate : Connection → List Entry → ℕ → Type 0
IsLate c journal reference = Awaited c journal reference × (¬ Live c journal reference)

-- no request ends at the place
abbrev pub EndsNothing : Connection → List Entry → ℕ → Type 0
EndsNothing c journal k = (id : ℕ) (r : Submitted journal id) (kind : EndKind) → ¬ IsEndPlace c journal id r k kind

-- how often a number stands in a list
abbrev pub occurrences : ℕ → List ℕ → ℕ
occurrences n ns = count_by (λ m. m == n) ns

-- ---- the law

pub record HistoryLaw (c : Connection) (journal : List Entry) : Type 0 where
  -- An id is accepted once; it is sent at most once, and only while it is live.
  pub accepted_once : (id : ℕ) (r other : Submitted journal id) → r.place ≡ other.place
  pub sent_once : (id j k : ℕ) → SentAt journal id j → SentAt journal id k → j ≡ k
  pub sent_live : (id k : ℕ) → SentAt journal id k
      → (r : Submitted (take k journal) id) × IsUnended c (take k journal) id r
  -- A frame that is answered by a request's end, and a cancellation, stand where the request ends.
  pub answered_ends : (k actor : ℕ) (bytes : List ℕ) (id : ℕ) (kind : EndKind)
      → Stands journal k actor (events.Frame bytes) (answers.Ended id kind)
      → (r : Submitted journal id) × IsEndPlace c journal id r k kind
  pub cancelled_ends : (k actor id : ℕ)
      → Stands journal k actor (events.Cancel id) answers.Cancelled
      → (r : Submitted journal id) × IsEndPlace c journal id r k kinds.Cancelled
  -- A collection stands after the end, gives its kind, and stands once.
  pub collected_after : (k actor id : ℕ) (answer : Answer)
      → Stands journal k actor (events.Collect id) answer
      → (kind : EndKind) × (answer ≡ answers.Collected kind)
      × (r : Submitted journal id) × (j : ℕ) × (j < k) × IsEndPlace c journal id r j kind
  pub collected_once : (j k a b id : ℕ) (answer other : Answer)
      → Stands journal j a (events.Collect id) answer
      → Stands journal k b (events.Collect id) other
      → j ≡ k
  -- Once the connection is closed every request has ended.
  pub all_end : (k : ℕ) (e : Entry)
      → slice_get journal k ≡ Some e
      → closes e ≡ true
      → (id : ℕ) (r : Submitted journal id)
      → (j : ℕ) × (kind : EndKind) × IsEndPlace c journal id r j kind
  -- A frame ends a request only after its sending, with its reference, and as the frame's reading fits its ask.
  pub fits_after_sending : (k actor : ℕ) (bytes : List ℕ) (id : ℕ) (kind : EndKind)
      → Stands journal k actor (events.Frame bytes) (answers.Ended id kind)
      → (r : Submitted journal id) × (j : ℕ) × (j < k) × SentAt journal id j × (c.wire.reference_of bytes ≡ r.reference)
      × ((reading : Reading) × (c.wire.reading_of bytes ≡ Ok reading) × (kind ≡ (c.wire.fit r.ask reading).kind))
  -- A frame that can be read is answered by an end exactly where a live request with its reference was sent before; it is
  -- late exactly where the reference is awaited and not live; else it is stray. Late and stray frames end nothing.
  pub ends_where_live_sent : (k reference : ℕ) (answer : Answer)
      → FrameComes c journal k reference answer
      → ((id : ℕ) × (kind : EndKind) × (answer ≡ answers.Ended id kind)) ↔ LiveSent c (take k journal) reference
  pub late_where_awaited : (k reference : ℕ) (answer : Answer)
      → FrameComes c journal k reference answer
      → (answer ≡ answers.Late reference) ↔ IsLate c (take k journal) reference
  pub stray_otherwise : (k reference : ℕ) (answer : Answer)
      → FrameComes c journal k reference answer
      → (answer ≡ answers.Stray reference)
      ↔ ((¬ LiveSent c (take k journal) reference) × (¬ IsLate c (take k journal) reference))
  pub late_ends_nothing : (k actor : ℕ) (bytes : List ℕ) (reference : ℕ)
      → Stands journal k actor (events.Frame bytes) (answers.Late reference)
      → EndsNothing c journal k
  pub stray_ends_nothing : (k actor : ℕ) (bytes : List ℕ) (reference : ℕ)
      → Stands journal k actor (events.Frame bytes) (answers.Stray reference)
      → EndsNothing c journal k
  -- A request draws a free reference. The table's free list has exactly the free ones, each once; each other one that
  -- requests may go out under is live or awaited.
  pub draws_free : (k actor lease : ℕ) (ask : Ask) (timeout now : ℕ) (answer : Answer)
      → Stands journal k actor (events.Submit lease ask timeout now) answer
      → (id reference : ℕ) × (frame : List ℕ) × (answer ≡ answers.Accepted id reference frame)
      × IsFree c (take k journal) reference
  pub free_are_free : (reference : ℕ)
      → (0 < occurrences reference (table_of c journal).requests.free) ↔ IsFree c journal reference
  pub free_once : (reference : ℕ) → occurrences reference (table_of c journal).requests.free ≤ 1
  pub others_taken : (reference : ℕ)
      → 1 ≤ reference
      → reference ≤ c.settings.references
      → occurrences reference (table_of c journal).requests.free ≡ 0
      → Live c journal reference ⊎ Awaited c journal reference
  -- At most one entry closes, and after it only collections stand.
  pub collects_after_close : (j k : ℕ) (closing e : Entry)
      → slice_get journal j ≡ Some closing
      → closes closing ≡ true
      → j < k
      → slice_get journal k ≡ Some e
      → (id : ℕ) × (e.event ≡ events.Collect id)
