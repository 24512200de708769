-- The program's requests, and the parts in which it hands them in, as the steps see them.
use Rattle.std.specs.Prelude.{◌≡◌, ℕ, nat_lt, if◌then◌else◌, List, Option, Result, Ok, Err}
use Rattle.std.specs.List.{list_any}
use Rattle.lease_core.specs.LeaseTables.{LeaseTable, is_lease_of}
use Rattle.txn_core.specs.RowTables.{RowTable, is_full}
use Rattle.wire_frames.specs.WireMeaning.{Refused, WireMeaning}
use Rattle.wire_frames.specs.declared.asks.Ask.{Ask}
use Rattle.wire_frames.specs.declared.ends.EndKind.{EndKind}
use Rattle.wire_frames.specs.declared.ends.Reason.{Reason}
use Rattle.conn_core.specs.Steps.{Request, when_open}
use Rattle.conn_core.specs.declared.answers.Accepted.{Accepted}
use Rattle.conn_core.specs.declared.answers.SubmitRefusal.{SubmitRefusal}
use Rattle.conn_core.specs.declared.answers.SubmitRefusal.TheVariants as submit_refusals
use Rattle.conn_core.specs.declared.drafts.Draft.{Draft}
use Rattle.conn_core.specs.declared.drafts.Draft.TheVariants.{Written, Unwritable}
use Rattle.conn_core.specs.declared.entries.Answer.TheVariants as answers
use Rattle.conn_core.specs.declared.entries.Entry.{Entry}
use Rattle.conn_core.specs.declared.entries.Event.{Event}
use Rattle.conn_core.specs.declared.entries.Event.TheVariants as events
use Rattle.conn_core.specs.declared.requests.NewRequest.{NewRequest}

abbrev pub request_of : NewRequest → Request
request_of r = record { actor = r.actor; lease = r.lease; ask = r.ask; timeout = r.timeout_ms; moment = r.moment }

-- the entry of a request that is accepted
abbrev pub submit_event : Request → Event
submit_event q = events.Submit q.lease q.ask q.timeout q.moment

abbrev pub submitted_entry : Request → Accepted → List ℕ → Entry
submitted_entry q accepted frame = record { actor = q.actor; event = submit_event q; answer = answers.Accepted accepted.id accepted.reference frame }

-- an event hands in this ask, if it hands in any
abbrev pub Asks : Event → Ask → Type 0
Asks (events.Submit lease ask timeout now) found = found ≡ ask
Asks _ found = ⊥

-- both frames of a draft are the one that the wire gives, or the part is told that can't be written
abbrev pub IsDraftOf : Result (List ℕ) Refused → Draft → Type 0
IsDraftOf wanted (Written frames) = (wanted ≡ Ok frames.written) × (frames.sent ≡ frames.written)
IsDraftOf wanted (Unwritable e w) = wanted ≡ Err (record { entry = e; why = w })

-- whether a caller may hand in a request, as the table stands
abbrev pub place_answer : (actor lease : ℕ) → Option Reason → LeaseTable → RowTable (Unit {0}) EndKind → Result (Unit {0}) SubmitRefusal
place_answer actor lease closed leases requests =
    when_open submit_refusals.Closed closed (
    if list_any (is_lease_of actor lease) leases.held
    then (if is_full requests then Err submit_refusals.TableFull else Ok tt)
    else Err submit_refusals.NoLease)

-- the frame that carries the ask, where it can be written and the ask's size is within the limit
abbrev pub frame_for : WireMeaning → Ask → Result (List ℕ) Refused → Result (List ℕ) SubmitRefusal
frame_for wire ask (Err refused) = Err (submit_refusals.Unwritable refused.entry refused.why)
frame_for wire ask (Ok frame) = if nat_lt wire.limit (wire.size ask) then Err (submit_refusals.TooLarge (wire.size ask) wire.limit) else Ok frame
