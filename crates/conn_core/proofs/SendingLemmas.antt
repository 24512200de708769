-- A request that is sent is one of the journal, in the frame that carries its ask.
use Rattle.std.proofs.Common.{◌≡◌, ℕ, List, sym, subst, Some, Ok, Err}
use Rattle.std.specs.Prelude.{Result, IfOk}
use Rattle.std.specs.List.{AllZip, slice_get}
use Rattle.txn_core.specs.FirstPlaces.{found_at}
use Rattle.txn_core.specs.RowSteps.{answer_of}
use Rattle.txn_core.specs.RowTables.{Row, is_queued}
use Rattle.wire_frames.specs.declared.ends.Outcome.{Outcome}
use Rattle.conn_core.specs.HandedOut.{IsCarriedSending, IsSending}
use Rattle.conn_core.specs.Journals.{IsCarried, IsCarriedBy, table_of}
use Rattle.conn_core.specs.KeptStates.{IsState}
use Rattle.conn_core.specs.KeptTables.{Accepts, IsHandedIn}
use Rattle.conn_core.specs.Places.{Submitted}
use Rattle.conn_core.specs.Steps.{take_send}
use Rattle.conn_core.specs.Tables.{Connection, Handed}
use Rattle.conn_core.specs.declared.answers.SendRefusal.{SendRefusal}
use Rattle.conn_core.specs.declared.answers.Sending.{Sending}
use Rattle.conn_core.specs.declared.entries.Answer.{Answer}
use Rattle.conn_core.specs.declared.entries.Answer.TheVariants as answers
use Rattle.conn_core.specs.declared.entries.Entry.{Entry}
use Rattle.conn_core.specs.declared.entries.Event.{Event}
use Rattle.conn_core.specs.declared.entries.Event.TheVariants as events
use Rattle.conn_core.specs.declared.kept.Kept.{Kept}
use Rattle.conn_core.proofs.HandedLemmas.{zip_split}
use Rattle.conn_core.proofs.MoveDoes.{ok_of}
use Rattle.conn_core.proofs.StepLaws.{sends_as}

-- the Submit that an item stands for
record Accepted_at (c : Connection) (journal : List Entry) (id reference : ℕ) (what : Handed) : Type 0 where
  request : Submitted journal id
  refers : request.reference ≡ reference
  frame : request.frame ≡ what.frame
  carried : IsCarried c request.ask request.reference request.frame

accepted_at : (c : Connection) (journal : List Entry) (k actor : ℕ) (event : Event) (answer : Answer) (id reference : ℕ) (what : Handed) → (let e : Entry = record { actor = actor; event = event; answer = answer } in slice_get journal k ≡ Some e) → Accepts id reference what event answer → IsCarriedBy c event answer → Accepted_at c journal id reference what
accepted_at c journal k actor (events.Submit lease ask timeout now) (answers.Accepted i r frame) id reference what at h carried =
    let P : ℕ → Type 0 = λ n. (let e : Entry = record { actor = actor; event = events.Submit lease ask timeout now; answer = answers.Accepted n r frame } in slice_get journal k ≡ Some e) in
    record {
      request = record { place = k; actor = actor; lease = lease; ask = ask; timeout = timeout; now = now; reference = r; frame = frame; stands = subst P h.0 at };
      refers = h.1;
      frame = h.3;
      carried = carried;
    }
accepted_at c journal k actor event answer id reference what at h carried = absurd h

-- ---- the sending

sending_by : (c : Connection) (journal : List Entry) (row : Row Handed Outcome) (sending : Sending) → Accepted_at c journal row.id row.reference row.what → (let given : Sending = record { id = row.id; reference = row.reference; frame = row.what.frame } in sending ≡ given) → IsCarriedSending c journal sending
sending_by c journal row sending a is =
    let P : Sending → Type 0 = IsCarriedSending c journal in
    let given : IsSending c journal (record { id = row.id; reference = row.reference; frame = row.what.frame }) = record {
      request = a.request;
      reference = sym a.refers;
      frame = sym a.frame;
      framed = a.carried.framed;
    } in
    subst P (sym is) (given, a.carried)

pub carried_sending : (c : Connection) (old : Kept) (result : Result Sending SendRefusal) → IsState c old → result ≡ answer_of (take_send (table_of c old.journal.items)) → IfOk result (IsCarriedSending c old.journal.items)
carried_sending c old (Err r) state is = tt
carried_sending c old (Ok sending) state is =
    let journal = old.journal.items in
    let t = table_of c journal in
    let s = sends_as t _ sending (ok_of (take_send t) t sending (sym is)) in
    let first = (found_at is_queued t.requests.rows s.row s.found).1 in
    let P : List (Row Handed Outcome) → Type 0 = λ rows. AllZip (IsHandedIn journal) rows old.table.handed.items in
    let split = zip_split (IsHandedIn journal) first.before s.row first.after old.table.handed.items (subst P first.split state.stands.handed) in
    let e = split.here.entry in
    sending_by c journal s.row sending (accepted_at c journal split.item.place e.actor e.event e.answer s.row.id s.row.reference s.row.what split.here.stands split.here.accepted (state.carried split.item.place e split.here.stands)) s.sending_is
