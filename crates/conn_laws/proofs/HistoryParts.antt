-- Every legal journal meets the history law.
use Rattle.std.proofs.Common.{◌≡◌, inl, inr, ℕ, ◌+◌, ◌<◌, List, length, take, refl, sym, ap, subst, ◌∙◌, arith, Some, Ok}
use Rattle.std.specs.Prelude.{count_by}
use Rattle.std.proofs.lemmas.Bool.{cases_lt, eq-eqb}
use Rattle.txn_core.specs.RowLaws.{count_cons, one}
use Rattle.txn_core.specs.RowTables.{is_number}
use Rattle.node_tree.specs.declared.readings.Reading.{Reading}
use Rattle.wire_frames.specs.declared.asks.Ask.{Ask}
use Rattle.wire_frames.specs.declared.ends.EndKind.{EndKind}
use Rattle.wire_frames.specs.declared.ends.EndKind.TheVariants as kinds
use Rattle.conn_core.specs.Ends as ends
use Rattle.conn_core.specs.Ends.{IsEndPlace}
use Rattle.conn_core.specs.HistoryLaw.{HistoryLaw, IsFree, IsUnended}
use Rattle.conn_core.specs.Journals.{Legal, table_of}
use Rattle.conn_core.specs.Places.{SentAt, Stands, Submitted}
use Rattle.conn_core.specs.Steps.{Request, Started, submit}
use Rattle.conn_core.specs.Tables.{Connection, IsSettings}
use Rattle.conn_core.specs.declared.entries.Answer.{Answer}
use Rattle.conn_core.specs.declared.entries.Answer.TheVariants as answers
use Rattle.conn_core.specs.declared.entries.Entry.{Entry}
use Rattle.conn_core.specs.declared.entries.Event.TheVariants as events
use Rattle.conn_core.proofs.EntryLemmas.{get_low, walked_before}
use Rattle.conn_core.proofs.RowWalk.{sent_phase_of}
use Rattle.conn_core.proofs.StepLaws.{Walked, legal_walked, queues, took, walked_steps}
use Rattle.conn_laws.specs.RowsKept.{CollectedAt}
use Rattle.conn_laws.proofs.Awaiting.{knows, knows_front}
use Rattle.conn_laws.proofs.Closing.{after_close, all_ended}
use Rattle.conn_laws.proofs.Fronts.{collection, free_few, free_is, front_few, is_free, queued_is_live, row_unended, sent_is_live, taken_by, taken_row, up}
use Rattle.conn_laws.proofs.OtherPlaces.{alike_front, sent_low, sent_over}
use Rattle.conn_laws.proofs.Replies.{answered_at, cancelled_row, ends_here, ends_where, late_ends, late_where, replies, sent_row, stray_ends, stray_where}
use Rattle.conn_laws.proofs.Standing.{row_law}

-- ---- what is sent

-- a request isn't sent twice: once it was sent its row isn't queued
not_again : {Y : Type 0} (c : Connection) (journal : List Entry) (id j k : ℕ) → IsSettings c.settings → Walked c journal → SentAt journal id j → SentAt journal id k → j < k → Y
not_again c journal id j k s w one two low =
    let known = knows_front c journal k _ s w two.stands in
    let row = sent_row c journal id k w two in
    absurd (known.standing.unsent row.row id j row.here row.queued row.same (sent_over journal (take k journal) k id j (sym (alike_front journal k)) low one))

sent_once : (c : Connection) (journal : List Entry) (id j k : ℕ) → IsSettings c.settings → Walked c journal → SentAt journal id j → SentAt journal id k → j ≡ k
sent_once c journal id j k s w one two =
    elim (cases_lt j k) [
      | inl low ↦ not_again c journal id j k s w one two low
      | inr high ↦ elim (cases_lt k j) [ inl low ↦ not_again c journal id k j s w two one low | inr other ↦ omega arith ]
    ]

sent_live : (c : Connection) (journal : List Entry) (id k : ℕ) → IsSettings c.settings → Walked c journal → SentAt journal id k → (r : Submitted (take k journal) id) × IsUnended c (take k journal) id r
sent_live c journal id k s w x =
    let t = table_of c (take k journal) in
    let known = knows_front c journal k _ s w x.stands in
    let row = sent_row c journal id k w x in
    let P : ℕ → Type 0 = Submitted (take k journal) in
    let r = subst P row.same (row_law c (take k journal) t row.row known.rows row.here).law.request in
    (r, row_unended c (take k journal) t row.row id known.standing row.here (queued_is_live row.row.phase row.queued) row.same r)

-- ---- where requests end

answered_ends : (c : Connection) (journal : List Entry) (k actor : ℕ) (bytes : List ℕ) (id : ℕ) (kind : EndKind) → IsSettings c.settings → Walked c journal → Stands journal k actor (events.Frame bytes) (answers.Ended id kind) → (r : Submitted journal id) × IsEndPlace c journal id r k kind
answered_ends c journal k actor bytes id kind s w at =
    let a = answered_at c journal k actor bytes id kind w at in
    let x = ends_here c journal k id _ a.row kind s w at a.here (sent_is_live a.row.phase a.sent) a.same (λ r. ends.answered actor bytes kind at) in
    (x.request, x.ending)

cancelled_ends : (c : Connection) (journal : List Entry) (k actor id : ℕ) → IsSettings c.settings → Walked c journal → Stands journal k actor (events.Cancel id) answers.Cancelled → (r : Submitted journal id) × IsEndPlace c journal id r k kinds.Cancelled
cancelled_ends c journal k actor id s w at =
    let a = cancelled_row c journal k actor id answers.Cancelled w at in
    let x = ends_here c journal k id _ a.row kinds.Cancelled s w at a.here a.live a.same (λ r. ends.unanswered kinds.Cancelled (ends.cancelled actor at)) in
    (x.request, x.ending)

collected_after : (c : Connection) (journal : List Entry) (k actor id : ℕ) (answer : Answer) → IsSettings c.settings → Walked c journal → Stands journal k actor (events.Collect id) answer → (kind : EndKind) × (answer ≡ answers.Collected kind) × (r : Submitted journal id) × (j : ℕ) × (j < k) × IsEndPlace c journal id r j kind
collected_after c journal k actor id answer s w at =
    let x = collection c journal k actor id answer s w at in
    (x.outcome.kind, x.told, x.request, x.place, x.before, x.ending)

collected_at : (c : Connection) (journal : List Entry) (k actor id : ℕ) (answer : Answer) → Walked c journal → Stands journal k actor (events.Collect id) answer → CollectedAt journal id k
collected_at c journal k actor id answer w at =
    let x = taken_row c journal k actor id answer w at in
    record { actor = actor; kind = x.outcome.kind; stands = at ∙ ap (λ (a : Answer). let y : Entry = record { actor = actor; event = events.Collect id; answer = a } in Some y) x.told }

collected_once : (c : Connection) (journal : List Entry) (j k a b id : ℕ) (answer other : Answer) → IsSettings c.settings → Walked c journal → Stands journal j a (events.Collect id) answer → Stands journal k b (events.Collect id) other → j ≡ k
collected_once c journal j k a b id answer other s w one two =
    (knows c journal s w).ids.collected_once id j k (collected_at c journal j a id answer w one) (collected_at c journal k b id other w two)

fits_after : (c : Connection) (journal : List Entry) (k actor : ℕ) (bytes : List ℕ) (id : ℕ) (kind : EndKind) → IsSettings c.settings → Walked c journal → Stands journal k actor (events.Frame bytes) (answers.Ended id kind) → (r : Submitted journal id) × (j : ℕ) × (j < k) × SentAt journal id j × (c.wire.reference_of bytes ≡ r.reference) × ((reading : Reading) × (c.wire.reading_of bytes ≡ Ok reading) × (kind ≡ (c.wire.fit r.ask reading).kind))
fits_after c journal k actor bytes id kind s w at =
    let t = table_of c (take k journal) in
    let known = knows_front c journal k _ s w at in
    let a = answered_at c journal k actor bytes id kind w at in
    let law = (row_law c (take k journal) t a.row known.rows a.here).law in
    let was = sent_phase_of c (take k journal) a.row law a.sent in
    let low = get_low journal k _ at in
    let under = sent_low (take k journal) a.row.id was.0 was.1 in
    let above = up journal k a.row.id law.request in
    let P : ℕ → Type 0 = λ n. (r : Submitted journal n) × (j : ℕ) × (j < k) × SentAt journal n j × (c.wire.reference_of bytes ≡ r.reference) × ((reading : Reading) × (c.wire.reading_of bytes ≡ Ok reading) × (kind ≡ (c.wire.fit r.ask reading).kind)) in
    let few = front_few k journal in
    let before : was.0 < k = omega arith in
    subst P a.same (
      above.request,
      was.0,
      before,
      sent_over (take k journal) journal k a.row.id was.0 (alike_front journal k) before was.1,
      sym a.refers ∙ sym law.reference ∙ above.same.reference,
      (a.reading, a.reads, a.fits ∙ ap (λ x. (c.wire.fit x a.reading).kind) (sym law.ask ∙ above.same.ask)),
    )

-- ---- references

draws_free : (c : Connection) (journal : List Entry) (k actor lease : ℕ) (ask : Ask) (timeout now : ℕ) (answer : Answer) → IsSettings c.settings → Walked c journal → Stands journal k actor (events.Submit lease ask timeout now) answer → (id reference : ℕ) × (frame : List ℕ) × (answer ≡ answers.Accepted id reference frame) × IsFree c (take k journal) reference
draws_free c journal k actor lease ask timeout now answer s w at =
    let t = table_of c (take k journal) in
    let q : Request = record { actor = actor; lease = lease; ask = ask; timeout = timeout; moment = now } in
    let took_it = took (λ (x : Started). answers.Accepted x.id x.reference x.frame) (submit c.wire t q) _ answer (walked_steps c journal w k _ at) in
    let queued = queues c.wire t q _ took_it.given took_it.is in
    let told : answer ≡ answers.Accepted (t.requests.drawn + 1) queued.reference queued.frame = sym took_it.told ∙ ap (λ (x : Started). answers.Accepted x.id x.reference x.frame) queued.started_is in
    let low = get_low journal k _ at in
    let first = ap (count_by (is_number queued.reference)) queued.free ∙ count_cons (is_number queued.reference) queued.reference queued.rest in
    let own : one (is_number queued.reference queued.reference) ≡ 1 = ap one (eq-eqb queued.reference queued.reference refl) in
    (t.requests.drawn + 1, queued.reference, queued.frame, told, free_is c (take k journal) queued.reference s (walked_before c journal k w (omega arith)) (omega arith))

-- ---- the law

pub walked_history : (c : Connection) (journal : List Entry) → IsSettings c.settings → Walked c journal → HistoryLaw c journal
walked_history c journal s w =
    let front : (k : ℕ) → k < length journal → Walked c (take k journal) = λ k low. walked_before c journal k w (omega arith) in
    record {
      accepted_once = (knows c journal s w).ids.accepted_once;
      sent_once = λ id j k one two. sent_once c journal id j k s w one two;
      sent_live = λ id k x. sent_live c journal id k s w x;
      answered_ends = λ k actor bytes id kind at. answered_ends c journal k actor bytes id kind s w at;
      cancelled_ends = λ k actor id at. cancelled_ends c journal k actor id s w at;
      collected_after = λ k actor id answer at. collected_after c journal k actor id answer s w at;
      collected_once = λ j k a b id answer other one two. collected_once c journal j k a b id answer other s w one two;
      all_end = λ k e at shut id r. all_ended c journal k e s w at shut id r;
      fits_after_sending = λ k actor bytes id kind at. fits_after c journal k actor bytes id kind s w at;
      ends_where_live_sent = λ k reference answer f. ends_where c (take k journal) reference f.reading answer s (front k (get_low journal k _ f.stands)) (replies c journal k reference answer w f);
      late_where_awaited = λ k reference answer f. late_where c (take k journal) reference f.reading answer s (front k (get_low journal k _ f.stands)) (replies c journal k reference answer w f);
      stray_otherwise = λ k reference answer f. stray_where c (take k journal) reference f.reading answer s (front k (get_low journal k _ f.stands)) (replies c journal k reference answer w f);
      late_ends_nothing = λ k actor bytes reference at. late_ends c journal k actor bytes reference w at;
      stray_ends_nothing = λ k actor bytes reference at. stray_ends c journal k actor bytes reference w at;
      draws_free = λ k actor lease ask timeout now answer at. draws_free c journal k actor lease ask timeout now answer s w at;
      free_are_free = λ reference. (λ some. free_is c journal reference s w (omega arith), λ free. (let some = is_free c journal reference s w free in omega arith));
      free_once = λ reference. free_few c journal reference s w;
      others_taken = λ reference low high none. taken_by c journal reference s w low high none;
      collects_after_close = λ j k closing e at shut low there. after_close c journal j k closing e s w at shut low there;
    }

pub history_law : (c : Connection) (journal : List Entry) → IsSettings c.settings → Legal c journal → HistoryLaw c journal
history_law c journal s legal = walked_history c journal s (legal_walked c journal legal)
