-- What a frame of a legal journal answers, and which requests end at its places.
use Rattle.std.proofs.Common.{◌≡◌, ℕ, ◌+◌, ◌≤◌, Bool, true, false, List, take, refl, sym, ap, subst, ◌∙◌, arith, Option, Some, None, Ok, Err}
use Rattle.std.specs.Prelude.{Result, ◌==◌, ◌↔◌, is_some}
use Rattle.std.specs.List.{list_any, slice_get}
use Rattle.std.proofs.lemmas.Bool.{and_parts, eq-eqb, eqb-true}
use Rattle.lease_core.specs.LeaseTables.{Lease, LeaseTable}
use Rattle.txn_core.specs.FirstPlaces.{not_found}
use Rattle.txn_core.specs.RowEnds.{fails_count}
use Rattle.txn_core.specs.RowSteps.{answer_of, awaiting}
use Rattle.txn_core.specs.RowTables.{Row, has_reference, is_live, is_quarantined, is_queued, is_row_of, is_sent, is_sent_and, phase_live, uses_of}
use Rattle.node_tree.specs.declared.readings.Reading.{Reading}
use Rattle.wire_frames.specs.declared.ends.EndKind.{EndKind}
use Rattle.wire_frames.specs.declared.ends.FrameWhy.{FrameWhy}
use Rattle.wire_frames.specs.declared.ends.Outcome.{Outcome}
use Rattle.conn_core.specs.Ends as ends
use Rattle.conn_core.specs.Ends.{EndsAs, EndsUnanswered, IsEndPlace, lease_stands_after}
use Rattle.conn_core.specs.Entries.{closes, closing_reason, frame_reason}
use Rattle.conn_core.specs.HistoryLaw.{EndsNothing, IsLate, LiveSent}
use Rattle.conn_core.specs.Journals.{table_of}
use Rattle.conn_core.specs.LeasePlaces.{leases_after, leases_of}
use Rattle.conn_core.specs.Places.{FrameComes, SentAt, Stands, Submitted}
use Rattle.conn_core.specs.Steps.{arrived, cancel, counted, frame_entry, received, take_send}
use Rattle.conn_core.specs.Tables.{Connection, Handed, IsSettings, Table}
use Rattle.conn_core.specs.declared.answers.Sending.{Sending}
use Rattle.conn_core.specs.declared.entries.Answer.{Answer}
use Rattle.conn_core.specs.declared.entries.Answer.TheVariants as answers
use Rattle.conn_core.specs.declared.entries.Entry.{Entry}
use Rattle.conn_core.specs.declared.entries.Event.TheVariants as events
use Rattle.conn_core.proofs.CauseLemmas.{cancel_live}
use Rattle.conn_core.proofs.EntryLemmas.{get_low, walked_before}
use Rattle.conn_core.proofs.FrameLemmas.{settled_if}
use Rattle.conn_core.proofs.RowLaws.{row_found}
use Rattle.conn_core.proofs.StepLaws.{Walked, follows, sends_as, took, walk_law, walked_steps}
use Rattle.conn_laws.proofs.Awaiting.{knows, knows_front}
use Rattle.conn_laws.proofs.Fates.{frame_parts}
use Rattle.conn_laws.proofs.Fronts.{late_quarantined, quarantined_late, row_sent_live, sent_live_row, up}
use Rattle.conn_laws.proofs.Members.{In, count_in, in_found}
use Rattle.conn_laws.proofs.OtherPlaces.{alike_front, ends_over, turned}
use Rattle.conn_laws.proofs.RowsKept.{not_both}
use Rattle.conn_laws.proofs.Slack.{comes_by, event_not, sent_uses, uses_parts}
use Rattle.conn_laws.proofs.Standing.{row_law}

-- ---- a live row that ends at a place

-- the request of a row that is live before a place, and ends there
pub record EndsHere (c : Connection) (journal : List Entry) (id k : ℕ) (kind : EndKind) : Type 0 where
  pub request : Submitted journal id
  pub ending : IsEndPlace c journal id request k kind

pub ends_here : (c : Connection) (journal : List Entry) (k id : ℕ) (e : Entry) (row : Row Handed Outcome) (kind : EndKind) → IsSettings c.settings → Walked c journal → slice_get journal k ≡ Some e → In row (table_of c (take k journal)).requests.rows → is_live row ≡ true → row.id ≡ id → ((r : Submitted journal id) → EndsAs c journal id r k kind) → EndsHere c journal id k kind
ends_here c journal k id e row kind s w at here live same x =
    let t = table_of c (take k journal) in
    let known = knows_front c journal k e s w at in
    let P : ℕ → Type 0 = Submitted (take k journal) in
    let old = subst P same (row_law c (take k journal) t row known.rows here).law.request in
    let above = up journal k id old in
    let r = above.request in
    let low = above.low in
    let place = above.same.place in
    record {
      request = r;
      ending = record {
        after = low;
        ends = x r;
        first = λ j other after before y. known.standing.live row id here live same old j other (omega arith)
            (ends_over c journal (take k journal) k id (sym (alike_front journal k)) r old (turned old r above.same) low j other before y);
      };
    }

-- ---- the row that is sent, cancelled or answered

pub record SentRow (t : Table) (id : ℕ) : Type 0 where
  pub row : Row Handed Outcome
  pub here : In row t.requests.rows
  pub queued : is_queued row ≡ true
  pub same : row.id ≡ id

sent_same : (i id : ℕ) → answers.Sent i ≡ answers.Sent id → i ≡ id
sent_same i id e = cc

pub sent_row : (c : Connection) (journal : List Entry) (id k : ℕ) → Walked c journal → SentAt journal id k → SentRow (table_of c (take k journal)) id
sent_row c journal id k w x =
    let t = table_of c (take k journal) in
    let took_it = took (λ (s : Sending). answers.Sent s.id) (take_send t) _ (answers.Sent id) (walked_steps c journal w k _ x.stands) in
    let s = sends_as t _ took_it.given took_it.is in
    let found = in_found is_queued t.requests.rows s.row s.found in
    record { row = s.row; here = found.0; queued = found.1; same = sym (ap (λ (y : Sending). y.id) s.sending_is) ∙ sent_same took_it.given.id id took_it.told }

pub record LiveOf (t : Table) (actor id : ℕ) : Type 0 where
  pub row : Row Handed Outcome
  pub here : In row t.requests.rows
  pub live : is_live row ≡ true
  pub same : row.id ≡ id
  pub own : row.owner ≡ actor

pub cancelled_row : (c : Connection) (journal : List Entry) (k actor id : ℕ) (answer : Answer) → Walked c journal → Stands journal k actor (events.Cancel id) answer → LiveOf (table_of c (take k journal)) actor id
cancelled_row c journal k actor id answer w at =
    let t = table_of c (take k journal) in
    let took_it = took (λ (x : Unit {0}). answers.Cancelled) (cancel t actor id) _ answer (walked_steps c journal w k _ at) in
    let live = cancel_live t actor id (ap answer_of took_it.is) in
    let found = row_found t actor id live.phase live.found in
    let there = in_found (is_row_of actor id) t.requests.rows found.0 found.1 in
    let both = and_parts (found.0.id == id) (found.0.owner == actor) there.1 in
    record { row = found.0; here = there.0; live = ap phase_live found.2 ∙ live.live; same = eqb-true found.0.id id both.0; own = eqb-true found.0.owner actor both.1 }

-- ---- what a frame that can be read answers

pub data Replies (c : Connection) (t : Table) (reference : ℕ) (reading : Reading) (answer : Answer) : Type 0 where
  -- the row that was sent with its reference ends
  ended : (row : Row Handed Outcome) → In row t.requests.rows → is_sent row ≡ true → row.reference ≡ reference → answer ≡ answers.Ended row.id (c.wire.fit row.what.ask reading).kind → Replies c t reference reading answer
  -- no row was, and the reference is in quarantine
  late : sent_uses reference t.requests ≡ 0 → is_quarantined reference t.requests ≡ true → answer ≡ answers.Late reference → Replies c t reference reading answer
  -- or it isn't
  stray : sent_uses reference t.requests ≡ 0 → is_quarantined reference t.requests ≡ false → answer ≡ answers.Stray reference → Replies c t reference reading answer

replies_without : (c : Connection) (t : Table) (reference : ℕ) (reading : Reading) (answer : Answer) (b : Bool) → sent_uses reference t.requests ≡ 0 → is_quarantined reference t.requests ≡ b → frame_entry (settled_if reference (counted t) b).1 ≡ answer → Replies c t reference reading answer
replies_without c t reference reading answer true none is told = late none is (sym told)
replies_without c t reference reading answer false none is told = stray none is (sym told)

replies_found : (c : Connection) (t : Table) (reference : ℕ) (reading : Reading) (answer : Answer) (found : Option (Row Handed Outcome)) → awaiting reference t.requests ≡ found → frame_entry (arrived c.wire reference reading (counted t) found).1 ≡ answer → Replies c t reference reading answer
replies_found c t reference reading answer None is told =
    replies_without c t reference reading answer (is_quarantined reference t.requests)
    (fails_count (is_sent_and (has_reference reference)) t.requests.rows (not_found (is_sent_and (has_reference reference)) t.requests.rows is)) refl told
replies_found c t reference reading answer (Some row) is told =
    let found = in_found (is_sent_and (has_reference reference)) t.requests.rows row is in
    let both = and_parts (is_sent row) (has_reference reference row) found.1 in
    ended row found.0 both.0 (eqb-true row.reference reference both.1) (sym told)

pub replies : (c : Connection) (journal : List Entry) (k reference : ℕ) (answer : Answer) → Walked c journal → (f : FrameComes c journal k reference answer) → Replies c (table_of c (take k journal)) reference f.reading answer
replies c journal k reference answer w f =
    let t = table_of c (take k journal) in
    let told = (frame_parts c t _ f.actor f.bytes answer (walked_steps c journal w k _ f.stands)).1 in
    let read : received c.wire t f.bytes (c.wire.reading_of f.bytes) ≡ received c.wire t f.bytes (Ok f.reading) = ap (received c.wire t f.bytes) f.reads in
    let P : ℕ → Type 0 = λ n. Replies c t n f.reading answer in
    let reference_is = c.wire.reference_of f.bytes in
    subst P f.refers (replies_found c t reference_is f.reading answer (awaiting reference_is t.requests) refl (sym (ap (λ p. frame_entry p.1) read) ∙ told))

-- the frame that ends a request can be read
pub record Answered (c : Connection) (t : Table) (bytes : List ℕ) (id : ℕ) (kind : EndKind) : Type 0 where
  pub reading : Reading
  pub reads : c.wire.reading_of bytes ≡ Ok reading
  pub row : Row Handed Outcome
  pub here : In row t.requests.rows
  pub sent : is_sent row ≡ true
  pub refers : row.reference ≡ c.wire.reference_of bytes
  pub same : row.id ≡ id
  pub fits : kind ≡ (c.wire.fit row.what.ask reading).kind

ended_parts : (i id : ℕ) (a kind : EndKind) → answers.Ended i a ≡ answers.Ended id kind → (i ≡ id) × (kind ≡ a)
ended_parts i id a kind e = (cc, cc)

answered_row : (c : Connection) (t : Table) (bytes : List ℕ) (reading : Reading) (id : ℕ) (kind : EndKind) → c.wire.reading_of bytes ≡ Ok reading → Replies c t (c.wire.reference_of bytes) reading (answers.Ended id kind) → Answered c t bytes id kind
answered_row c t bytes reading id kind reads (ended row here sent refers told) =
    let both = ended_parts row.id id (c.wire.fit row.what.ask reading).kind kind (sym told) in
    record { reading = reading; reads = reads; row = row; here = here; sent = sent; refers = refers; same = both.0; fits = both.1 }
answered_row c t bytes reading id kind reads (late none is told) = absurd (cc)
answered_row c t bytes reading id kind reads (stray none is told) = absurd (cc)

answered_by : (c : Connection) (t : Table) (bytes : List ℕ) (id : ℕ) (kind : EndKind) (reading : Result Reading FrameWhy) → c.wire.reading_of bytes ≡ reading → frame_entry (received c.wire t bytes reading).1 ≡ answers.Ended id kind → Answered c t bytes id kind
answered_by c t bytes id kind (Ok reading) reads told =
    let reference = c.wire.reference_of bytes in
    answered_row c t bytes reading id kind reads (replies_found c t reference reading (answers.Ended id kind) (awaiting reference t.requests) refl told)
answered_by c t bytes id kind (Err why) reads told = absurd (cc)

pub answered_at : (c : Connection) (journal : List Entry) (k actor : ℕ) (bytes : List ℕ) (id : ℕ) (kind : EndKind) → Walked c journal → Stands journal k actor (events.Frame bytes) (answers.Ended id kind) → Answered c (table_of c (take k journal)) bytes id kind
answered_at c journal k actor bytes id kind w at =
    let t = table_of c (take k journal) in
    let told = (frame_parts c t _ actor bytes (answers.Ended id kind) (walked_steps c journal w k _ at)).1 in
    answered_by c t bytes id kind (c.wire.reading_of bytes) refl told

-- a late frame can be read, with the reference that is told
late_parts : (a b : ℕ) → answers.Late a ≡ answers.Late b → b ≡ a
late_parts a b e = cc

late_reference : (c : Connection) (t : Table) (reference told_as : ℕ) (reading : Reading) → Replies c t reference reading (answers.Late told_as) → reference ≡ told_as
late_reference c t reference told_as reading (ended row here sent refers told) = absurd (cc)
late_reference c t reference told_as reading (late none is told) = late_parts told_as reference told
late_reference c t reference told_as reading (stray none is told) = absurd (cc)

late_by : (c : Connection) (t : Table) (bytes : List ℕ) (reference : ℕ) (reading : Result Reading FrameWhy) → c.wire.reading_of bytes ≡ reading → frame_entry (received c.wire t bytes reading).1 ≡ answers.Late reference → (x : Reading) × (c.wire.reading_of bytes ≡ Ok x) × (c.wire.reference_of bytes ≡ reference)
late_by c t bytes reference (Ok x) reads told =
    let own = c.wire.reference_of bytes in
    (x, reads, late_reference c t own reference x (replies_found c t own x (answers.Late reference) (awaiting own t.requests) refl told))
late_by c t bytes reference (Err why) reads told = absurd (cc)

pub late_comes : (c : Connection) (journal : List Entry) (k actor : ℕ) (bytes : List ℕ) (reference : ℕ) → Walked c journal → Stands journal k actor (events.Frame bytes) (answers.Late reference) → FrameComes c journal k reference (answers.Late reference)
late_comes c journal k actor bytes reference w at =
    let t = table_of c (take k journal) in
    let told = (frame_parts c t _ actor bytes (answers.Late reference) (walked_steps c journal w k _ at)).1 in
    let x = late_by c t bytes reference (c.wire.reading_of bytes) refl told in
    record { actor = actor; bytes = bytes; reading = x.0; stands = at; reads = x.1; refers = x.2 }

-- ---- ended, late and stray, by places

abbrev pub IsEnd : Answer → Type 0
IsEnd answer = (id : ℕ) × (kind : EndKind) × (answer ≡ answers.Ended id kind)

some_none : {Y : Type 0} (n : ℕ) → 1 ≤ n → n ≡ 0 → Y
some_none n some none = absurd (omega arith)

-- a reference of a sent row isn't in quarantine
sent_not_out : {Y : Type 0} (t : Table) (row : Row Handed Outcome) (reference : ℕ) → In row t.requests.rows → is_sent row ≡ true → row.reference ≡ reference → is_quarantined reference t.requests ≡ true → Y
sent_not_out t row reference here sent same is =
    let some = count_in (is_sent_and (has_reference reference)) t.requests.rows row here (rw (sent, eq-eqb row.reference reference same) refl) in
    let parts = uses_parts reference t.requests in
    let none = eqb-true (uses_of reference t.requests) 0 (and_parts _ (uses_of reference t.requests == 0) is).1 in
    absurd (omega arith)

pub ends_where : (c : Connection) (journal : List Entry) (reference : ℕ) (reading : Reading) (answer : Answer) → IsSettings c.settings → Walked c journal → Replies c (table_of c journal) reference reading answer → IsEnd answer ↔ LiveSent c journal reference
ends_where c journal reference reading answer s w (ended row here sent same told) = (
  λ x. row_sent_live c journal reference row (knows c journal s w) here sent same,
  λ l. (row.id, (c.wire.fit row.what.ask reading).kind, told),
)
ends_where c journal reference reading answer s w (late none is told) = (
  λ x. (let other : answers.Ended x.0 x.1 ≡ answers.Late reference = sym x.2 ∙ told in absurd (cc)),
  λ l. some_none (sent_uses reference (table_of c journal).requests) (sent_live_row c journal reference s w l) none,
)
ends_where c journal reference reading answer s w (stray none is told) = (
  λ x. (let other : answers.Ended x.0 x.1 ≡ answers.Stray reference = sym x.2 ∙ told in absurd (cc)),
  λ l. some_none (sent_uses reference (table_of c journal).requests) (sent_live_row c journal reference s w l) none,
)

pub late_where : (c : Connection) (journal : List Entry) (reference : ℕ) (reading : Reading) (answer : Answer) → IsSettings c.settings → Walked c journal → Replies c (table_of c journal) reference reading answer → (answer ≡ answers.Late reference) ↔ IsLate c journal reference
late_where c journal reference reading answer s w (ended row here sent same told) = (
  λ x. (let other : answers.Late reference ≡ answers.Ended row.id (c.wire.fit row.what.ask reading).kind = sym x ∙ told in absurd (cc)),
  λ l. sent_not_out (table_of c journal) row reference here sent same (late_quarantined c journal reference s w l),
)
late_where c journal reference reading answer s w (late none is told) = (λ x. quarantined_late c journal reference s w is, λ l. told)
late_where c journal reference reading answer s w (stray none is told) = (
  λ x. (let other : answers.Late reference ≡ answers.Stray reference = sym x ∙ told in absurd (cc)),
  λ l. not_both (is_quarantined reference (table_of c journal).requests) (late_quarantined c journal reference s w l) is,
)

pub stray_where : (c : Connection) (journal : List Entry) (reference : ℕ) (reading : Reading) (answer : Answer) → IsSettings c.settings → Walked c journal → Replies c (table_of c journal) reference reading answer → (answer ≡ answers.Stray reference) ↔ ((¬ LiveSent c journal reference) × (¬ IsLate c journal reference))
stray_where c journal reference reading answer s w (ended row here sent same told) = (
  λ x. (let other : answers.Stray reference ≡ answers.Ended row.id (c.wire.fit row.what.ask reading).kind = sym x ∙ told in absurd (cc)),
  λ both. absurd (both.0 (row_sent_live c journal reference row (knows c journal s w) here sent same)),
)
stray_where c journal reference reading answer s w (late none is told) = (
  λ x. (let other : answers.Stray reference ≡ answers.Late reference = sym x ∙ told in absurd (cc)),
  λ both. absurd (both.1 (quarantined_late c journal reference s w is)),
)
stray_where c journal reference reading answer s w (stray none is told) = (
  λ x. (
    λ l. some_none (sent_uses reference (table_of c journal).requests) (sent_live_row c journal reference s w l) none,
    λ l. not_both (is_quarantined reference (table_of c journal).requests) (late_quarantined c journal reference s w l) is,
  ),
  λ both. told,
)

-- ---- a frame without an end ends nothing

abbrev as_frame : ℕ → List ℕ → Answer → Entry
as_frame actor bytes answer = record { actor = actor; event = events.Frame bytes; answer = answer }

pub event_of : (journal : List Entry) (k : ℕ) (a b : Entry) → slice_get journal k ≡ Some a → slice_get journal k ≡ Some b → a ≡ b
event_of journal k a b one two = let both : Some a ≡ Some b = sym one ∙ two in cc

-- leases stand over a frame that doesn't close
leases_over : (c : Connection) (journal : List Entry) (k actor : ℕ) (bytes : List ℕ) (answer : Answer) → frame_reason answer ≡ None → Walked c journal → Stands journal k actor (events.Frame bytes) answer → leases_of c.settings (take (k + 1) journal) ≡ leases_of c.settings (take k journal)
leases_over c journal k actor bytes answer unclosing w at =
    let low = get_low journal k _ at in
    let e = as_frame actor bytes answer in
    let t = table_of c (take k journal) in
    let u = table_of c (take (k + 1) journal) in
    let f = follows c t u actor (events.Frame bytes) answer (walked_steps c journal w k e at) in
    let open_frame : closes e ≡ false = ap is_some unclosing in
    let stay : leases_after u.clock t.leases e ≡ t.leases = rw open_frame refl in
    sym (walk_law c (take (k + 1) journal) (walked_before c journal (k + 1) w (omega arith))).leases
    ∙ f.leases ∙ stay
    ∙ (walk_law c (take k journal) (walked_before c journal k w (omega arith))).leases

pub frame_ends_none : (c : Connection) (journal : List Entry) (k actor : ℕ) (bytes : List ℕ) (answer : Answer) → frame_reason answer ≡ None → Walked c journal → Stands journal k actor (events.Frame bytes) answer → (id : ℕ) (r : Submitted journal id) (kind : EndKind) → EndsUnanswered c journal id r k kind → ⊥
frame_ends_none c journal k actor bytes answer unclosing w at id r _ (ends.cancelled a there) =
    event_not (events.Frame bytes) (events.Cancel id) comes_by refl refl (ap (λ (x : Entry). x.event) (event_of journal k _ _ at there))
frame_ends_none c journal k actor bytes answer unclosing w at id r _ (ends.expired a now other there due) =
    event_not (events.Frame bytes) (events.Tick now) comes_by refl refl (ap (λ (x : Entry). x.event) (event_of journal k _ _ at there))
frame_ends_none c journal k actor bytes answer unclosing w at id r _ (ends.lease_gone x there unclosed in_time before after) =
    let same : lease_stands_after c r (k + 1) ≡ lease_stands_after c r k = ap (λ (l : LeaseTable). list_any (λ (held : Lease). held.number == r.lease) l.held) (leases_over c journal k actor bytes answer unclosing w at) in
    not_both (lease_stands_after c r (k + 1)) (same ∙ before) after
frame_ends_none c journal k actor bytes answer unclosing w at id r _ (ends.lost x reason there closing) =
    let other = event_of journal k _ x at there in
    let some : frame_reason answer ≡ Some reason = ap closing_reason other ∙ closing in
    absurd (cc)

frame_ends_as : (c : Connection) (journal : List Entry) (k actor : ℕ) (bytes : List ℕ) (answer : Answer) → frame_reason answer ≡ None → ((id : ℕ) (kind : EndKind) → answer ≡ answers.Ended id kind → ⊥) → Walked c journal → Stands journal k actor (events.Frame bytes) answer → (id : ℕ) (r : Submitted journal id) (kind : EndKind) → EndsAs c journal id r k kind → ⊥
frame_ends_as c journal k actor bytes answer unclosing no_end w at id r _ (ends.answered a other kind there) = no_end id kind (ap (λ (x : Entry). x.answer) (event_of journal k _ _ at there))
frame_ends_as c journal k actor bytes answer unclosing no_end w at id r _ (ends.unanswered kind x) = frame_ends_none c journal k actor bytes answer unclosing w at id r kind x

pub late_ends : (c : Connection) (journal : List Entry) (k actor : ℕ) (bytes : List ℕ) (reference : ℕ) → Walked c journal → Stands journal k actor (events.Frame bytes) (answers.Late reference) → EndsNothing c journal k
late_ends c journal k actor bytes reference w at = λ id r kind e. frame_ends_as c journal k actor bytes (answers.Late reference) refl (λ n by is. absurd (cc)) w at id r kind e.ends

pub stray_ends : (c : Connection) (journal : List Entry) (k actor : ℕ) (bytes : List ℕ) (reference : ℕ) → Walked c journal → Stands journal k actor (events.Frame bytes) (answers.Stray reference) → EndsNothing c journal k
stray_ends c journal k actor bytes reference w at = λ id r kind e. frame_ends_as c journal k actor bytes (answers.Stray reference) refl (λ n by is. absurd (cc)) w at id r kind e.ends
