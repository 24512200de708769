-- Each row of a legal journal's table is a request of the journal, with what became of it.
use Rattle.std.proofs.Common.{◌≡◌, inl, ℕ, ◌+◌, ◌<◌, ◌≤◌, Bool, true, false, List, [], ◌∷◌, ◌++◌, length, take, refl, sym, ap, subst, ◌∙◌, arith, Some, Ok, length-append}
use Rattle.std.specs.Prelude.{◌&&◌, ◌==◌, if◌then◌else◌, max}
use Rattle.std.specs.List.{find, list_any}
use Rattle.std.proofs.lemmas.Bool.{and_parts, eq-eqb, eqb-true}
use Rattle.std.proofs.lemmas.Bool.Decides.{nat_tests}
use Rattle.lease_core.specs.LeaseSteps.{dropped, due_dropped, granted_all}
use Rattle.lease_core.specs.LeaseTables.{IsLeaseTable, Lease, LeaseTable, due_numbers, has_number}
use Rattle.txn_core.specs.FirstPlaces.{Fails, found_at}
use Rattle.txn_core.specs.RowEnds.{only}
use Rattle.txn_core.specs.RowSteps.{awaiting, ended_phase, in_phase, in_phases, replied, sent, sent_phase}
use Rattle.txn_core.specs.RowTables.{IsRising, Row, any_row, has_id, has_lease, has_reference, ids_of, is_due, is_live, is_queued, is_queued_and, is_row_of, is_sent, is_sent_and, phase_live, phase_queued, phase_sent}
use Rattle.txn_core.specs.declared.phases.Phase.{Phase}
use Rattle.txn_core.specs.declared.phases.Phase.TheVariants.{Queued, Sent, Ended}
use Rattle.node_tree.specs.declared.readings.Reading.{Reading}
use Rattle.wire_frames.specs.declared.ends.EndKind.TheVariants as kinds
use Rattle.wire_frames.specs.declared.ends.Outcome.{Outcome}
use Rattle.wire_frames.specs.declared.ends.Reason.{Reason}
use Rattle.conn_core.specs.Ends as ends
use Rattle.conn_core.specs.Ends.{EndsUnanswered, lease_stands_after}
use Rattle.conn_core.specs.Entries.{closes, closing_reason}
use Rattle.conn_core.specs.LeasePlaces.{held_after, leases_of}
use Rattle.conn_core.specs.Places.{SentAt, Stands, Submitted}
use Rattle.conn_core.specs.RowLaw.{IsPhaseOf, IsRowOf}
use Rattle.conn_core.specs.Steps.{bare, end_all, end_leases, released, ticked}
use Rattle.conn_core.specs.Tables.{Connection, Handed, Requests, Table, at_moment}
use Rattle.conn_core.specs.declared.entries.Answer.{Answer}
use Rattle.conn_core.specs.declared.entries.Answer.TheVariants as answers
use Rattle.conn_core.specs.declared.entries.Entry.{Entry}
use Rattle.conn_core.specs.declared.entries.Event.TheVariants as events
use Rattle.conn_core.proofs.LeaseHeld.{EachNumber, any_left, due_are_gone, left_held, or_none, others_stay, released_gone}
use Rattle.conn_core.proofs.EntryLemmas.{get_low}
use Rattle.conn_core.proofs.RowPlaces.{Each, deadline_more, each_ended, each_join, each_map, each_same, each_split, row_bare, row_more, row_with, submitted_more}
use Rattle.conn_core.proofs.StepLaws.{take_more, take_whole}
use Rattle.conn_core.proofs.TurnLemmas.{get_last, get_more}

-- a row is a request of the journal; while it is live its lease is held
pub record RowFacts (c : Connection) (journal : List Entry) (l : LeaseTable) (row : Row Handed Outcome) : Type 0 where
  pub law : IsRowOf c journal row
  pub held : is_live row ≡ true → list_any (has_number row.lease) l.held ≡ true

abbrev pub RowsOf : Connection → List Entry → Table → Type 0
RowsOf c journal t = Each (RowFacts c journal t.leases) t.requests.rows

-- ---- tests

pub and_second : (a b : Bool) → a ≡ true → (a && b) ≡ false → b ≡ false
and_second true b e f = f
and_second false b e f = cc

true_false : {Y : Type 0} (b : Bool) → b ≡ true → (b && true) ≡ false → Y
true_false true e f = cc
true_false false e f = cc

both_ways : (b : Bool) → b ≡ true → b ≡ false → ⊥
both_ways true e f = cc
both_ways false e f = cc

stand_same : (actor id a n : ℕ) (answer : Answer) → actor ≡ a → id ≡ n → answer ≡ answers.Cancelled → (let x : Entry = record { actor = actor; event = events.Cancel id; answer = answer } in Some x) ≡ (let y : Entry = record { actor = a; event = events.Cancel n; answer = answers.Cancelled } in Some y)
stand_same actor id a n answer e f g = cc

sent_at_phase : (c : Connection) (journal : List Entry) (id : ℕ) (r : Submitted journal id) (phase : Phase Outcome) → phase_sent phase ≡ true → IsPhaseOf c r phase → (k : ℕ) × SentAt journal id k
sent_at_phase c journal id r Queued e h = cc
sent_at_phase c journal id r Sent e h = h
sent_at_phase c journal id r (Ended outcome) e h = cc

pub sent_phase_of : (c : Connection) (journal : List Entry) (r : Row Handed Outcome) (h : IsRowOf c journal r) → is_sent r ≡ true → (k : ℕ) × SentAt journal r.id k
sent_phase_of c journal r h e = sent_at_phase c journal r.id h.request r.phase e h.phase

pub not_ended : {Y : Type 0} (o : Outcome) → phase_live (Ended o) ≡ true → Y
not_ended o e = cc

-- ---- a lease that goes by the new entry

whole_before : (journal : List Entry) (e : Entry) → take (length journal) (journal ++ e ∷ []) ≡ journal
whole_before journal e = take_more journal e (length journal) (omega arith) ∙ take_whole journal (length journal) refl

whole_after : (journal : List Entry) (e : Entry) → take (length journal + 1) (journal ++ e ∷ []) ≡ journal ++ e ∷ []
whole_after journal e = take_whole (journal ++ e ∷ []) (length journal + 1) (omega (arith, length-append journal (e ∷ [])))

stands_at : (c : Connection) (journal : List Entry) (e : Entry) (row : Row Handed Outcome) (h : IsRowOf c journal row) (k : ℕ) (xs : List Entry) (l : LeaseTable) → take k (journal ++ e ∷ []) ≡ xs → l ≡ leases_of c.settings xs → lease_stands_after c (submitted_more journal e row.id h.request) k ≡ list_any (has_number row.lease) l.held
stands_at c journal e row h k xs l at is =
    ap (λ (ys : List Entry). list_any (λ (held : Lease). held.number == h.request.lease) (held_after c.settings ys)) at
    ∙ ap (λ (x : LeaseTable). list_any (λ (held : Lease). held.number == h.request.lease) x.held) (sym is)
    ∙ ap (λ m. list_any (has_number m) l.held) h.lease

gone_at : (c : Connection) (journal : List Entry) (e : Entry) (l m : LeaseTable) (row : Row Handed Outcome) (h : IsRowOf c journal row) → l ≡ leases_of c.settings journal → m ≡ leases_of c.settings (journal ++ e ∷ []) → closes e ≡ false → ((now : ℕ) → e.event ≡ events.Tick now → now < row.deadline) → list_any (has_number row.lease) l.held ≡ true → list_any (has_number row.lease) m.held ≡ false → EndsUnanswered c (journal ++ e ∷ []) row.id (submitted_more journal e row.id h.request) (length journal) kinds.LeaseGone
gone_at c journal e l m row h before after unclosed tick was gone =
    ends.lease_gone e (get_last journal e) unclosed
    (λ now is. let P : ℕ → Type 0 = λ d. now < d in subst P (h.deadline ∙ sym (deadline_more journal e row.id h.request)) (tick now is))
    (stands_at c journal e row h (length journal) journal l (whole_before journal e) before ∙ was)
    (stands_at c journal e row h (length journal + 1) (journal ++ e ∷ []) m (whole_after journal e) after ∙ gone)

-- ---- rows stay, and leases grow at most

pub rows_stay : (c : Connection) (journal : List Entry) (e : Entry) (l m : LeaseTable) (rows : List (Row Handed Outcome)) → ((n : ℕ) → list_any (has_number n) l.held ≡ true → list_any (has_number n) m.held ≡ true) → Each (RowFacts c journal l) rows → Each (RowFacts c (journal ++ e ∷ []) m) rows
rows_stay c journal e l m rows keeps h =
    each_same (RowFacts c journal l) (RowFacts c (journal ++ e ∷ []) m) rows (λ row x. record { law = row_more c journal e row x.law; held = λ live. keeps row.lease (x.held live) }) h

-- ---- Release

pub release_rows : (c : Connection) (journal : List Entry) (t : Table) (actor number now : ℕ) (answer : Answer) → (let e : Entry = record { actor = actor; event = events.Release number now; answer = answer } in t.leases ≡ leases_of c.settings journal → (released number (at_moment now t)).leases ≡ leases_of c.settings (journal ++ e ∷ []) → RowsOf c journal t → RowsOf c (journal ++ e ∷ []) (released number (at_moment now t)))
release_rows c journal t actor number now answer before after h =
    let e : Entry = record { actor = actor; event = events.Release number now; answer = answer } in
    let m = granted_all (dropped t.leases number) (max t.clock now) in
    each_ended (RowFacts c journal t.leases) (RowFacts c (journal ++ e ∷ []) m) (has_lease number) (bare kinds.LeaseGone) t.requests.rows
    (λ row x live leased.
    let same : row.lease ≡ number = eqb-true row.lease number leased in
    let gone : list_any (has_number row.lease) m.held ≡ false = ap (λ n. list_any (has_number n) m.held) same ∙ released_gone t.leases number (max t.clock now) in
    record {
      law = row_bare c journal e row x.law kinds.LeaseGone (gone_at c journal e t.leases m row x.law before after refl (λ moment is. cc) (x.held live) gone) (λ is. cc);
      held = λ l. not_ended (bare kinds.LeaseGone) l;
    })
    (λ row x out. record {
      law = row_more c journal e row x.law;
      held = λ live. any_left (has_number row.lease) (dropped t.leases number).held _ (others_stay row.lease number t.leases.held (and_second (is_live row) (has_lease number row) live out) (x.held live));
    })
    h

-- ---- Close: all end

pub close_rows : (c : Connection) (journal : List Entry) (e : Entry) (rows : List (Row Handed Outcome)) (l m : LeaseTable) (reason : Reason) → closing_reason e ≡ Some reason → Each (RowFacts c journal l) rows → Each (RowFacts c (journal ++ e ∷ []) m) (in_phases (ended_phase any_row (bare (kinds.Lost reason))) rows)
close_rows c journal e rows l m reason closing h =
    each_ended (RowFacts c journal l) (RowFacts c (journal ++ e ∷ []) m) any_row (bare (kinds.Lost reason)) rows
    (λ row x live any. record {
      law = row_bare c journal e row x.law (kinds.Lost reason) (ends.lost e reason (get_last journal e) closing) (λ is. cc);
      held = λ l. not_ended (bare (kinds.Lost reason)) l;
    })
    (λ row x out. record {
      law = row_more c journal e row x.law;
      held = λ live. true_false (is_live row) live out;
    })
    h

-- ---- the only row with an id

fails_each : (q : Row Handed Outcome → Bool) (r : Row Handed Outcome) (rows : List (Row Handed Outcome)) → Fails q rows → Each (λ x. q x ≡ true → x ≡ r) rows
fails_each q r [] f = tt
fails_each q r (x ∷ xs) f = (λ e. absurd (both_ways (q x) e f.0), fails_each q r xs f.1)

pub only_each : (drawn : ℕ) (rows : List (Row Handed Outcome)) (q : Row Handed Outcome → Bool) (r : Row Handed Outcome) → IsRising 0 drawn (ids_of rows) → find q rows ≡ Some r → Each (λ x. has_id r.id x ≡ true → x ≡ r) rows
only_each drawn rows q r rising found =
    let first = (found_at q rows r found).1 in
    let P : List (Row Handed Outcome) → Type 0 = λ xs. IsRising 0 drawn (ids_of xs) in
    let alone = only 0 drawn first.before first.after r (subst P first.split rising) in
    let Q : List (Row Handed Outcome) → Type 0 = Each (λ x. has_id r.id x ≡ true → x ≡ r) in
    subst Q (sym first.split) (each_join (λ x. has_id r.id x ≡ true → x ≡ r) first.before r first.after (fails_each (has_id r.id) r first.before alone.before_it) (λ e. refl) (fails_each (has_id r.id) r first.after alone.after_it))

pub each_both : (P Q : Row Handed Outcome → Type 0) (rows : List (Row Handed Outcome)) → Each P rows → Each Q rows → Each (λ row. P row × Q row) rows
each_both P Q [] h k = tt
each_both P Q (row ∷ rows) h k = ((h.0, k.0), each_both P Q rows h.1 k.1)

pub each_found : (P : Row Handed Outcome → Type 0) (q : Row Handed Outcome → Bool) (rows : List (Row Handed Outcome)) (r : Row Handed Outcome) → find q rows ≡ Some r → Each P rows → P r
each_found P q rows r found h =
    let first = (found_at q rows r found).1 in
    let R : List (Row Handed Outcome) → Type 0 = Each P in
    (each_split P first.before r first.after (subst R first.split h)).1.0

-- ---- Cancel

pub cancel_rows : (c : Connection) (journal : List Entry) (t : Table) (actor id : ℕ) (answer : Answer) (r : Row Handed Outcome) → IsRising 0 t.requests.drawn (ids_of t.requests.rows) → find (is_row_of actor id) t.requests.rows ≡ Some r → answers.Cancelled ≡ answer → RowsOf c journal t → (let e : Entry = record { actor = actor; event = events.Cancel id; answer = answer } in Each (RowFacts c (journal ++ e ∷ []) t.leases) (end_all (has_id id) kinds.Cancelled t.requests).rows)
cancel_rows c journal t actor id answer r rising found told h =
    let e : Entry = record { actor = actor; event = events.Cancel id; answer = answer } in
    let passes = and_parts (r.id == id) (r.owner == actor) (found_at (is_row_of actor id) t.requests.rows r found).1.passes in
    let same_id : r.id ≡ id = eqb-true r.id id passes.0 in
    let same_owner : r.owner ≡ actor = eqb-true r.owner actor passes.1 in
    let alone = only_each t.requests.drawn t.requests.rows (is_row_of actor id) r rising found in
    let P : Row Handed Outcome → Type 0 = λ row. RowFacts c journal t.leases row × (has_id r.id row ≡ true → row ≡ r) in
    each_ended P (RowFacts c (journal ++ e ∷ []) t.leases) (has_id id) (bare kinds.Cancelled) t.requests.rows
    (λ row x live named.
    let id_is : row.id ≡ id = eqb-true row.id id named in
    let is : row ≡ r = x.1 (eq-eqb row.id r.id (id_is ∙ sym same_id)) in
    let own : x.0.law.request.actor ≡ actor = x.0.law.actor ∙ ap (λ (y : Row Handed Outcome). y.owner) is ∙ same_owner in
    let at : (a : ℕ) (n : ℕ) → a ≡ actor → n ≡ id → Stands (journal ++ e ∷ []) (length journal) a (events.Cancel n) answers.Cancelled = λ a n one two. get_last journal e ∙ stand_same actor id a n answer (sym one) (sym two) (sym told) in
    record {
      law = row_bare c journal e row x.0.law kinds.Cancelled (ends.cancelled actor (at actor row.id refl id_is)) (λ k. at x.0.law.request.actor row.id own id_is);
      held = λ l. not_ended (bare kinds.Cancelled) l;
    })
    (λ row x out. record { law = row_more c journal e row x.0.law; held = x.0.held })
    (each_both (RowFacts c journal t.leases) (λ row. has_id r.id row ≡ true → row ≡ r) t.requests.rows h alone)

-- ---- TakeSend

sent_if : (Q : Row Handed Outcome → Type 0) (row : Row Handed Outcome) (b : Bool) → (b ≡ true → (let next : Row Handed Outcome = record row { phase = Sent } in Q next)) → Q row → (let next : Row Handed Outcome = record row { phase = if b then Sent else row.phase } in Q next)
sent_if Q row true here other = here refl
sent_if Q row false here other = other

sent_case : (Q : Row Handed Outcome → Type 0) (id : ℕ) (row : Row Handed Outcome) → (is_queued row ≡ true → has_id id row ≡ true → (let next : Row Handed Outcome = record row { phase = Sent } in Q next)) → Q row → Q (in_phase (sent_phase id) row)
sent_case Q id row here other =
    sent_if Q row (is_queued_and (has_id id) row) (λ is. let both = and_parts (is_queued row) (has_id id row) is in here both.0 both.1) other

queued_live : {E : Type 0} (phase : Phase E) → phase_queued phase ≡ true → phase_live phase ≡ true
queued_live Queued e = refl
queued_live Sent e = cc
queued_live (Ended kind) e = cc

pub send_rows : (c : Connection) (journal : List Entry) (t : Table) (actor id : ℕ) (answer : Answer) → answers.Sent id ≡ answer → RowsOf c journal t → (let e : Entry = record { actor = actor; event = events.TakeSend; answer = answer } in Each (RowFacts c (journal ++ e ∷ []) t.leases) (sent id t.requests).rows)
send_rows c journal t actor id answer told h =
    let e : Entry = record { actor = actor; event = events.TakeSend; answer = answer } in
    let P = RowFacts c journal t.leases in
    let Q = RowFacts c (journal ++ e ∷ []) t.leases in
    each_map P Q (in_phase (sent_phase id)) t.requests.rows
    (λ row x. sent_case Q id row
    (λ queued named.
    let same : row.id ≡ id = eqb-true row.id id named in
    let at : Stands (journal ++ e ∷ []) (length journal) actor events.TakeSend (answers.Sent row.id) = get_last journal e ∙ ap (λ (a : Answer). let y : Entry = record { actor = actor; event = events.TakeSend; answer = a } in Some y) (sym told ∙ ap (λ n. answers.Sent n) (sym same)) in
    record {
      law = row_with c journal e row x.law Sent (length journal, record { actor = actor; stands = at });
      held = λ live. x.held (queued_live row.phase queued);
    })
    (record { law = row_more c journal e row x.law; held = x.held }))
    h

-- ---- Frame: a reply

pub reply_rows : (c : Connection) (journal : List Entry) (t : Table) (actor : ℕ) (bytes : List ℕ) (answer : Answer) (reading : Reading) (r : Row Handed Outcome) → IsRising 0 t.requests.drawn (ids_of t.requests.rows) → c.wire.reading_of bytes ≡ Ok reading → awaiting (c.wire.reference_of bytes) t.requests ≡ Some r → answers.Ended r.id (c.wire.fit r.what.ask reading).kind ≡ answer → RowsOf c journal t → (let e : Entry = record { actor = actor; event = events.Frame bytes; answer = answer } in Each (RowFacts c (journal ++ e ∷ []) t.leases) (replied r.id (c.wire.fit r.what.ask reading) t.requests).rows)
reply_rows c journal t actor bytes answer reading r rising reads found told h =
    let e : Entry = record { actor = actor; event = events.Frame bytes; answer = answer } in
    let outcome = c.wire.fit r.what.ask reading in
    let reference = c.wire.reference_of bytes in
    let passes = and_parts (is_sent r) (has_reference reference r) (found_at (is_sent_and (has_reference reference)) t.requests.rows r found).1.passes in
    let refers : r.reference ≡ reference = eqb-true r.reference reference passes.1 in
    let alone = only_each t.requests.drawn t.requests.rows (is_sent_and (has_reference reference)) r rising found in
    let P : Row Handed Outcome → Type 0 = λ row. RowFacts c journal t.leases row × (has_id r.id row ≡ true → row ≡ r) in
    let Q = RowFacts c (journal ++ e ∷ []) t.leases in
    let fitted : (f : RowFacts c journal t.leases r) → (let next : Row Handed Outcome = record r { phase = Ended outcome } in Q next) = λ f.
    let was = sent_phase_of c journal r f.law passes.0 in
    record {
      law = row_with c journal e r f.law (Ended outcome) (inl (record {
        place = length journal;
        actor = actor;
        bytes = bytes;
        reading = reading;
        sent = was.0;
        stands = get_last journal e ∙ ap (λ (a : Answer). let y : Entry = record { actor = actor; event = events.Frame bytes; answer = a } in Some y) (sym told);
        reads = reads;
        refers = sym refers ∙ sym f.law.reference;
        fits = ap (λ a. c.wire.fit a reading) (sym f.law.ask);
        sent_at = record { actor = was.1.actor; stands = get_more journal (e ∷ []) was.0 _ was.1.stands };
        after = get_low journal was.0 _ was.1.stands;
      }));
      held = λ l. not_ended outcome l;
    } in
    each_ended P Q (has_id r.id) outcome t.requests.rows
    (λ row x live named.
    let is : row ≡ r = x.1 named in
    let R : Row Handed Outcome → Type 0 = λ y. RowFacts c journal t.leases y in
    let S : Row Handed Outcome → Type 0 = λ y. (let next : Row Handed Outcome = record y { phase = Ended outcome } in Q next) in
    subst S (sym is) (fitted (subst R is x.0)))
    (λ row x out. record { law = row_more c journal e row x.0.law; held = x.0.held })
    (each_both (RowFacts c journal t.leases) (λ row. has_id r.id row ≡ true → row ≡ r) t.requests.rows h alone)

-- ---- Tick

-- a row after the first part of a tick
record Ticking (c : Connection) (journal : List Entry) (e : Entry) (now : ℕ) (l : LeaseTable) (row : Row Handed Outcome) : Type 0 where
  law : IsRowOf c (journal ++ e ∷ []) row
  living : is_live row ≡ true → IsRowOf c journal row × ((is_due now row ≡ false) × (list_any (has_number row.lease) l.held ≡ true))

-- numbers put before others, the last one first
abbrev reverse_onto : List ℕ → List ℕ → List ℕ
reverse_onto [] gone = gone
reverse_onto (n ∷ ns) gone = reverse_onto ns (n ∷ gone)

none_onto : (p : ℕ → Bool) (ns gone : List ℕ) → list_any p (reverse_onto ns gone) ≡ false → list_any p gone ≡ false
none_onto p [] gone e = e
none_onto p (n ∷ ns) gone e = (or_none (p n) (list_any p gone) (none_onto p ns (n ∷ gone) e)).1

none_reversed : (p : ℕ → Bool) (ns gone : List ℕ) → list_any p (reverse_onto ns gone) ≡ false → list_any p ns ≡ false
none_reversed p [] gone e = refl
none_reversed p (n ∷ ns) gone e =
    let here = (or_none (p n) (list_any p gone) (none_onto p ns (n ∷ gone) e)).0 in
    rw (here, none_reversed p ns (n ∷ gone) e) refl

tick_first : (c : Connection) (journal : List Entry) (t : Table) (actor now : ℕ) (answer : Answer) → RowsOf c journal t → (let e : Entry = record { actor = actor; event = events.Tick now; answer = answer } in Each (Ticking c journal e now t.leases) (end_all (is_due now) kinds.Expired t.requests).rows)
tick_first c journal t actor now answer h =
    let e : Entry = record { actor = actor; event = events.Tick now; answer = answer } in
    each_ended (RowFacts c journal t.leases) (Ticking c journal e now t.leases) (is_due now) (bare kinds.Expired) t.requests.rows
    (λ row x live due.
    let past : row.deadline ≤ now = grind (arith, nat_tests) in
    let P : ℕ → Type 0 = λ d. d ≤ now in
    record {
      law = row_bare c journal e row x.law kinds.Expired (ends.expired actor now answer (get_last journal e) (subst P (x.law.deadline ∙ sym (deadline_more journal e row.id x.law.request)) past)) (λ is. cc);
      living = λ l. not_ended (bare kinds.Expired) l;
    })
    (λ row x out. record {
      law = row_more c journal e row x.law;
      living = λ live. (x.law, (and_second (is_live row) (is_due now row) live out, x.held live));
    })
    h

-- rows of which some more than these leases' are ended
record Gone_rows (c : Connection) (journal : List Entry) (e : Entry) (now : ℕ) (l : LeaseTable) (gone : List ℕ) (row : Row Handed Outcome) : Type 0 where
  ticking : Ticking c journal e now l row
  out : is_live row ≡ true → list_any (λ n. row.lease == n) gone ≡ false

one_lease : (c : Connection) (journal : List Entry) (t : Table) (actor now : ℕ) (answer : Answer) (m : LeaseTable) (gone : List ℕ) (number : ℕ) (requests : Requests) → (let e : Entry = record { actor = actor; event = events.Tick now; answer = answer } in t.leases ≡ leases_of c.settings journal → m ≡ leases_of c.settings (journal ++ e ∷ []) → list_any (has_number number) m.held ≡ false → Each (Gone_rows c journal e now t.leases gone) requests.rows → Each (Gone_rows c journal e now t.leases (number ∷ gone)) (end_all (has_lease number) kinds.LeaseGone requests).rows)
one_lease c journal t actor now answer m gone number requests before after none h =
    let e : Entry = record { actor = actor; event = events.Tick now; answer = answer } in
    let P = Gone_rows c journal e now t.leases gone in
    let Q = Gone_rows c journal e now t.leases (number ∷ gone) in
    each_ended P Q (has_lease number) (bare kinds.LeaseGone) requests.rows
    (λ row x live leased.
    let was = x.ticking.living live in
    let same : row.lease ≡ number = eqb-true row.lease number leased in
    let left : list_any (has_number row.lease) m.held ≡ false = ap (λ n. list_any (has_number n) m.held) same ∙ none in
    let late = was.1.0 in
    let early : now < row.deadline = grind (arith, nat_tests) in
    record {
      ticking = record {
        law = row_bare c journal e row was.0 kinds.LeaseGone (gone_at c journal e t.leases m row was.0 before after refl (λ moment is. let same_moment : now ≡ moment = cc in omega arith) was.1.1 left) (λ is. cc);
        living = λ l. not_ended (bare kinds.LeaseGone) l;
      };
      out = λ l. not_ended (bare kinds.LeaseGone) l;
    })
    (λ row x out. record {
      ticking = x.ticking;
      out = λ live. rw (and_second (is_live row) (has_lease number row) live out) (x.out live);
    })
    h

all_leases : (c : Connection) (journal : List Entry) (t : Table) (actor now : ℕ) (answer : Answer) (m : LeaseTable) (gone numbers : List ℕ) (requests : Requests) → (let e : Entry = record { actor = actor; event = events.Tick now; answer = answer } in t.leases ≡ leases_of c.settings journal → m ≡ leases_of c.settings (journal ++ e ∷ []) → EachNumber (λ n. list_any (has_number n) m.held ≡ false) numbers → Each (Gone_rows c journal e now t.leases gone) requests.rows → Each (Gone_rows c journal e now t.leases (reverse_onto numbers gone)) (end_leases numbers requests).rows)
all_leases c journal t actor now answer m gone [] requests before after none h = h
all_leases c journal t actor now answer m gone (n ∷ ns) requests before after none h =
    all_leases c journal t actor now answer m (n ∷ gone) ns (end_all (has_lease n) kinds.LeaseGone requests) before after none.1 (one_lease c journal t actor now answer m gone n requests before after none.0 h)

pub tick_rows : (c : Connection) (journal : List Entry) (t : Table) (actor now : ℕ) (answer : Answer) → (let e : Entry = record { actor = actor; event = events.Tick now; answer = answer } in IsLeaseTable t.leases → t.leases ≡ leases_of c.settings journal → (ticked now (at_moment now t)).leases ≡ leases_of c.settings (journal ++ e ∷ []) → RowsOf c journal t → RowsOf c (journal ++ e ∷ []) (ticked now (at_moment now t)))
tick_rows c journal t actor now answer table before after h =
    let e : Entry = record { actor = actor; event = events.Tick now; answer = answer } in
    let numbers = due_numbers now t.leases.held in
    let m = granted_all (due_dropped t.leases now) (max t.clock now) in
    let expired = end_all (is_due now) kinds.Expired t.requests in
    let first = each_same (Ticking c journal e now t.leases) (Gone_rows c journal e now t.leases []) expired.rows (λ row x. record { ticking = x; out = λ live. refl }) (tick_first c journal t actor now answer h) in
    let rest = all_leases c journal t actor now answer m [] numbers expired before after (due_are_gone t.leases now (max t.clock now) table) first in
    each_same (Gone_rows c journal e now t.leases (reverse_onto numbers [])) (RowFacts c (journal ++ e ∷ []) m) (end_leases numbers expired).rows
    (λ row x. record {
      law = x.ticking.law;
      held = λ live. any_left (has_number row.lease) (due_dropped t.leases now).held _ (left_held row.lease now t.leases.held (x.ticking.living live).1.1 (none_reversed (λ n. row.lease == n) numbers [] (x.out live)));
    })
    rest
