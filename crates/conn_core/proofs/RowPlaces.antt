-- What the journal says of a request goes on to be said of it, entry by entry.
use Rattle.std.proofs.Common.{◌≡◌, inl, inr, ℕ, ◌+◌, ◌<◌, ◌≤◌, Bool, true, false, cond, List, [], ◌∷◌, ◌++◌, length, map, refl, sym, ap, subst, ◌∙◌, arith}
use Rattle.std.specs.Prelude.{◌==◌, filter, if◌then◌else◌}
use Rattle.std.specs.List.{list_any}
use Rattle.std.proofs.lemmas.Bool.{and_parts}
use Rattle.lease_core.specs.LeaseTables.{Lease, deadline_of}
use Rattle.txn_core.specs.RowSteps.{ended_phase, in_phase, in_phases}
use Rattle.txn_core.specs.RowTables.{Row, is_live, is_live_and}
use Rattle.txn_core.specs.declared.phases.Phase.{Phase}
use Rattle.txn_core.specs.declared.phases.Phase.TheVariants.{Queued, Sent, Ended}
use Rattle.wire_frames.specs.declared.ends.EndKind.{EndKind}
use Rattle.wire_frames.specs.declared.ends.EndKind.TheVariants as kinds
use Rattle.wire_frames.specs.declared.ends.Outcome.{Outcome}
use Rattle.conn_core.specs.Ends as ends
use Rattle.conn_core.specs.Ends.{EndsUnanswered, lease_stands_after, request_deadline}
use Rattle.conn_core.specs.Entries.{clock_of}
use Rattle.conn_core.specs.LeasePlaces.{held_after}
use Rattle.conn_core.specs.Places.{SentAt, Stands, Submitted}
use Rattle.conn_core.specs.RowLaw.{EachRow, IsFitted, IsPhaseOf, IsRowOf, IsUnanswered}
use Rattle.conn_core.specs.Steps.{bare}
use Rattle.conn_core.specs.Tables.{Connection, Handed}
use Rattle.conn_core.specs.declared.entries.Answer.TheVariants as answers
use Rattle.conn_core.specs.declared.entries.Entry.{Entry}
use Rattle.conn_core.specs.declared.entries.Event.TheVariants as events
use Rattle.conn_core.proofs.EntryLemmas.{get_low}
use Rattle.conn_core.proofs.StepLaws.{take_more}
use Rattle.conn_core.proofs.TurnLemmas.{get_more}

-- ---- one entry more

abbrev pub submitted_more : (journal : List Entry) (e : Entry) (id : ℕ) → Submitted journal id → Submitted (journal ++ e ∷ []) id
submitted_more journal e id r = record {
  place = r.place;
  actor = r.actor;
  lease = r.lease;
  ask = r.ask;
  timeout = r.timeout;
  now = r.now;
  reference = r.reference;
  frame = r.frame;
  stands = get_more journal (e ∷ []) r.place _ r.stands;
}

pub submitted_low : (journal : List Entry) (id : ℕ) (r : Submitted journal id) → r.place < length journal
submitted_low journal id r = get_low journal r.place _ r.stands

pub deadline_more : (journal : List Entry) (e : Entry) (id : ℕ) (r : Submitted journal id) → request_deadline (submitted_more journal e id r) ≡ request_deadline r
deadline_more journal e id r =
    let low = submitted_low journal id r in
    ap (λ (xs : List Entry). deadline_of (clock_of xs) r.timeout) (take_more journal e (r.place + 1) (omega arith))

stands_more_after : (c : Connection) (journal : List Entry) (e : Entry) (id : ℕ) (r : Submitted journal id) (k : ℕ) → k ≤ length journal → lease_stands_after c (submitted_more journal e id r) k ≡ lease_stands_after c r k
stands_more_after c journal e id r k low =
    ap (λ (xs : List Entry). list_any (λ (held : Lease). held.number == r.lease) (held_after c.settings xs)) (take_more journal e k low)

ends_more : (c : Connection) (journal : List Entry) (e : Entry) (id : ℕ) (r : Submitted journal id) (k : ℕ) (kind : EndKind) → EndsUnanswered c journal id r k kind → EndsUnanswered c (journal ++ e ∷ []) id (submitted_more journal e id r) k kind
ends_more c journal e id r k _ (ends.cancelled actor at) = ends.cancelled actor (get_more journal (e ∷ []) k _ at)
ends_more c journal e id r k _ (ends.expired actor now answer at due) =
    let P : ℕ → Type 0 = λ d. d ≤ now in
    ends.expired actor now answer (get_more journal (e ∷ []) k _ at) (subst P (sym (deadline_more journal e id r)) due)
ends_more c journal e id r k _ (ends.lease_gone x at unclosed before_deadline before after) =
    let low = get_low journal k x at in
    ends.lease_gone x (get_more journal (e ∷ []) k x at) unclosed
    (λ now is. let P : ℕ → Type 0 = λ d. now < d in subst P (sym (deadline_more journal e id r)) (before_deadline now is))
    (stands_more_after c journal e id r k (omega arith) ∙ before)
    (stands_more_after c journal e id r (k + 1) (omega arith) ∙ after)
ends_more c journal e id r k _ (ends.lost x reason at closing) = ends.lost x reason (get_more journal (e ∷ []) k x at) closing

sent_more : (journal : List Entry) (e : Entry) (id k : ℕ) → SentAt journal id k → SentAt (journal ++ e ∷ []) id k
sent_more journal e id k s = record { actor = s.actor; stands = get_more journal (e ∷ []) k _ s.stands }

fitted_more : (c : Connection) (journal : List Entry) (e : Entry) (id : ℕ) (r : Submitted journal id) (outcome : Outcome) → IsFitted c journal id r outcome → IsFitted c (journal ++ e ∷ []) id (submitted_more journal e id r) outcome
fitted_more c journal e id r outcome f = record {
  place = f.place;
  actor = f.actor;
  bytes = f.bytes;
  reading = f.reading;
  sent = f.sent;
  stands = get_more journal (e ∷ []) f.place _ f.stands;
  reads = f.reads;
  refers = f.refers;
  fits = f.fits;
  sent_at = sent_more journal e id f.sent f.sent_at;
  after = f.after;
}

unanswered_more : (c : Connection) (journal : List Entry) (e : Entry) (id : ℕ) (r : Submitted journal id) (kind : EndKind) → IsUnanswered c journal id r kind → IsUnanswered c (journal ++ e ∷ []) id (submitted_more journal e id r) kind
unanswered_more c journal e id r kind u = record {
  place = u.place;
  behind = u.behind;
  ends = ends_more c journal e id r u.place kind u.ends;
  own = λ is. get_more journal (e ∷ []) u.place _ (u.own is);
}

phase_more : (c : Connection) (journal : List Entry) (e : Entry) (id : ℕ) (r : Submitted journal id) (phase : Phase Outcome) → IsPhaseOf c r phase → IsPhaseOf c (submitted_more journal e id r) phase
phase_more c journal e id r Queued h = tt
phase_more c journal e id r Sent h = (h.0, sent_more journal e id h.0 h.1)
phase_more c journal e id r (Ended outcome) (inl f) = inl (fitted_more c journal e id r outcome f)
phase_more c journal e id r (Ended outcome) (inr u) = inr (unanswered_more c journal e id r outcome.kind u.0, u.1)

-- a row with another phase
pub row_with : (c : Connection) (journal : List Entry) (e : Entry) (row : Row Handed Outcome) (h : IsRowOf c journal row) (phase : Phase Outcome) → IsPhaseOf c (submitted_more journal e row.id h.request) phase → (let next : Row Handed Outcome = record row { phase = phase } in IsRowOf c (journal ++ e ∷ []) next)
row_with c journal e row h phase p = record {
  request = submitted_more journal e row.id h.request;
  actor = h.actor;
  lease = h.lease;
  ask = h.ask;
  frame = h.frame;
  reference = h.reference;
  deadline = h.deadline ∙ sym (deadline_more journal e row.id h.request);
  framed = h.framed;
  within = h.within;
  phase = p;
}

pub row_more : (c : Connection) (journal : List Entry) (e : Entry) (row : Row Handed Outcome) → IsRowOf c journal row → IsRowOf c (journal ++ e ∷ []) row
row_more c journal e row h = row_with c journal e row h row.phase (phase_more c journal e row.id h.request row.phase h.phase)

-- a row that ends without a reply by the new entry
pub row_bare : (c : Connection) (journal : List Entry) (e : Entry) (row : Row Handed Outcome) (h : IsRowOf c journal row) (kind : EndKind) → EndsUnanswered c (journal ++ e ∷ []) row.id (submitted_more journal e row.id h.request) (length journal) kind → (kind ≡ kinds.Cancelled → Stands (journal ++ e ∷ []) (length journal) h.request.actor (events.Cancel row.id) answers.Cancelled) → (let next : Row Handed Outcome = record row { phase = Ended (bare kind) } in IsRowOf c (journal ++ e ∷ []) next)
row_bare c journal e row h kind ending own =
    row_with c journal e row h (Ended (bare kind)) (inr (record { place = length journal; behind = submitted_low journal row.id h.request; ends = ending; own = own }, refl))

-- ---- each row

abbrev pub Each : (Row Handed Outcome → Type 0) → List (Row Handed Outcome) → Type 0
Each P rows = EachRow P rows

pub each_map : (P Q : Row Handed Outcome → Type 0) (f : Row Handed Outcome → Row Handed Outcome) (rows : List (Row Handed Outcome)) → ((row : Row Handed Outcome) → P row → Q (f row)) → Each P rows → Each Q (map f rows)
each_map P Q f [] step h = tt
each_map P Q f (row ∷ rows) step h = (step row h.0, each_map P Q f rows step h.1)

pub each_same : (P Q : Row Handed Outcome → Type 0) (rows : List (Row Handed Outcome)) → ((row : Row Handed Outcome) → P row → Q row) → Each P rows → Each Q rows
each_same P Q [] step h = tt
each_same P Q (row ∷ rows) step h = (step row h.0, each_same P Q rows step h.1)

each_if : (P : Row Handed Outcome → Type 0) (row : Row Handed Outcome) (rows : List (Row Handed Outcome)) (b : Bool) → P row → Each P rows → Each P (cond b (row ∷ rows) rows)
each_if P row rows true p h = (p, h)
each_if P row rows false p h = h

pub each_filter : (P : Row Handed Outcome → Type 0) (q : Row Handed Outcome → Bool) (rows : List (Row Handed Outcome)) → Each P rows → Each P (filter q rows)
each_filter P q [] h = tt
each_filter P q (row ∷ rows) h = each_if P row (filter q rows) (q row) h.0 (each_filter P q rows h.1)

pub each_split : (P : Row Handed Outcome → Type 0) (before : List (Row Handed Outcome)) (row : Row Handed Outcome) (after : List (Row Handed Outcome)) → Each P (before ++ row ∷ after) → Each P before × (P row × Each P after)
each_split P [] row after h = (tt, h)
each_split P (x ∷ xs) row after h = let rest = each_split P xs row after h.1 in ((h.0, rest.0), rest.1)

pub each_join : (P : Row Handed Outcome → Type 0) (before : List (Row Handed Outcome)) (row : Row Handed Outcome) (after : List (Row Handed Outcome)) → Each P before → P row → Each P after → Each P (before ++ row ∷ after)
each_join P [] row after b r a = (r, a)
each_join P (x ∷ xs) row after b r a = (b.0, each_join P xs row after b.1 r a)

-- a row that may end
pub ended_case : (Q : Row Handed Outcome → Type 0) (p : Row Handed Outcome → Bool) (o : Outcome) (row : Row Handed Outcome) (b : Bool) → is_live_and p row ≡ b → (is_live row ≡ true → p row ≡ true → (let next : Row Handed Outcome = record row { phase = Ended o } in Q next)) → (is_live_and p row ≡ false → Q row) → Q (in_phase (ended_phase p o) row)
ended_case Q p o row true is here other =
    let both = and_parts (is_live row) (p row) is in
    let R : Bool → Type 0 = λ x. (let next : Row Handed Outcome = record row { phase = if x then Ended o else row.phase } in Q next) in
    subst R (sym is) (here both.0 both.1)
ended_case Q p o row false is here other =
    let R : Bool → Type 0 = λ x. (let next : Row Handed Outcome = record row { phase = if x then Ended o else row.phase } in Q next) in
    subst R (sym is) (other is)

pub each_ended : (P Q : Row Handed Outcome → Type 0) (p : Row Handed Outcome → Bool) (o : Outcome) (rows : List (Row Handed Outcome)) → ((row : Row Handed Outcome) → P row → is_live row ≡ true → p row ≡ true → (let next : Row Handed Outcome = record row { phase = Ended o } in Q next)) → ((row : Row Handed Outcome) → P row → is_live_and p row ≡ false → Q row) → Each P rows → Each Q (in_phases (ended_phase p o) rows)
each_ended P Q p o rows here other h =
    each_map P Q (in_phase (ended_phase p o)) rows (λ row x. ended_case Q p o row (is_live_and p row) refl (here row x) (other row x)) h
