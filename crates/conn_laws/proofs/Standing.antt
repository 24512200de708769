-- What the places of a journal say of each row, and of each reference, after any walk.
use Rattle.std.proofs.Common.{◌≡◌, ◌⊎◌, inl, inr, ℕ, ◌+◌, ◌<◌, ◌≤◌, Bool, true, false, List, [], ◌∷◌, ◌++◌, length, take, refl, sym, ap, subst, ◌∙◌, arith, Some, None, length-append}
use Rattle.std.specs.Prelude.{◌==◌, is_some}
use Rattle.std.specs.List.{list_any, slice_get}
use Rattle.std.proofs.lemmas.Bool.{cases_lt}
use Rattle.lease_core.specs.LeaseSteps.{cleared}
use Rattle.lease_core.specs.LeaseTables.{Lease, LeaseTable, has_number}
use Rattle.txn_core.specs.RowTables.{Row, is_live, is_queued, is_reference, phase_live, phase_queued}
use Rattle.txn_core.specs.declared.phases.Phase.{Phase}
use Rattle.txn_core.specs.declared.phases.Phase.TheVariants.{Queued, Sent, Ended}
use Rattle.wire_frames.specs.declared.asks.Ask.{Ask}
use Rattle.wire_frames.specs.declared.ends.EndKind.{EndKind}
use Rattle.wire_frames.specs.declared.ends.Outcome.{Outcome}
use Rattle.wire_frames.specs.declared.ends.Reason.{Reason}
use Rattle.conn_core.specs.Ends as ends
use Rattle.conn_core.specs.Ends.{EndsAs, EndsUnanswered, IsEndPlace, IsOutcome, lease_stands_after, request_deadline}
use Rattle.conn_core.specs.Entries.{closes, closing_reason}
use Rattle.conn_core.specs.HistoryLaw.{Awaited}
use Rattle.conn_core.specs.LeasePlaces.{held_after, leases_after}
use Rattle.conn_core.specs.Places.{SentAt, Submitted}
use Rattle.conn_core.specs.RowLaw.{IsFitted, IsOutcomeOf, IsPhaseOf, IsUnanswered}
use Rattle.conn_core.specs.Steps.{bare, step}
use Rattle.conn_core.specs.Tables.{Connection, Handed, Requests, Table}
use Rattle.conn_core.specs.declared.entries.Answer.{Answer}
use Rattle.conn_core.specs.declared.entries.Answer.TheVariants as answers
use Rattle.conn_core.specs.declared.entries.Entry.{Entry}
use Rattle.conn_core.specs.declared.entries.Event.{Event}
use Rattle.conn_core.specs.declared.entries.Event.TheVariants as events
use Rattle.conn_core.proofs.RowLaws.{Known}
use Rattle.conn_core.proofs.RowPlaces.{submitted_low}
use Rattle.conn_core.proofs.RowWalk.{RowFacts}
use Rattle.conn_core.proofs.StepLaws.{Follows, follows, get_place, take_whole}
use Rattle.conn_laws.proofs.Fates.{Came, Kin, came, cancel_ends, comes, frame_ends, sends, stayed, tick_ends, was_live}
use Rattle.conn_laws.proofs.Members.{In, in_each}
use Rattle.conn_laws.proofs.OtherPlaces.{Alike, IsSame, alike_get, alike_more, deadline_same, end_over, ends_low, ends_over, moved, moved_same, same_request, turned}
use Rattle.conn_laws.proofs.RowEffects.{Accepts, effect}
use Rattle.conn_laws.proofs.RowsKept.{Facts, not_both}
use Rattle.conn_laws.proofs.Slack as turns
use Rattle.conn_laws.proofs.Slack.{Refs, Turn, UsesLaw, refs, slack, uses_parts}

-- a reference is out: it can neither be drawn nor sent under
abbrev pub IsOut : ℕ → Requests → Type 0
IsOut r t = (is_reference r t ≡ true) × (slack r t ≡ 0)

abbrev pub HasOutcome : Connection → List Entry → ℕ → Outcome → Type 0
HasOutcome c journal id o = (r : Submitted journal id) × (k : ℕ) × IsOutcome c journal id r k o

pub record Standing (c : Connection) (journal : List Entry) (t : Table) : Type 0 where
  -- nothing has ended the request of a live row
  pub live : (row : Row Handed Outcome) (id : ℕ) → In row t.requests.rows → is_live row ≡ true → row.id ≡ id → (r : Submitted journal id) (j : ℕ) (kind : EndKind) → r.place < j → ¬ EndsAs c journal id r j kind
  -- the request of an ended row has an end place, with the row's outcome
  pub ended : (row : Row Handed Outcome) (o : Outcome) → In row t.requests.rows → row.phase ≡ Ended o → HasOutcome c journal row.id o
  -- what was sent was accepted before, and a queued row wasn't sent
  pub sent_accepted : (id k : ℕ) → SentAt journal id k → (r : Submitted journal id) × (r.place < k)
  pub unsent : (row : Row Handed Outcome) (id k : ℕ) → In row t.requests.rows → is_queued row ≡ true → row.id ≡ id → ¬ SentAt journal id k
  -- each reference is used once at most, and those that are awaited are out
  pub uses : UsesLaw t.requests
  pub awaited : (r : ℕ) → Awaited c journal r → IsOut r t.requests
  pub out : (r : ℕ) → IsOut r t.requests → Awaited c journal r

-- one entry more
pub record Went (c : Connection) (journal : List Entry) (t : Table) (e : Entry) (u : Table) : Type 0 where
  pub before : Known c journal t
  pub after : Known c (journal ++ e ∷ []) u
  pub rows : Facts journal t
  pub rows_after : Facts (journal ++ e ∷ []) u
  pub standing : Standing c journal t
  pub stepped : step c t e.actor e.event ≡ Some (u, e.answer)

-- ---- the new entry

pub longer : (journal : List Entry) (e : Entry) → length (journal ++ e ∷ []) ≡ length journal + 1
longer journal e = let long = length-append journal (e ∷ []) in omega arith

pub last_is : (journal : List Entry) (e x : Entry) (j : ℕ) → slice_get (journal ++ e ∷ []) j ≡ Some x → length journal ≤ j → e ≡ x
last_is journal e x j at high =
    elim (get_place journal e x j at) [ inl both ↦ (let low = both.0 in absurd (omega arith)) | inr both ↦ both.1 ]

-- what an entry has, and what it doesn't
entry_event : (e : Entry) (actor : ℕ) (event : Event) (answer : Answer) → e ≡ record { actor = actor; event = event; answer = answer } → (e.event ≡ event) × (e.answer ≡ answer)
entry_event e actor event answer is = (ap (λ (x : Entry). x.event) is, ap (λ (x : Entry). x.answer) is)

pub sent_last : (journal : List Entry) (e : Entry) (id k : ℕ) → SentAt (journal ++ e ∷ []) id k → length journal ≤ k → (e.event ≡ events.TakeSend) × (e.answer ≡ answers.Sent id)
sent_last journal e id k s high = entry_event e s.actor events.TakeSend (answers.Sent id) (last_is journal e _ k s.stands high)

pub older : (journal : List Entry) (e : Entry) (id : ℕ) (r : Submitted (journal ++ e ∷ []) id) → r.place < length journal → (s : Submitted journal id) × IsSame r s
older journal e id r low =
    let alike = sym (alike_more journal e) in
    (moved (journal ++ e ∷ []) journal (length journal) id alike r low, moved_same (journal ++ e ∷ []) journal (length journal) id alike r low)

pub newer : (journal : List Entry) (e : Entry) (id : ℕ) (r : Submitted journal id) → r.place < length journal → (s : Submitted (journal ++ e ∷ []) id) × IsSame r s
newer journal e id r low =
    let alike = alike_more journal e in
    (moved journal (journal ++ e ∷ []) (length journal) id alike r low, moved_same journal (journal ++ e ∷ []) (length journal) id alike r low)

-- a new id has no place yet
pub new_id : {Y : Type 0} (c : Connection) (journal : List Entry) (t : Table) (e : Entry) (u : Table) (id : ℕ) → Went c journal t e u → Accepts e id → Submitted journal id → Y
new_id c journal t e u id w a r =
    let low = w.rows.low id r in
    let is = ((effect c t u e.actor e.event e.answer w.before.law.within.ids w.stepped).accepts id a).0 in
    absurd (omega arith)

pub came_to : (c : Connection) (journal : List Entry) (t : Table) (e : Entry) (u : Table) → Went c journal t e u → (next : Row Handed Outcome) → In next u.requests.rows → Came t e next
came_to c journal t e u w = came c t u e.actor e.event e.answer w.stepped

pub turn_of : (c : Connection) (journal : List Entry) (t : Table) (e : Entry) (u : Table) → Went c journal t e u → Refs c e t.requests u.requests
turn_of c journal t e u w = refs c t u e.actor e.event e.answer w.before.law.within.ids w.stepped

-- ---- live rows

queued_is_live : (phase : Phase Outcome) → phase_queued phase ≡ true → phase_live phase ≡ true
queued_is_live Queued e = refl
queued_is_live Sent e = refl
queued_is_live (Ended o) e = absurd (cc)

-- a live row was live, or it is new
pub record WasLive (t : Table) (next : Row Handed Outcome) : Type 0 where
  pub row : Row Handed Outcome
  pub here : In row t.requests.rows
  pub live : is_live row ≡ true
  pub kin : Kin row next

pub came_live : (t : Table) (e : Entry) (next : Row Handed Outcome) → Came t e next → is_live next ≡ true → WasLive t next ⊎ Accepts e next.id
came_live t e next (stayed x) live = inl (record { row = x.row; here = x.here; live = was_live x.row next x.phase live; kin = x.kin })
came_live t e next (sends row here kin queued phase event answer) live = inl (record { row = row; here = here; live = queued_is_live row.phase queued; kin = kin })
came_live t e next (comes a phase refers) live = inr a

-- the row's request, as any other of the id
pub row_law : (c : Connection) (journal : List Entry) (t : Table) (row : Row Handed Outcome) → Known c journal t → In row t.requests.rows → RowFacts c journal t.leases row
row_law c journal t row k here = in_each (RowFacts c journal t.leases) t.requests.rows row k.rows here

pub own_request : (c : Connection) (journal : List Entry) (t : Table) (row : Row Handed Outcome) (id : ℕ) → Known c journal t → Facts journal t → In row t.requests.rows → row.id ≡ id → (r : Submitted journal id) → (r.reference ≡ row.reference) × (row.deadline ≡ request_deadline r) × (r.lease ≡ row.lease)
own_request c journal t row id k f here same r =
    let law = (row_law c journal t row k here).law in
    let P : ℕ → Type 0 = λ n. (s : Submitted journal n) → (s.reference ≡ row.reference) × (row.deadline ≡ request_deadline s) × (s.lease ≡ row.lease) in
    let of_row : P row.id = λ s.
    let one = same_request journal row.id s law.request (f.accepted_once row.id s law.request) in
    let n = length journal in
    let low : law.request.place < n = submitted_low journal row.id law.request in
    (one.reference ∙ law.reference, law.deadline ∙ deadline_same journal journal n row.id refl law.request s (turned s law.request one) low, one.lease ∙ law.lease) in
    subst P same of_row r

-- ---- no live row has ended

gone_leases : (c : Connection) (t u : Table) (e : Entry) (reason : Reason) (n : ℕ) → Follows t e u → closing_reason e ≡ Some reason → list_any (has_number n) u.leases.held ≡ false
gone_leases c t u e reason n f closing =
    let shut : closes e ≡ true = ap is_some closing in
    let none : leases_after u.clock t.leases e ≡ cleared t.leases = rw shut refl in
    ap (λ (l : LeaseTable). list_any (has_number n) l.held) (f.leases ∙ none)

follows_of : (c : Connection) (journal : List Entry) (t : Table) (e : Entry) (u : Table) → Went c journal t e u → Follows t e u
follows_of c journal t e u w = follows c t u e.actor e.event e.answer w.stepped

pub step_as : (c : Connection) (t u : Table) (e x : Entry) → e ≡ x → step c t e.actor e.event ≡ Some (u, e.answer) → step c t x.actor x.event ≡ Some (u, x.answer)
step_as c t u e x is h = let P : Entry → Type 0 = λ y. step c t y.actor y.event ≡ Some (u, y.answer) in subst P is h

still_held : (c : Connection) (journal : List Entry) (t : Table) (e : Entry) (u : Table) → Went c journal t e u → (row : Row Handed Outcome) (id : ℕ) → In row u.requests.rows → is_live row ≡ true → row.id ≡ id → (r : Submitted (journal ++ e ∷ []) id) (k : ℕ) → k ≡ length journal → lease_stands_after c r (k + 1) ≡ true
still_held c journal t e u w row id here live same r k is =
    let all = journal ++ e ∷ [] in
    let own = own_request c all u row id w.after w.rows_after here same r in
    let long = longer journal e in
    let whole : take (k + 1) all ≡ all = take_whole all (k + 1) (omega arith) in
    ap (λ (xs : List Entry). list_any (λ (held : Lease). held.number == r.lease) (held_after c.settings xs)) whole
    ∙ ap (λ (l : LeaseTable). list_any (λ (held : Lease). held.number == r.lease) l.held) (sym w.after.law.leases)
    ∙ ap (λ n. list_any (λ (held : Lease). held.number == n) u.leases.held) own.2
    ∙ (row_law c all u row w.after here).held live

here_unanswered : (c : Connection) (journal : List Entry) (t : Table) (e : Entry) (u : Table) → Went c journal t e u → (row : Row Handed Outcome) (id : ℕ) → In row u.requests.rows → is_live row ≡ true → row.id ≡ id → (r : Submitted (journal ++ e ∷ []) id) (k : ℕ) (kind : EndKind) → k ≡ length journal → EndsUnanswered c (journal ++ e ∷ []) id r k kind → ⊥
here_unanswered c journal t e u w row id here live same r k _ is (ends.cancelled actor at) =
    let stepped = step_as c t u e _ (last_is journal e _ k at (omega arith)) w.stepped in
    not_both (is_live row) live (cancel_ends c t u actor id answers.Cancelled row stepped here same)
here_unanswered c journal t e u w row id here live same r k _ is (ends.expired actor now answer at due) =
    let stepped = step_as c t u e _ (last_is journal e _ k at (omega arith)) w.stepped in
    let early = tick_ends c t u actor now answer row stepped here live in
    let own = (own_request c (journal ++ e ∷ []) u row id w.after w.rows_after here same r).1 in
    absurd (omega arith)
here_unanswered c journal t e u w row id here live same r k _ is (ends.lease_gone x at unclosed in_time before after) =
    not_both (lease_stands_after c r (k + 1)) (still_held c journal t e u w row id here live same r k is) after
here_unanswered c journal t e u w row id here live same r k _ is (ends.lost x reason at closing) =
    let own_entry = last_is journal e x k at (omega arith) in
    let gone = gone_leases c t u e reason row.lease (follows_of c journal t e u w) (ap closing_reason own_entry ∙ closing) in
    not_both (list_any (has_number row.lease) u.leases.held) ((row_law c (journal ++ e ∷ []) u row w.after here).held live) gone

here_ends : (c : Connection) (journal : List Entry) (t : Table) (e : Entry) (u : Table) → Went c journal t e u → (row : Row Handed Outcome) (id : ℕ) → In row u.requests.rows → is_live row ≡ true → row.id ≡ id → (r : Submitted (journal ++ e ∷ []) id) (k : ℕ) (kind : EndKind) → k ≡ length journal → EndsAs c (journal ++ e ∷ []) id r k kind → ⊥
here_ends c journal t e u w row id here live same r k _ is (ends.answered actor bytes kind at) =
    let stepped = step_as c t u e _ (last_is journal e _ k at (omega arith)) w.stepped in
    not_both (is_live row) live (frame_ends c t u actor bytes id kind row stepped here same)
here_ends c journal t e u w row id here live same r k _ is (ends.unanswered kind x) = here_unanswered c journal t e u w row id here live same r k kind is x

-- of a request whose row was live nothing before the new entry is an end
none_before : (c : Connection) (journal : List Entry) (t : Table) (e : Entry) (u : Table) → Went c journal t e u → (row : Row Handed Outcome) (id : ℕ) → In row t.requests.rows → is_live row ≡ true → row.id ≡ id → (r : Submitted (journal ++ e ∷ []) id) (j : ℕ) (kind : EndKind) → r.place < j → j < length journal → ¬ EndsAs c (journal ++ e ∷ []) id r j kind
none_before c journal t e u w row id here live same r j kind after low = λ x.
    let old = older journal e id r (omega arith) in
    let place = old.1.place in
    w.standing.live row id here live same old.0 j kind (omega arith)
    (ends_over c (journal ++ e ∷ []) journal (length journal) id (sym (alike_more journal e)) r old.0 old.1 (omega arith) j kind low x)

pub live_more : (c : Connection) (journal : List Entry) (t : Table) (e : Entry) (u : Table) → Went c journal t e u → (row : Row Handed Outcome) (id : ℕ) → In row u.requests.rows → is_live row ≡ true → row.id ≡ id → (r : Submitted (journal ++ e ∷ []) id) (j : ℕ) (kind : EndKind) → r.place < j → ¬ EndsAs c (journal ++ e ∷ []) id r j kind
live_more c journal t e u w row id here live same r j kind after = λ x.
    let under = ends_low c (journal ++ e ∷ []) id r j kind x in
    let long = longer journal e in
    elim (cases_lt j (length journal)) [
      | inl low ↦ elim (came_live t e row (came_to c journal t e u w row here) live) [
        | inl was ↦ none_before c journal t e u w was.row id was.here was.live (sym was.kin.id ∙ same) r j kind after low x
        | inr new ↦ (
            let old = older journal e id r (omega arith) in
            let P : ℕ → Type 0 = Accepts e in
            new_id c journal t e u id w (subst P same new) old.0)
      ]
      | inr high ↦ here_ends c journal t e u w row id here live same r j kind (omega arith) x
    ]

-- ---- ended rows have their outcomes

pub outcome_over : (c : Connection) (journal other : List Entry) (n id : ℕ) → Alike journal other n → (r : Submitted journal id) (s : Submitted other id) → IsSame r s → (k : ℕ) (o : Outcome) → k < n → IsOutcome c journal id r k o → IsOutcome c other id s k o
outcome_over c journal other n id alike r s h k _ low (ends.fitted actor bytes kind reading at reads ending) =
    let there = end_over c journal other n id alike r s h k (c.wire.fit r.ask reading).kind low ending in
    let P : Ask → Type 0 = λ a. IsEndPlace c other id s k (c.wire.fit a reading).kind in
    let Q : Ask → Type 0 = λ a. IsOutcome c other id s k (c.wire.fit a reading) in
    subst Q (sym h.ask) (ends.fitted actor bytes kind reading (sym (alike_get journal other n k alike low) ∙ at) reads (subst P h.ask there))
outcome_over c journal other n id alike r s h k _ low (ends.bare kind ending none) =
    ends.bare kind (end_over c journal other n id alike r s h k kind low ending) (λ actor bytes by at. none actor bytes by (alike_get journal other n k alike low ∙ at))

pub outcome_low : (c : Connection) (journal : List Entry) (id : ℕ) (r : Submitted journal id) (k : ℕ) (o : Outcome) → IsOutcome c journal id r k o → k < length journal
outcome_low c journal id r k _ (ends.fitted actor bytes kind reading at reads ending) = ends_low c journal id r k _ ending.ends
outcome_low c journal id r k _ (ends.bare kind ending none) = ends_low c journal id r k kind ending.ends

old_outcome : (c : Connection) (journal : List Entry) (e : Entry) (id : ℕ) (o : Outcome) → HasOutcome c journal id o → HasOutcome c (journal ++ e ∷ []) id o
old_outcome c journal e id o h =
    let low = submitted_low journal id h.0 in
    let new = newer journal e id h.0 low in
    (new.0, h.1, outcome_over c journal (journal ++ e ∷ []) (length journal) id (alike_more journal e) h.0 new.0 new.1 h.1 o (outcome_low c journal id h.0 h.1 o h.2) h.2)

-- the new entry ends the request whose row was live
end_here : (c : Connection) (journal : List Entry) (t : Table) (e : Entry) (u : Table) → Went c journal t e u → (row : Row Handed Outcome) (id : ℕ) → In row t.requests.rows → is_live row ≡ true → row.id ≡ id → (r : Submitted (journal ++ e ∷ []) id) (k : ℕ) (kind : EndKind) → r.place < k → EndsAs c (journal ++ e ∷ []) id r k kind → (k ≡ length journal) × IsEndPlace c (journal ++ e ∷ []) id r k kind
end_here c journal t e u w row id here live same r k kind after x =
    let under = ends_low c (journal ++ e ∷ []) id r k kind x in
    let long = longer journal e in
    let is : k ≡ length journal = elim (cases_lt k (length journal)) [
      | inl low ↦ absurd (none_before c journal t e u w row id here live same r k kind after low x)
      | inr high ↦ omega arith
    ] in (
      is,
      record {
        after = after;
        ends = x;
        first = λ j other behind before y. none_before c journal t e u w row id here live same r j other behind (omega arith) y;
      },
    )

sent_after : (c : Connection) (journal : List Entry) (t : Table) (id k : ℕ) → Facts journal t → ((n j : ℕ) → SentAt journal n j → (r : Submitted journal n) × (r.place < j)) → (r : Submitted journal id) → SentAt journal id k → r.place < k
sent_after c journal t id k f sent r s =
    let before = sent id k s in
    let same = f.accepted_once id r before.0 in
    let low = before.1 in omega arith

-- what stands at an answered place ends no request without a reply
not_answered : (c : Connection) (journal : List Entry) (t : Table) (e : Entry) (u : Table) → Went c journal t e u → (id : ℕ) (r : Submitted (journal ++ e ∷ []) id) (k : ℕ) (kind : EndKind) → k ≡ length journal → EndsUnanswered c (journal ++ e ∷ []) id r k kind → (actor : ℕ) (bytes : List ℕ) (by : EndKind) → e ≡ record { actor = actor; event = events.Frame bytes; answer = answers.Ended id by } → ⊥
not_answered c journal t e u w id r k _ is (ends.cancelled a at) actor bytes by frame =
    let other = last_is journal e _ k at (omega arith) in
    turns.event_not (events.Frame bytes) (events.Cancel id) turns.comes_by refl refl (sym (ap (λ (x : Entry). x.event) frame) ∙ ap (λ (x : Entry). x.event) other)
not_answered c journal t e u w id r k _ is (ends.expired a now answer at due) actor bytes by frame =
    let other = last_is journal e _ k at (omega arith) in
    turns.event_not (events.Frame bytes) (events.Tick now) turns.comes_by refl refl (sym (ap (λ (x : Entry). x.event) frame) ∙ ap (λ (x : Entry). x.event) other)
not_answered c journal t e u w id r k _ is (ends.lease_gone x at unclosed in_time before after) actor bytes by frame =
    let all = journal ++ e ∷ [] in
    let f = follows_of c journal t e u w in
    let stay : leases_after u.clock t.leases e ≡ t.leases = ap (leases_after u.clock t.leases) frame in
    let long = longer journal e in
    let front : take k all ≡ journal = sym (ap (λ n. take n all) (sym is)) ∙ sym (alike_more journal e) ∙ take_whole journal (length journal) refl in
    let whole : take (k + 1) all ≡ all = take_whole all (k + 1) (omega arith) in
    let held : List Lease → Bool = λ xs. list_any (λ (l : Lease). l.number == r.lease) xs in
    let same : lease_stands_after c r k ≡ lease_stands_after c r (k + 1) =
    ap (λ (xs : List Entry). held (held_after c.settings xs)) front
    ∙ ap (λ (l : LeaseTable). held l.held) (sym w.before.law.leases ∙ sym stay ∙ sym f.leases ∙ w.after.law.leases)
    ∙ ap (λ (xs : List Entry). held (held_after c.settings xs)) (sym whole) in
    not_both (lease_stands_after c r (k + 1)) (sym same ∙ before) after
not_answered c journal t e u w id r k _ is (ends.lost x reason at closing) actor bytes by frame =
    let other = last_is journal e x k at (omega arith) in
    let none : closing_reason e ≡ None = ap closing_reason frame in
    let some : closing_reason e ≡ Some reason = ap closing_reason other ∙ closing in
    absurd (cc)

fitted_end : (c : Connection) (journal : List Entry) (t : Table) (e : Entry) (u : Table) → Went c journal t e u → ((n j : ℕ) → SentAt (journal ++ e ∷ []) n j → (r : Submitted (journal ++ e ∷ []) n) × (r.place < j)) → (row : Row Handed Outcome) (id : ℕ) → In row t.requests.rows → is_live row ≡ true → row.id ≡ id → (r : Submitted (journal ++ e ∷ []) id) (o : Outcome) → IsFitted c (journal ++ e ∷ []) id r o → HasOutcome c (journal ++ e ∷ []) id o
fitted_end c journal t e u w sent row id here live same r o f =
    let all = journal ++ e ∷ [] in
    let behind = sent_after c all u id f.sent w.rows_after sent r f.sent_at in
    let after = f.after in
    let ending = end_here c journal t e u w row id here live same r f.place o.kind (omega arith) (ends.answered f.actor f.bytes o.kind f.stands) in
    let P : Outcome → Type 0 = HasOutcome c all id in
    let Q : EndKind → Type 0 = IsEndPlace c all id r f.place in
    subst P (sym f.fits) (r, f.place, ends.fitted f.actor f.bytes o.kind f.reading f.stands f.reads (subst Q (ap (λ (x : Outcome). x.kind) f.fits) ending.1))

bare_end : (c : Connection) (journal : List Entry) (t : Table) (e : Entry) (u : Table) → Went c journal t e u → (row : Row Handed Outcome) (id : ℕ) → In row t.requests.rows → is_live row ≡ true → row.id ≡ id → (r : Submitted (journal ++ e ∷ []) id) (o : Outcome) → IsUnanswered c (journal ++ e ∷ []) id r o.kind → o.values ≡ [] → HasOutcome c (journal ++ e ∷ []) id o
bare_end c journal t e u w row id here live same r o x none =
    let all = journal ++ e ∷ [] in
    let ending = end_here c journal t e u w row id here live same r x.place o.kind x.behind (ends.unanswered o.kind x.ends) in
    let is = ending.0 in
    let P : Outcome → Type 0 = HasOutcome c all id in
    let as_bare : bare o.kind ≡ o = ap (λ vs. let y : Outcome = record { kind = o.kind; values = vs } in y) (sym none) in
    subst P as_bare (
      r,
      x.place,
      ends.bare o.kind ending.1 (λ actor bytes by at. not_answered c journal t e u w id r x.place o.kind is x.ends actor bytes by (last_is journal e _ x.place at (omega arith))),
    )

ended_by_law : (c : Connection) (journal : List Entry) (t : Table) (e : Entry) (u : Table) → Went c journal t e u → ((n j : ℕ) → SentAt (journal ++ e ∷ []) n j → (r : Submitted (journal ++ e ∷ []) n) × (r.place < j)) → (row : Row Handed Outcome) (id : ℕ) → In row t.requests.rows → is_live row ≡ true → row.id ≡ id → (r : Submitted (journal ++ e ∷ []) id) (o : Outcome) → IsOutcomeOf c r o → HasOutcome c (journal ++ e ∷ []) id o
ended_by_law c journal t e u w sent row id here live same r o (inl f) = fitted_end c journal t e u w sent row id here live same r o f
ended_by_law c journal t e u w sent row id here live same r o (inr b) = bare_end c journal t e u w row id here live same r o b.0 b.1

pub ended_more : (c : Connection) (journal : List Entry) (t : Table) (e : Entry) (u : Table) → Went c journal t e u → ((n j : ℕ) → SentAt (journal ++ e ∷ []) n j → (r : Submitted (journal ++ e ∷ []) n) × (r.place < j)) → (next : Row Handed Outcome) (o : Outcome) → In next u.requests.rows → next.phase ≡ Ended o → Came t e next → HasOutcome c (journal ++ e ∷ []) next.id o
ended_more c journal t e u w sent next o here ended (stayed x) =
    let P : ℕ → Type 0 = λ n. HasOutcome c (journal ++ e ∷ []) n o in
    elim x.phase [
      | inl same ↦ subst P (sym x.kin.id) (old_outcome c journal e x.row.id o (w.standing.ended x.row o x.here (sym same ∙ ended)))
      | inr gone ↦ (
          let law = (row_law c (journal ++ e ∷ []) u next w.after here).law in
          let Q : Phase Outcome → Type 0 = IsPhaseOf c law.request in
          ended_by_law c journal t e u w sent x.row next.id x.here gone.0 (sym x.kin.id) law.request o (subst Q ended law.phase))
    ]
ended_more c journal t e u w sent next o here ended (sends row there kin queued phase event answer) = let both : Sent ≡ Ended o = sym phase ∙ ended in absurd (cc)
ended_more c journal t e u w sent next o here ended (comes a phase refers) = let both : Queued ≡ Ended o = sym phase ∙ ended in absurd (cc)
