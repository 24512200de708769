-- What became of each request of a legal journal, and what its references are to its table.
use Rattle.std.proofs.Common.{◌≡◌, ◌⊎◌, inl, inr, ℕ, zero, suc, ◌+◌, ◌<◌, ◌≤◌, true, List, [], ◌∷◌, length, take, refl, sym, subst, ◌∙◌, arith, Some}
use Rattle.std.specs.Prelude.{◌==◌, count_by}
use Rattle.std.specs.List.{slice_get}
use Rattle.std.proofs.lemmas.Bool.{and_parts, eq-eqb, eqb-true}
use Rattle.std.proofs.lemmas.Bool.Decides.{nat_tests}
use Rattle.txn_core.specs.RowLaws.{quarantined_parts}
use Rattle.txn_core.specs.RowTables.{Row, has_id, has_reference, is_live, is_live_and, is_number, is_quarantined, is_queued, is_queued_and, is_reference, is_row_of, is_sent, is_sent_and, phase_live, phase_queued, phase_sent, uses_of}
use Rattle.txn_core.specs.declared.phases.Phase.{Phase}
use Rattle.txn_core.specs.declared.phases.Phase.TheVariants.{Queued, Sent, Ended}
use Rattle.wire_frames.specs.declared.ends.EndKind.{EndKind}
use Rattle.wire_frames.specs.declared.ends.Outcome.{Outcome}
use Rattle.conn_core.specs.Ends as ends
use Rattle.conn_core.specs.Ends.{EndsAs, IsEndPlace, IsOutcome}
use Rattle.conn_core.specs.HistoryLaw.{Awaited, IsFree, IsLate, IsUnended, Live, LiveSent}
use Rattle.conn_core.specs.Journals.{table_of}
use Rattle.conn_core.specs.Places.{Submitted}
use Rattle.conn_core.specs.Steps.{collect}
use Rattle.conn_core.specs.Tables.{Connection, Handed, IsSettings, Requests, Table}
use Rattle.conn_core.specs.declared.entries.Answer.{Answer}
use Rattle.conn_core.specs.declared.entries.Answer.TheVariants as answers
use Rattle.conn_core.specs.declared.entries.Entry.{Entry}
use Rattle.conn_core.specs.declared.entries.Event.TheVariants as events
use Rattle.conn_core.proofs.RowLaws.{row_found}
use Rattle.conn_core.proofs.RowWalk.{sent_phase_of}
use Rattle.conn_core.proofs.StepLaws.{Walked, collect_is_table, took, walked_steps}
use Rattle.conn_laws.proofs.Awaiting.{Knows, knows, knows_front, used_in}
use Rattle.conn_laws.proofs.Members.{In, count_in, in_any, in_count, in_found}
use Rattle.conn_laws.proofs.OtherPlaces.{IsSame, alike_front, end_over, ends_low, moved, moved_same, same_request}
use Rattle.conn_laws.proofs.Slack.{sent_uses, slack, uses_parts}
use Rattle.conn_laws.proofs.Standing.{HasOutcome, Standing, own_request, row_law}

-- ---- the entries before a place

pub front_get : {X : Type 0} (xs : List X) (k j : ℕ) (x : X) → slice_get (take k xs) j ≡ Some x → (j < k) × (slice_get xs j ≡ Some x)
front_get xs zero j x e = absurd (cc)
front_get [] (suc k) j x e = absurd (cc)
front_get (y ∷ ys) (suc k) zero x e = (omega arith, e)
front_get (y ∷ ys) (suc k) (suc j) x e = let rest = front_get ys k j x e in let low = rest.0 in (omega arith, rest.1)

pub front_few : {X : Type 0} (k : ℕ) (xs : List X) → length (take k xs) ≤ k
front_few zero xs = omega arith
front_few (suc k) [] = omega arith
front_few (suc k) (x ∷ xs) = let rest = front_few k xs in omega arith

-- a request of the front is one of the journal, and so is its end
pub record Up (journal : List Entry) (k id : ℕ) (r : Submitted (take k journal) id) : Type 0 where
  pub request : Submitted journal id
  pub same : IsSame r request
  pub low : request.place < k

pub up : (journal : List Entry) (k id : ℕ) (r : Submitted (take k journal) id) → Up journal k id r
up journal k id r =
    let low = (front_get journal k r.place _ r.stands).0 in
    record {
      request = moved (take k journal) journal k id (alike_front journal k) r low;
      same = moved_same (take k journal) journal k id (alike_front journal k) r low;
      low = low;
    }

pub end_up : (c : Connection) (journal : List Entry) (k id : ℕ) (r : Submitted (take k journal) id) (s : Submitted journal id) → IsSame r s → (j : ℕ) (kind : EndKind) → IsEndPlace c (take k journal) id r j kind → (j < k) × IsEndPlace c journal id s j kind
end_up c journal k id r s same j kind e =
    let under = ends_low c (take k journal) id r j kind e.ends in
    let few = front_few k journal in
    (omega arith, end_over c (take k journal) journal k id (alike_front journal k) r s same j kind (omega arith) e)

-- one end of two that tell the same request
pub end_same : (c : Connection) (journal : List Entry) (id : ℕ) (r s : Submitted journal id) → IsSame r s → (j : ℕ) (kind : EndKind) → IsEndPlace c journal id r j kind → IsEndPlace c journal id s j kind
end_same c journal id r s same j kind e = end_over c journal journal (j + 1) id refl r s same j kind (omega arith) e

-- ---- ends

pub outcome_end : (c : Connection) (journal : List Entry) (id : ℕ) (r : Submitted journal id) (k : ℕ) (o : Outcome) → IsOutcome c journal id r k o → IsEndPlace c journal id r k o.kind
outcome_end c journal id r k _ (ends.fitted actor bytes kind reading at reads ending) = ending
outcome_end c journal id r k _ (ends.bare kind ending none) = ending

-- the row that is collected
pub record Taken (t : Table) (actor id : ℕ) (answer : Answer) : Type 0 where
  pub row : Row Handed Outcome
  pub here : In row t.requests.rows
  pub same : row.id ≡ id
  pub own : row.owner ≡ actor
  pub outcome : Outcome
  pub ended : row.phase ≡ Ended outcome
  pub told : answer ≡ answers.Collected outcome.kind

pub taken_row : (c : Connection) (journal : List Entry) (k actor id : ℕ) (answer : Answer) → Walked c journal → slice_get journal k ≡ Some (record { actor = actor; event = events.Collect id; answer = answer }) → Taken (table_of c (take k journal)) actor id answer
taken_row c journal k actor id answer w at =
    let t = table_of c (take k journal) in
    let stepped = walked_steps c journal w k _ at in
    let took_it = took (λ (o : Outcome). answers.Collected o.kind) (collect t actor id) _ answer stepped in
    let found = row_found t actor id (Ended took_it.given) (collect_is_table t _ actor id took_it.given took_it.is).1 in
    let there = in_found (is_row_of actor id) t.requests.rows found.0 found.1 in
    let both = and_parts (found.0.id == id) (found.0.owner == actor) there.1 in
    record {
      row = found.0;
      here = there.0;
      same = eqb-true found.0.id id both.0;
      own = eqb-true found.0.owner actor both.1;
      outcome = took_it.given;
      ended = found.2;
      told = sym took_it.told;
    }

-- a collection stands after the end, and gives its kind
pub record Collection (c : Connection) (journal : List Entry) (k actor id : ℕ) (answer : Answer) : Type 0 where
  pub request : Submitted journal id
  pub own : request.actor ≡ actor
  pub place : ℕ
  pub before : place < k
  pub outcome : Outcome
  pub told : answer ≡ answers.Collected outcome.kind
  pub ending : IsEndPlace c journal id request place outcome.kind

pub collection : (c : Connection) (journal : List Entry) (k actor id : ℕ) (answer : Answer) → IsSettings c.settings → Walked c journal → slice_get journal k ≡ Some (record { actor = actor; event = events.Collect id; answer = answer }) → Collection c journal k actor id answer
collection c journal k actor id answer s w at =
    let t = table_of c (take k journal) in
    let known = knows_front c journal k _ s w at in
    let taken = taken_row c journal k actor id answer w at in
    let law = (row_law c (take k journal) t taken.row known.rows taken.here).law in
    let P : ℕ → Type 0 = λ n. HasOutcome c (take k journal) n taken.outcome in
    let Q : ℕ → Type 0 = λ n. (r : Submitted (take k journal) n) × (r.actor ≡ actor) in
    let h = subst P taken.same (known.standing.ended taken.row taken.outcome taken.here taken.ended) in
    let o = subst Q taken.same (law.request, law.actor ∙ taken.own) in
    let one = same_request (take k journal) id h.0 o.0 (known.ids.accepted_once id h.0 o.0) in
    let above = up journal k id h.0 in
    let ending = end_up c journal k id h.0 above.request above.same h.1 taken.outcome.kind (outcome_end c (take k journal) id h.0 h.1 taken.outcome h.2) in
    record {
      request = above.request;
      own = sym above.same.actor ∙ one.actor ∙ o.1;
      place = h.1;
      before = ending.0;
      outcome = taken.outcome;
      told = taken.told;
      ending = ending.1;
    }

-- ---- each request is live, with a row, or has ended

pub record LiveRow (t : Table) (id : ℕ) : Type 0 where
  pub row : Row Handed Outcome
  pub here : In row t.requests.rows
  pub live : is_live row ≡ true
  pub same : row.id ≡ id

abbrev pub HasEnd : (c : Connection) (journal : List Entry) (id : ℕ) → Submitted journal id → Type 0
HasEnd c journal id r = (k : ℕ) × (kind : EndKind) × IsEndPlace c journal id r k kind

pub live_or_ended : (phase : Phase Outcome) → (phase_live phase ≡ true) ⊎ ((o : Outcome) × (phase ≡ Ended o))
live_or_ended Queued = inl refl
live_or_ended Sent = inl refl
live_or_ended (Ended o) = inr (o, refl)

pub fate : (c : Connection) (journal : List Entry) (id : ℕ) (r : Submitted journal id) → IsSettings c.settings → Walked c journal → LiveRow (table_of c journal) id ⊎ HasEnd c journal id r
fate c journal id r s w =
    let t = table_of c journal in
    let known = knows c journal s w in
    elim (known.ids.kept id r) [
      | inl has ↦ (
          let x = in_any (has_id id) t.requests.rows has in
          let same : x.0.id ≡ id = eqb-true x.0.id id x.2 in
          elim (live_or_ended x.0.phase) [
            | inl live ↦ inl (record { row = x.0; here = x.1; live = live; same = same })
            | inr ended ↦ (
                let P : ℕ → Type 0 = λ n. HasOutcome c journal n ended.0 in
                let h = subst P same (known.standing.ended x.0 ended.0 x.1 ended.1) in
                let one = same_request journal id h.0 r (known.ids.accepted_once id h.0 r) in
                inr (h.1, ended.0.kind, end_same c journal id h.0 r one h.1 ended.0.kind (outcome_end c journal id h.0 h.1 ended.0 h.2)))
          ])
      | inr was ↦ (
          let x = collection c journal was.0 was.1.actor id (answers.Collected was.1.kind) s w was.1.stands in
          let one = same_request journal id x.request r (known.ids.accepted_once id x.request r) in
          inr (x.place, x.outcome.kind, end_same c journal id x.request r one x.place x.outcome.kind x.ending))
    ]

-- a live row's request has no end
pub row_unended : (c : Connection) (journal : List Entry) (t : Table) (row : Row Handed Outcome) (id : ℕ) → Standing c journal t → In row t.requests.rows → is_live row ≡ true → row.id ≡ id → (r : Submitted journal id) → IsUnended c journal id r
row_unended c journal t row id h here live same r = λ k kind e. h.live row id here live same r k kind e.after e.ends

-- ---- references

cases_zero : (n : ℕ) → (n ≡ 0) ⊎ (1 ≤ n)
cases_zero zero = inl refl
cases_zero (suc n) = inr (omega arith)

live_counts : (t : Requests) (row : Row Handed Outcome) (reference : ℕ) → In row t.rows → is_live row ≡ true → row.reference ≡ reference → 1 ≤ count_by (is_live_and (has_reference reference)) t.rows
live_counts t row reference here live same = count_in (is_live_and (has_reference reference)) t.rows row here (rw (live, eq-eqb row.reference reference same) refl)

-- the live row of a live reference
pub live_row : (c : Connection) (journal : List Entry) (reference : ℕ) → IsSettings c.settings → Walked c journal → Live c journal reference → (row : Row Handed Outcome) × In row (table_of c journal).requests.rows × (is_live row ≡ true) × (row.reference ≡ reference)
live_row c journal reference s w l =
    let t = table_of c journal in
    let known = knows c journal s w in
    elim (fate c journal l.id l.request s w) [
      | inl x ↦ (x.row, x.here, x.live, sym (own_request c journal t x.row l.id known.rows known.ids x.here x.same l.request).0 ∙ l.refers)
      | inr ended ↦ absurd (l.live ended.0 ended.1 ended.2)
    ]

pub row_live : (c : Connection) (journal : List Entry) (reference : ℕ) (row : Row Handed Outcome) → Knows c journal (table_of c journal) → In row (table_of c journal).requests.rows → is_live row ≡ true → row.reference ≡ reference → Live c journal reference
row_live c journal reference row known here live same =
    let t = table_of c journal in
    let law = (row_law c journal t row known.rows here).law in
    record { id = row.id; request = law.request; refers = law.reference ∙ same; live = row_unended c journal t row row.id known.standing here live refl law.request }

pub sent_is_live : (phase : Phase Outcome) → phase_sent phase ≡ true → phase_live phase ≡ true
sent_is_live Queued e = absurd (cc)
sent_is_live Sent e = refl
sent_is_live (Ended o) e = absurd (cc)

pub queued_is_live : (phase : Phase Outcome) → phase_queued phase ≡ true → phase_live phase ≡ true
queued_is_live Queued e = refl
queued_is_live Sent e = absurd (cc)
queued_is_live (Ended o) e = absurd (cc)

pub live_is_sent : (phase : Phase Outcome) → phase_live phase ≡ true → (phase_queued phase ≡ true → ⊥) → phase_sent phase ≡ true
live_is_sent Queued live not_queued = absurd (not_queued refl)
live_is_sent Sent live not_queued = refl
live_is_sent (Ended o) live not_queued = absurd (cc)

pub sent_live_row : (c : Connection) (journal : List Entry) (reference : ℕ) → IsSettings c.settings → Walked c journal → LiveSent c journal reference → 1 ≤ sent_uses reference (table_of c journal).requests
sent_live_row c journal reference s w l =
    let t = table_of c journal in
    let known = knows c journal s w in
    elim (fate c journal l.id l.request s w) [
      | inl x ↦ (
          let sent = live_is_sent x.row.phase x.live (λ queued. known.standing.unsent x.row l.id l.sent x.here queued x.same l.sent_at) in
          let refers : x.row.reference ≡ reference = sym (own_request c journal t x.row l.id known.rows known.ids x.here x.same l.request).0 ∙ l.refers in
          count_in (is_sent_and (has_reference reference)) t.requests.rows x.row x.here (rw (sent, eq-eqb x.row.reference reference refers) refl))
      | inr ended ↦ absurd (l.live ended.0 ended.1 ended.2)
    ]

pub row_sent_live : (c : Connection) (journal : List Entry) (reference : ℕ) (row : Row Handed Outcome) → Knows c journal (table_of c journal) → In row (table_of c journal).requests.rows → is_sent row ≡ true → row.reference ≡ reference → LiveSent c journal reference
row_sent_live c journal reference row known here sent same =
    let t = table_of c journal in
    let law = (row_law c journal t row known.rows here).law in
    let was = sent_phase_of c journal row law sent in
    record {
      id = row.id;
      request = law.request;
      refers = law.reference ∙ same;
      live = row_unended c journal t row row.id known.standing here (sent_is_live row.phase sent) refl law.request;
      sent = was.0;
      sent_at = was.1;
    }

-- a late reference is in quarantine, and each in quarantine is late
pub late_quarantined : (c : Connection) (journal : List Entry) (reference : ℕ) → IsSettings c.settings → Walked c journal → IsLate c journal reference → is_quarantined reference (table_of c journal).requests ≡ true
late_quarantined c journal reference s w late =
    let t = table_of c journal in
    let known = knows c journal s w in
    let out = known.standing.awaited reference late.0 in
    let parts = uses_parts reference t.requests in
    let none : sent_uses reference t.requests ≡ 0 = elim (cases_zero (sent_uses reference t.requests)) [
      | inl is ↦ is
      | inr some ↦ (
          let x = in_count (is_sent_and (has_reference reference)) t.requests.rows some in
          let both = and_parts (is_sent x.0) (has_reference reference x.0) x.2 in
          absurd (late.1 (row_live c journal reference x.0 known x.1 (sent_is_live x.0.phase both.0) (eqb-true x.0.reference reference both.1))))
    ] in
    let unused : uses_of reference t.requests ≡ 0 = (let empty = out.1 in omega arith) in
    rw (out.0, eq-eqb (uses_of reference t.requests) 0 unused) refl

pub quarantined_late : (c : Connection) (journal : List Entry) (reference : ℕ) → IsSettings c.settings → Walked c journal → is_quarantined reference (table_of c journal).requests ≡ true → IsLate c journal reference
quarantined_late c journal reference s w is =
    let t = table_of c journal in
    let known = knows c journal s w in
    let both = quarantined_parts reference t.requests is in
    let none = both.1 in
    let parts = uses_parts reference t.requests in (
      known.standing.out reference (both.0, omega arith),
      λ l. (let x = live_row c journal reference s w l in let some = live_counts t.requests x.0 reference x.1 x.2 x.3 in absurd (omega arith)),
    )

-- ---- the free list

range_parts : (c : Connection) (t : Requests) (r : ℕ) → t.references ≡ c.settings.references → is_reference r t ≡ true → (1 ≤ r) × (r ≤ c.settings.references)
range_parts c t r same inside = (grind (arith, nat_tests), grind (arith, nat_tests))

pub range_join : (c : Connection) (t : Requests) (r : ℕ) → t.references ≡ c.settings.references → 1 ≤ r → r ≤ c.settings.references → is_reference r t ≡ true
range_join c t r same low high = grind (arith, nat_tests)

pub free_is : (c : Connection) (journal : List Entry) (reference : ℕ) → IsSettings c.settings → Walked c journal → 1 ≤ count_by (is_number reference) (table_of c journal).requests.free → IsFree c journal reference
free_is c journal reference s w some =
    let t = table_of c journal in
    let known = knows c journal s w in
    let once = known.standing.uses.once reference in
    let inside = range_parts c t.requests reference known.rows.law.references (used_in t.requests reference known.standing.uses (omega arith)) in (
      inside.0,
      inside.1,
      λ l. (let x = live_row c journal reference s w l in let more = live_counts t.requests x.0 reference x.1 x.2 x.3 in absurd (omega arith)),
      λ a. (let out = (known.standing.awaited reference a).1 in absurd (omega arith)),
    )

-- a reference of the connection that isn't free is live or awaited
pub taken_by : (c : Connection) (journal : List Entry) (reference : ℕ) → IsSettings c.settings → Walked c journal → 1 ≤ reference → reference ≤ c.settings.references → count_by (is_number reference) (table_of c journal).requests.free ≡ 0 → Live c journal reference ⊎ Awaited c journal reference
taken_by c journal reference s w low high none =
    let t = table_of c journal in
    let known = knows c journal s w in
    elim (cases_zero (slack reference t.requests)) [
      | inl empty ↦ inr (known.standing.out reference (range_join c t.requests reference known.rows.law.references low high, empty))
      | inr some ↦ (
          let x = in_count (is_queued_and (has_reference reference)) t.requests.rows (omega arith) in
          let both = and_parts (is_queued x.0) (has_reference reference x.0) x.2 in
          inl (row_live c journal reference x.0 known x.1 (queued_is_live x.0.phase both.0) (eqb-true x.0.reference reference both.1)))
    ]

pub is_free : (c : Connection) (journal : List Entry) (reference : ℕ) → IsSettings c.settings → Walked c journal → IsFree c journal reference → 1 ≤ count_by (is_number reference) (table_of c journal).requests.free
is_free c journal reference s w free =
    elim (cases_zero (count_by (is_number reference) (table_of c journal).requests.free)) [
      | inl none ↦ elim (taken_by c journal reference s w free.0 free.1 none) [ inl live ↦ absurd (free.2 live) | inr awaited ↦ absurd (free.3 awaited) ]
      | inr some ↦ some
    ]

pub free_few : (c : Connection) (journal : List Entry) (reference : ℕ) → IsSettings c.settings → Walked c journal → count_by (is_number reference) (table_of c journal).requests.free ≤ 1
free_few c journal reference s w =
    let once = (knows c journal s w).standing.uses.once reference in omega arith
