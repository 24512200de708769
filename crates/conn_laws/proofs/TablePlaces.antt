-- The rows and references of any legal journal's table, by places.
use Rattle.std.proofs.Common.{◌≡◌, inl, inr, ℕ, zero, suc, ◌+◌, ◌<◌, ◌≤◌, Bool, true, false, List, [], ◌∷◌, length, take, refl, sym, ap, subst, ◌∙◌, arith, Some}
use Rattle.std.specs.Prelude.{if◌then◌else◌}
use Rattle.std.specs.List.{list_any, slice_get}
use Rattle.std.proofs.lemmas.Bool.{cases_lt, eq-eqb, eqb-true}
use Rattle.lease_core.specs.LeaseTables.{Lease, LeaseTable, has_number, is_lease_of}
use Rattle.txn_core.specs.RowLaws.{quarantined_parts}
use Rattle.txn_core.specs.RowTables.{Row, has_reference, is_live, is_quarantined, is_reference, is_sent, is_sent_and, uses_of}
use Rattle.txn_core.specs.declared.phases.Phase.TheVariants.{Ended}
use Rattle.wire_frames.specs.declared.ends.EndKind.TheVariants as kinds
use Rattle.wire_frames.specs.declared.ends.Outcome.{Outcome}
use Rattle.conn_core.specs.Ends as ends
use Rattle.conn_core.specs.Ends.{IsEndPlace, IsOutcome, request_deadline}
use Rattle.conn_core.specs.HistoryLaw.{IsUnended}
use Rattle.conn_core.specs.Journals.{table_of}
use Rattle.conn_core.specs.LeasePlaces.{held_after}
use Rattle.conn_core.specs.Places.{FrameComes, SentAt, Stands, Submitted}
use Rattle.conn_core.specs.RowLaw.{EachRow, IsRowOf}
use Rattle.conn_core.specs.Tables.{Connection, Handed, IsSettings, Requests}
use Rattle.conn_core.specs.declared.entries.Answer.{Answer}
use Rattle.conn_core.specs.declared.entries.Entry.{Entry}
use Rattle.conn_core.specs.declared.entries.Event.TheVariants as events
use Rattle.conn_core.proofs.EntryLemmas.{get_low, walked_before}
use Rattle.conn_core.proofs.RowWalk.{sent_phase_of}
use Rattle.conn_core.proofs.StepLaws.{Walked, walk_law}
use Rattle.conn_laws.specs.HistoryTable.{HistoryTable, IsInOneWay, IsRowByPlaces, LastSent}
use Rattle.conn_laws.proofs.Awaiting.{Knows, knows, queued_in, used_in}
use Rattle.conn_laws.proofs.FreeOrder.{free_in_order}
use Rattle.conn_laws.proofs.Fronts.{end_up, fate, front_few, late_quarantined, live_is_sent, live_or_ended, outcome_end, quarantined_late, range_join, row_unended, sent_is_live, up}
use Rattle.conn_laws.proofs.LeaseTimes.{holder_test, holders, leases_stand}
use Rattle.conn_laws.proofs.Members.{In, count_in, in_any}
use Rattle.conn_laws.proofs.OtherPlaces.{alike_front, comes_over, same_request, sent_low, sent_over}
use Rattle.conn_laws.proofs.Replies.{event_of, sent_row}
use Rattle.conn_laws.proofs.Slack.{event_not, is_send, sent_uses, slack, uses_parts}
use Rattle.conn_laws.proofs.Standing.{Standing, outcome_over, own_request, row_law}

each_of : (P : Row Handed Outcome → Type 0) (rows : List (Row Handed Outcome)) → ((row : Row Handed Outcome) → In row rows → P row) → EachRow P rows
each_of P [] h = tt
each_of P (row ∷ rows) h = (h row (inl refl), each_of P rows (λ x there. h x (inr there)))

-- ---- live and ended rows

unended_is_live : (c : Connection) (journal : List Entry) (row : Row Handed Outcome) → Knows c journal (table_of c journal) → In row (table_of c journal).requests.rows → (r : Submitted journal row.id) → IsUnended c journal row.id r → is_live row ≡ true
unended_is_live c journal row known here r unended =
    elim (live_or_ended row.phase) [
      | inl live ↦ live
      | inr ended ↦ (
          let h = known.standing.ended row ended.0 here ended.1 in
          let one = same_request journal row.id h.0 r (known.ids.accepted_once row.id h.0 r) in
          let ending = outcome_end c journal row.id r h.1 ended.0 (outcome_over c journal journal (h.1 + 1) row.id refl h.0 r one h.1 ended.0 (omega arith) h.2) in
          absurd (unended h.1 ended.0.kind ending))
    ]

row_outcome : (c : Connection) (journal : List Entry) (row : Row Handed Outcome) → Knows c journal (table_of c journal) → In row (table_of c journal).requests.rows → (r : Submitted journal row.id) (o : Outcome) → row.phase ≡ Ended o → (k : ℕ) × IsOutcome c journal row.id r k o
row_outcome c journal row known here r o ended =
    let h = known.standing.ended row o here ended in
    let one = same_request journal row.id h.0 r (known.ids.accepted_once row.id h.0 r) in
    (h.1, outcome_over c journal journal (h.1 + 1) row.id refl h.0 r one h.1 o (omega arith) h.2)

row_in_time : (c : Connection) (journal : List Entry) (row : Row Handed Outcome) (r : Submitted journal row.id) → Standing c journal (table_of c journal) → In row (table_of c journal).requests.rows → row.deadline ≡ request_deadline r → is_live row ≡ true → (k actor now : ℕ) (answer : Answer) → r.place < k → Stands journal k actor (events.Tick now) answer → now < row.deadline
row_in_time c journal row r h here deadline live k actor now answer after at =
    elim (cases_lt now row.deadline) [
      | inl early ↦ early
      | inr due ↦ absurd (h.live row row.id here live refl r k kinds.Expired after (ends.unanswered kinds.Expired (ends.expired actor now answer at (omega arith))))
    ]

-- ---- sent rows

-- a row that is sent and live now was so since its sending
sent_since : (c : Connection) (journal : List Entry) (row : Row Handed Outcome) (n place : ℕ) → IsSettings c.settings → Walked c journal → In row (table_of c journal).requests.rows → is_sent row ≡ true → SentAt journal row.id place → place < n → n ≤ length journal → 1 ≤ sent_uses row.reference (table_of c (take n journal)).requests
sent_since c journal row n place s w here sent at low under =
    let front = take n journal in
    let t = table_of c front in
    let known = knows c front s (walked_before c journal n w under) in
    let all = knows c journal s w in
    let id = row.id in
    let law = (row_law c journal (table_of c journal) row all.rows here).law in
    let was = sent_over journal front n id place (sym (alike_front journal n)) low at in
    let r = (known.standing.sent_accepted id place was).0 in
    let above = up journal n id r in
    let one = same_request journal id above.request law.request (all.ids.accepted_once id above.request law.request) in
    let refers : r.reference ≡ row.reference = above.same.reference ∙ one.reference ∙ law.reference in
    elim (fate c front id r s (walked_before c journal n w under)) [
      | inl x ↦ (
          let is = live_is_sent x.row.phase x.live (λ queued. known.standing.unsent x.row id place x.here queued x.same was) in
          let own = (own_request c front t x.row id known.rows known.ids x.here x.same r).0 in
          count_in (is_sent_and (has_reference row.reference)) t.requests.rows x.row x.here (rw (is, eq-eqb x.row.reference row.reference (sym own ∙ refers)) refl))
      | inr ended ↦ (
          let ending = end_up c journal n id r above.request above.same ended.0 ended.1 ended.2 in
          let live = row_unended c journal (table_of c journal) row id all.standing here (sent_is_live row.phase sent) refl above.request in
          absurd (live ended.0 ended.1 ending.1))
    ]

frame_or_sending : {Y : Type 0} (c : Connection) (journal : List Entry) (k id reference : ℕ) (answer : Answer) → FrameComes c journal k reference answer → SentAt journal id k → Y
frame_or_sending c journal k id reference answer f x =
    event_not events.TakeSend (events.Frame f.bytes) is_send refl refl (ap (λ (y : Entry). y.event) (event_of journal k _ _ x.stands f.stands))

no_frame_since : (c : Connection) (journal : List Entry) (row : Row Handed Outcome) (place k : ℕ) (answer : Answer) → IsSettings c.settings → Walked c journal → In row (table_of c journal).requests.rows → is_sent row ≡ true → SentAt journal row.id place → place < k → FrameComes c journal k row.reference answer → ⊥
no_frame_since c journal row place k answer s w here sent at after f =
    let low = get_low journal k _ f.stands in
    let n = k + 1 in
    let front = take n journal in
    let under : n ≤ length journal = omega arith in
    let t = table_of c front in
    let known = knows c front s (walked_before c journal n w under) in
    let some = sent_since c journal row n place s w here sent at (omega arith) under in
    let parts = uses_parts row.reference t.requests in
    let once = known.standing.uses.once row.reference in
    let empty : slack row.reference t.requests ≡ 0 = omega arith in
    let inside = used_in t.requests row.reference known.standing.uses (omega arith) in
    let a = known.standing.out row.reference (inside, empty) in
    let few = front_few n journal in
    let sent_in = sent_low front a.id a.sent a.sent_at in
    let there = comes_over c journal front n k row.reference answer (sym (alike_front journal n)) (omega arith) f in
    elim (cases_lt a.sent k) [
      | inl before ↦ a.none_since k answer before there
      | inr high ↦ (
          let is : a.sent ≡ k = omega arith in
          let P : ℕ → Type 0 = SentAt front a.id in
          frame_or_sending c front k a.id row.reference answer there (subst P is a.sent_at))
    ]

two_uses : (t : Requests) (n r : ℕ) → n ≡ r → 1 ≤ slack n t → 1 ≤ sent_uses r t → uses_of r t ≤ 1 → ⊥
two_uses t n r same free sent once =
    let is : slack n t ≡ slack r t = ap (λ m. slack m t) same in
    let parts = uses_parts r t in absurd (omega arith)

no_other_since : (c : Connection) (journal : List Entry) (row : Row Handed Outcome) (place k other : ℕ) (q : Submitted journal other) → IsSettings c.settings → Walked c journal → In row (table_of c journal).requests.rows → is_sent row ≡ true → SentAt journal row.id place → place < k → SentAt journal other k → q.reference ≡ row.reference → ⊥
no_other_since c journal row place k other q s w here sent at after two same =
    let low = get_low journal k _ two.stands in
    let front = take k journal in
    let t = table_of c front in
    let walked = walked_before c journal k w (omega arith) in
    let known = knows c front s walked in
    let all = knows c journal s w in
    let second = sent_row c journal other k w two in
    let P : ℕ → Type 0 = Submitted front in
    let r = subst P second.same (row_law c front t second.row known.rows second.here).law.request in
    let own = own_request c front t second.row other known.rows known.ids second.here second.same r in
    let above = up journal k other r in
    let of_q = same_request journal other above.request q (all.ids.accepted_once other above.request q) in
    let refers : second.row.reference ≡ row.reference = sym own.0 ∙ above.same.reference ∙ of_q.reference ∙ same in
    two_uses t.requests second.row.reference row.reference refers (queued_in t.requests second.row second.here second.queued)
    (sent_since c journal row k place s w here sent at after (omega arith)) (known.standing.uses.once row.reference)

row_last_sent : (c : Connection) (journal : List Entry) (row : Row Handed Outcome) → IsSettings c.settings → Walked c journal → In row (table_of c journal).requests.rows → IsRowOf c journal row → is_sent row ≡ true → LastSent c journal row.id row.reference
row_last_sent c journal row s w here law sent =
    let was = sent_phase_of c journal row law sent in
    record {
      place = was.0;
      sent_at = was.1;
      no_frame = λ k answer after f. no_frame_since c journal row was.0 k answer s w here sent was.1 after f;
      no_other = λ k other q after two same. no_other_since c journal row was.0 k other q s w here sent was.1 after two same;
    }

-- ---- the law

row_by_places : (c : Connection) (journal : List Entry) (row : Row Handed Outcome) → IsSettings c.settings → Walked c journal → In row (table_of c journal).requests.rows → IsRowByPlaces c journal row
row_by_places c journal row s w here =
    let t = table_of c journal in
    let known = knows c journal s w in
    let law = (row_law c journal t row known.rows here).law in
    record {
      request = law.request;
      live = (λ live. row_unended c journal t row row.id known.standing here live refl law.request, λ unended. unended_is_live c journal row known here law.request unended);
      outcome = λ o ended. row_outcome c journal row known here law.request o ended;
      unsent = λ queued k. known.standing.unsent row row.id k here queued refl;
      not_awaited = λ queued a. (let out = (known.standing.awaited row.reference a).1 in let some = queued_in t.requests row here queued in absurd (omega arith));
      held = λ live. ap (λ (l : LeaseTable). list_any (is_lease_of row.owner row.lease) l.held) (sym known.rows.law.leases) ∙ holder_test t.leases row (holders c journal s w row here live);
      last_sent = λ sent. row_last_sent c journal row s w here law sent;
      in_time = λ live k actor now answer after at. row_in_time c journal row law.request known.standing here law.deadline live k actor now answer after at;
    }

one_way : (t : Requests) (r : ℕ) (b : Bool) → uses_of r t ≤ 1 → is_reference r t ≡ true → is_quarantined r t ≡ b → uses_of r t + (if b then 1 else 0) ≡ 1
one_way t r true once inside is = let none = (quarantined_parts r t is).1 in omega arith
one_way t r false once inside is = elim (cases_lt (uses_of r t) 1) [
  | inl low ↦ (
      let none : uses_of r t ≡ 0 = omega arith in
      let out : is_quarantined r t ≡ true = rw (inside, eq-eqb (uses_of r t) 0 none) refl in absurd (cc))
  | inr some ↦ omega arith
]

in_one_way : (c : Connection) (journal : List Entry) (r : ℕ) → IsSettings c.settings → Walked c journal → 1 ≤ r → r ≤ c.settings.references → IsInOneWay (table_of c journal) r
in_one_way c journal r s w low high =
    let t = (table_of c journal).requests in
    let known = knows c journal s w in
    one_way t r (is_quarantined r t) (known.standing.uses.once r) (range_join c t r known.rows.law.references low high) refl

in_get : {X : Type 0} (xs : List X) (i : ℕ) (x : X) → slice_get xs i ≡ Some x → In x xs
in_get [] i x at = absurd (cc)
in_get (y ∷ ys) zero x at = inl (cc)
in_get (y ∷ ys) (suc i) x at = inr (in_get ys i x at)

lease_in_time : (c : Connection) (journal : List Entry) (i k actor now : ℕ) (lease : Lease) (answer : Answer) → IsSettings c.settings → Walked c journal → slice_get (held_after c.settings journal) i ≡ Some lease → Stands journal k actor (events.Tick now) answer → list_any (has_number lease.number) (held_after c.settings (take k journal)) ≡ true → now < lease.deadline
lease_in_time c journal i k actor now lease answer s w at tick was =
    let x = in_any (has_number lease.number) (held_after c.settings (take k journal)) was in
    (leases_stand c journal s w).in_time lease (in_get (held_after c.settings journal) i lease at) k actor now answer x.0 tick x.1 (eqb-true x.0.number lease.number x.2)

pub history_table : (c : Connection) (journal : List Entry) → IsSettings c.settings → Walked c journal → HistoryTable c journal
history_table c journal s w = record {
  rows = each_of (IsRowByPlaces c journal) (table_of c journal).requests.rows (λ row here. row_by_places c journal row s w here);
  in_one_way = λ r low high. in_one_way c journal r s w low high;
  quarantined = λ r. (λ is. quarantined_late c journal r s w is, λ late. late_quarantined c journal r s w late);
  free_in_order = λ i j first other n low one two since. free_in_order c journal i j first other n s w low one two since;
  leases_in_time = λ i k actor now lease answer at tick was. lease_in_time c journal i k actor now lease answer s w at tick was;
  clock = (walk_law c journal w).clock;
}
