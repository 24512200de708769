-- The ends of requests in any legal journal are their own.
use Rattle.std.proofs.Common.{◌≡◌, inl, inr, ℕ, ◌+◌, ◌<◌, ◌≤◌, Bool, true, false, List, length, take, refl, sym, ap, subst, ◌∙◌, arith, Option, Some, None}
use Rattle.std.specs.Prelude.{◌==◌, is_some}
use Rattle.std.specs.List.{list_any, slice_get}
use Rattle.std.proofs.lemmas.Bool.{cases_lt}
use Rattle.lease_core.specs.LeaseTables.{Lease, LeaseTable}
use Rattle.wire_frames.specs.declared.ends.EndKind.{EndKind}
use Rattle.wire_frames.specs.declared.ends.EndKind.TheVariants as kinds
use Rattle.wire_frames.specs.declared.ends.Reason.{Reason}
use Rattle.conn_core.specs.Ends as ends
use Rattle.conn_core.specs.Ends.{EndsAs, EndsUnanswered, IsEndPlace, lease_stands_after, request_deadline}
use Rattle.conn_core.specs.Entries.{closes, closing_reason}
use Rattle.conn_core.specs.HistoryLaw.{Awaited, IsLate}
use Rattle.conn_core.specs.Journals.{table_of}
use Rattle.conn_core.specs.LeasePlaces.{leases_after, leases_by, leases_of}
use Rattle.conn_core.specs.Places.{FrameComes, SentAt, Stands, Submitted}
use Rattle.conn_core.specs.Tables.{Connection, IsSettings, Requests}
use Rattle.conn_core.specs.declared.entries.Answer.{Answer}
use Rattle.conn_core.specs.declared.entries.Answer.TheVariants as answers
use Rattle.conn_core.specs.declared.entries.Entry.{Entry}
use Rattle.conn_core.specs.declared.entries.Event.{Event}
use Rattle.conn_core.specs.declared.entries.Event.TheVariants as events
use Rattle.conn_core.proofs.EntryLemmas.{get_low, walked_before}
use Rattle.conn_core.proofs.RowPlaces.{submitted_low}
use Rattle.conn_core.specs.Steps.{cancel}
use Rattle.conn_core.proofs.StepLaws.{Walked, follows, took, walk_law, walked_steps}
use Rattle.conn_laws.specs.OwnEnds.{EndedBefore, OwnEnds}
use Rattle.conn_laws.proofs.Awaiting.{knows, knows_front, queued_in}
use Rattle.conn_laws.proofs.Fronts.{collection, end_up, fate, front_few, row_live, up}
use Rattle.conn_laws.proofs.OtherPlaces.{IsSame, alike_front, comes_low, comes_over, deadline_same, ends_over, same_request, sent_low, sent_over, turned}
use Rattle.conn_laws.proofs.Replies.{cancelled_row, ends_here, event_of, frame_ends_none, late_comes, late_where, replies, sent_row}
use Rattle.conn_laws.proofs.RowsKept.{not_both}
use Rattle.conn_laws.proofs.Slack.{event_not, slack}
use Rattle.conn_laws.proofs.Standing.{own_request, row_law}

-- ---- an entry that changes no lease takes none

stay_over : (c : Connection) (journal : List Entry) (k : ℕ) (e : Entry) → closing_reason e ≡ None → ((clock : ℕ) (l : LeaseTable) → leases_by clock e.actor e.event l ≡ l) → Walked c journal → slice_get journal k ≡ Some e → leases_of c.settings (take (k + 1) journal) ≡ leases_of c.settings (take k journal)
stay_over c journal k e unclosing same w at =
    let low = get_low journal k e at in
    let t = table_of c (take k journal) in
    let u = table_of c (take (k + 1) journal) in
    let f = follows c t u e.actor e.event e.answer (walked_steps c journal w k e at) in
    let open_entry : closes e ≡ false = ap is_some unclosing in
    let by : leases_after u.clock t.leases e ≡ leases_by u.clock e.actor e.event t.leases = rw open_entry refl in
    sym (walk_law c (take (k + 1) journal) (walked_before c journal (k + 1) w (omega arith))).leases
    ∙ f.leases ∙ by ∙ same u.clock t.leases
    ∙ (walk_law c (take k journal) (walked_before c journal k w (omega arith))).leases

not_taken : {Y : Type 0} (c : Connection) (journal : List Entry) (k id : ℕ) (r : Submitted journal id) → leases_of c.settings (take (k + 1) journal) ≡ leases_of c.settings (take k journal) → lease_stands_after c r k ≡ true → lease_stands_after c r (k + 1) ≡ false → Y
not_taken c journal k id r same before after =
    let is : lease_stands_after c r (k + 1) ≡ lease_stands_after c r k = ap (λ (l : LeaseTable). list_any (λ (held : Lease). held.number == r.lease) l.held) same in
    not_both (lease_stands_after c r (k + 1)) (is ∙ before) after

-- ---- a cancellation ends its own request

abbrev is_cancel : Event → Bool
is_cancel (events.Cancel id) = true
is_cancel _ = false

cancel_parts : (id n : ℕ) → events.Cancel id ≡ events.Cancel n → n ≡ id
cancel_parts id n e = cc

-- what a cancellation ends, it ends as cancelled, and it is its own
cancel_unanswered : (c : Connection) (journal : List Entry) (k actor id : ℕ) (answer : Answer) → Walked c journal → Stands journal k actor (events.Cancel id) answer → (other : ℕ) (r : Submitted journal other) (kind : EndKind) → EndsUnanswered c journal other r k kind → (other ≡ id) × (kind ≡ kinds.Cancelled)
cancel_unanswered c journal k actor id answer w at other r _ (ends.cancelled a there) =
    (cancel_parts id other (ap (λ (x : Entry). x.event) (event_of journal k _ _ at there)), refl)
cancel_unanswered c journal k actor id answer w at other r _ (ends.expired a now by there due) =
    event_not (events.Cancel id) (events.Tick now) is_cancel refl refl (ap (λ (x : Entry). x.event) (event_of journal k _ _ at there))
cancel_unanswered c journal k actor id answer w at other r _ (ends.lease_gone x there unclosed in_time before after) =
    not_taken c journal k other r (stay_over c journal k _ refl (λ clock l. refl) w at) before after
cancel_unanswered c journal k actor id answer w at other r _ (ends.lost x reason there closing) =
    let is = ap closing_reason (event_of journal k _ x at there) ∙ closing in absurd (cc)

cancel_as : (c : Connection) (journal : List Entry) (k actor id : ℕ) (answer : Answer) → Walked c journal → Stands journal k actor (events.Cancel id) answer → (other : ℕ) (r : Submitted journal other) (kind : EndKind) → EndsAs c journal other r k kind → (other ≡ id) × (kind ≡ kinds.Cancelled)
cancel_as c journal k actor id answer w at other r _ (ends.answered a bytes kind there) =
    event_not (events.Cancel id) (events.Frame bytes) is_cancel refl refl (ap (λ (x : Entry). x.event) (event_of journal k _ _ at there))
cancel_as c journal k actor id answer w at other r _ (ends.unanswered kind x) = cancel_unanswered c journal k actor id answer w at other r kind x

-- ---- a frame ends its own request

ended_parts : (i id : ℕ) (a b : EndKind) → answers.Ended i a ≡ answers.Ended id b → (id ≡ i) × (b ≡ a)
ended_parts i id a b e = (cc, cc)

frame_as : (c : Connection) (journal : List Entry) (k actor : ℕ) (bytes : List ℕ) (id : ℕ) (kind : EndKind) → Walked c journal → Stands journal k actor (events.Frame bytes) (answers.Ended id kind) → (other : ℕ) (r : Submitted journal other) (by : EndKind) → EndsAs c journal other r k by → (other ≡ id) × (by ≡ kind)
frame_as c journal k actor bytes id kind w at other r _ (ends.answered a b by there) =
    ended_parts id other kind by (ap (λ (x : Entry). x.answer) (event_of journal k _ _ at there))
frame_as c journal k actor bytes id kind w at other r _ (ends.unanswered by x) = absurd (frame_ends_none c journal k actor bytes (answers.Ended id kind) refl w at other r by x)

-- ---- one place ends a request in one way

abbrev is_tick : Event → Bool
is_tick (events.Tick now) = true
is_tick _ = false

tick_moment : (m n : ℕ) → events.Tick m ≡ events.Tick n → m ≡ n
tick_moment m n e = cc

reasons_same : (a b : Reason) (x : Option Reason) → x ≡ Some a → x ≡ Some b → a ≡ b
reasons_same a b x one two = let both : Some a ≡ Some b = sym one ∙ two in cc

due_and_early : {Y : Type 0} (now d : ℕ) → d ≤ now → now < d → Y
due_and_early now d due early = absurd (omega arith)

unclosed_closes : {Y : Type 0} (e x : Entry) (reason : Reason) → e ≡ x → closes e ≡ false → closing_reason x ≡ Some reason → Y
unclosed_closes e x reason same out closing = let is : closes e ≡ true = ap closes same ∙ ap is_some closing in not_both (closes e) is out

tick_unanswered : (c : Connection) (journal : List Entry) (k actor now id : ℕ) (answer : Answer) → Stands journal k actor (events.Tick now) answer → (r s : Submitted journal id) → IsSame r s → request_deadline r ≤ now → (by : EndKind) → EndsUnanswered c journal id s k by → by ≡ kinds.Expired
tick_unanswered c journal k actor now id answer at r s same due _ (ends.cancelled a there) =
    event_not (events.Tick now) (events.Cancel id) is_tick refl refl (ap (λ (x : Entry). x.event) (event_of journal k _ _ at there))
tick_unanswered c journal k actor now id answer at r s same due _ (ends.expired a moment by there also) = refl
tick_unanswered c journal k actor now id answer at r s same due _ (ends.lease_gone x there unclosed in_time before after) =
    let early = in_time now (ap (λ (y : Entry). y.event) (event_of journal k x _ there at)) in
    let deadline = deadline_same journal journal (length journal) id refl r s same (submitted_low journal id r) in
    absurd (omega arith)
tick_unanswered c journal k actor now id answer at r s same due _ (ends.lost x reason there closing) =
    let is = ap closing_reason (event_of journal k _ x at there) ∙ closing in absurd (cc)

lost_unanswered : (c : Connection) (journal : List Entry) (k id : ℕ) (e : Entry) (reason : Reason) → slice_get journal k ≡ Some e → closing_reason e ≡ Some reason → (s : Submitted journal id) (by : EndKind) → EndsUnanswered c journal id s k by → by ≡ kinds.Lost reason
lost_unanswered c journal k id e reason at closing s _ (ends.cancelled a there) = let is = sym (ap closing_reason (event_of journal k e _ at there)) ∙ closing in absurd (cc)
lost_unanswered c journal k id e reason at closing s _ (ends.expired a now answer there due) = let is = sym (ap closing_reason (event_of journal k e _ at there)) ∙ closing in absurd (cc)
lost_unanswered c journal k id e reason at closing s _ (ends.lease_gone x there unclosed in_time before after) = unclosed_closes x e reason (event_of journal k x e there at) unclosed closing
lost_unanswered c journal k id e reason at closing s _ (ends.lost x other there also) =
    ap (λ y. kinds.Lost y) (reasons_same other reason (closing_reason e) (ap closing_reason (event_of journal k e x at there) ∙ also) closing)

gone_unanswered : (c : Connection) (journal : List Entry) (k id : ℕ) (e : Entry) → Walked c journal → slice_get journal k ≡ Some e → closes e ≡ false → (r s : Submitted journal id) → IsSame r s → ((now : ℕ) → e.event ≡ events.Tick now → now < request_deadline r) → lease_stands_after c r k ≡ true → lease_stands_after c r (k + 1) ≡ false → (by : EndKind) → EndsUnanswered c journal id s k by → by ≡ kinds.LeaseGone
gone_unanswered c journal k id e w at unclosed r s same in_time before after _ (ends.cancelled a there) =
    not_taken c journal k id r (stay_over c journal k _ refl (λ clock l. refl) w there) before after
gone_unanswered c journal k id e w at unclosed r s same in_time before after _ (ends.expired a now answer there due) =
    let early = in_time now (ap (λ (y : Entry). y.event) (event_of journal k e _ at there)) in
    let deadline = deadline_same journal journal (length journal) id refl r s same (submitted_low journal id r) in
    absurd (omega arith)
gone_unanswered c journal k id e w at unclosed r s same in_time before after _ (ends.lease_gone x there also early was gone) = refl
gone_unanswered c journal k id e w at unclosed r s same in_time before after _ (ends.lost x reason there closing) = unclosed_closes e x reason (event_of journal k e x at there) unclosed closing

unanswered_one : (c : Connection) (journal : List Entry) (k id : ℕ) (r s : Submitted journal id) (kind by : EndKind) → Walked c journal → IsSame r s → EndsUnanswered c journal id r k kind → EndsUnanswered c journal id s k by → by ≡ kind
unanswered_one c journal k id r s _ by w same (ends.cancelled a at) y = (cancel_unanswered c journal k a id answers.Cancelled w at id s by y).1
unanswered_one c journal k id r s _ by w same (ends.expired a now answer at due) y = tick_unanswered c journal k a now id answer at r s same due by y
unanswered_one c journal k id r s _ by w same (ends.lease_gone x at unclosed in_time before after) y = gone_unanswered c journal k id x w at unclosed r s same in_time before after by y
unanswered_one c journal k id r s _ by w same (ends.lost x reason at closing) y = lost_unanswered c journal k id x reason at closing s by y

unanswered_as : (c : Connection) (journal : List Entry) (k id : ℕ) (r s : Submitted journal id) (kind by : EndKind) → Walked c journal → IsSame r s → EndsUnanswered c journal id r k kind → EndsAs c journal id s k by → by ≡ kind
unanswered_as c journal k id r s kind _ w same x (ends.answered a bytes by at) = absurd (frame_ends_none c journal k a bytes (answers.Ended id by) refl w at id r kind x)
unanswered_as c journal k id r s kind _ w same x (ends.unanswered by y) = unanswered_one c journal k id r s kind by w same x y

one_way : (c : Connection) (journal : List Entry) (k id : ℕ) (r s : Submitted journal id) (kind by : EndKind) → Walked c journal → IsSame r s → EndsAs c journal id r k kind → EndsAs c journal id s k by → by ≡ kind
one_way c journal k id r s _ by w same (ends.answered a bytes kind at) y = (frame_as c journal k a bytes id kind w at id s by y).1
one_way c journal k id r s _ by w same (ends.unanswered kind x) y = unanswered_as c journal k id r s kind by w same x y

not_before : {Y : Type 0} (c : Connection) (journal : List Entry) (id j k : ℕ) (r s : Submitted journal id) (kind by : EndKind) → IsSame r s → IsEndPlace c journal id r j kind → IsEndPlace c journal id s k by → j < k → Y
not_before c journal id j k r s kind by same x y low =
    let behind = x.after in
    let place = same.place in
    absurd (y.first j kind (omega arith) low (ends_over c journal journal (j + 1) id refl r s same (omega arith) j kind (omega arith) x.ends))

pub one_end : (c : Connection) (journal : List Entry) (id j k : ℕ) (r s : Submitted journal id) (kind by : EndKind) → IsSettings c.settings → Walked c journal → IsEndPlace c journal id r j kind → IsEndPlace c journal id s k by → (j ≡ k) × (kind ≡ by)
one_end c journal id j k r s kind by set w x y =
    let same = same_request journal id r s ((knows c journal set w).ids.accepted_once id r s) in
    let place : j ≡ k = elim (cases_lt j k) [
      | inl low ↦ not_before c journal id j k r s kind by same x y low
      | inr high ↦ elim (cases_lt k j) [ inl low ↦ not_before c journal id k j s r by kind (turned r s same) y x low | inr other ↦ omega arith ]
    ] in
    let P : ℕ → Type 0 = λ n. EndsAs c journal id s n by in
    (place, sym (one_way c journal j id r s kind by w same x.ends (subst P (sym place) y.ends)))

-- ---- only its actor

cancel_told : (c : Connection) (journal : List Entry) (k actor id : ℕ) (answer : Answer) → Walked c journal → Stands journal k actor (events.Cancel id) answer → (let x : Entry = record { actor = actor; event = events.Cancel id; answer = answer } in Some x) ≡ (let y : Entry = record { actor = actor; event = events.Cancel id; answer = answers.Cancelled } in Some y)
cancel_told c journal k actor id answer w at =
    let t = table_of c (take k journal) in
    let took_it = took (λ (x : Unit {0}). answers.Cancelled) (cancel t actor id) _ answer (walked_steps c journal w k _ at) in
    ap (λ (a : Answer). let y : Entry = record { actor = actor; event = events.Cancel id; answer = a } in Some y) (sym took_it.told)

own_cancelled : (c : Connection) (journal : List Entry) (k actor id : ℕ) (answer : Answer) → IsSettings c.settings → Walked c journal → Stands journal k actor (events.Cancel id) answer → (r : Submitted journal id) × (r.actor ≡ actor) × IsEndPlace c journal id r k kinds.Cancelled
own_cancelled c journal k actor id answer s w at =
    let t = table_of c (take k journal) in
    let known = knows_front c journal k _ s w at in
    let a = cancelled_row c journal k actor id answer w at in
    let law = (row_law c (take k journal) t a.row known.rows a.here).law in
    let P : ℕ → Type 0 = λ n. (r : Submitted (take k journal) n) × (r.actor ≡ actor) in
    let own = subst P a.same (law.request, law.actor ∙ a.own) in
    let above = up journal k id own.0 in
    let x = ends_here c journal k id _ a.row kinds.Cancelled s w at a.here a.live a.same (λ r. ends.unanswered kinds.Cancelled (ends.cancelled actor (at ∙ cancel_told c journal k actor id answer w at))) in
    let one = same_request journal id above.request x.request ((knows c journal s w).ids.accepted_once id above.request x.request) in
    (x.request, sym one.actor ∙ sym above.same.actor ∙ own.1, x.ending)

-- ---- a late frame

late_at : (c : Connection) (journal : List Entry) (k actor : ℕ) (bytes : List ℕ) (reference : ℕ) → IsSettings c.settings → Walked c journal → Stands journal k actor (events.Frame bytes) (answers.Late reference) → IsLate c (take k journal) reference
late_at c journal k actor bytes reference s w at =
    let low = get_low journal k _ at in
    let f = late_comes c journal k actor bytes reference w at in
    (late_where c (take k journal) reference f.reading (answers.Late reference) s (walked_before c journal k w (omega arith)) (replies c journal k reference (answers.Late reference) w f)).0 refl

late_before : (c : Connection) (journal : List Entry) (k reference : ℕ) → IsSettings c.settings → Walked c (take k journal) → IsLate c (take k journal) reference → EndedBefore c journal reference k
late_before c journal k reference s w late =
    let front = take k journal in
    let a = late.0 in
    let above = up journal k a.id a.request in
    let known = knows c front s w in
    let few = front_few k journal in
    let sent = sent_low front a.id a.sent a.sent_at in
    elim (fate c front a.id a.request s w) [
      | inl x ↦ (
          let refers = sym (own_request c front (table_of c front) x.row a.id known.rows known.ids x.here x.same a.request).0 ∙ a.refers in
          absurd (late.1 (row_live c front reference x.row known x.here x.live refers)))
      | inr ended ↦ (
          let ending = end_up c journal k a.id a.request above.request above.same ended.0 ended.1 ended.2 in
          record {
            id = a.id;
            request = above.request;
            refers = sym above.same.reference ∙ a.refers;
            sent = a.sent;
            sent_at = sent_over front journal k a.id a.sent (alike_front journal k) (omega arith) a.sent_at;
            place = ended.0;
            kind = ended.1;
            ending = ending.1;
            before = ending.0;
            none_since = λ j answer after low f. a.none_since j answer after (comes_over c journal front k j reference answer (sym (alike_front journal k)) low f);
          })
    ]

-- ---- nothing is awaited twice

no_room : (t : Requests) (n r : ℕ) → n ≡ r → 1 ≤ slack n t → slack r t ≡ 0 → ⊥
no_room t n r same some none = let same_slack : slack n t ≡ slack r t = ap (λ m. slack m t) same in absurd (omega arith)

not_twice : (c : Connection) (journal : List Entry) (id other j k : ℕ) (r : Submitted journal id) (q : Submitted journal other) → IsSettings c.settings → Walked c journal → SentAt journal id j → SentAt journal other k → j < k → r.reference ≡ q.reference → ((m : ℕ) (answer : Answer) → j < m → m < k → ¬ FrameComes c journal m r.reference answer) → ⊥
not_twice c journal id other j k r q s w one two low same none =
    let front = take k journal in
    let t = table_of c front in
    let known = knows_front c journal k _ s w two.stands in
    let all = knows c journal s w in
    let row = sent_row c journal other k w two in
    -- the row that is sent second is queued
    let P : ℕ → Type 0 = Submitted front in
    let second = subst P row.same (row_law c front t row.row known.rows row.here).law.request in
    let own = own_request c front t row.row other known.rows known.ids row.here row.same second in
    let above = up journal k other second in
    let of_q = same_request journal other above.request q (all.ids.accepted_once other above.request q) in
    let refers : row.row.reference ≡ r.reference = sym own.0 ∙ above.same.reference ∙ of_q.reference ∙ sym same in
    -- the first is awaited still
    let first_sent = sent_over journal front k id j (sym (alike_front journal k)) low one in
    let first = known.standing.sent_accepted id j first_sent in
    let first_up = up journal k id first.0 in
    let of_r = same_request journal id first_up.request r (all.ids.accepted_once id first_up.request r) in
    let few = front_few k journal in
    let awaited : Awaited c front r.reference = record {
      id = id;
      request = first.0;
      refers = first_up.same.reference ∙ of_r.reference;
      sent = j;
      sent_at = first_sent;
      none_since = λ m answer after f.
          let under = comes_low c front m r.reference answer f in
          none m answer after (omega arith) (comes_over c front journal k m r.reference answer (alike_front journal k) (omega arith) f);
    } in
    let out = (known.standing.awaited r.reference awaited).1 in
    let some = queued_in t.requests row.row row.here row.queued in
    let clash : row.row.reference ≡ r.reference = refers in
    no_room t.requests row.row.reference r.reference clash some out

-- ---- the law

pub own_ends : (c : Connection) (journal : List Entry) → IsSettings c.settings → Walked c journal → OwnEnds c journal
own_ends c journal s w = record {
  once = λ id j k r other kind by x y. one_end c journal id j k r other kind by s w x y;
  cancelled = λ k actor id answer at. own_cancelled c journal k actor id answer s w at;
  collected = λ k actor id answer at. (let x = collection c journal k actor id answer s w at in (x.request, x.own));
  frame_ends_own = λ k actor bytes id kind at other r by x. (frame_as c journal k actor bytes id kind w at other r by x.ends).0;
  cancel_ends_own = λ k actor id answer at other r by x. (cancel_as c journal k actor id answer w at other r by x.ends).0;
  late_is_ended = λ k actor bytes reference at.
      let low = get_low journal k _ at in
      let front = walked_before c journal k w (omega arith) in
      late_before c journal k reference s front (late_at c journal k actor bytes reference s w at);
  awaited_once = λ id other j k r q one two low same none. not_twice c journal id other j k r q s w one two low same none;
}
