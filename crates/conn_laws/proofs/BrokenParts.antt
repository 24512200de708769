-- Each of the broken journals breaks its part of the law.
use Rattle.std.proofs.Common.{◌≡◌, inl, inr, ℕ, zero, suc, ◌+◌, ◌<◌, Bool, true, false, List, [], ◌∷◌, ◌++◌, length, refl, sym, ap, subst, ◌∙◌, arith, Some, Ok}
use Rattle.std.specs.Prelude.{◌==◌, ◌&&◌, is_some, not}
use Rattle.std.specs.List.{list_any, slice_get}
use Rattle.std.proofs.lemmas.Bool.{cases_Bool, eqb-true, or_parts}
use Rattle.node_tree.specs.declared.readings.Reading.{Reading}
use Rattle.wire_frames.specs.RawFrames.{raw_frame, raw_meaning, raw_reading}
use Rattle.wire_frames.specs.declared.asks.Ask.{Ask}
use Rattle.wire_frames.specs.declared.asks.Ask.TheVariants as asks
use Rattle.wire_frames.specs.declared.ends.EndKind.{EndKind}
use Rattle.wire_frames.specs.declared.ends.EndKind.TheVariants as kinds
use Rattle.conn_core.specs.Ends as ends
use Rattle.conn_core.specs.Ends.{EndsAs, EndsUnanswered, IsEndPlace, lease_stands_after, request_deadline}
use Rattle.conn_core.specs.Entries.{closes, is_frame, is_submit}
use Rattle.conn_core.specs.HistoryLaw.{Awaited, HistoryLaw, IsUnended, Live, LiveSent}
use Rattle.conn_core.specs.Journals as journals
use Rattle.conn_core.specs.Journals.{Legal, is_worn, table_of, turn_if, wears, worn_entry}
use Rattle.conn_core.specs.Places.{FrameComes, Submitted}
use Rattle.conn_core.specs.Tables.{IsSettings, Table}
use Rattle.conn_core.specs.declared.entries.Answer.{Answer}
use Rattle.conn_core.specs.declared.entries.Answer.TheVariants as answers
use Rattle.conn_core.specs.declared.entries.Entry.{Entry}
use Rattle.conn_core.specs.declared.entries.Event.{Event}
use Rattle.conn_core.specs.declared.entries.Event.TheVariants as events
use Rattle.conn_laws.specs.BrokenJournals as broken
use Rattle.conn_laws.specs.BrokenJournals.{cancel, collect, expire, grant, late, raw_line, reply, send, start, stop, stray, wait}
use Rattle.conn_laws.specs.OwnEnds.{OwnEnds}
use Rattle.conn_laws.proofs.Fronts.{end_same, up}
use Rattle.conn_laws.proofs.HistoryParts.{history_law}
use Rattle.conn_laws.proofs.OtherPlaces.{deadline_same, ends_low, same_request}
use Rattle.conn_laws.proofs.Slack.{is_send}

-- where no entry passes a test, none that stands at a place does
none_such : (p : Entry → Bool) (xs : List Entry) (k : ℕ) (x : Entry) → list_any p xs ≡ false → slice_get xs k ≡ Some x → p x ≡ false
none_such p [] k x none at = absurd (cc)
none_such p (y ∷ ys) zero x none at = let same : y ≡ x = cc in sym (ap p same) ∙ (or_parts (p y) (list_any p ys) none).0
none_such p (y ∷ ys) (suc k) x none at = none_such p ys k x (or_parts (p y) (list_any p ys) none).1 at

two_places : (j k : ℕ) → j ≡ k → j < k → ⊥
two_places j k same low = absurd (omega arith)

-- the request with the id 1 that each of them accepts at place 1
first_request : (rest : List Entry) (reference : ℕ) → Submitted (grant ∷ start 1 reference ∷ rest) 1
first_request rest reference = record {
  place = 1;
  actor = 1;
  lease = 1;
  ask = asks.Raw (170 ∷ []);
  timeout = 1000;
  now = 0;
  reference = reference;
  frame = raw_frame (170 ∷ []) reference;
  stands = refl;
}

-- ---- ends

pub ends_twice : ¬ HistoryLaw raw_line broken.ends_twice
unfolding first_request
ends_twice law =
    let x = law.cancelled_ends 4 1 1 refl in
    let place : x.0.place ≡ 1 = law.accepted_once 1 x.0 (first_request _ 1) in
    x.1.first 3 kinds.Done (omega arith) (omega arith) (ends.answered 0 (raw_frame (187 ∷ []) 1) kinds.Done refl)

pub answered_late : ¬ HistoryLaw raw_line broken.answered_late
unfolding first_request
answered_late law =
    let x = law.answered_ends 4 0 (raw_frame (187 ∷ []) 1) 1 kinds.Done refl in
    let first = first_request _ 1 in
    let own = same_request broken.answered_late 1 x.0 first (law.accepted_once 1 x.0 first) in
    let place : x.0.place ≡ 1 = own.place in
    let deadline = deadline_same broken.answered_late broken.answered_late 4 1 refl x.0 first own (omega arith) in
    let at : request_deadline first ≡ 1000 = refl in
    x.1.first 3 kinds.Expired (omega arith) (omega arith) (ends.unanswered kinds.Expired (ends.expired 0 1000 (answers.Ticked 1 0 0) refl (omega arith)))

-- ---- replies

second_request : Submitted broken.ends_another 2
second_request = record { place = 2; actor = 1; lease = 1; ask = asks.Raw (170 ∷ []); timeout = 1000; now = 0; reference = 2; frame = raw_frame (170 ∷ []) 2; stands = refl }

pub ends_another : ¬ HistoryLaw raw_line broken.ends_another
unfolding second_request
ends_another law =
    let x = law.fits_after_sending 6 0 (raw_frame (187 ∷ []) 1) 2 kinds.Done refl in
    let own = same_request broken.ends_another 2 x.0 second_request (law.accepted_once 2 x.0 second_request) in
    let refers : 1 ≡ x.0.reference = x.4 in
    let two : x.0.reference ≡ 2 = own.reference in
    absurd (omega arith)

pub ends_queued : ¬ HistoryLaw raw_line broken.ends_queued
ends_queued law =
    let x = law.fits_after_sending 2 0 (raw_frame (187 ∷ []) 1) 1 kinds.Done refl in
    let none = none_such (λ e. is_send e.event) broken.ends_queued x.1 _ refl x.3.stands in
    absurd (cc)

fit_kind : (ask : Ask) (reading : Reading) → raw_meaning.reading_of (raw_frame (187 ∷ []) 1) ≡ Ok reading → (raw_meaning.fit ask reading).kind ≡ kinds.Done
fit_kind ask reading is =
    let same : raw_reading (raw_frame (187 ∷ []) 1) ≡ reading = cc in
    let P : Reading → Type 0 = λ x. (raw_meaning.fit ask x).kind ≡ kinds.Done in
    subst P same refl

pub ends_unfit : ¬ HistoryLaw raw_line broken.ends_unfit
ends_unfit law =
    let x = law.fits_after_sending 3 0 (raw_frame (187 ∷ []) 1) 1 kinds.Written refl in
    let fits : kinds.Written ≡ kinds.Done = x.5.2 ∙ fit_kind x.0.ask x.5.0 x.5.1 in
    absurd (cc)

-- ---- references

accepted_reference : (i j r s : ℕ) (f g : List ℕ) → answers.Accepted i r f ≡ answers.Accepted j s g → s ≡ r
accepted_reference i j r s f g e = cc

pub draws_awaited : ¬ HistoryLaw raw_line broken.draws_awaited
unfolding first_request
draws_awaited law =
    let x = law.draws_free 4 1 1 (asks.Raw (170 ∷ [])) 1000 0 _ refl in
    let same : x.1 ≡ 1 = accepted_reference 2 x.0 1 x.1 (raw_frame (170 ∷ []) 1) x.2 x.3 in
    let awaited : Awaited raw_line (grant ∷ start 1 1 ∷ send 1 ∷ cancel 1 1 ∷ []) 1 = record {
      id = 1;
      request = first_request _ 1;
      refers = refl;
      sent = 2;
      sent_at = record { actor = 0; stands = refl };
      none_since = λ k answer after f. (let none = none_such (λ e. is_frame e.event) (grant ∷ start 1 1 ∷ send 1 ∷ cancel 1 1 ∷ []) k _ refl f.stands in absurd (cc));
    } in
    let P : ℕ → Type 0 = Awaited raw_line (grant ∷ start 1 1 ∷ send 1 ∷ cancel 1 1 ∷ []) in
    x.4.3 (subst P (sym same) awaited)

pub draws_live : ¬ HistoryLaw raw_line broken.draws_live
unfolding first_request
draws_live law =
    let x = law.draws_free 2 1 1 (asks.Raw (170 ∷ [])) 1000 0 _ refl in
    let same : x.1 ≡ 1 = accepted_reference 2 x.0 1 x.1 (raw_frame (170 ∷ []) 1) x.2 x.3 in
    let front = grant ∷ start 1 1 ∷ [] in
    let live : Live raw_line front 1 = record {
      id = 1;
      request = first_request _ 1;
      refers = refl;
      live = λ k kind e. (let after = e.after in let low = ends_low raw_line front 1 (first_request _ 1) k kind e.ends in absurd (omega arith));
    } in
    let P : ℕ → Type 0 = Live raw_line front in
    x.4.2 (subst P (sym same) live)

pub draws_past : ¬ HistoryLaw raw_line broken.draws_past
draws_past law =
    let x = law.draws_free 1 1 1 (asks.Raw (170 ∷ [])) 1000 0 _ refl in
    let same : x.1 ≡ 3 = accepted_reference 1 x.0 3 x.1 (raw_frame (170 ∷ []) 3) x.2 x.3 in
    let high = x.4.1 in
    absurd (omega arith)

-- ---- acceptances and sendings

again_request : Submitted broken.same_id 1
again_request = record { place = 2; actor = 1; lease = 1; ask = asks.Raw (170 ∷ []); timeout = 1000; now = 0; reference = 2; frame = raw_frame (170 ∷ []) 2; stands = refl }

pub same_id : ¬ HistoryLaw raw_line broken.same_id
unfolding first_request again_request
same_id law = two_places 1 2 (law.accepted_once 1 (first_request _ 1) again_request) (omega arith)

pub sends_nothing : ¬ HistoryLaw raw_line broken.sends_nothing
sends_nothing law =
    let x = law.sent_live 1 1 (record { actor = 0; stands = refl }) in
    let none = none_such (λ e. is_submit e.event) (grant ∷ []) x.0.place _ refl x.0.stands in
    absurd (cc)

pub sends_twice : ¬ HistoryLaw raw_line broken.sends_twice
sends_twice law = two_places 2 3 (law.sent_once 1 2 3 (record { actor = 0; stands = refl }) (record { actor = 0; stands = refl })) (omega arith)

pub sends_cancelled : ¬ HistoryLaw raw_line broken.sends_cancelled
unfolding first_request
sends_cancelled law =
    let x = law.sent_live 1 3 (record { actor = 0; stands = refl }) in
    let above = up broken.sends_cancelled 3 1 x.0 in
    let same = above.same.place in
    let place : above.request.place ≡ 1 = law.accepted_once 1 above.request (first_request _ 1) in
    x.1 2 kinds.Cancelled (record {
      after = omega arith;
      ends = ends.unanswered kinds.Cancelled (ends.cancelled 1 refl);
      first = λ j other after before e. absurd (omega arith);
    })

-- ---- collections

pub collects_live : ¬ HistoryLaw raw_line broken.collects_live
unfolding first_request
collects_live law =
    let x = law.collected_after 2 1 1 (answers.Collected kinds.Done) refl in
    let place : x.2.place ≡ 1 = law.accepted_once 1 x.2 (first_request _ 1) in
    let after = x.5.after in
    let before = x.4 in
    absurd (omega arith)

pub collects_twice : ¬ HistoryLaw raw_line broken.collects_twice
collects_twice law = two_places 4 5 (law.collected_once 4 5 1 1 1 (answers.Collected kinds.Done) (answers.Collected kinds.Done) refl refl) (omega arith)

abbrev is_tick : Event → Bool
is_tick (events.Tick now) = true
is_tick _ = false

abbrev ends_expired : Answer → Bool
ends_expired (answers.Ended id kinds.Expired) = true
ends_expired _ = false

-- no reply and no tick there expires
not_expired : (k : ℕ) (r : Submitted broken.collects_as_expired 1) (kind : EndKind) → kind ≡ kinds.Expired → EndsAs raw_line broken.collects_as_expired 1 r k kind → ⊥
not_expired k r _ is (ends.answered actor bytes kind at) =
    let none = none_such (λ e. ends_expired e.answer) broken.collects_as_expired k _ refl at in
    let some : ends_expired (answers.Ended 1 kind) ≡ true = ap (λ x. ends_expired (answers.Ended 1 x)) is in
    absurd (cc)
not_expired k r _ is (ends.unanswered _ (ends.cancelled actor at)) = absurd (cc)
not_expired k r _ is (ends.unanswered _ (ends.expired actor now answer at due)) = let none = none_such (λ e. is_tick e.event) broken.collects_as_expired k _ refl at in absurd (cc)
not_expired k r _ is (ends.unanswered _ (ends.lease_gone x at unclosed in_time before after)) = absurd (cc)
not_expired k r _ is (ends.unanswered _ (ends.lost x reason at closing)) = absurd (cc)

collected_kind : (a b : EndKind) → answers.Collected a ≡ answers.Collected b → b ≡ a
collected_kind a b e = cc

pub collects_as_expired : ¬ HistoryLaw raw_line broken.collects_as_expired
collects_as_expired law =
    let x = law.collected_after 4 1 1 (answers.Collected kinds.Expired) refl in
    not_expired x.3 x.2 x.0 (collected_kind kinds.Expired x.0 x.1) x.5.ends

-- ---- frames

abbrev is_cancel : Event → Bool
is_cancel (events.Cancel id) = true
is_cancel _ = false

no_end : (k : ℕ) (kind : EndKind) → k ≡ 2 → EndsAs raw_line (grant ∷ start 1 1 ∷ send 1 ∷ []) 1 (first_request (send 1 ∷ []) 1) k kind → ⊥
unfolding first_request
no_end k _ is (ends.answered actor bytes kind at) = let none = none_such (λ e. is_frame e.event) (grant ∷ start 1 1 ∷ send 1 ∷ []) k _ refl at in absurd (cc)
no_end k _ is (ends.unanswered _ (ends.cancelled actor at)) = let none = none_such (λ e. is_cancel e.event) (grant ∷ start 1 1 ∷ send 1 ∷ []) k _ refl at in absurd (cc)
no_end k _ is (ends.unanswered _ (ends.expired actor now answer at due)) = let none = none_such (λ e. is_tick e.event) (grant ∷ start 1 1 ∷ send 1 ∷ []) k _ refl at in absurd (cc)
no_end k _ is (ends.unanswered _ (ends.lease_gone x at unclosed in_time before after)) =
    let stands : lease_stands_after raw_line (first_request (send 1 ∷ []) 1) 3 ≡ true = refl in
    let P : ℕ → Type 0 = λ n. lease_stands_after raw_line (first_request (send 1 ∷ []) 1) (n + 1) ≡ false in
    let gone = subst P is after in
    absurd (cc)
no_end k _ is (ends.unanswered _ (ends.lost x reason at closing)) =
    let none = none_such closes (grant ∷ start 1 1 ∷ send 1 ∷ []) k x refl at in
    let some : closes x ≡ true = ap is_some closing in
    absurd (cc)

-- a request that was sent alone has no end yet
still_live : (k : ℕ) (kind : EndKind) → IsEndPlace raw_line (grant ∷ start 1 1 ∷ send 1 ∷ []) 1 (first_request _ 1) k kind → ⊥
unfolding first_request
still_live k kind e =
    let front = grant ∷ start 1 1 ∷ send 1 ∷ [] in
    let first = first_request (send 1 ∷ []) 1 in
    let after = e.after in
    let low = ends_low raw_line front 1 first k kind e.ends in
    let is : k ≡ 2 = omega arith in
    no_end k kind is e.ends

pub stray_answer : ¬ HistoryLaw raw_line broken.stray_answer
unfolding first_request
stray_answer law =
    let front = grant ∷ start 1 1 ∷ send 1 ∷ [] in
    let comes : FrameComes raw_line broken.stray_answer 3 1 (answers.Stray 1) = record { actor = 0; bytes = raw_frame (187 ∷ []) 1; reading = raw_reading (raw_frame (187 ∷ []) 1); stands = refl; reads = refl; refers = refl } in
    let sent : LiveSent raw_line front 1 = record {
      id = 1;
      request = first_request _ 1;
      refers = refl;
      live = λ k kind e. still_live k kind e;
      sent = 2;
      sent_at = record { actor = 0; stands = refl };
    } in
    let x = (law.ends_where_live_sent 3 1 (answers.Stray 1) comes).1 sent in
    let is = x.2 in
    absurd (cc)

pub in_ranges : IsSettings raw_line.settings
in_ranges = record {
  references = (omega arith, omega arith);
  window = (omega arith, omega arith);
  share = (omega arith, omega arith);
  journal = (omega arith, omega arith);
  lease_ms = (omega arith, omega arith);
  wait_ms = (omega arith, omega arith);
}

abbrev other_id : Answer → Bool
other_id (answers.Accepted id reference frame) = not (id == 1)
other_id _ = false

abbrev starts_other : Entry → Bool
starts_other e = other_id e.answer

-- before the stray frame no live request has the reference: the only one was cancelled at place 3
abbrev cancelled_front : List Entry
cancelled_front = grant ∷ start 1 1 ∷ send 1 ∷ cancel 1 1 ∷ []

not_other : (n : ℕ) → not (n == 1) ≡ false → n ≡ 1
not_other n e = elim (cases_Bool (n == 1)) [ inl same ↦ eqb-true n 1 same | inr apart ↦ (let is : not (n == 1) ≡ true = ap not apart in absurd (cc)) ]

only_request : (id : ℕ) (r : Submitted cancelled_front id) → id ≡ 1
only_request id r = not_other id (none_such starts_other cancelled_front r.place _ refl r.stands)

ends_at_cancel : (law : HistoryLaw raw_line cancelled_front) (r : Submitted cancelled_front 1) → IsUnended raw_line cancelled_front 1 r → ⊥
ends_at_cancel law r unended =
    let x = law.cancelled_ends 3 1 1 refl in
    let one = same_request cancelled_front 1 x.0 r (law.accepted_once 1 x.0 r) in
    unended 3 kinds.Cancelled (end_same raw_line cancelled_front 1 x.0 r one 3 kinds.Cancelled x.1)

no_live : HistoryLaw raw_line cancelled_front → Live raw_line cancelled_front 1 → ⊥
no_live law l =
    let is = only_request l.id l.request in
    let P : ℕ → Type 0 = λ n. (r : Submitted cancelled_front n) × IsUnended raw_line cancelled_front n r in
    let x = subst P is (l.request, l.live) in
    ends_at_cancel law x.0 x.1

cancelled_legal : Legal raw_line cancelled_front
unfolding table_of
cancelled_legal =
    journals.turned (grant ∷ start 1 1 ∷ send 1 ∷ []) (cancel 1 1) _
    (journals.turned (grant ∷ start 1 1 ∷ []) (send 1) _
    (journals.turned (grant ∷ []) (start 1 1) _
    (journals.turned [] grant _ journals.opened refl refl) refl refl) refl refl) refl refl

pub stray_late : ¬ HistoryLaw raw_line broken.stray_late
unfolding first_request
stray_late law =
    let comes : FrameComes raw_line broken.stray_late 4 1 (answers.Stray 1) = record { actor = 0; bytes = raw_frame (187 ∷ []) 1; reading = raw_reading (raw_frame (187 ∷ []) 1); stands = refl; reads = refl; refers = refl } in
    let awaited : Awaited raw_line cancelled_front 1 = record {
      id = 1;
      request = first_request _ 1;
      refers = refl;
      sent = 2;
      sent_at = record { actor = 0; stands = refl };
      none_since = λ k answer after f. (let none = none_such (λ e. is_frame e.event) cancelled_front k _ refl f.stands in absurd (cc));
    } in
    let late_is = (law.late_where_awaited 4 1 (answers.Stray 1) comes).1 (awaited, no_live (history_law raw_line cancelled_front in_ranges cancelled_legal)) in
    absurd (cc)

pub late_for_none : ¬ HistoryLaw raw_line broken.late_for_none
late_for_none law =
    let comes : FrameComes raw_line broken.late_for_none 1 1 (answers.Late 1) = record { actor = 0; bytes = raw_frame (187 ∷ []) 1; reading = raw_reading (raw_frame (187 ∷ []) 1); stands = refl; reads = refl; refers = refl } in
    let x = (law.late_where_awaited 1 1 (answers.Late 1) comes).0 refl in
    let none = none_such (λ e. is_send e.event) (grant ∷ []) x.0.sent _ refl x.0.sent_at.stands in
    absurd (cc)

-- ---- behind the close

pub asks_closed : ¬ HistoryLaw raw_line broken.asks_closed
asks_closed law = let x = law.collects_after_close 1 2 stop wait refl refl (omega arith) refl in let is = x.1 in absurd (cc)

pub closes_twice : ¬ HistoryLaw raw_line broken.closes_twice
closes_twice law = let x = law.collects_after_close 1 2 stop stop refl refl (omega arith) refl in let is = x.1 in absurd (cc)

-- ---- own ends

abbrev starts_by_two : Entry → Bool
starts_by_two e = is_submit e.event && (e.actor == 2)

pub cancels_others : ¬ OwnEnds raw_line broken.cancels_others
cancels_others law =
    let x = law.cancelled 2 2 1 answers.Cancelled refl in
    let P : ℕ → Type 0 = λ a. starts_by_two (record { actor = a; event = events.Submit x.0.lease x.0.ask x.0.timeout x.0.now; answer = answers.Accepted 1 x.0.reference x.0.frame }) ≡ false in
    let none = subst P x.1 (none_such starts_by_two broken.cancels_others x.0.place _ refl x.0.stands) in
    absurd (cc)

-- ---- a legal one, and one that wears too early

two_after : {Y : Type 0} (xs : List Entry) (x y : Entry) → xs ++ x ∷ y ∷ [] ≡ [] → Y
two_after [] x y e = absurd (cc)
two_after (a ∷ xs) x y e = absurd (cc)

heads : (a b : Entry) (xs ys : List Entry) → a ∷ xs ≡ b ∷ ys → (a ≡ b) × (xs ≡ ys)
heads a b xs ys e = (cc, cc)

no_append : {Y : Type 0} (xs : List Entry) (x : Entry) → xs ++ x ∷ [] ≡ [] → Y
no_append [] x e = absurd (cc)
no_append (a ∷ xs) x e = absurd (cc)

-- the last entry of a list, and what stands before it
last_of : (xs : List Entry) (x : Entry) → (y z : Entry) → xs ++ x ∷ [] ≡ y ∷ z ∷ [] → (xs ≡ y ∷ []) × (x ≡ z)
last_of [] x y z e = absurd (cc)
last_of (a ∷ []) x y z e = (ap (λ (n : Entry). n ∷ []) (heads a y (x ∷ []) (z ∷ []) e).0, (heads x z [] [] (heads a y (x ∷ []) (z ∷ []) e).1).0)
last_of (a ∷ b ∷ rest) x y z e = no_append rest x (heads b z (rest ++ x ∷ []) [] (heads a y (b ∷ rest ++ x ∷ []) (z ∷ []) e).1).1

no_append_two : {Y : Type 0} (xs : List Entry) (x y : Entry) → xs ++ x ∷ y ∷ [] ≡ broken.wear ∷ [] → Y
no_append_two [] x y e = absurd (cc)
no_append_two (a ∷ xs) x y e = two_after xs x y (heads a broken.wear (xs ++ x ∷ y ∷ []) [] e).1

-- no turn leads to it: its last entry is no turn by itself, and its two are none before the limit
not_turned : (journal : List Entry) (e : Entry) (t : Table) (b : Bool) → is_worn e.event ≡ false → wears raw_line.settings (length journal + 1) t ≡ b → journal ++ turn_if b e ≡ broken.wears_early → ⊥
not_turned journal e t false no_wear is same = let both = last_of journal e grant broken.wear same in let worn : is_worn e.event ≡ true = ap (λ (x : Entry). is_worn x.event) both.1 in absurd (cc)
not_turned [] e t true no_wear is same =
    absurd (cc)
not_turned (a ∷ rest) e t true no_wear is same = no_append_two rest e (worn_entry e.actor) (heads a grant (rest ++ e ∷ worn_entry e.actor ∷ []) (broken.wear ∷ []) same).1

wears_by : (journal : List Entry) → journal ≡ broken.wears_early → Legal raw_line journal → ⊥
wears_by _ is journals.opened = absurd (cc)
wears_by _ is (journals.turned journal e t legal no_wear stepped) = not_turned journal e t (wears raw_line.settings (length journal + 1) t) no_wear refl is

pub wears_early : ¬ Legal raw_line broken.wears_early
wears_early legal = wears_by broken.wears_early refl legal

-- each entry is a turn of its own
pub answered : Legal raw_line broken.answered
unfolding table_of
answered =
    journals.turned (grant ∷ start 1 1 ∷ send 1 ∷ reply 1 1 kinds.Done ∷ []) (collect 1 kinds.Done) _
    (journals.turned (grant ∷ start 1 1 ∷ send 1 ∷ []) (reply 1 1 kinds.Done) _
    (journals.turned (grant ∷ start 1 1 ∷ []) (send 1) _
    (journals.turned (grant ∷ []) (start 1 1) _
    (journals.turned [] grant _ journals.opened refl refl) refl refl) refl refl) refl refl) refl refl
