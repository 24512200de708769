-- What stands at a place of a journal stands there in each journal that begins alike.
use Rattle.std.proofs.Common.{◌≡◌, ℕ, zero, suc, ◌+◌, ◌<◌, ◌≤◌, List, [], ◌∷◌, ◌++◌, length, take, refl, sym, ap, subst, ◌∙◌, arith, Some}
use Rattle.std.specs.Prelude.{◌==◌}
use Rattle.std.specs.List.{list_any, slice_get}
use Rattle.lease_core.specs.LeaseTables.{Lease, deadline_of}
use Rattle.wire_frames.specs.declared.ends.EndKind.{EndKind}
use Rattle.wire_frames.specs.declared.asks.Ask.{Ask}
use Rattle.conn_core.specs.Ends as ends
use Rattle.conn_core.specs.Ends.{EndsAs, EndsUnanswered, IsEndPlace, lease_stands_after, request_deadline}
use Rattle.conn_core.specs.Entries.{clock_of}
use Rattle.conn_core.specs.LeasePlaces.{held_after}
use Rattle.conn_core.specs.Places.{FrameComes, SentAt, Submitted}
use Rattle.conn_core.specs.Tables.{Connection}
use Rattle.conn_core.specs.declared.entries.Answer.{Answer}
use Rattle.conn_core.specs.declared.entries.Answer.TheVariants as answers
use Rattle.conn_core.specs.declared.entries.Entry.{Entry}
use Rattle.conn_core.specs.declared.entries.Event.TheVariants as events
use Rattle.conn_core.proofs.EntryLemmas.{get_low}
use Rattle.conn_core.proofs.StepLaws.{take_more}

-- ---- the front of a list

pub get_take : {X : Type 0} (xs : List X) (n k : ℕ) → k < n → slice_get (take n xs) k ≡ slice_get xs k
get_take xs zero k low = absurd (omega arith)
get_take [] (suc n) k low = refl
get_take (x ∷ xs) (suc n) zero low = refl
get_take (x ∷ xs) (suc n) (suc k) low = get_take xs n k (omega arith)

pub take_take : {X : Type 0} (xs : List X) (n k : ℕ) → k ≤ n → take k (take n xs) ≡ take k xs
take_take xs n zero low = refl
take_take [] zero (suc k) low = refl
take_take [] (suc n) (suc k) low = refl
take_take (x ∷ xs) zero (suc k) low = absurd (omega arith)
take_take (x ∷ xs) (suc n) (suc k) low = ap (λ zs. x ∷ zs) (take_take xs n k (omega arith))

-- two journals begin alike, with so many entries
abbrev pub Alike : (journal other : List Entry) (n : ℕ) → Type 0
Alike journal other n = take n journal ≡ take n other

pub alike_get : (journal other : List Entry) (n k : ℕ) → Alike journal other n → k < n → slice_get journal k ≡ slice_get other k
alike_get journal other n k same low = sym (get_take journal n k low) ∙ ap (λ (xs : List Entry). slice_get xs k) same ∙ get_take other n k low

alike_take : (journal other : List Entry) (n k : ℕ) → Alike journal other n → k ≤ n → take k journal ≡ take k other
alike_take journal other n k same low = sym (take_take journal n k low) ∙ ap (λ (xs : List Entry). take k xs) same ∙ take_take other n k low

pub alike_front : (journal : List Entry) (n : ℕ) → Alike (take n journal) journal n
alike_front journal n = take_take journal n n (omega arith)

pub alike_more : (journal : List Entry) (e : Entry) → Alike journal (journal ++ e ∷ []) (length journal)
alike_more journal e = sym (take_more journal e (length journal) (omega arith))

-- ---- one request, as two journals have it

pub record IsSame {journal other : List Entry} {id : ℕ} (r : Submitted journal id) (s : Submitted other id) : Type 0 where
  pub place : r.place ≡ s.place
  pub actor : r.actor ≡ s.actor
  pub lease : r.lease ≡ s.lease
  pub ask : r.ask ≡ s.ask
  pub timeout : r.timeout ≡ s.timeout
  pub reference : r.reference ≡ s.reference
  pub frame : r.frame ≡ s.frame

pub turned : {journal other : List Entry} {id : ℕ} (r : Submitted journal id) (s : Submitted other id) → IsSame r s → IsSame s r
turned r s h = record {
  place = sym h.place;
  actor = sym h.actor;
  lease = sym h.lease;
  ask = sym h.ask;
  timeout = sym h.timeout;
  reference = sym h.reference;
  frame = sym h.frame;
}

pub joined : {journal other third : List Entry} {id : ℕ} (r : Submitted journal id) (s : Submitted other id) (t : Submitted third id) → IsSame r s → IsSame s t → IsSame r t
joined r s t h k = record {
  place = h.place ∙ k.place;
  actor = h.actor ∙ k.actor;
  lease = h.lease ∙ k.lease;
  ask = h.ask ∙ k.ask;
  timeout = h.timeout ∙ k.timeout;
  reference = h.reference ∙ k.reference;
  frame = h.frame ∙ k.frame;
}

-- a request of a journal is one of each that begins alike
abbrev pub moved : (journal other : List Entry) (n id : ℕ) → Alike journal other n → (r : Submitted journal id) → r.place < n → Submitted other id
moved journal other n id same r low = record {
  place = r.place;
  actor = r.actor;
  lease = r.lease;
  ask = r.ask;
  timeout = r.timeout;
  now = r.now;
  reference = r.reference;
  frame = r.frame;
  stands = sym (alike_get journal other n r.place same low) ∙ r.stands;
}

pub moved_same : (journal other : List Entry) (n id : ℕ) (same : Alike journal other n) (r : Submitted journal id) (low : r.place < n) → IsSame r (moved journal other n id same r low)
moved_same journal other n id same r low = record { place = refl; actor = refl; lease = refl; ask = refl; timeout = refl; reference = refl; frame = refl }

-- what two entries that accept a request have
record Parts (a b : Entry) : Type 0 where
  actor : a.actor ≡ b.actor
  event : a.event ≡ b.event
  answer : a.answer ≡ b.answer

parts : (a b : Entry) → Some a ≡ Some b → Parts a b
parts a b e =
    let same : a ≡ b = cc in
    record { actor = ap (λ (x : Entry). x.actor) same; event = ap (λ (x : Entry). x.event) same; answer = ap (λ (x : Entry). x.answer) same }

submit_parts : (l m : ℕ) (a b : Ask) (t u n o : ℕ) → events.Submit l a t n ≡ events.Submit m b u o → (l ≡ m) × (a ≡ b) × (t ≡ u)
submit_parts l m a b t u n o e = (cc, cc, cc)

accepted_parts : (i j r s : ℕ) (f g : List ℕ) → answers.Accepted i r f ≡ answers.Accepted j s g → (r ≡ s) × (f ≡ g)
accepted_parts i j r s f g e = (cc, cc)

-- what stands at one place is one request
pub same_request : (journal : List Entry) (id : ℕ) (r s : Submitted journal id) → r.place ≡ s.place → IsSame r s
same_request journal id r s is =
    let both = parts _ _ (sym r.stands ∙ ap (slice_get journal) is ∙ s.stands) in
    let event = submit_parts r.lease s.lease r.ask s.ask r.timeout s.timeout r.now s.now both.event in
    let answer = accepted_parts id id r.reference s.reference r.frame s.frame both.answer in
    record { place = is; actor = both.actor; lease = event.0; ask = event.1; timeout = event.2; reference = answer.0; frame = answer.1 }

-- ---- ends

pub deadline_same : (journal other : List Entry) (n id : ℕ) → Alike journal other n → (r : Submitted journal id) (s : Submitted other id) → IsSame r s → r.place < n → request_deadline r ≡ request_deadline s
deadline_same journal other n id same r s h low =
    ap (λ (xs : List Entry). deadline_of (clock_of xs) r.timeout) (alike_take journal other n (r.place + 1) same (omega arith))
    ∙ ap (λ m. deadline_of (clock_of (take (m + 1) other)) r.timeout) h.place
    ∙ ap (λ m. deadline_of (clock_of (take (s.place + 1) other)) m) h.timeout

lease_same : (c : Connection) (journal other : List Entry) (n id k : ℕ) → Alike journal other n → (r : Submitted journal id) (s : Submitted other id) → IsSame r s → k ≤ n → lease_stands_after c r k ≡ lease_stands_after c s k
lease_same c journal other n id k same r s h low =
    ap (λ (xs : List Entry). list_any (λ (held : Lease). held.number == r.lease) (held_after c.settings xs)) (alike_take journal other n k same low)
    ∙ ap (λ m. list_any (λ (held : Lease). held.number == m) (held_after c.settings (take k other))) h.lease

unanswered_over : (c : Connection) (journal other : List Entry) (n id : ℕ) → Alike journal other n → (r : Submitted journal id) (s : Submitted other id) → IsSame r s → r.place < n → (k : ℕ) (kind : EndKind) → k < n → EndsUnanswered c journal id r k kind → EndsUnanswered c other id s k kind
unanswered_over c journal other n id same r s h low k _ under (ends.cancelled actor at) = ends.cancelled actor (sym (alike_get journal other n k same under) ∙ at)
unanswered_over c journal other n id same r s h low k _ under (ends.expired actor now answer at due) =
    let P : ℕ → Type 0 = λ d. d ≤ now in
    ends.expired actor now answer (sym (alike_get journal other n k same under) ∙ at) (subst P (deadline_same journal other n id same r s h low) due)
unanswered_over c journal other n id same r s h low k _ under (ends.lease_gone x at unclosed in_time before after) =
    ends.lease_gone x (sym (alike_get journal other n k same under) ∙ at) unclosed
    (λ now is. let P : ℕ → Type 0 = λ d. now < d in subst P (deadline_same journal other n id same r s h low) (in_time now is))
    (sym (lease_same c journal other n id k same r s h (omega arith)) ∙ before)
    (sym (lease_same c journal other n id (k + 1) same r s h (omega arith)) ∙ after)
unanswered_over c journal other n id same r s h low k _ under (ends.lost x reason at closing) = ends.lost x reason (sym (alike_get journal other n k same under) ∙ at) closing

pub ends_over : (c : Connection) (journal other : List Entry) (n id : ℕ) → Alike journal other n → (r : Submitted journal id) (s : Submitted other id) → IsSame r s → r.place < n → (k : ℕ) (kind : EndKind) → k < n → EndsAs c journal id r k kind → EndsAs c other id s k kind
ends_over c journal other n id same r s h low k _ under (ends.answered actor bytes kind at) = ends.answered actor bytes kind (sym (alike_get journal other n k same under) ∙ at)
ends_over c journal other n id same r s h low k _ under (ends.unanswered kind e) = ends.unanswered kind (unanswered_over c journal other n id same r s h low k kind under e)

pub end_over : (c : Connection) (journal other : List Entry) (n id : ℕ) → Alike journal other n → (r : Submitted journal id) (s : Submitted other id) → IsSame r s → (k : ℕ) (kind : EndKind) → k < n → IsEndPlace c journal id r k kind → IsEndPlace c other id s k kind
end_over c journal other n id same r s h k kind under e =
    let behind = e.after in
    let place = h.place in
    record {
      after = omega arith;
      ends = ends_over c journal other n id same r s h (omega arith) k kind under e.ends;
      first = λ j other_kind after before x. e.first j other_kind (omega arith) before (ends_over c other journal n id (sym same) s r (turned r s h) (omega arith) j other_kind (omega arith) x);
    }

-- ---- sendings and frames

pub sent_over : (journal other : List Entry) (n id k : ℕ) → Alike journal other n → k < n → SentAt journal id k → SentAt other id k
sent_over journal other n id k same low s = record { actor = s.actor; stands = sym (alike_get journal other n k same low) ∙ s.stands }

pub comes_over : (c : Connection) (journal other : List Entry) (n k reference : ℕ) (answer : Answer) → Alike journal other n → k < n → FrameComes c journal k reference answer → FrameComes c other k reference answer
comes_over c journal other n k reference answer same low f = record {
  actor = f.actor;
  bytes = f.bytes;
  reading = f.reading;
  stands = sym (alike_get journal other n k same low) ∙ f.stands;
  reads = f.reads;
  refers = f.refers;
}

-- ---- places lie in the journal

pub sent_low : (journal : List Entry) (id k : ℕ) → SentAt journal id k → k < length journal
sent_low journal id k s = get_low journal k _ s.stands

pub comes_low : (c : Connection) (journal : List Entry) (k reference : ℕ) (answer : Answer) → FrameComes c journal k reference answer → k < length journal
comes_low c journal k reference answer f = get_low journal k _ f.stands

unanswered_low : (c : Connection) (journal : List Entry) (id : ℕ) (r : Submitted journal id) (k : ℕ) (kind : EndKind) → EndsUnanswered c journal id r k kind → k < length journal
unanswered_low c journal id r k _ (ends.cancelled actor at) = get_low journal k _ at
unanswered_low c journal id r k _ (ends.expired actor now answer at due) = get_low journal k _ at
unanswered_low c journal id r k _ (ends.lease_gone x at unclosed in_time before after) = get_low journal k x at
unanswered_low c journal id r k _ (ends.lost x reason at closing) = get_low journal k x at

pub ends_low : (c : Connection) (journal : List Entry) (id : ℕ) (r : Submitted journal id) (k : ℕ) (kind : EndKind) → EndsAs c journal id r k kind → k < length journal
ends_low c journal id r k _ (ends.answered actor bytes kind at) = get_low journal k _ at
ends_low c journal id r k _ (ends.unanswered kind e) = unanswered_low c journal id r k kind e
