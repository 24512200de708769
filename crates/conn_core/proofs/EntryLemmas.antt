-- What each entry of a legal journal says, by its step.
use Rattle.std.proofs.Common.{◌≡◌, ◌⊎◌, inl, inr, ℕ, zero, suc, ◌+◌, ◌<◌, ◌≤◌, Bool, true, false, List, [], ◌∷◌, ◌++◌, length, take, refl, sym, ap, subst, ◌∙◌, arith, Option, Some, None, Ok, Err, length-append}
use Rattle.std.specs.Prelude.{Result, if◌then◌else◌, nat_lt}
use Rattle.std.specs.List.{list_any, slice_get}
use Rattle.lease_core.specs.LeaseSteps.{asked_answer, is_held_at_once}
use Rattle.lease_core.specs.LeaseTables.{LeaseTable, is_lease_of, waiters_limit}
use Rattle.lease_core.specs.declared.answers.LeaseAnswer.{LeaseAnswer}
use Rattle.lease_core.specs.declared.answers.LeaseAnswer.TheVariants as lease_answers
use Rattle.txn_core.specs.RowSteps.{awaiting}
use Rattle.txn_core.specs.RowTables.{Row, is_quarantined}
use Rattle.node_tree.specs.declared.readings.Reading.{Reading}
use Rattle.wire_frames.specs.WireMeaning.{WireMeaning}
use Rattle.wire_frames.specs.declared.asks.Ask.{Ask}
use Rattle.wire_frames.specs.declared.ends.FrameWhy.{FrameWhy}
use Rattle.wire_frames.specs.declared.ends.Outcome.{Outcome}
use Rattle.wire_frames.specs.declared.ends.Reason.{Reason}
use Rattle.conn_core.specs.EntryLaw.{EntryLaw}
use Rattle.conn_core.specs.Journals.{Legal, table_of}
use Rattle.conn_core.specs.Steps.{Request, Started, apply_frame, arrived, ask_lease, asked_entry, counted, frame_entry, received, step, submit, when_open, with_lease}
use Rattle.conn_core.specs.Tables.{Connection, Handed, Table, at_moment, holds}
use Rattle.conn_core.specs.declared.answers.AskRefusal.TheVariants as asks
use Rattle.conn_core.specs.declared.answers.FrameAnswer.{FrameAnswer}
use Rattle.conn_core.specs.declared.answers.FrameRefusal.TheVariants as frames
use Rattle.conn_core.specs.declared.entries.Answer.{Answer}
use Rattle.conn_core.specs.declared.entries.Answer.TheVariants as answers
use Rattle.conn_core.specs.declared.entries.Entry.{Entry}
use Rattle.conn_core.specs.declared.entries.Event.TheVariants as events
use Rattle.conn_core.proofs.FrameLemmas.{settled_if}
use Rattle.conn_core.proofs.StepLaws.{Walked, WalkLaw, begun, legal_walked, open_took, queues, take_more, take_whole, took, walk_law, walked, walked_steps}

-- ---- the entries before a place

take_none : {X : Type 0} (k : ℕ) → (let none : List X = [] in take k none ≡ none)
take_none zero = refl
take_none (suc k) = refl

nat_split : (k n : ℕ) → (k ≤ n) ⊎ (n < k)
nat_split zero n = inl (omega arith)
nat_split (suc k) zero = inr (omega arith)
nat_split (suc k) (suc n) = elim (nat_split k n) [ inl low ↦ inl (omega arith) | inr high ↦ inr (omega arith) ]

accepted_id : (i r : ℕ) (f : List ℕ) (id reference : ℕ) (frame : List ℕ) → answers.Accepted i r f ≡ answers.Accepted id reference frame → id ≡ i
accepted_id i r f id reference frame e = cc

pub walked_before : (c : Connection) (journal : List Entry) (k : ℕ) → Walked c journal → k ≤ length journal → Walked c (take k journal)
walked_before c _ k begun low = let none : take k [] ≡ [] = take_none k in let P : List Entry → Type 0 = Walked c in subst P (sym none) begun
walked_before c _ k (walked journal e u before stepped) low =
    let P : List Entry → Type 0 = Walked c in
    elim (nat_split k (length journal)) [
      | inl within ↦ subst P (sym (take_more journal e k within)) (walked_before c journal k before within)
      | inr past ↦ (
          let long = length-append journal (e ∷ []) in
          subst P (sym (take_whole (journal ++ e ∷ []) k (omega arith))) (walked journal e u before stepped))
    ]

pub get_low : {X : Type 0} (xs : List X) (k : ℕ) (x : X) → slice_get xs k ≡ Some x → k < length xs
get_low [] k x e = cc
get_low (y ∷ ys) zero x e = omega arith
get_low (y ∷ ys) (suc k) x e = let rest = get_low ys k x e in omega arith

law_before : (c : Connection) (journal : List Entry) (k : ℕ) (e : Entry) → Walked c journal → slice_get journal k ≡ Some e → WalkLaw c (take k journal) (table_of c (take k journal))
law_before c journal k e w at = let low = get_low journal k e at in walk_law c (take k journal) (walked_before c journal k w (omega arith))

-- ---- AskLease

ask_given : (t u : Table) (actor now : ℕ) (given : LeaseAnswer) (closed : Option Reason) (b : Bool) → (let p : Table × LeaseAnswer = (with_lease actor (at_moment now t), asked_answer t.leases) in let r : Table × LeaseAnswer = (u, given) in when_open asks.Closed closed (if b then Ok p else Err asks.QueueFull) ≡ Ok r) → asked_answer t.leases ≡ given
ask_given t u actor now given None true e =
    let p : Table × LeaseAnswer = (with_lease actor (at_moment now t), asked_answer t.leases) in
    let r : Table × LeaseAnswer = (u, given) in
    let same : p ≡ r = cc in
    ap (λ (x : Table × LeaseAnswer). x.1) same
ask_given t u actor now given None false e = cc
ask_given t u actor now given (Some reason) b e = cc

ask_told : (c : Connection) (t u : Table) (actor now : ℕ) (answer : Answer) → step c t actor (events.AskLease now) ≡ Some (u, answer) → asked_entry (asked_answer t.leases) ≡ answer
ask_told c t u actor now answer e =
    let took_it = took asked_entry (ask_lease t actor now) u answer e in
    ap asked_entry (ask_given t u actor now took_it.given t.closed (nat_lt (length t.leases.waiting) waiters_limit) took_it.is) ∙ took_it.told

granted_is : (l : LeaseTable) (b : Bool) (lease : ℕ) → asked_entry (if b then lease_answers.Granted (l.drawn + 1) else lease_answers.Waiting (l.drawn + 1) (length l.waiting)) ≡ answers.Granted lease → lease ≡ l.drawn + 1
granted_is l true lease e = cc
granted_is l false lease e = cc

waiting_is : (l : LeaseTable) (b : Bool) (lease place : ℕ) → asked_entry (if b then lease_answers.Granted (l.drawn + 1) else lease_answers.Waiting (l.drawn + 1) (length l.waiting)) ≡ answers.Waiting lease place → (lease ≡ l.drawn + 1) × (place ≡ length l.waiting)
waiting_is l true lease place e = cc
waiting_is l false lease place e = (cc, cc)

-- ---- Submit

submit_told : (c : Connection) (t u : Table) (actor lease : ℕ) (ask : Ask) (timeout now id reference : ℕ) (frame : List ℕ) → step c t actor (events.Submit lease ask timeout now) ≡ Some (u, answers.Accepted id reference frame) → id ≡ t.requests.drawn + 1
submit_told c t u actor lease ask timeout now id reference frame e =
    let q : Request = record { actor = actor; lease = lease; ask = ask; timeout = timeout; moment = now } in
    let answer = answers.Accepted id reference frame in
    let took_it = took (λ (s : Started). answers.Accepted s.id s.reference s.frame) (submit c.wire t q) u answer e in
    let row = queues c.wire t q u took_it.given took_it.is in
    let first : took_it.given.id ≡ t.requests.drawn + 1 = ap (λ (s : Started). s.id) row.started_is in
    accepted_id took_it.given.id took_it.given.reference took_it.given.frame id reference frame took_it.told ∙ first

submit_holds : (c : Connection) (t u : Table) (actor lease : ℕ) (ask : Ask) (timeout now : ℕ) (answer : Answer) → step c t actor (events.Submit lease ask timeout now) ≡ Some (u, answer) → holds actor lease t ≡ true
submit_holds c t u actor lease ask timeout now answer e =
    let q : Request = record { actor = actor; lease = lease; ask = ask; timeout = timeout; moment = now } in
    let took_it = took (λ (s : Started). answers.Accepted s.id s.reference s.frame) (submit c.wire t q) u answer e in
    (queues c.wire t q u took_it.given took_it.is).holding

-- ---- Frame

pub frame_told : (c : Connection) (t u : Table) (actor : ℕ) (bytes : List ℕ) (answer : Answer) → step c t actor (events.Frame bytes) ≡ Some (u, answer) → frame_entry (received c.wire t bytes (c.wire.reading_of bytes)).1 ≡ answer
frame_told c t u actor bytes answer e =
    let took_it = took frame_entry (apply_frame c.wire t bytes) u answer e in
    let opened = open_took frames.Closed t.closed _ (u, took_it.given) took_it.is in
    let p = received c.wire t bytes (c.wire.reading_of bytes) in
    let r : Table × FrameAnswer = (u, took_it.given) in
    let same : p ≡ r = cc in
    ap (λ (x : Table × FrameAnswer). frame_entry x.1) same ∙ took_it.told

-- what a frame is told, by its reading
abbrev ToldBy : WireMeaning → List ℕ → ℕ → Result Reading FrameWhy → Answer → Type 0
ToldBy wire bytes index reading (answers.Late reference) = (r : Reading) × (reading ≡ Ok r) × (wire.reference_of bytes ≡ reference)
ToldBy wire bytes index reading (answers.Stray reference) = (r : Reading) × (reading ≡ Ok r) × (wire.reference_of bytes ≡ reference)
ToldBy wire bytes index reading (answers.Undecodable i why) = (i ≡ index) × (reading ≡ Err why)
ToldBy wire bytes index reading _ = Unit {0}

told_without : (wire : WireMeaning) (bytes : List ℕ) (index : ℕ) (reading : Reading) (t : Table) (b : Bool) → ToldBy wire bytes index (Ok reading) (frame_entry (settled_if (wire.reference_of bytes) (counted t) b).1)
told_without wire bytes index reading t true = (reading, refl, refl)
told_without wire bytes index reading t false = (reading, refl, refl)

told_arrived : (wire : WireMeaning) (bytes : List ℕ) (index : ℕ) (reading : Reading) (t : Table) (found : Option (Row Handed Outcome)) → ToldBy wire bytes index (Ok reading) (frame_entry (arrived wire (wire.reference_of bytes) reading (counted t) found).1)
told_arrived wire bytes index reading t None = told_without wire bytes index reading t (is_quarantined (wire.reference_of bytes) t.requests)
told_arrived wire bytes index reading t (Some row) = tt

told_received : (wire : WireMeaning) (bytes : List ℕ) (t : Table) (reading : Result Reading FrameWhy) → ToldBy wire bytes t.frames reading (frame_entry (received wire t bytes reading).1)
told_received wire bytes t (Ok reading) = told_arrived wire bytes t.frames reading t (awaiting (wire.reference_of bytes) t.requests)
told_received wire bytes t (Err why) = (refl, refl)

told_by : (c : Connection) (t u : Table) (actor : ℕ) (bytes : List ℕ) (answer : Answer) → step c t actor (events.Frame bytes) ≡ Some (u, answer) → ToldBy c.wire bytes t.frames (c.wire.reading_of bytes) answer
told_by c t u actor bytes answer e =
    let P : Answer → Type 0 = ToldBy c.wire bytes t.frames (c.wire.reading_of bytes) in
    subst P (frame_told c t u actor bytes answer e) (told_received c.wire bytes t (c.wire.reading_of bytes))

-- ---- the law

pub entry_law : (c : Connection) (journal : List Entry) → Legal c journal → EntryLaw c journal
entry_law c journal legal =
    let w = legal_walked c journal legal in
    let steps = walked_steps c journal w in
    let at_place : (k : ℕ) → Table = λ k. table_of c (take k journal) in
    record {
      steps = steps;
      granted_number = λ k actor now lease at.
          let law = law_before c journal k _ w at in
          let t = at_place k in
          granted_is t.leases (is_held_at_once t.leases) lease (ask_told c t _ actor now (answers.Granted lease) (steps k _ at)) ∙ ap (λ n. n + 1) law.asks;
      waiting_number = λ k actor now lease place at.
          let law = law_before c journal k _ w at in
          let t = at_place k in
          (waiting_is t.leases (is_held_at_once t.leases) lease place (ask_told c t _ actor now (answers.Waiting lease place) (steps k _ at))).0 ∙ ap (λ n. n + 1) law.asks;
      request_number = λ k actor lease ask timeout now id reference frame at.
          let law = law_before c journal k _ w at in
          submit_told c (at_place k) _ actor lease ask timeout now id reference frame (steps k _ at) ∙ ap (λ n. n + 1) law.requests;
      frame_number = λ k actor bytes index why at.
          let law = law_before c journal k _ w at in
          (told_by c (at_place k) _ actor bytes (answers.Undecodable index why) (steps k _ at)).0 ∙ law.frames;
      waiting_place = λ k actor now lease place at.
          let law = law_before c journal k _ w at in
          let t = at_place k in
          (waiting_is t.leases (is_held_at_once t.leases) lease place (ask_told c t _ actor now (answers.Waiting lease place) (steps k _ at))).1 ∙ ap (λ (l : LeaseTable). length l.waiting) law.leases;
      held = λ k actor lease ask timeout now answer at.
          let law = law_before c journal k _ w at in
          ap (λ (l : LeaseTable). list_any (is_lease_of actor lease) l.held) (sym law.leases) ∙ submit_holds c (at_place k) _ actor lease ask timeout now answer (steps k _ at);
      late = λ k actor bytes reference at.
          let told = told_by c (at_place k) _ actor bytes (answers.Late reference) (steps k _ at) in
          record { actor = actor; bytes = bytes; reading = told.0; stands = at; reads = told.1; refers = told.2 };
      stray = λ k actor bytes reference at.
          let told = told_by c (at_place k) _ actor bytes (answers.Stray reference) (steps k _ at) in
          record { actor = actor; bytes = bytes; reading = told.0; stands = at; reads = told.1; refers = told.2 };
      unread = λ k actor bytes index why at. (told_by c (at_place k) _ actor bytes (answers.Undecodable index why) (steps k _ at)).1;
    }
