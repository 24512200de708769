-- What the calls that send, collect, answer and start requests do to what is kept is their events' steps.
use Rattle.std.proofs.Common.{◌≡◌, inl, inr, ℕ, ◌+◌, ◌<◌, ◌≤◌, ◌^◌, Bool, true, false, List, [], ◌∷◌, ◌++◌, length, refl, sym, ap, subst, ◌∙◌, arith, Option, Some, None, Ok, Err, length-append}
use Rattle.std.specs.Prelude.{◌&&◌, ◌==◌, IsTrue, Result, is_none, if◌then◌else◌, nat_lt, unwrap_or, IfErr, IfOk}
use Rattle.std.specs.List.{slice_get}
use Rattle.std.specs.Vec.{vec_capacity}
use Rattle.std.proofs.lemmas.Bool.Decides.{nat_tests}
use Rattle.txn_core.specs.RowLaws.{one}
use Rattle.txn_core.specs.RowSteps.{IsGivenOrNoMemory, added, answer_of, sent_next, table_or}
use Rattle.txn_core.specs.RowTables.{IsRowTable, RowTable, is_full}
use Rattle.txn_core.specs.PlainRows.{plain_full, table_plain}
use Rattle.txn_core.specs.declared.phases.AddRefusal.{AddRefusal}
use Rattle.wire_frames.specs.WireMeaning.{Refused, WireMeaning}
use Rattle.wire_frames.specs.declared.asks.Ask.{Ask}
use Rattle.wire_frames.specs.declared.ends.EndKind.{EndKind}
use Rattle.wire_frames.specs.declared.ends.Outcome.{Outcome}
use Rattle.wire_frames.specs.declared.ends.Reason.{Reason}
use Rattle.conn_core.specs.Entries.{closing_reason}
use Rattle.conn_core.specs.Journals as journals
use Rattle.conn_core.specs.Journals.{IsAdmitted, IsCarried, IsCarriedBy, Legal, is_worn, table_of, turn_if, wears}
use Rattle.conn_core.specs.KeptMoves.{KeepsOn, Moves, MovesOrNoMemory, Starts}
use Rattle.conn_core.specs.KeptStates.{ClosesAs, Does, DoesOrNoMemory, IsKept, IsState, IsStateOf, Prepares, needs_of, wears_kept, worn_kept}
use Rattle.conn_core.specs.KeptTables.{Stands, end_kind}
use Rattle.conn_core.specs.Requests.{frame_for, place_answer, submit_event, submitted_entry}
use Rattle.conn_core.specs.States.{grown}
use Rattle.conn_core.specs.Steps.{Request, Started, accepted_of, apply_frame, collect, draft_of, frame_entry, reference_to_try, sending_as, started, started_as, step, submit, take_send, taken, when_open, with_frame}
use Rattle.conn_core.specs.Tables.{Connection, Requests, Table, at_moment, holds}
use Rattle.conn_core.specs.declared.answers.Accepted.{Accepted}
use Rattle.conn_core.specs.declared.answers.FrameAnswer.{FrameAnswer}
use Rattle.conn_core.specs.declared.answers.FrameRefusal.{FrameRefusal}
use Rattle.conn_core.specs.declared.answers.FrameRefusal.TheVariants as frame_refusals
use Rattle.conn_core.specs.declared.answers.SendRefusal.TheVariants as send_refusals
use Rattle.conn_core.specs.declared.answers.Sending.{Sending}
use Rattle.conn_core.specs.declared.answers.SubmitRefusal.{SubmitRefusal}
use Rattle.conn_core.specs.declared.answers.SubmitRefusal.TheVariants as submit_refusals
use Rattle.conn_core.specs.declared.drafts.FrameCopies.{FrameCopies}
use Rattle.conn_core.specs.declared.entries.Answer.{Answer}
use Rattle.conn_core.specs.declared.entries.Answer.TheVariants as answers
use Rattle.conn_core.specs.declared.entries.Entry.{Entry}
use Rattle.conn_core.specs.declared.entries.Event.{Event}
use Rattle.conn_core.specs.declared.entries.Event.TheVariants as events
use Rattle.conn_core.specs.declared.kept.Kept.{Kept}
use Rattle.conn_core.specs.declared.table.KeptTable.{KeptTable}
use Rattle.conn_core.proofs.DoesLemmas.{Taking, WentOn, Written, does_refused, parts, turning_on, went_on}
use Rattle.conn_core.proofs.KeepLemmas.{kept_on}
use Rattle.conn_core.proofs.RangeLemmas.{free_bounds}
use Rattle.conn_core.proofs.RowStands.{add_row}
use Rattle.conn_core.proofs.TurnLemmas.{Turning, admitted_more, carried_more, get_cases, get_more, stands_more, table_more}

-- ---- a step by its answer

pub ok_of : {A R : Type 0} (w : Result (Table × A) R) (t : Table) (a : A) → answer_of w ≡ Ok a → w ≡ Ok (table_or t w, a)
ok_of (Ok p) t a e = ap (λ x. Ok (p.0, x)) (let same : p.1 ≡ a = cc in same)
ok_of (Err refusal) t a e = cc

pub err_of : {A R : Type 0} (w : Result (Table × A) R) (r : R) → answer_of w ≡ Err r → w ≡ Err r
err_of (Ok p) r e = cc
err_of (Err refusal) r e = ap Err (let same : refusal ≡ r = cc in same)

pub open_answer : {A R : Type 0} (refusal : Reason → R) (closed : Option Reason) (next : Result (Table × A) R) (a : A) → answer_of (when_open refusal closed next) ≡ Ok a → closed ≡ None
open_answer refusal None next a e = refl
open_answer refusal (Some reason) next a e = cc

pub some_none : {A : Type 0} {o : Option A} {a : A} → o ≡ Some a → o ≡ None → ⊥
some_none e f = cc

accepted_same : (i r j s : ℕ) (p q : Result Accepted SubmitRefusal) → p ≡ Ok (record { id = i; reference = r }) → q ≡ Ok (record { id = j; reference = s }) → p ≡ q → (i ≡ j) × (r ≡ s)
accepted_same i r j s p q e f g =
    let one : Accepted = record { id = i; reference = r } in
    let two : Accepted = record { id = j; reference = s } in
    let same : one ≡ two = cc in
    (ap (λ (a : Accepted). a.id) same, ap (λ (a : Accepted). a.reference) same)

-- ---- a call that moved what is kept of an open table, and is written down

pub moves_ok : {A R : Type 0} (c : Connection) (actor : ℕ) (event : Event) (f : A → Answer) (w : Result (Table × A) R) (old new : Kept) (k : KeptTable) (a : A) → IsState c old → old.table.closed ≡ None → step c (table_of c old.journal.items) actor event ≡ taken f w → is_worn event ≡ false → IsAdmitted c.wire event → IsCarriedBy c event (f a) → (let e : Entry = record { actor = actor; event = event; answer = f a } in (k.closed ≡ closing_reason e) × Written c.settings old new k e) → Ok a ≡ answer_of w → Stands old.journal.items k (table_or (table_of c old.journal.items) w) → KeepsOn old.table k → length old.journal.items + 1 + needs_of k ≤ vec_capacity new.journal → Does c actor event (answer_of w) old new (Ok a)
moves_ok c actor event f w old new k a state unclosed steps not_worn admits carries written given stands keeps room =
    let t = table_of c old.journal.items in
    let e : Entry = record { actor = actor; event = event; answer = f a } in
    let is : w ≡ Ok (table_or t w, a) = ok_of w t a (sym given) in
    let taking : Taking c old k e (table_or t w) = record {
      state = state;
      unclosed = unclosed;
      stepped = steps ∙ ap (taken f) is;
      not_worn = not_worn;
      admits = admits;
      carries = carries;
      closed = written.0;
      stands = stands;
      kept = keeps c.settings (length old.journal.items) state.kept;
    } in
    let went = went_on c old new k e (table_or t w) taking written.1 room in
    record { answer = given; journal = went.journal; unchanged = tt; state = went.state }

pub moves_err : {A R : Type 0} (c : Connection) (actor : ℕ) (event : Event) (f : A → Answer) (w : Result (Table × A) R) (old new : Kept) (r : R) → IsState c old → step c (table_of c old.journal.items) actor event ≡ taken f w → Err r ≡ answer_of w → new.journal.items ≡ old.journal.items → new.table ≡ old.table → vec_capacity old.journal ≤ vec_capacity new.journal → Does c actor event (answer_of w) old new (Err r)
moves_err c actor event f w old new r state steps given journal table wide =
    does_refused c actor event (answer_of w) old new r state journal table wide (sym given) (steps ∙ ap (taken f) (err_of w r (sym given)))

pub or_no_memory : {A R : Type 0} (no_memory : R) (c : Connection) (actor : ℕ) (event : Event) (wanted : Result A R) (old new : Kept) (result : Result A R) → Does c actor event wanted old new result → DoesOrNoMemory no_memory c actor event wanted old new result
or_no_memory no_memory c actor event wanted old new result does = record { answer = inl does.answer; journal = inr does.journal; unchanged = does.unchanged; state = does.state }

pub no_memory_does : {A R : Type 0} (no_memory : R) (c : Connection) (actor : ℕ) (event : Event) (wanted : Result A R) (old new : Kept) → IsState c old → IsState c new → new.journal.items ≡ old.journal.items → DoesOrNoMemory no_memory c actor event wanted old new (Err no_memory)
no_memory_does no_memory c actor event wanted old new state next journal = record { answer = inr refl; journal = inl (refl, journal); unchanged = journal; state = next }

-- ---- a collection from a closed table, which can't bring a close by a full journal

pub closes_same : (journal : List Entry) (e : Entry) (closed : Option Reason) → ClosesAs journal closed → closing_reason e ≡ None → ClosesAs (journal ++ e ∷ []) closed
closes_same journal e closed old none reason = (
  λ same. let w = (old reason).0 same in (w.0, w.1, get_more journal (e ∷ []) w.0 w.1 w.2, w.3),
  λ w. elim (get_cases journal e w.1 w.0 w.2) [
    | inl at ↦ (old reason).1 (w.0, w.1, at, w.3)
    | inr same ↦ let apart : closing_reason w.1 ≡ None = ap closing_reason (sym same) ∙ none in absurd (some_none w.3 apart)
  ],
)

record Collecting (c : Connection) (old : Kept) (k : KeptTable) (e : Entry) (t : Table) (reason : Reason) : Type 0 where
  state : IsState c old
  closed : old.table.closed ≡ Some reason
  stays : k.closed ≡ old.table.closed
  stepped : step c (table_of c old.journal.items) e.actor e.event ≡ Some (t, e.answer)
  not_worn : is_worn e.event ≡ false
  none : closing_reason e ≡ None
  admits : IsAdmitted c.wire e.event
  carries : IsCarriedBy c e.event e.answer
  stands : Stands old.journal.items k t
  kept : IsKept c.settings (length old.journal.items + 1) k
  rows : length k.requests.rows + 1 ≡ length old.table.requests.rows

and_none : (b : Bool) (closed : Option Reason) (reason : Reason) → closed ≡ Some reason → (b && is_none closed) ≡ false
and_none true closed reason e = ap is_none e
and_none false closed reason e = refl

collected_state : (c : Connection) (old : Kept) (k : KeptTable) (e : Entry) (t : Table) (reason : Reason) (capacity : ℕ) → Collecting c old k e t reason → length old.journal.items + 1 + needs_of k ≤ capacity → IsStateOf c (old.journal.items ++ e ∷ []) k capacity
collected_state c old k e t reason capacity h room =
    let journal = old.journal.items in
    let long : length (journal ++ e ∷ []) ≡ length journal + 1 = omega (arith, length-append journal (e ∷ [])) in
    let shut : t.closed ≡ Some reason = sym h.stands.closed ∙ h.stays ∙ h.closed in
    let unworn : wears c.settings (length journal + 1) t ≡ false = and_none (length journal + 1 == c.settings.journal) t.closed reason shut in
    let P : Bool → Type 0 = λ b. Legal c (journal ++ turn_if b e) in
    let within = h.state.within in
    let rows = h.rows in
    let apart : k.closed ≡ None → ⊥ = λ none. some_none (h.stays ∙ h.closed) none in
    record {
      settings = h.state.settings;
      legal = subst P unworn (journals.turned journal e t h.state.legal h.not_worn h.stepped);
      stands = rw (table_more c journal e t h.stepped) (stands_more journal (e ∷ []) k t h.stands);
      kept = rw long h.kept;
      closes = closes_same journal e k.closed (let Q : Option Reason → Type 0 = ClosesAs journal in subst Q (sym h.stays) h.state.closes) h.none;
      below = λ none. absurd (apart none);
      within = omega arith;
      room = omega arith;
      admitted = admitted_more c journal e h.state.admitted h.admits;
      carried = carried_more c journal e h.state.carried h.carries;
    }

collected_does : (c : Connection) (actor : ℕ) (event : Event) (old new : Kept) (k : KeptTable) (e : Entry) (t : Table) (reason : Reason) → e.actor ≡ actor → e.event ≡ event → Collecting c old k e t reason → Written c.settings old new k e → length old.journal.items + 1 + needs_of k ≤ vec_capacity new.journal → WentOn c old new e
collected_does c actor event old new k e t reason one two h written room =
    let journal = old.journal.items in
    let kept_unworn : wears_kept c.settings (length journal + 1) k.closed ≡ false = and_none (length journal + 1 == c.settings.journal) k.closed reason (h.stays ∙ h.closed) in
    let unworn : wears c.settings (length journal + 1) t ≡ false = and_none (length journal + 1 == c.settings.journal) t.closed reason (sym h.stands.closed ∙ h.stays ∙ h.closed) in
    let is : new.journal.items ≡ journal ++ e ∷ [] = written.journal ∙ ap (λ b. journal ++ turn_if b e) kept_unworn in
    let table_is : new.table ≡ k = written.table ∙ ap (λ b. worn_kept b k) kept_unworn in
    record {
      journal = is ∙ sym (ap (λ b. journal ++ turn_if b e) unworn) ∙ sym (ap (grown c journal e.actor e.event) h.stepped);
      state = parts c _ new.journal.items k new.table (vec_capacity new.journal) is table_is (collected_state c old k e t reason (vec_capacity new.journal) h room);
    }

collect_closed : (c : Connection) (actor id : ℕ) (old new : Kept) (k : KeptTable) (outcome : Outcome) (reason : Reason) → old.table.closed ≡ Some reason → IsState c old → Moves old.journal.items k (table_of c old.journal.items) (collect (table_of c old.journal.items) actor id) (Ok outcome) → k.closed ≡ old.table.closed → KeepsOn old.table k → length k.requests.rows + 1 ≡ length old.table.requests.rows → (let e : Entry = record { actor = actor; event = events.Collect id; answer = answers.Collected outcome.kind } in Written c.settings old new k e) → length old.journal.items + 1 + needs_of k ≤ vec_capacity new.journal → Does c actor (events.Collect id) (answer_of (collect (table_of c old.journal.items) actor id)) old new (Ok outcome)
collect_closed c actor id old new k outcome reason shut state moved stays keeps rows written room =
    let t = table_of c old.journal.items in
    let w = collect t actor id in
    let e : Entry = record { actor = actor; event = events.Collect id; answer = answers.Collected outcome.kind } in
    let is : w ≡ Ok (table_or t w, outcome) = ok_of w t outcome (sym moved.answer) in
    let collecting : Collecting c old k e (table_or t w) reason = record {
      state = state;
      closed = shut;
      stays = stays;
      stepped = ap (taken (λ (o : Outcome). answers.Collected o.kind)) is;
      not_worn = refl;
      none = refl;
      admits = tt;
      carries = tt;
      stands = moved.stands;
      kept = keeps c.settings (length old.journal.items) state.kept;
      rows = rows;
    } in
    let went = collected_does c actor (events.Collect id) old new k e (table_or t w) reason refl refl collecting written room in
    record { answer = moved.answer; journal = went.journal; unchanged = tt; state = went.state }

collect_cases : (c : Connection) (actor id : ℕ) (old new : Kept) (k : KeptTable) (outcome : Outcome) (closed : Option Reason) → old.table.closed ≡ closed → IsState c old → Moves old.journal.items k (table_of c old.journal.items) (collect (table_of c old.journal.items) actor id) (Ok outcome) → k.closed ≡ old.table.closed → KeepsOn old.table k → length k.requests.rows + 1 ≡ length old.table.requests.rows → (let e : Entry = record { actor = actor; event = events.Collect id; answer = answers.Collected outcome.kind } in Written c.settings old new k e) → length old.journal.items + 1 + needs_of k ≤ vec_capacity new.journal → Does c actor (events.Collect id) (answer_of (collect (table_of c old.journal.items) actor id)) old new (Ok outcome)
collect_cases c actor id old new k outcome None shut state moved stays keeps rows written room =
    moves_ok c actor (events.Collect id) (λ (o : Outcome). answers.Collected o.kind) (collect (table_of c old.journal.items) actor id) old new k outcome state shut refl refl tt tt (stays ∙ shut, written) moved.answer moved.stands keeps room
collect_cases c actor id old new k outcome (Some reason) shut state moved stays keeps rows written room = collect_closed c actor id old new k outcome reason shut state moved stays keeps rows written room

pub collect_ok : (c : Connection) (actor id : ℕ) (old new : Kept) (k : KeptTable) (outcome : Outcome) → IsState c old → Moves old.journal.items k (table_of c old.journal.items) (collect (table_of c old.journal.items) actor id) (Ok outcome) → k.closed ≡ old.table.closed → KeepsOn old.table k → length k.requests.rows + 1 ≡ length old.table.requests.rows → (let e : Entry = record { actor = actor; event = events.Collect id; answer = answers.Collected outcome.kind } in Written c.settings old new k e) → length old.journal.items + 1 + needs_of k ≤ vec_capacity new.journal → Does c actor (events.Collect id) (answer_of (collect (table_of c old.journal.items) actor id)) old new (Ok outcome)
collect_ok c actor id old new k outcome state moved stays keeps rows written room = collect_cases c actor id old new k outcome old.table.closed refl state moved stays keeps rows written room

-- ---- a request is handed in

place_cases : (wire : WireMeaning) (t : Table) (q : Request) (closed : Option Reason) (held full : Bool) → (let w : Result (Unit {0}) SubmitRefusal = when_open submit_refusals.Closed closed (if held then (if full then Err submit_refusals.TableFull else Ok tt) else Err submit_refusals.NoLease) in let v : Result (Table × Started) SubmitRefusal = when_open submit_refusals.Closed closed (if held then (if full then Err submit_refusals.TableFull else with_frame wire t q (wire.frame_of q.ask (reference_to_try t))) else Err submit_refusals.NoLease) in (w ≡ Ok tt → v ≡ with_frame wire t q (wire.frame_of q.ask (reference_to_try t))) × ((r : SubmitRefusal) → w ≡ Err r → v ≡ Err r))
place_cases wire t q (Some reason) held full = (λ e. cc, λ r e. ap Err (let same : submit_refusals.Closed reason ≡ r = cc in same))
place_cases wire t q None false full = (λ e. cc, λ r e. ap Err (let same : submit_refusals.NoLease ≡ r = cc in same))
place_cases wire t q None true true = (λ e. cc, λ r e. ap Err (let same : submit_refusals.TableFull ≡ r = cc in same))
place_cases wire t q None true false = (λ e. refl, λ r e. cc)

place_is : (journal : List Entry) (k : KeptTable) (t : Table) (actor lease : ℕ) → Stands journal k t → place_answer actor lease k.closed k.leases k.requests ≡ when_open submit_refusals.Closed t.closed (if holds actor lease t then (if is_full t.requests then Err submit_refusals.TableFull else Ok tt) else Err submit_refusals.NoLease)
place_is journal k t actor lease s =
    ap (λ o. place_answer actor lease o k.leases k.requests) s.closed
    ∙ ap (λ l. place_answer actor lease t.closed l k.requests) s.leases
    ∙ ap (place_answer actor lease t.closed t.leases) s.requests
    ∙ ap (λ b. when_open submit_refusals.Closed t.closed (if holds actor lease t then (if b then Err submit_refusals.TableFull else Ok tt) else Err submit_refusals.NoLease)) (plain_full end_kind t.requests)

submit_place_ok : (wire : WireMeaning) (journal : List Entry) (k : KeptTable) (t : Table) (q : Request) → Stands journal k t → place_answer q.actor q.lease k.closed k.leases k.requests ≡ Ok tt → submit wire t q ≡ with_frame wire t q (wire.frame_of q.ask (reference_to_try t))
submit_place_ok wire journal k t q s ok = (place_cases wire t q t.closed (holds q.actor q.lease t) (is_full t.requests)).0 (sym (place_is journal k t q.actor q.lease s) ∙ ok)

submit_place_err : (wire : WireMeaning) (journal : List Entry) (k : KeptTable) (t : Table) (q : Request) (r : SubmitRefusal) → Stands journal k t → place_answer q.actor q.lease k.closed k.leases k.requests ≡ Err r → submit wire t q ≡ Err r
submit_place_err wire journal k t q r s err = (place_cases wire t q t.closed (holds q.actor q.lease t) (is_full t.requests)).1 r (sym (place_is journal k t q.actor q.lease s) ∙ err)

frame_fits : (wire : WireMeaning) (ask : Ask) (given frame : List ℕ) (b : Bool) → nat_lt wire.limit (wire.size ask) ≡ b → (if b then Err (submit_refusals.TooLarge (wire.size ask) wire.limit) else Ok given) ≡ Ok frame → (given ≡ frame) × (b ≡ false)
frame_fits wire ask given frame true is e = cc
frame_fits wire ask given frame false is e = (let same : given ≡ frame = cc in same, refl)

with_frame_ok : (wire : WireMeaning) (t : Table) (q : Request) (frame : List ℕ) (r : Result (List ℕ) Refused) → frame_for wire q.ask r ≡ Ok frame → (with_frame wire t q r ≡ started q frame (at_moment q.moment t)) × (r ≡ Ok frame) × (nat_lt wire.limit (wire.size q.ask) ≡ false)
with_frame_ok wire t q frame (Err refused) e = cc
with_frame_ok wire t q frame (Ok given) e =
    let fits = frame_fits wire q.ask given frame (nat_lt wire.limit (wire.size q.ask)) refl e in
    (ap (λ b. if b then Err (submit_refusals.TooLarge (wire.size q.ask) wire.limit) else started q given (at_moment q.moment t)) fits.1 ∙ ap (λ f. started q f (at_moment q.moment t)) fits.0, ap Ok fits.0, fits.1)

large_err : (wire : WireMeaning) (t : Table) (q : Request) (given : List ℕ) (r : SubmitRefusal) (b : Bool) → (if b then Err (submit_refusals.TooLarge (wire.size q.ask) wire.limit) else Ok given) ≡ Err r → (if b then Err (submit_refusals.TooLarge (wire.size q.ask) wire.limit) else started q given (at_moment q.moment t)) ≡ Err r
large_err wire t q given r true e = ap Err (let same : submit_refusals.TooLarge (wire.size q.ask) wire.limit ≡ r = cc in same)
large_err wire t q given r false e = cc

with_frame_err : (wire : WireMeaning) (t : Table) (q : Request) (refusal : SubmitRefusal) (r : Result (List ℕ) Refused) → frame_for wire q.ask r ≡ Err refusal → with_frame wire t q r ≡ Err refusal
with_frame_err wire t q refusal (Err refused) e = ap Err (let same : submit_refusals.Unwritable refused.entry refused.why ≡ refusal = cc in same)
with_frame_err wire t q refusal (Ok given) e = large_err wire t q given refusal (nat_lt wire.limit (wire.size q.ask)) e

-- the request that was started, by what was accepted
started_cases : (t : Table) (frame : List ℕ) (w : Result (Requests × (ℕ × ℕ)) AddRefusal) (accepted : Accepted) → Ok accepted ≡ accepted_of (answer_of (started_as t frame w)) → (answer_of (started_as t frame w) ≡ Ok (record { id = accepted.id; reference = accepted.reference; frame = frame })) × (answer_of w ≡ Ok (accepted.id, accepted.reference))
started_cases t frame (Err refusal) accepted e = cc
started_cases t frame (Ok p) accepted e =
    let told : Result Accepted SubmitRefusal = Ok accepted in
    let given : Result Accepted SubmitRefusal = Ok (record { id = p.1.0; reference = p.1.1 }) in
    let both = accepted_same accepted.id accepted.reference p.1.0 p.1.1 told given refl refl e in
    let id : p.1.0 ≡ accepted.id = sym both.0 in
    let reference : p.1.1 ≡ accepted.reference = sym both.1 in (
      ap Ok (ap (λ n. let s : Started = record { id = n; reference = p.1.1; frame = frame } in s) id ∙ ap (λ r. let s : Started = record { id = accepted.id; reference = r; frame = frame } in s) reference),
      ap Ok (ap (λ n. (n, p.1.1)) id ∙ ap (λ r. (accepted.id, r)) reference),
    )

abbrev pub FramesFit : WireMeaning → Type 0
FramesFit wire = (ask : Ask) (reference : ℕ) (frame : List ℕ) → 0 < reference → reference < 2 ^ 16 → IsTrue (wire.admits ask) → wire.frame_of ask reference ≡ Ok frame → length frame ≤ wire.size ask

submit_carried : (c : Connection) (t : Table) (q : Request) (frame : List ℕ) (reference : ℕ) (rest : List ℕ) → FramesFit c.wire → IsTrue (c.wire.admits q.ask) → IsRowTable t.requests → t.requests.references ≡ c.settings.references → c.settings.references < 2 ^ 16 → t.requests.free ≡ reference ∷ rest → c.wire.frame_of q.ask (reference_to_try t) ≡ Ok frame → nat_lt c.wire.limit (c.wire.size q.ask) ≡ false → IsCarried c q.ask reference frame
submit_carried c t q frame reference rest fits admits table references few free framed small =
    let range = free_bounds t.requests reference rest table free in
    let low = range.0 in
    let high = range.1 in
    let tried : reference_to_try t ≡ reference = ap (λ ns. unwrap_or (slice_get ns 0) 1) free in
    let framed_here : c.wire.frame_of q.ask reference ≡ Ok frame = ap (c.wire.frame_of q.ask) (sym tried) ∙ framed in
    let short = fits q.ask reference frame (omega arith) (omega arith) admits framed_here in
    let limit : c.wire.size q.ask ≤ c.wire.limit = grind (arith, nat_tests) in
    record {
      in_range = (low, omega arith);
      framed = framed_here;
      within = omega arith;
    }

-- ---- room was taken for what is kept beside a row

pub handed_state : (c : Connection) (journal : List Entry) (k m : KeptTable) (room more : ℕ) → m ≡ record k { handed = m.handed } → m.handed.items ≡ k.handed.items → room ≤ more → IsStateOf c journal k room → IsStateOf c journal m more
handed_state c journal k m room more same items wide h =
    let next : KeptTable = record k { handed = m.handed } in
    let was = h.kept in
    let now : IsKept c.settings (length journal) next = kept_on c.settings (length journal) (length journal) k next was (omega arith) was.rows refl refl was.requests_drawn refl refl was.frames (omega arith) in
    let stood = h.stands in
    let stands : Stands journal next (table_of c journal) = record {
      requests = stood.requests;
      leases = stood.leases;
      clock = stood.clock;
      closed = stood.closed;
      frames = stood.frames;
      handed = rw items stood.handed;
    } in
    let state : IsStateOf c journal next more = record {
      settings = h.settings;
      legal = h.legal;
      stands = stands;
      kept = now;
      closes = h.closes;
      below = h.below;
      within = h.within;
      room = let was_room = h.room in omega arith;
      admitted = h.admitted;
      carried = h.carried;
    } in
    let P : KeptTable → Type 0 = λ x. IsStateOf c journal x more in
    subst P (sym same) state

-- ---- a request is handed in

pub refused_does : {A R : Type 0} (missing : R) (c : Connection) (actor : ℕ) (event : Event) (wanted : Result A R) (old new : Kept) (r : R) → IsState c new → new.journal.items ≡ old.journal.items → wanted ≡ Err r → step c (table_of c old.journal.items) actor event ≡ None → DoesOrNoMemory missing c actor event wanted old new (Err r)
refused_does missing c actor event wanted old new r state journal w none = record {
  answer = inl (sym w);
  journal = inr (journal ∙ sym (ap (grown c old.journal.items actor event) none));
  unchanged = journal;
  state = state;
}

submit_refused : (c : Connection) (q : Request) (old new : Kept) (r : SubmitRefusal) → IsState c new → new.journal.items ≡ old.journal.items → submit c.wire (table_of c old.journal.items) q ≡ Err r → DoesOrNoMemory submit_refusals.NoMemory c q.actor (submit_event q) (accepted_of (answer_of (submit c.wire (table_of c old.journal.items) q))) old new (Err r)
submit_refused c q old new r state journal is =
    refused_does submit_refusals.NoMemory c q.actor (submit_event q) (accepted_of (answer_of (submit c.wire (table_of c old.journal.items) q))) old new r state journal
    (ap (λ w. accepted_of (answer_of w)) is) (ap (taken (λ (s : Started). answers.Accepted s.id s.reference s.frame)) is)

pub prepare_err : (c : Connection) (q : Request) (old new : Kept) (r : SubmitRefusal) → IsState c old → IsState c new → new.journal.items ≡ old.journal.items → Prepares c.wire old.table q (Err r) → DoesOrNoMemory submit_refusals.NoMemory c q.actor (submit_event q) (accepted_of (answer_of (submit c.wire (table_of c old.journal.items) q))) old new (Err r)
prepare_err c q old new r state next journal prepared =
    let t = table_of c old.journal.items in
    elim prepared [
      | inl e ↦ (let P : SubmitRefusal → Type 0 = λ x. DoesOrNoMemory submit_refusals.NoMemory c q.actor (submit_event q) (accepted_of (answer_of (submit c.wire t q))) old new (Err x) in subst P (sym e) (no_memory_does submit_refusals.NoMemory c q.actor (submit_event q) (accepted_of (answer_of (submit c.wire t q))) old new state next journal))
      | inr (inl e) ↦ submit_refused c q old new r next journal (submit_place_err c.wire old.journal.items old.table t q r state.stands e)
      | inr (inr e) ↦ submit_refused c q old new r next journal (submit_place_ok c.wire old.journal.items old.table t q state.stands e.0 ∙ with_frame_err c.wire t q r (c.wire.frame_of q.ask (reference_to_try t)) (e.1 old.journal.items t state.stands))
    ]

-- the request that was prepared is started as it is handed in
submit_as : (c : Connection) (q : Request) (old : Kept) (frame : List ℕ) → IsState c old → Prepares c.wire old.table q (Ok (record { written = frame; sent = frame })) → submit c.wire (table_of c old.journal.items) q ≡ started q frame (at_moment q.moment (table_of c old.journal.items))
submit_as c q old frame state prepared =
    let t = table_of c old.journal.items in
    submit_place_ok c.wire old.journal.items old.table t q state.stands prepared.0 ∙ (with_frame_ok c.wire t q frame (c.wire.frame_of q.ask (reference_to_try t)) (prepared.1 old.journal.items t state.stands)).0

accepted_err : (w : Result (Table × Started) SubmitRefusal) (r : SubmitRefusal) → accepted_of (answer_of w) ≡ Err r → w ≡ Err r
accepted_err (Ok p) r e = cc
accepted_err (Err refusal) r e = ap Err (let same : refusal ≡ r = cc in same)

pub place_open : {A : Type 0} (closed : Option Reason) (next : Result A SubmitRefusal) {a : A} → when_open submit_refusals.Closed closed next ≡ Ok a → closed ≡ None
place_open None next e = refl
place_open (Some reason) next e = cc

pub start_err : (c : Connection) (q : Request) (old new : Kept) (k : KeptTable) (frame : List ℕ) (r : SubmitRefusal) → IsState c old → IsState c new → new.journal.items ≡ old.journal.items → Prepares c.wire old.table q (Ok (record { written = frame; sent = frame })) → Starts old.journal.items k (table_of c old.journal.items) q frame (Err r) → DoesOrNoMemory submit_refusals.NoMemory c q.actor (submit_event q) (accepted_of (answer_of (submit c.wire (table_of c old.journal.items) q))) old new (Err r)
start_err c q old new k frame r state next journal prepared starts =
    let t = table_of c old.journal.items in
    let is = submit_as c q old frame state prepared in
    elim starts.answer [
      | inl e ↦ submit_refused c q old new r next journal (is ∙ accepted_err (started q frame (at_moment q.moment t)) r (sym e))
      | inr e ↦ (let same : r ≡ submit_refusals.NoMemory = cc in let P : SubmitRefusal → Type 0 = λ x. DoesOrNoMemory submit_refusals.NoMemory c q.actor (submit_event q) (accepted_of (answer_of (submit c.wire t q))) old new (Err x) in subst P (sym same) (no_memory_does submit_refusals.NoMemory c q.actor (submit_event q) (accepted_of (answer_of (submit c.wire t q))) old new state next journal))
    ]

given_accepted : (accepted : Accepted) (wanted : Result Accepted SubmitRefusal) → IsGivenOrNoMemory submit_refusals.NoMemory (Ok accepted) wanted → Ok accepted ≡ wanted
given_accepted accepted wanted (inl e) = e
given_accepted accepted wanted (inr e) = cc

pub start_does : (c : Connection) (q : Request) (old new : Kept) (k : KeptTable) (frame : List ℕ) (accepted : Accepted) → FramesFit c.wire → IsAdmitted c.wire (submit_event q) → IsState c old → Prepares c.wire old.table q (Ok (record { written = frame; sent = frame })) → Starts old.journal.items k (table_of c old.journal.items) q frame (Ok accepted) → k.closed ≡ None → IsKept c.settings (length old.journal.items + 1) k → Written c.settings old new k (submitted_entry q accepted frame) → length old.journal.items + 1 + needs_of k ≤ vec_capacity new.journal → DoesOrNoMemory submit_refusals.NoMemory c q.actor (submit_event q) (accepted_of (answer_of (submit c.wire (table_of c old.journal.items) q))) old new (Ok accepted)
start_does c q old new k frame accepted fits admits state prepared starts unclosed keeps written room =
    let t = table_of c old.journal.items in
    let u = at_moment q.moment t in
    let w = started q frame u in
    let is = submit_as c q old frame state prepared in
    let given = given_accepted accepted (accepted_of (answer_of w)) starts.answer in
    let cases = started_cases u frame (added (draft_of q u.clock frame) t.requests) accepted given in
    let begun : Started = record { id = accepted.id; reference = accepted.reference; frame = frame } in
    let whole : w ≡ Ok (table_or t w, begun) = ok_of w t begun cases.0 in
    let row = add_row t.requests (draft_of q u.clock frame) accepted.id accepted.reference cases.1 in
    let open_place : old.table.closed ≡ None = place_open old.table.closed _ prepared.0 in
    let framed = with_frame_ok c.wire t q frame (c.wire.frame_of q.ask (reference_to_try t)) (prepared.1 old.journal.items t state.stands) in
    let rows : IsRowTable t.requests = table_plain end_kind t.requests (let P : RowTable (Unit {0}) EndKind → Type 0 = IsRowTable in subst P state.stands.requests state.kept.rows) in
    let references : t.requests.references ≡ c.settings.references = sym (ap (λ (r : RowTable (Unit {0}) EndKind). r.references) state.stands.requests) ∙ state.kept.references in
    let e = submitted_entry q accepted frame in
    let turning : Turning c old.journal.items e (table_or t w) k (vec_capacity new.journal) = record {
      settings = state.settings;
      legal = state.legal;
      admitted = state.admitted;
      carried = state.carried;
      closes = let P : Option Reason → Type 0 = ClosesAs old.journal.items in subst P open_place state.closes;
      below = state.below open_place;
      stepped = ap (taken (λ (s : Started). answers.Accepted s.id s.reference s.frame)) (is ∙ whole);
      not_worn = refl;
      admits = admits;
      carries = submit_carried c t q frame accepted.reference row.rest fits admits.0 rows references state.settings.references.1 row.free framed.1 framed.2;
      closed = unclosed;
      stands = starts.stands;
      kept = keeps;
      room = room;
    } in
    let went = turning_on c old new k e (table_or t w) turning written in
    record { answer = inl (given ∙ sym (ap (λ x. accepted_of (answer_of x)) is)); journal = inr went.journal; unchanged = tt; state = went.state }

-- ---- a frame

given_frame : (answer : FrameAnswer) (wanted : Result FrameAnswer FrameRefusal) → IsGivenOrNoMemory frame_refusals.NoMemory (Ok answer) wanted → Ok answer ≡ wanted
given_frame answer wanted (inl e) = e
given_frame answer wanted (inr e) = cc

pub frame_does : (c : Connection) (actor : ℕ) (bytes : List ℕ) (old new : Kept) (k : KeptTable) (answer : FrameAnswer) → IsState c old → old.table.closed ≡ None → MovesOrNoMemory frame_refusals.NoMemory old.journal.items k (table_of c old.journal.items) (apply_frame c.wire (table_of c old.journal.items) bytes) (Ok answer) → (let e : Entry = record { actor = actor; event = events.Frame bytes; answer = frame_entry answer } in (k.closed ≡ closing_reason e) × Written c.settings old new k e) → KeepsOn old.table k → length old.journal.items + 1 + needs_of k ≤ vec_capacity new.journal → DoesOrNoMemory frame_refusals.NoMemory c actor (events.Frame bytes) (answer_of (apply_frame c.wire (table_of c old.journal.items) bytes)) old new (Ok answer)
frame_does c actor bytes old new k answer state unclosed moved written keeps room =
    let w = apply_frame c.wire (table_of c old.journal.items) bytes in
    or_no_memory frame_refusals.NoMemory c actor (events.Frame bytes) (answer_of w) old new (Ok answer)
    (moves_ok c actor (events.Frame bytes) frame_entry w old new k answer state unclosed refl refl tt tt written (given_frame answer (answer_of w) moved.answer) moved.stands keeps room)

pub frame_err : (c : Connection) (actor : ℕ) (bytes : List ℕ) (old new : Kept) (k : KeptTable) (r : FrameRefusal) → IsState c old → IsState c new → new.journal.items ≡ old.journal.items → MovesOrNoMemory frame_refusals.NoMemory old.journal.items k (table_of c old.journal.items) (apply_frame c.wire (table_of c old.journal.items) bytes) (Err r) → DoesOrNoMemory frame_refusals.NoMemory c actor (events.Frame bytes) (answer_of (apply_frame c.wire (table_of c old.journal.items) bytes)) old new (Err r)
frame_err c actor bytes old new k r state next journal moved =
    let w = apply_frame c.wire (table_of c old.journal.items) bytes in
    elim moved.answer [
      | inl e ↦ refused_does frame_refusals.NoMemory c actor (events.Frame bytes) (answer_of w) old new r next journal (sym e) (ap (taken frame_entry) (err_of w r (sym e)))
      | inr e ↦ (let same : r ≡ frame_refusals.NoMemory = cc in let P : FrameRefusal → Type 0 = λ x. DoesOrNoMemory frame_refusals.NoMemory c actor (events.Frame bytes) (answer_of w) old new (Err x) in subst P (sym same) (no_memory_does frame_refusals.NoMemory c actor (events.Frame bytes) (answer_of w) old new state next journal))
    ]

-- ---- parts of `prepare` and `submit`

pub prepares_from : (wire : WireMeaning) (k : KeptTable) (q : Request) (result : Result FrameCopies SubmitRefusal) (reference : ℕ) → place_answer q.actor q.lease k.closed k.leases k.requests ≡ Ok tt → ((journal : List Entry) (t : Table) → Stands journal k t → reference ≡ reference_to_try t) → IfOk result (λ frames. frame_for wire q.ask (wire.frame_of q.ask reference) ≡ Ok frames.written) → IfErr result (λ refusal. frame_for wire q.ask (wire.frame_of q.ask reference) ≡ Err refusal) → Prepares wire k q result
prepares_from wire k q (Ok frames) reference place same ok err = (place, λ journal t s. ap (λ r. frame_for wire q.ask (wire.frame_of q.ask r)) (sym (same journal t s)) ∙ ok)
prepares_from wire k q (Err refusal) reference place same ok err = inr (inr (place, λ journal t s. ap (λ r. frame_for wire q.ask (wire.frame_of q.ask r)) (sym (same journal t s)) ∙ err))

-- what is kept stands as before where more room was taken beside it
pub handed_stands : (journal : List Entry) (k m : KeptTable) (t : Table) → m ≡ record k { handed = m.handed } → m.handed.items ≡ k.handed.items → Stands journal k t → Stands journal m t
handed_stands journal k m t same items s =
    let next : KeptTable = record k { handed = m.handed } in
    let stands : Stands journal next t = record {
      requests = s.requests;
      leases = s.leases;
      clock = s.clock;
      closed = s.closed;
      frames = s.frames;
      handed = rw items s.handed;
    } in
    let P : KeptTable → Type 0 = λ x. Stands journal x t in
    subst P (sym same) stands

-- a connection's state, where room was taken
pub roomy_state : (c : Connection) (old new : Kept) → new.journal.items ≡ old.journal.items → new.table ≡ record old.table { handed = new.table.handed } → new.table.handed.items ≡ old.table.handed.items → vec_capacity old.journal ≤ vec_capacity new.journal → IsState c old → IsState c new
roomy_state c old new journal table items wide state =
    let P : List Entry → Type 0 = λ xs. IsStateOf c xs new.table (vec_capacity new.journal) in
    subst P (sym journal) (handed_state c old.journal.items old.table new.table (vec_capacity old.journal) (vec_capacity new.journal) table items wide state)

pub open_send : (t : Table) (sending : Sending) → answer_of (take_send t) ≡ Ok sending → t.closed ≡ None
open_send t sending e = open_answer send_refusals.Closed t.closed (sending_as t (sent_next t.requests)) sending e

pub both_stands : (journal other : List Entry) (k m : KeptTable) (t : Table) → other ≡ journal → m ≡ k → Stands journal k t → Stands other m t
both_stands journal other k m t e f s =
    let P : List Entry → Type 0 = λ j. Stands j m t in
    let Q : KeptTable → Type 0 = λ x. Stands journal x t in
    subst P (sym e) (subst Q (sym f) s)

pub moved_at : (missing : FrameRefusal) (journal other : List Entry) (k : KeptTable) (t : Table) (wire : WireMeaning) (bytes taken_bytes : List ℕ) (result : Result FrameAnswer FrameRefusal) → other ≡ journal → taken_bytes ≡ bytes → MovesOrNoMemory missing other k t (apply_frame wire t taken_bytes) result → MovesOrNoMemory missing journal k t (apply_frame wire t bytes) result
moved_at missing journal other k t wire bytes taken_bytes result e f h =
    let P : List Entry → Type 0 = λ j. MovesOrNoMemory missing j k t (apply_frame wire t taken_bytes) result in
    let Q : List ℕ → Type 0 = λ b. MovesOrNoMemory missing journal k t (apply_frame wire t b) result in
    subst Q f (subst P e h)
