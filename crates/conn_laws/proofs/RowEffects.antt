-- What each event leaves of the ids that have rows.
use Rattle.std.proofs.Common.{◌≡◌, ◌⊎◌, inl, inr, ℕ, ◌+◌, Bool, true, false, List, [], ◌∷◌, ◌++◌, refl, sym, ap, subst, ◌∙◌, Option, Some, None, Ok, Err}
use Rattle.std.specs.Prelude.{Result, ◌||◌, ◌&&◌, ◌==◌, not, filter, is_some, length, max, nat_lt}
use Rattle.std.specs.List.{find, list_any}
use Rattle.std.proofs.lemmas.Bool.{and_parts, cases_eq, eq-eqb, eqb-true, ne_eqb, or_cases, or_right}
use Rattle.lease_core.specs.LeaseSteps.{asked_answer}
use Rattle.lease_core.specs.LeaseTables.{due_numbers, state_of, waiters_limit}
use Rattle.lease_core.specs.declared.answers.LeaseAnswer.{LeaseAnswer}
use Rattle.txn_core.specs.FirstPlaces.{found_at, none_any}
use Rattle.txn_core.specs.RowEnds.{IsOnly, only}
use Rattle.txn_core.specs.RowSteps.{awaiting, ended_phase, in_phases, queued_row, sent_phase, stays}
use Rattle.txn_core.specs.RowTables.{IsRising, Row, any_row, has_id, has_lease, ids_of, is_due, is_ended, is_quarantined, is_row_of, phase_ended}
use Rattle.txn_core.specs.declared.phases.Phase.{Phase}
use Rattle.txn_core.specs.declared.phases.Phase.TheVariants.{Ended}
use Rattle.node_tree.specs.declared.readings.Reading.{Reading}
use Rattle.wire_frames.specs.WireMeaning.{WireMeaning}
use Rattle.wire_frames.specs.declared.asks.Ask.{Ask}
use Rattle.wire_frames.specs.declared.ends.EndKind.{EndKind}
use Rattle.wire_frames.specs.declared.ends.EndKind.TheVariants as kinds
use Rattle.wire_frames.specs.declared.ends.FrameWhy.{FrameWhy}
use Rattle.wire_frames.specs.declared.ends.Outcome.{Outcome}
use Rattle.wire_frames.specs.declared.ends.Reason.{Reason}
use Rattle.wire_frames.specs.declared.ends.Reason.TheVariants as reasons
use Rattle.conn_core.specs.Entries.{is_submit}
use Rattle.conn_core.specs.Steps.{Request, Started, apply_frame, arrived, ask_lease, asked_entry, bare, cancel, cancelled, close, closed_by, collect, counted, draft_of, end_all, end_leases, frame_entry, received, release, released, step, submit, take_send, tick, ticked, with_lease}
use Rattle.conn_core.specs.Tables.{Connection, Handed, Requests, Table, at_moment}
use Rattle.conn_core.specs.declared.answers.AskRefusal.TheVariants as asks
use Rattle.conn_core.specs.declared.answers.FrameAnswer.{FrameAnswer}
use Rattle.conn_core.specs.declared.answers.FrameRefusal.TheVariants as frames
use Rattle.conn_core.specs.declared.answers.LeaseRefusal.TheVariants as lease_refusals
use Rattle.conn_core.specs.declared.answers.Sending.{Sending}
use Rattle.conn_core.specs.declared.answers.Ticked.{Ticked}
use Rattle.conn_core.specs.declared.entries.Answer.{Answer}
use Rattle.conn_core.specs.declared.entries.Answer.TheVariants as answers
use Rattle.conn_core.specs.declared.entries.Entry.{Entry}
use Rattle.conn_core.specs.declared.entries.Event.{Event}
use Rattle.conn_core.specs.declared.entries.Event.TheVariants as events
use Rattle.conn_core.proofs.FrameLemmas.{settled_if}
use Rattle.conn_core.proofs.LeaseHeld.{any_left, any_none}
use Rattle.conn_core.proofs.RowLaws.{row_found}
use Rattle.conn_core.proofs.RowStands.{rows_left}
use Rattle.conn_core.proofs.StepLaws.{cancel_is_table, close_table, collect_is_table, if_took, open_took, pair_parts, queues, sends_as, tick_is_table, took, took_some}

-- a row has the id
abbrev pub has : ℕ → List (Row Handed Outcome) → Bool
has id rows = list_any (has_id id) rows

-- the id has a row of the table
abbrev pub has_row : ℕ → Table → Bool
has_row id t = has id t.requests.rows

abbrev pub is_collect : Event → Bool
is_collect (events.Collect id) = true
is_collect _ = false

-- the entry accepts a request under the id
pub record Accepts (e : Entry) (id : ℕ) : Type 0 where
  pub lease : ℕ
  pub ask : Ask
  pub timeout : ℕ
  pub now : ℕ
  pub reference : ℕ
  pub frame : List ℕ
  pub event : e.event ≡ events.Submit lease ask timeout now
  pub answer : e.answer ≡ answers.Accepted id reference frame

-- the entry collects the request with the id
pub record Collects (e : Entry) (id : ℕ) : Type 0 where
  pub kind : EndKind
  pub event : e.event ≡ events.Collect id
  pub answer : e.answer ≡ answers.Collected kind

-- what an event leaves of the ids that have rows
pub record Effect (t : Table) (e : Entry) (u : Table) : Type 0 where
  -- a new id is the next one
  pub accepts : (id : ℕ) → Accepts e id → (id ≡ t.requests.drawn + 1) × (has_row id u ≡ true)
  -- a row is collected that was there
  pub collects : (id : ℕ) → Collects e id → (has_row id t ≡ true) × (has_row id u ≡ false)
  -- other rows stay, and none comes
  pub stays_on : (id : ℕ) → has_row id t ≡ true → (has_row id u ≡ true) ⊎ Collects e id
  pub comes : (id : ℕ) → has_row id u ≡ true → (has_row id t ≡ true) ⊎ Accepts e id

-- ---- lists of rows

-- rows keep their ids whatever phase they come to
phases_have : (id : ℕ) (phase : Row Handed Outcome → Phase Outcome) (rows : List (Row Handed Outcome)) → has id (in_phases phase rows) ≡ has id rows
phases_have id phase [] = refl
phases_have id phase (row ∷ rows) = ap (λ b. has_id id row || b) (phases_have id phase rows)

leases_have : (id : ℕ) (numbers : List ℕ) (requests : Requests) → has id (end_leases numbers requests).rows ≡ has id requests.rows
leases_have id [] requests = refl
leases_have id (n ∷ ns) requests =
    leases_have id ns (end_all (has_lease n) kinds.LeaseGone requests) ∙ phases_have id (ended_phase (has_lease n) (bare kinds.LeaseGone)) requests.rows

any_push : {X : Type 0} (p : X → Bool) (xs : List X) (x : X) → list_any p (xs ++ x ∷ []) ≡ true → (list_any p xs ≡ true) ⊎ (p x ≡ true)
any_push p [] x e = elim (or_cases (p x) false e) [ inl here ↦ inr here | inr there ↦ absurd (cc) ]
any_push p (y ∷ ys) x e =
    elim (or_cases (p y) (list_any p (ys ++ x ∷ [])) e) [
      | inl here ↦ inl (ap (λ b. b || list_any p ys) here)
      | inr there ↦ elim (any_push p ys x there) [ inl before ↦ inl (or_right (p y) (list_any p ys) before) | inr last ↦ inr last ]
    ]

any_last : {X : Type 0} (p : X → Bool) (xs : List X) (x : X) → p x ≡ true → list_any p (xs ++ x ∷ []) ≡ true
any_last p [] x e = ap (λ b. b || false) e
any_last p (y ∷ ys) x e = or_right (p y) (list_any p (ys ++ x ∷ [])) (any_last p ys x e)

any_middle : {X : Type 0} (p : X → Bool) (before : List X) (x : X) (after : List X) → p x ≡ true → list_any p (before ++ x ∷ after) ≡ true
any_middle p [] x after e = ap (λ b. b || list_any p after) e
any_middle p (y ∷ ys) x after e = or_right (p y) (list_any p (ys ++ x ∷ after)) (any_middle p ys x after e)

-- one item that doesn't pass is taken out
any_out : {X : Type 0} (p : X → Bool) (before : List X) (x : X) (after : List X) → p x ≡ false → list_any p (before ++ after) ≡ list_any p (before ++ x ∷ after)
any_out p [] x after e = sym (ap (λ b. b || list_any p after) e)
any_out p (y ∷ ys) x after e = ap (λ b. p y || b) (any_out p ys x after e)

-- ---- an event that neither accepts nor collects

accepts_not : {Y : Type 0} (e : Entry) (id : ℕ) → is_submit e.event ≡ false → Accepts e id → Y
accepts_not e id other a = let is : is_submit e.event ≡ true = ap is_submit a.event in absurd (cc)

collects_not : {Y : Type 0} (e : Entry) (id : ℕ) → is_collect e.event ≡ false → Collects e id → Y
collects_not e id other c = let is : is_collect e.event ≡ true = ap is_collect c.event in absurd (cc)

same_rows : (t v u : Table) (e : Entry) → v ≡ u → is_submit e.event ≡ false → is_collect e.event ≡ false → ((id : ℕ) → has_row id v ≡ has_row id t) → Effect t e u
same_rows t v u e is no_submit no_collect same =
    let now : (id : ℕ) → has_row id u ≡ has_row id t = λ id. ap (has_row id) (sym is) ∙ same id in
    record {
      accepts = λ id a. accepts_not e id no_submit a;
      collects = λ id c. collects_not e id no_collect c;
      stays_on = λ id h. inl (now id ∙ h);
      comes = λ id h. inl (sym (now id) ∙ h);
    }

-- ---- each event

ask_effect : (c : Connection) (t u : Table) (actor now : ℕ) (answer : Answer) → step c t actor (events.AskLease now) ≡ Some (u, answer) → Effect t (record { actor = actor; event = events.AskLease now; answer = answer }) u
ask_effect c t u actor now answer e =
    let took_it = took asked_entry (ask_lease t actor now) u answer e in
    let next : Table × LeaseAnswer = (with_lease actor (at_moment now t), asked_answer t.leases) in
    let opened = open_took asks.Closed t.closed _ (u, took_it.given) took_it.is in
    let both = if_took (nat_lt (length t.leases.waiting) waiters_limit) next asks.QueueFull (u, took_it.given) opened.1 in
    same_rows t (with_lease actor (at_moment now t)) u _ both.1 refl refl (λ id. refl)

release_effect : (c : Connection) (t u : Table) (actor number now : ℕ) (answer : Answer) → step c t actor (events.Release number now) ≡ Some (u, answer) → Effect t (record { actor = actor; event = events.Release number now; answer = answer }) u
release_effect c t u actor number now answer e =
    let took_it = took (λ (x : Unit {0}). answers.Released) (release t actor number now) u answer e in
    let next : Table × Unit {0} = (released number (at_moment now t), tt) in
    let opened = open_took lease_refusals.Closed t.closed _ (u, took_it.given) took_it.is in
    let both = if_took (is_some (state_of t.leases actor number)) next lease_refusals.NoLease (u, took_it.given) opened.1 in
    same_rows t (released number (at_moment now t)) u _ both.1 refl refl (λ id. phases_have id (ended_phase (has_lease number) (bare kinds.LeaseGone)) t.requests.rows)

send_effect : (c : Connection) (t u : Table) (actor : ℕ) (answer : Answer) → step c t actor events.TakeSend ≡ Some (u, answer) → Effect t (record { actor = actor; event = events.TakeSend; answer = answer }) u
send_effect c t u actor answer e =
    let took_it = took (λ (s : Sending). answers.Sent s.id) (take_send t) u answer e in
    let s = sends_as t u took_it.given took_it.is in
    same_rows t _ u _ (sym s.table) refl refl (λ id. phases_have id (sent_phase s.row.id) t.requests.rows)

cancel_effect : (c : Connection) (t u : Table) (actor id : ℕ) (answer : Answer) → step c t actor (events.Cancel id) ≡ Some (u, answer) → Effect t (record { actor = actor; event = events.Cancel id; answer = answer }) u
cancel_effect c t u actor id answer e =
    let took_it = took (λ (x : Unit {0}). answers.Cancelled) (cancel t actor id) u answer e in
    same_rows t (cancelled id t) u _ (sym (cancel_is_table t u actor id took_it.given took_it.is)) refl refl (λ n. phases_have n (ended_phase (has_id id) (bare kinds.Cancelled)) t.requests.rows)

tick_effect : (c : Connection) (t u : Table) (actor now : ℕ) (answer : Answer) → step c t actor (events.Tick now) ≡ Some (u, answer) → Effect t (record { actor = actor; event = events.Tick now; answer = answer }) u
tick_effect c t u actor now answer e =
    let took_it = took_some (λ (n : Ticked). answers.Ticked n.rows n.leases n.waiters) (tick t now) u answer e in
    let expired = end_all (is_due now) kinds.Expired t.requests in
    same_rows t (ticked now (at_moment now t)) u _ (sym (tick_is_table t u now took_it.0 took_it.1)) refl refl
    (λ id. leases_have id (due_numbers now t.leases.held) expired ∙ phases_have id (ended_phase (is_due now) (bare kinds.Expired)) t.requests.rows)

closed_have : (id : ℕ) (reason : Reason) (t : Table) → has_row id (closed_by reason t) ≡ has_row id t
closed_have id reason t = phases_have id (ended_phase any_row (bare (kinds.Lost reason))) t.requests.rows

close_effect : (t u : Table) (actor : ℕ) (event : Event) (answer : Answer) (reason : Reason) (given : Unit {0}) → is_submit event ≡ false → is_collect event ≡ false → close t reason ≡ Ok (u, given) → Effect t (record { actor = actor; event = event; answer = answer }) u
close_effect t u actor event answer reason given no_submit no_collect e =
    same_rows t (closed_by reason t) u _ (sym (close_table t u reason given e).1) no_submit no_collect (λ id. closed_have id reason t)

-- ---- Frame

without_have : (id : ℕ) (t : Table) (reference : ℕ) (b : Bool) → has_row id (settled_if reference (counted t) b).0 ≡ has_row id t
without_have id t reference true = refl
without_have id t reference false = refl

arrived_have : (id : ℕ) (wire : WireMeaning) (t : Table) (reference : ℕ) (reading : Reading) (found : Option (Row Handed Outcome)) → has_row id (arrived wire reference reading (counted t) found).0 ≡ has_row id t
arrived_have id wire t reference reading None = without_have id t reference (is_quarantined reference t.requests)
arrived_have id wire t reference reading (Some row) = phases_have id (ended_phase (has_id row.id) (wire.fit row.what.ask reading)) t.requests.rows

received_have : (id : ℕ) (wire : WireMeaning) (t : Table) (bytes : List ℕ) (reading : Result Reading FrameWhy) → has_row id (received wire t bytes reading).0 ≡ has_row id t
received_have id wire t bytes (Ok reading) = arrived_have id wire t (wire.reference_of bytes) reading (awaiting (wire.reference_of bytes) t.requests)
received_have id wire t bytes (Err why) = closed_have id (reasons.Undecodable t.frames why) (counted t)

frame_effect : (c : Connection) (t u : Table) (actor : ℕ) (bytes : List ℕ) (answer : Answer) → step c t actor (events.Frame bytes) ≡ Some (u, answer) → Effect t (record { actor = actor; event = events.Frame bytes; answer = answer }) u
frame_effect c t u actor bytes answer e =
    let took_it = took frame_entry (apply_frame c.wire t bytes) u answer e in
    let opened = open_took frames.Closed t.closed _ (u, took_it.given) took_it.is in
    let p = received c.wire t bytes (c.wire.reading_of bytes) in
    let r : Table × FrameAnswer = (u, took_it.given) in
    let same : p ≡ r = cc in
    let both = pair_parts p r same in
    same_rows t p.0 u _ both.0 refl refl (λ id. received_have id c.wire t bytes (c.wire.reading_of bytes))

-- ---- Submit

same_id : (a b : ℕ) (r s : ℕ) (f g : List ℕ) (answer : Answer) → answers.Accepted a r f ≡ answer → answer ≡ answers.Accepted b s g → b ≡ a
same_id a b r s f g answer one two = cc

submit_effect : (c : Connection) (t u : Table) (actor lease : ℕ) (ask : Ask) (timeout now : ℕ) (answer : Answer) → step c t actor (events.Submit lease ask timeout now) ≡ Some (u, answer) → Effect t (record { actor = actor; event = events.Submit lease ask timeout now; answer = answer }) u
submit_effect c t u actor lease ask timeout now answer e =
    let entry : Entry = record { actor = actor; event = events.Submit lease ask timeout now; answer = answer } in
    let q : Request = record { actor = actor; lease = lease; ask = ask; timeout = timeout; moment = now } in
    let took_it = took (λ (s : Started). answers.Accepted s.id s.reference s.frame) (submit c.wire t q) u answer e in
    let queued = queues c.wire t q u took_it.given took_it.is in
    let told : answers.Accepted (t.requests.drawn + 1) queued.reference queued.frame ≡ answer = ap (λ (s : Started). answers.Accepted s.id s.reference s.frame) (sym queued.started_is) ∙ took_it.told in
    let new : Row Handed Outcome = queued_row (draft_of q (max t.clock now) queued.frame) (t.requests.drawn + 1) queued.reference in
    let rows : u.requests.rows ≡ t.requests.rows ++ new ∷ [] = ap (λ (x : Table). x.requests.rows) queued.table in
    record {
      accepts = λ id a.
          let is : id ≡ t.requests.drawn + 1 = same_id (t.requests.drawn + 1) id queued.reference a.reference queued.frame a.frame answer told a.answer in
          (is, ap (has id) rows ∙ any_last (has_id id) t.requests.rows new (eq-eqb (t.requests.drawn + 1) id (sym is)));
      collects = λ id a. collects_not entry id refl a;
      stays_on = λ id h. inl (ap (has id) rows ∙ any_left (has_id id) t.requests.rows (new ∷ []) h);
      comes = λ id h. elim (any_push (has_id id) t.requests.rows new (sym (ap (has id) rows) ∙ h)) [
        | inl before ↦ inl before
        | inr last ↦ inr (
            let is : t.requests.drawn + 1 ≡ id = eqb-true (t.requests.drawn + 1) id last in
            record {
              lease = lease;
              ask = ask;
              timeout = timeout;
              now = now;
              reference = queued.reference;
              frame = queued.frame;
              event = refl;
              answer = sym told ∙ ap (λ n. answers.Accepted n queued.reference queued.frame) is;
            })
      ];
    }

-- ---- Collect

-- the row that a Collect takes out
pub record Out (rows left : List (Row Handed Outcome)) (id : ℕ) : Type 0 where
  pub row : Row Handed Outcome
  pub before : List (Row Handed Outcome)
  pub after : List (Row Handed Outcome)
  pub split : rows ≡ before ++ row ∷ after
  pub leaves : left ≡ before ++ after
  pub same : row.id ≡ id
  pub only_one : IsOnly before after row

goes_out : (ended own : Bool) → ended ≡ true → own ≡ true → not (ended && own) ≡ false
goes_out ended own one two = rw (one, two) refl

pub out_row : (t : Table) (actor id : ℕ) (given : Outcome) → IsRising 0 t.requests.drawn (ids_of t.requests.rows) → (row : Row Handed Outcome) → find (is_row_of actor id) t.requests.rows ≡ Some row → row.phase ≡ Ended given → Out t.requests.rows (filter (stays actor id) t.requests.rows) id
out_row t actor id given rising row found ended =
    let first = (found_at (is_row_of actor id) t.requests.rows row found).1 in
    let passes = and_parts (row.id == id) (row.owner == actor) first.passes in
    let same : row.id ≡ id = eqb-true row.id id passes.0 in
    let P : List (Row Handed Outcome) → Type 0 = λ rows. IsRising 0 t.requests.drawn (ids_of rows) in
    let alone = only 0 t.requests.drawn first.before first.after row (subst P first.split rising) in
    let own : is_row_of actor row.id row ≡ true = ap (λ n. is_row_of actor n row) same ∙ first.passes in
    let out : stays actor row.id row ≡ false = goes_out (is_ended row) (is_row_of actor row.id row) (ap phase_ended ended) own in
    record {
      row = row;
      before = first.before;
      after = first.after;
      split = first.split;
      leaves =
          ap (λ n. filter (stays actor n) t.requests.rows) (sym same)
          ∙ ap (filter (stays actor row.id)) first.split
          ∙ rows_left actor first.before row first.after alone out;
      same = same;
      only_one = alone;
    }

has_out : (rows left : List (Row Handed Outcome)) (id : ℕ) (o : Out rows left id) → has id rows ≡ true
has_out rows left id o =
    ap (has id) o.split ∙ any_middle (has_id id) o.before o.row o.after (eq-eqb o.row.id id o.same)

none_left : (rows left : List (Row Handed Outcome)) (id : ℕ) (o : Out rows left id) → has id left ≡ false
none_left rows left id o =
    ap (λ n. has n left) (sym o.same)
    ∙ ap (has o.row.id) o.leaves
    ∙ any_none (has_id o.row.id) o.before o.after (none_any (has_id o.row.id) o.before o.only_one.before_it) (none_any (has_id o.row.id) o.after o.only_one.after_it)

others_left : (rows left : List (Row Handed Outcome)) (id n : ℕ) (o : Out rows left id) → (id ≡ n → ⊥) → has n left ≡ has n rows
others_left rows left id n o other =
    ap (has n) o.leaves ∙ any_out (has_id n) o.before o.row o.after (ne_eqb o.row.id n (λ same. other (sym o.same ∙ same))) ∙ sym (ap (has n) o.split)

collected_id : (id n : ℕ) → events.Collect id ≡ events.Collect n → id ≡ n
collected_id id n e = cc

collect_effect : (c : Connection) (t u : Table) (actor id : ℕ) (answer : Answer) → IsRising 0 t.requests.drawn (ids_of t.requests.rows) → step c t actor (events.Collect id) ≡ Some (u, answer) → Effect t (record { actor = actor; event = events.Collect id; answer = answer }) u
collect_effect c t u actor id answer rising e =
    let entry : Entry = record { actor = actor; event = events.Collect id; answer = answer } in
    let took_it = took (λ (o : Outcome). answers.Collected o.kind) (collect t actor id) u answer e in
    let both = collect_is_table t u actor id took_it.given took_it.is in
    let found = row_found t actor id (Ended took_it.given) both.1 in
    let left = filter (stays actor id) t.requests.rows in
    let out = out_row t actor id took_it.given rising found.0 found.1 found.2 in
    let rows : u.requests.rows ≡ left = ap (λ (x : Table). x.requests.rows) both.0 in
    let others : (n : ℕ) → (id ≡ n → ⊥) → has_row n u ≡ has_row n t = λ n other. ap (has n) rows ∙ others_left t.requests.rows left id n out other in
    let own : Collects entry id = record { kind = took_it.given.kind; event = refl; answer = sym took_it.told } in
    record {
      accepts = λ n a. accepts_not entry n refl a;
      collects = λ n a.
          let same : id ≡ n = collected_id id n a.event in (
            ap (λ m. has m t.requests.rows) (sym same) ∙ has_out t.requests.rows left id out,
            ap (λ m. has m u.requests.rows) (sym same) ∙ ap (has id) rows ∙ none_left t.requests.rows left id out,
          );
      stays_on = λ n h. elim (cases_eq id n) [
        | inl same ↦ let P : ℕ → Type 0 = Collects entry in inr (subst P same own)
        | inr other ↦ inl (others n other ∙ h)
      ];
      comes = λ n h. elim (cases_eq id n) [
        | inl same ↦ inl (ap (λ m. has m t.requests.rows) (sym same) ∙ has_out t.requests.rows left id out)
        | inr other ↦ inl (sym (others n other) ∙ h)
      ];
    }

-- ---- any event

pub effect : (c : Connection) (t u : Table) (actor : ℕ) (event : Event) (answer : Answer) → IsRising 0 t.requests.drawn (ids_of t.requests.rows) → step c t actor event ≡ Some (u, answer) → Effect t (record { actor = actor; event = event; answer = answer }) u
effect c t u actor (events.AskLease now) answer rising e = ask_effect c t u actor now answer e
effect c t u actor (events.Release lease now) answer rising e = release_effect c t u actor lease now answer e
effect c t u actor (events.Submit lease ask timeout now) answer rising e = submit_effect c t u actor lease ask timeout now answer e
effect c t u actor events.TakeSend answer rising e = send_effect c t u actor answer e
effect c t u actor (events.Frame bytes) answer rising e = frame_effect c t u actor bytes answer e
effect c t u actor (events.Cancel id) answer rising e = cancel_effect c t u actor id answer e
effect c t u actor (events.Collect id) answer rising e = collect_effect c t u actor id answer rising e
effect c t u actor (events.Tick now) answer rising e = tick_effect c t u actor now answer e
effect c t u actor (events.Close reason) answer rising e =
    let took_it = took (λ (x : Unit {0}). answers.Closed) (close t reason) u answer e in
    close_effect t u actor (events.Close reason) answer reason took_it.given refl refl took_it.is
effect c t u actor events.Shutdown answer rising e =
    let took_it = took (λ (x : Unit {0}). answers.Closed) (close t reasons.Asked) u answer e in
    close_effect t u actor events.Shutdown answer reasons.Asked took_it.given refl refl took_it.is
