-- What each event does to the references: how often each can still be drawn or sent under.
use Rattle.std.proofs.Common.{◌≡◌, inl, inr, ℕ, ◌+◌, ◌<◌, ◌≤◌, Bool, true, false, not, List, [], ◌∷◌, refl, sym, ap, subst, ◌∙◌, arith, Option, Some, None, Ok, Err}
use Rattle.std.specs.Prelude.{Result, ◌&&◌, ◌==◌, count_by, if◌then◌else◌, is_some, length, max, nat_lt}
use Rattle.std.proofs.lemmas.Bool.{and_parts, eq-eqb, eqb-true, ne_eqb}
use Rattle.lease_core.specs.LeaseSteps.{asked_answer}
use Rattle.lease_core.specs.LeaseTables.{due_numbers, state_of, waiters_limit}
use Rattle.lease_core.specs.declared.answers.LeaseAnswer.{LeaseAnswer}
use Rattle.txn_core.specs.FirstPlaces.{not_found}
use Rattle.txn_core.specs.RowEnds.{fails_count}
use Rattle.txn_core.specs.RowLaws.{count_append, count_cons, count_filter, count_map, count_references, counts_add, counts_same, number_cases, one, quarantined_parts, uses_added, uses_ended_all, uses_replied, uses_sent, uses_settled, uses_without}
use Rattle.txn_core.specs.RowSteps.{Draft, awaiting, ended_all, ended_phase, in_phase, queued_row, references_of, replied, sent, sent_phase, settled, stays, with_row, without}
use Rattle.txn_core.specs.RowTables.{IsRising, Row, any_row, has_id, has_lease, has_reference, ids_of, is_due, is_live_and, is_number, is_quarantined, is_queued, is_queued_and, is_reference, is_row_of, is_sent, is_sent_and, phase_ended, phase_live, phase_queued, phase_sent, uses_of}
use Rattle.txn_core.specs.declared.phases.Phase.{Phase}
use Rattle.txn_core.specs.declared.phases.Phase.TheVariants.{Queued, Sent, Ended}
use Rattle.node_tree.specs.declared.readings.Reading.{Reading}
use Rattle.wire_frames.specs.WireMeaning.{WireMeaning}
use Rattle.wire_frames.specs.declared.asks.Ask.{Ask}
use Rattle.wire_frames.specs.declared.ends.EndKind.TheVariants as kinds
use Rattle.wire_frames.specs.declared.ends.FrameWhy.{FrameWhy}
use Rattle.wire_frames.specs.declared.ends.Outcome.{Outcome}
use Rattle.wire_frames.specs.declared.ends.Reason.{Reason}
use Rattle.wire_frames.specs.declared.ends.Reason.TheVariants as reasons
use Rattle.conn_core.specs.Steps.{Request, Started, arrived, ask_lease, asked_entry, bare, cancelled, close, closed_by, collect, counted, draft_of, end_all, end_leases, received, release, released, step, submit, take_send, ticked, with_lease}
use Rattle.conn_core.specs.Tables.{Connection, Handed, Requests, Table, at_moment}
use Rattle.conn_core.specs.declared.answers.AskRefusal.TheVariants as asks
use Rattle.conn_core.specs.declared.answers.LeaseRefusal.TheVariants as lease_refusals
use Rattle.conn_core.specs.declared.answers.Sending.{Sending}
use Rattle.conn_core.specs.declared.entries.Answer.{Answer}
use Rattle.conn_core.specs.declared.entries.Answer.TheVariants as answers
use Rattle.conn_core.specs.declared.entries.Entry.{Entry}
use Rattle.conn_core.specs.declared.entries.Event.{Event}
use Rattle.conn_core.specs.declared.entries.Event.TheVariants as events
use Rattle.conn_core.proofs.FrameLemmas.{settled_if}
use Rattle.conn_core.proofs.StepLaws.{close_table, collect_is_table, if_took, open_took, queues, sends_as, took}
use Rattle.conn_laws.proofs.Fates.{cancel_rows_are, frame_parts, tick_rows_are}
use Rattle.conn_laws.proofs.Members.{In, count_in, in_found, in_map, none_counts, same_row}

-- how often a reference is free or a queued row's
abbrev pub slack : ℕ → Requests → ℕ
slack r t = count_by (is_number r) t.free + count_by (is_queued_and (has_reference r)) t.rows

-- how often it is a sent row's
abbrev pub sent_uses : ℕ → Requests → ℕ
sent_uses r t = count_by (is_sent_and (has_reference r)) t.rows

live_weights : {E : Type 0} (phase : Phase E) (h : Bool) → one (phase_queued phase && h) + one (phase_sent phase && h) ≡ one (phase_live phase && h)
live_weights Queued h = omega arith
live_weights Sent h = omega arith
live_weights (Ended e) h = omega arith

-- each use is one of the three
pub uses_parts : (r : ℕ) (t : Requests) → slack r t + sent_uses r t ≡ uses_of r t
uses_parts r t =
    let all = counts_add (is_queued_and (has_reference r)) (is_sent_and (has_reference r)) (is_live_and (has_reference r)) t.rows (λ row. live_weights row.phase (has_reference r row)) in omega arith

-- ---- each change of the rows

ended_weights : (o : Outcome) (phase : Phase Outcome) (p h : Bool) → one (phase_queued (if phase_live phase && p then Ended o else phase) && h) + one ((phase_queued phase && p) && h) ≡ one (phase_queued phase && h)
ended_weights o Queued true h = omega arith
ended_weights o Queued false h = omega arith
ended_weights o Sent true h = omega arith
ended_weights o Sent false h = omega arith
ended_weights o (Ended e) p h = omega arith

-- the rows that end, and the queued ones among them
queued_after : (p : Row Handed Outcome → Bool) (o : Outcome) (t : Requests) (r : ℕ) → count_by (λ (row : Row Handed Outcome). is_queued_and (has_reference r) (in_phase (ended_phase p o) row)) t.rows + count_by (λ (row : Row Handed Outcome). is_queued_and p row && has_reference r row) t.rows ≡ count_by (is_queued_and (has_reference r)) t.rows
queued_after p o t r =
    counts_add (λ (row : Row Handed Outcome). is_queued_and (has_reference r) (in_phase (ended_phase p o) row)) (λ (row : Row Handed Outcome). is_queued_and p row && has_reference r row) (is_queued_and (has_reference r)) t.rows
    (λ row. ended_weights o row.phase (p row) (has_reference r row))

slack_ended : (p : Row Handed Outcome → Bool) (o : Outcome) (t : Requests) (r : ℕ) → slack r (ended_all p o t) ≡ slack r t
slack_ended p o t r =
    let rows = count_map (is_queued_and (has_reference r)) (in_phase (ended_phase p o)) t.rows in
    let free = count_append (is_number r) t.free (references_of (is_queued_and p) t.rows) in
    let back = count_references r (is_queued_and p) t.rows in
    let all = queued_after p o t r in omega arith

slack_leases : (numbers : List ℕ) (t : Requests) (r : ℕ) → slack r (end_leases numbers t) ≡ slack r t
slack_leases [] t r = refl
slack_leases (n ∷ ns) t r = slack_leases ns (end_all (has_lease n) kinds.LeaseGone t) r ∙ slack_ended (has_lease n) (bare kinds.LeaseGone) t r

out_weights : (phase : Phase Outcome) (p h : Bool) → (not (phase_ended phase && p) && (phase_queued phase && h)) ≡ (phase_queued phase && h)
out_weights Queued p h = refl
out_weights Sent p h = refl
out_weights (Ended kind) true h = refl
out_weights (Ended kind) false h = refl

slack_without : (owner id : ℕ) (t : Requests) (r : ℕ) → slack r (without owner id t) ≡ slack r t
slack_without owner id t r =
    let of = is_queued_and (has_reference r) in
    let rows = count_filter of (stays owner id) t.rows ∙ counts_same (λ row. stays owner id row && of row) of t.rows (λ row. out_weights row.phase (is_row_of owner id row) (has_reference r row)) in
    ap (λ n. count_by (is_number r) t.free + n) rows

slack_settled : (reference : ℕ) (t : Requests) (r : ℕ) → slack r (settled reference t) ≡ slack r t + one (is_number r reference)
slack_settled reference t r =
    let free = count_append (is_number r) t.free (reference ∷ []) in
    let last = count_cons (is_number r) reference [] in
    let none : count_by (is_number r) [] ≡ 0 = refl in omega arith

slack_added : (draft : Draft Handed) (t : Requests) (reference : ℕ) (rest : List ℕ) → t.free ≡ reference ∷ rest → (r : ℕ) → slack r (with_row draft t reference rest) ≡ slack r t
slack_added draft t reference rest is r =
    let row : Row Handed Outcome = queued_row draft (t.drawn + 1) reference in
    let of = is_queued_and {X = Handed} {E = Outcome} (has_reference r) in
    let rows = count_append of t.rows (row ∷ []) in
    let last = count_cons of row [] in
    let none : count_by of [] ≡ 0 = refl in
    let first = ap (count_by (is_number r)) is in
    let drawn = count_cons (is_number r) reference rest in omega arith

sent_weights : (phase : Phase Outcome) (p h : Bool) → one (phase_queued (if phase_queued phase && p then Sent else phase) && h) + one ((phase_queued phase && p) && h) ≡ one (phase_queued phase && h)
sent_weights Queued true h = omega arith
sent_weights Queued false h = omega arith
sent_weights Sent p h = omega arith
sent_weights (Ended e) p h = omega arith

slack_sent : (id : ℕ) (t : Requests) (r : ℕ) → slack r (sent id t) + count_by (λ (row : Row Handed Outcome). is_queued_and (has_id id) row && has_reference r row) t.rows ≡ slack r t
slack_sent id t r =
    let of = is_queued_and {X = Handed} {E = Outcome} (has_reference r) in
    let rows = count_map of (in_phase (sent_phase id)) t.rows in
    let all = counts_add (λ (row : Row Handed Outcome). of (in_phase (sent_phase id) row)) (λ (row : Row Handed Outcome). is_queued_and (has_id id) row && has_reference r row) of t.rows
    (λ row. sent_weights row.phase (has_id id row) (has_reference r row)) in omega arith

live_and_weights : {E : Type 0} (phase : Phase E) (p h : Bool) → one ((phase_queued phase && p) && h) + one ((phase_sent phase && p) && h) ≡ one ((phase_live phase && p) && h)
live_and_weights Queued p h = omega arith
live_and_weights Sent p h = omega arith
live_and_weights (Ended e) p h = omega arith

slack_replied : (id : ℕ) (o : Outcome) (t : Requests) (r : ℕ) → slack r (replied id o t) ≡ slack r t + count_by (λ (row : Row Handed Outcome). is_sent_and (has_id id) row && has_reference r row) t.rows
slack_replied id o t r =
    let p = has_id {X = Handed} {E = Outcome} id in
    let rows = count_map (is_queued_and (has_reference r)) (in_phase (ended_phase p o)) t.rows in
    let free = count_append (is_number r) t.free (references_of (is_live_and p) t.rows) in
    let back = count_references r (is_live_and p) t.rows in
    let all = queued_after p o t r in
    let split = counts_add (λ (row : Row Handed Outcome). is_queued_and p row && has_reference r row) (λ (row : Row Handed Outcome). is_sent_and p row && has_reference r row) (λ (row : Row Handed Outcome). is_live_and p row && has_reference r row) t.rows
    (λ row. live_and_weights row.phase (p row) (has_reference r row)) in omega arith

-- ---- one row with an id

both_pass : (a b c : Bool) → a ≡ true → b ≡ true → c ≡ true → ((a && b) && c) ≡ true
both_pass a b c x y z = rw (x, y, z) refl

last_fails : (a b c : Bool) → (a ≡ true → b ≡ true → c ≡ false) → ((a && b) && c) ≡ false
last_fails true true c h = h refl refl
last_fails true false c h = refl
last_fails false b c h = refl

-- the rows with an id and another reference than the row's: none
others_none : (q : Row Handed Outcome → Bool) (t : Requests) (row : Row Handed Outcome) (r : ℕ) → IsRising 0 t.drawn (ids_of t.rows) → In row t.rows → (r ≡ row.reference → ⊥) → count_by (λ (x : Row Handed Outcome). (q x && has_id row.id x) && has_reference r x) t.rows ≡ 0
others_none q t row r rising here other =
    none_counts (λ (x : Row Handed Outcome). (q x && has_id row.id x) && has_reference r x) t.rows
    (λ x there. last_fails (q x) (has_id row.id x) (has_reference r x)
    (λ passes own.
    let same : x ≡ row = same_row 0 t.drawn t.rows x row rising there here (eqb-true x.id row.id own) in
    ne_eqb x.reference r (λ is. other (sym is ∙ ap (λ (y : Row Handed Outcome). y.reference) same))))

own_some : (q : Row Handed Outcome → Bool) (t : Requests) (row : Row Handed Outcome) → In row t.rows → q row ≡ true → 1 ≤ count_by (λ (x : Row Handed Outcome). (q x && has_id row.id x) && has_reference row.reference x) t.rows
own_some q t row here passes =
    count_in (λ (x : Row Handed Outcome). (q x && has_id row.id x) && has_reference row.reference x) t.rows row here
    (both_pass (q row) (has_id row.id row) (has_reference row.reference row) passes (eq-eqb row.id row.id refl) (eq-eqb row.reference row.reference refl))

-- ---- uses

pub record UsesLaw (t : Requests) : Type 0 where
  pub once : (r : ℕ) → uses_of r t ≤ 1
  pub within : (r : ℕ) → is_reference r t ≡ false → uses_of r t ≡ 0

-- a step brings no use
pub fewer : (t u : Requests) → u.references ≡ t.references → ((r : ℕ) → uses_of r u ≤ uses_of r t) → UsesLaw t → UsesLaw u
fewer t u references uses law = record {
  once = λ r. let few = uses r in let was = law.once r in omega arith;
  within = λ r out.
      let few = uses r in
      let was : uses_of r t ≡ 0 = law.within r (sym (ap (λ (n : ℕ). let x : Requests = record t { references = n } in is_reference r x) references) ∙ out) in omega arith;
}

one_at_most : (b : Bool) → one b ≤ 1
one_at_most true = omega arith
one_at_most false = omega arith

settled_uses : (reference : ℕ) (t : Requests) → is_quarantined reference t ≡ true → UsesLaw t → UsesLaw (settled reference t)
settled_uses reference t is law =
    let parts = quarantined_parts reference t is in
    record {
      once = λ r.
          let uses = uses_settled reference t r in
          let was = law.once r in
          elim (number_cases r reference) [
            | inl same ↦ let none : uses_of r t ≡ 0 = ap (λ n. uses_of n t) same ∙ parts.1 in let some : one (is_number r reference) ≤ 1 = one_at_most (is_number r reference) in omega arith
            | inr other ↦ omega arith
          ];
      within = λ r out.
          let uses = uses_settled reference t r in
          let was : uses_of r t ≡ 0 = law.within r out in
          elim (number_cases r reference) [
            | inl same ↦ let inside : is_reference r t ≡ true = ap (λ n. is_reference n t) same ∙ parts.0 in absurd (cc)
            | inr other ↦ omega arith
          ];
    }

ended_uses : (p : Row Handed Outcome → Bool) (o : Outcome) (t : Requests) → UsesLaw t → UsesLaw (ended_all p o t)
ended_uses p o t law = fewer t (ended_all p o t) refl (λ r. let uses = uses_ended_all p o t r in omega arith) law

leases_uses : (numbers : List ℕ) (t : Requests) → UsesLaw t → UsesLaw (end_leases numbers t)
leases_uses [] t law = law
leases_uses (n ∷ ns) t law = leases_uses ns (end_all (has_lease n) kinds.LeaseGone t) (ended_uses (has_lease n) (bare kinds.LeaseGone) t law)

-- ---- what an event does to references

pub data Turn (c : Connection) (e : Entry) (t u : Requests) : Type 0 where
  -- no sending, no frame that can be read: as before
  quiet : ((r : ℕ) → slack r u ≡ slack r t) → (e.event ≡ events.TakeSend → ⊥) → ((bytes : List ℕ) (reading : Reading) → e.event ≡ events.Frame bytes → c.wire.reading_of bytes ≡ Ok reading → ⊥) → Turn c e t u
  -- a queued row is sent: its reference is out
  sends : (row : Row Handed Outcome) → In row t.rows → is_queued row ≡ true → e.event ≡ events.TakeSend → e.answer ≡ answers.Sent row.id
      → slack row.reference u < slack row.reference t → ((r : ℕ) → (r ≡ row.reference → ⊥) → slack r u ≡ slack r t)
      → ((next : Row Handed Outcome) → In next u.rows → next.id ≡ row.id → is_queued next ≡ false) → Turn c e t u
  -- a frame comes: its reference is not out from then on
  reads : (bytes : List ℕ) (reading : Reading) → e.event ≡ events.Frame bytes → c.wire.reading_of bytes ≡ Ok reading
      → (is_reference (c.wire.reference_of bytes) u ≡ true → slack (c.wire.reference_of bytes) u ≡ 0 → ⊥)
      → ((r : ℕ) → (r ≡ c.wire.reference_of bytes → ⊥) → slack r u ≡ slack r t) → Turn c e t u

pub record Refs (c : Connection) (e : Entry) (t u : Requests) : Type 0 where
  pub uses : UsesLaw t → UsesLaw u
  pub turn : Turn c e t u

same_refs : (c : Connection) (e : Entry) (t v u : Table) → v ≡ u → Refs c e t.requests v.requests → Refs c e t.requests u.requests
same_refs c e t v u is h = let P : Table → Type 0 = λ x. Refs c e t.requests x.requests in subst P is h

pub event_not : {Y : Type 0} (a b : Event) (f : Event → Bool) → f a ≡ true → f b ≡ false → a ≡ b → Y
event_not a b f x y is = let z : f a ≡ f b = ap f is in absurd (cc)

abbrev pub is_send : Event → Bool
is_send events.TakeSend = true
is_send _ = false

abbrev pub comes_by : Event → Bool
comes_by (events.Frame bytes) = true
comes_by _ = false

quiet_refs : (c : Connection) (e : Entry) (t u : Requests) → is_send e.event ≡ false → comes_by e.event ≡ false → (UsesLaw t → UsesLaw u) → ((r : ℕ) → slack r u ≡ slack r t) → Refs c e t u
quiet_refs c e t u no_send no_frame uses same = record {
  uses = uses;
  turn = quiet same (λ is. event_not events.TakeSend e.event is_send refl no_send (sym is)) (λ bytes reading is reads. event_not (events.Frame bytes) e.event comes_by refl no_frame (sym is));
}

ask_refs : (c : Connection) (t u : Table) (actor now : ℕ) (answer : Answer) → step c t actor (events.AskLease now) ≡ Some (u, answer) → Refs c (record { actor = actor; event = events.AskLease now; answer = answer }) t.requests u.requests
ask_refs c t u actor now answer e =
    let took_it = took asked_entry (ask_lease t actor now) u answer e in
    let next : Table × LeaseAnswer = (with_lease actor (at_moment now t), asked_answer t.leases) in
    let opened = open_took asks.Closed t.closed _ (u, took_it.given) took_it.is in
    let both = if_took (nat_lt (length t.leases.waiting) waiters_limit) next asks.QueueFull (u, took_it.given) opened.1 in
    same_refs c _ t (with_lease actor (at_moment now t)) u both.1 (quiet_refs c _ t.requests t.requests refl refl (λ law. law) (λ r. refl))

release_refs : (c : Connection) (t u : Table) (actor number now : ℕ) (answer : Answer) → step c t actor (events.Release number now) ≡ Some (u, answer) → Refs c (record { actor = actor; event = events.Release number now; answer = answer }) t.requests u.requests
release_refs c t u actor number now answer e =
    let took_it = took (λ (x : Unit {0}). answers.Released) (release t actor number now) u answer e in
    let next : Table × Unit {0} = (released number (at_moment now t), tt) in
    let opened = open_took lease_refusals.Closed t.closed _ (u, took_it.given) took_it.is in
    let both = if_took (is_some (state_of t.leases actor number)) next lease_refusals.NoLease (u, took_it.given) opened.1 in
    same_refs c _ t (released number (at_moment now t)) u both.1
    (quiet_refs c _ t.requests (end_all (has_lease number) kinds.LeaseGone t.requests) refl refl (ended_uses (has_lease number) (bare kinds.LeaseGone) t.requests) (slack_ended (has_lease number) (bare kinds.LeaseGone) t.requests))

submit_refs : (c : Connection) (t u : Table) (actor lease : ℕ) (ask : Ask) (timeout now : ℕ) (answer : Answer) → step c t actor (events.Submit lease ask timeout now) ≡ Some (u, answer) → Refs c (record { actor = actor; event = events.Submit lease ask timeout now; answer = answer }) t.requests u.requests
submit_refs c t u actor lease ask timeout now answer e =
    let q : Request = record { actor = actor; lease = lease; ask = ask; timeout = timeout; moment = now } in
    let took_it = took (λ (s : Started). answers.Accepted s.id s.reference s.frame) (submit c.wire t q) u answer e in
    let queued = queues c.wire t q u took_it.given took_it.is in
    let draft = draft_of q (max t.clock now) queued.frame in
    let next = with_row draft t.requests queued.reference queued.rest in
    same_refs c _ t (record (at_moment now t) { requests = next }) u (sym queued.table)
    (quiet_refs c _ t.requests next refl refl
    (fewer t.requests next refl (λ r. let same = uses_added draft t.requests queued.reference queued.rest queued.free r in omega arith))
    (slack_added draft t.requests queued.reference queued.rest queued.free))

sent_dead : (id : ℕ) (row : Row Handed Outcome) (b : Bool) → is_queued row ≡ b → (row.id == id) ≡ true → phase_queued (sent_phase id row) ≡ false
sent_dead id row true queued own =
    let both : is_queued_and (has_id id) row ≡ true = rw (queued, own) refl in
    ap (λ b. phase_queued (if b then Sent else row.phase)) both
sent_dead id row false out own =
    let none : is_queued_and (has_id id) row ≡ false = rw out refl in
    ap (λ b. phase_queued (if b then Sent else row.phase)) none ∙ out

none_queued : (id : ℕ) (rows : List (Row Handed Outcome)) (next : Row Handed Outcome) → In next (sent id (record { references = 0; window = 0; rows = rows; free = []; drawn = 0 })).rows → next.id ≡ id → is_queued next ≡ false
none_queued id rows next h same =
    let x = in_map (in_phase (sent_phase id)) rows next h in
    let row = x.0 in
    let own : row.id ≡ id = ap (λ (y : Row Handed Outcome). y.id) x.2 ∙ same in
    sym (ap is_queued x.2) ∙ sent_dead id row (is_queued row) refl (eq-eqb row.id id own)

send_refs : (c : Connection) (t u : Table) (actor : ℕ) (answer : Answer) → IsRising 0 t.requests.drawn (ids_of t.requests.rows) → step c t actor events.TakeSend ≡ Some (u, answer) → Refs c (record { actor = actor; event = events.TakeSend; answer = answer }) t.requests u.requests
send_refs c t u actor answer rising e =
    let took_it = took (λ (s : Sending). answers.Sent s.id) (take_send t) u answer e in
    let s = sends_as t u took_it.given took_it.is in
    let told : answers.Sent s.row.id ≡ answer = ap (λ (x : Sending). answers.Sent x.id) (sym s.sending_is) ∙ took_it.told in
    let found = in_found is_queued t.requests.rows s.row s.found in
    let next = sent s.row.id t.requests in
    let P : Table → Type 0 = λ x. Refs c (record { actor = actor; event = events.TakeSend; answer = answer }) t.requests x.requests in
    subst P (sym s.table) (record {
      uses = fewer t.requests next refl (λ r. let same = uses_sent s.row.id t.requests r in omega arith);
      turn = sends s.row found.0 found.1 refl (sym told)
          (let less = slack_sent s.row.id t.requests s.row.reference in let some = own_some is_queued t.requests s.row found.0 found.1 in omega arith)
          (λ r other. let less = slack_sent s.row.id t.requests r in let none = others_none is_queued t.requests s.row r rising found.0 other in omega arith)
          (λ x h. none_queued s.row.id t.requests.rows x h);
    })

-- ---- a frame

and_false : (a : Bool) (n : ℕ) → a ≡ true → (a && (n == 0)) ≡ false → n ≡ 0 → ⊥
and_false a n x y z = let one_side : (n == 0) ≡ true = eq-eqb n 0 z in let both : (a && (n == 0)) ≡ true = rw (x, one_side) refl in cc

without_refs : (c : Connection) (e : Entry) (t : Table) (bytes : List ℕ) (reading : Reading) (b : Bool) → e.event ≡ events.Frame bytes → c.wire.reading_of bytes ≡ Ok reading → is_quarantined (c.wire.reference_of bytes) t.requests ≡ b → sent_uses (c.wire.reference_of bytes) t.requests ≡ 0 → Refs c e t.requests (settled_if (c.wire.reference_of bytes) (counted t) b).0.requests
without_refs c e t bytes reading true event reads_it is none =
    let reference = c.wire.reference_of bytes in
    record {
      uses = settled_uses reference t.requests is;
      turn = reads bytes reading event reads_it
          (λ inside empty. let more = slack_settled reference t.requests reference in let own : one (is_number reference reference) ≡ 1 = ap one (eq-eqb reference reference refl) in absurd (omega arith))
          (λ r other. let more = slack_settled reference t.requests r in let apart : one (is_number r reference) ≡ 0 = ap one (ne_eqb reference r (λ same. other (sym same))) in omega arith);
    }
without_refs c e t bytes reading false event reads_it is none =
    let reference = c.wire.reference_of bytes in
    record {
      uses = λ law. law;
      turn = reads bytes reading event reads_it
          (λ inside empty. let parts = uses_parts reference t.requests in and_false (is_reference reference t.requests) (uses_of reference t.requests) inside is (omega arith))
          (λ r other. refl);
    }

arrived_refs : (c : Connection) (e : Entry) (t : Table) (bytes : List ℕ) (reading : Reading) (found : Option (Row Handed Outcome)) → IsRising 0 t.requests.drawn (ids_of t.requests.rows) → e.event ≡ events.Frame bytes → c.wire.reading_of bytes ≡ Ok reading → awaiting (c.wire.reference_of bytes) t.requests ≡ found → Refs c e t.requests (arrived c.wire (c.wire.reference_of bytes) reading (counted t) found).0.requests
arrived_refs c e t bytes reading None rising event reads_it none =
    let reference = c.wire.reference_of bytes in
    without_refs c e t bytes reading (is_quarantined reference t.requests) event reads_it refl
    (fails_count (is_sent_and (has_reference reference)) t.requests.rows (not_found (is_sent_and (has_reference reference)) t.requests.rows none))
arrived_refs c e t bytes reading (Some row) rising event reads_it is =
    let reference = c.wire.reference_of bytes in
    let o = c.wire.fit row.what.ask reading in
    let found = in_found (is_sent_and (has_reference reference)) t.requests.rows row is in
    let both = and_parts (is_sent row) (has_reference reference row) found.1 in
    let own : row.reference ≡ reference = eqb-true row.reference reference both.1 in
    record {
      uses = fewer t.requests (replied row.id o t.requests) refl (λ r. let same = uses_replied row.id o t.requests r in omega arith);
      turn = reads bytes reading event reads_it
          (λ inside empty.
          let more = slack_replied row.id o t.requests row.reference in
          let some = own_some is_sent t.requests row found.0 both.0 in
          let none : slack row.reference (replied row.id o t.requests) ≡ 0 = ap (λ r. slack r (replied row.id o t.requests)) own ∙ empty in
          absurd (omega arith))
          (λ r other.
          let more = slack_replied row.id o t.requests r in
          let none = others_none is_sent t.requests row r rising found.0 (λ same. other (same ∙ own)) in omega arith);
    }

unread : {Y : Type 0} (a b : List ℕ) (wire : WireMeaning) (reading : Reading) (why : FrameWhy) → events.Frame a ≡ events.Frame b → wire.reading_of a ≡ Err why → wire.reading_of b ≡ Ok reading → Y
unread a b wire reading why is not_read read = let same : a ≡ b = cc in let also = sym (ap wire.reading_of same) ∙ not_read in absurd (cc)

received_refs : (c : Connection) (t : Table) (actor : ℕ) (bytes : List ℕ) (answer : Answer) (reading : Result Reading FrameWhy) → IsRising 0 t.requests.drawn (ids_of t.requests.rows) → c.wire.reading_of bytes ≡ reading → Refs c (record { actor = actor; event = events.Frame bytes; answer = answer }) t.requests (received c.wire t bytes reading).0.requests
received_refs c t actor bytes answer (Ok reading) rising reads_it = arrived_refs c _ t bytes reading (awaiting (c.wire.reference_of bytes) t.requests) rising refl reads_it refl
received_refs c t actor bytes answer (Err why) rising reads_it = record {
  uses = ended_uses any_row (bare (kinds.Lost (reasons.Undecodable t.frames why))) t.requests;
  turn = quiet (slack_ended any_row (bare (kinds.Lost (reasons.Undecodable t.frames why))) t.requests)
      (λ is. event_not events.TakeSend (events.Frame bytes) is_send refl refl (sym is))
      (λ other reading is read. unread bytes other c.wire reading why is reads_it read);
}

frame_refs : (c : Connection) (t u : Table) (actor : ℕ) (bytes : List ℕ) (answer : Answer) → IsRising 0 t.requests.drawn (ids_of t.requests.rows) → step c t actor (events.Frame bytes) ≡ Some (u, answer) → Refs c (record { actor = actor; event = events.Frame bytes; answer = answer }) t.requests u.requests
frame_refs c t u actor bytes answer rising e =
    same_refs c _ t _ u (frame_parts c t u actor bytes answer e).0 (received_refs c t actor bytes answer (c.wire.reading_of bytes) rising refl)

-- ---- any event

close_refs : (c : Connection) (e : Entry) (t u : Table) (reason : Reason) (given : Unit {0}) → is_send e.event ≡ false → comes_by e.event ≡ false → close t reason ≡ Ok (u, given) → Refs c e t.requests u.requests
close_refs c e t u reason given no_send no_frame is =
    same_refs c e t (closed_by reason t) u (sym (close_table t u reason given is).1)
    (quiet_refs c e t.requests (end_all any_row (kinds.Lost reason) t.requests) no_send no_frame (ended_uses any_row (bare (kinds.Lost reason)) t.requests) (slack_ended any_row (bare (kinds.Lost reason)) t.requests))

collect_refs : (c : Connection) (t u : Table) (actor id : ℕ) (answer : Answer) → step c t actor (events.Collect id) ≡ Some (u, answer) → Refs c (record { actor = actor; event = events.Collect id; answer = answer }) t.requests u.requests
collect_refs c t u actor id answer e =
    let took_it = took (λ (o : Outcome). answers.Collected o.kind) (collect t actor id) u answer e in
    let both = collect_is_table t u actor id took_it.given took_it.is in
    same_refs c _ t (record t { requests = without actor id t.requests }) u (sym both.0)
    (quiet_refs c _ t.requests (without actor id t.requests) refl refl
    (fewer t.requests (without actor id t.requests) refl (λ r. let same = uses_without actor id t.requests r in omega arith))
    (slack_without actor id t.requests))

tick_refs : (c : Connection) (t u : Table) (actor now : ℕ) (answer : Answer) → step c t actor (events.Tick now) ≡ Some (u, answer) → Refs c (record { actor = actor; event = events.Tick now; answer = answer }) t.requests u.requests
tick_refs c t u actor now answer e =
    let expired = end_all (is_due now) kinds.Expired t.requests in
    let numbers = due_numbers now t.leases.held in
    same_refs c _ t (ticked now (at_moment now t)) u (tick_rows_are c t u actor now answer e)
    (quiet_refs c _ t.requests (end_leases numbers expired) refl refl
    (λ law. leases_uses numbers expired (ended_uses (is_due now) (bare kinds.Expired) t.requests law))
    (λ r. slack_leases numbers expired r ∙ slack_ended (is_due now) (bare kinds.Expired) t.requests r))

pub refs : (c : Connection) (t u : Table) (actor : ℕ) (event : Event) (answer : Answer) → IsRising 0 t.requests.drawn (ids_of t.requests.rows) → step c t actor event ≡ Some (u, answer) → (let e : Entry = record { actor = actor; event = event; answer = answer } in Refs c e t.requests u.requests)
refs c t u actor (events.AskLease now) answer rising e = ask_refs c t u actor now answer e
refs c t u actor (events.Release lease now) answer rising e = release_refs c t u actor lease now answer e
refs c t u actor (events.Submit lease ask timeout now) answer rising e = submit_refs c t u actor lease ask timeout now answer e
refs c t u actor events.TakeSend answer rising e = send_refs c t u actor answer rising e
refs c t u actor (events.Frame bytes) answer rising e = frame_refs c t u actor bytes answer rising e
refs c t u actor (events.Cancel id) answer rising e =
    same_refs c _ t (cancelled id t) u (cancel_rows_are c t u actor id answer e)
    (quiet_refs c _ t.requests (end_all (has_id id) kinds.Cancelled t.requests) refl refl (ended_uses (has_id id) (bare kinds.Cancelled) t.requests) (slack_ended (has_id id) (bare kinds.Cancelled) t.requests))
refs c t u actor (events.Collect id) answer rising e = collect_refs c t u actor id answer e
refs c t u actor (events.Tick now) answer rising e = tick_refs c t u actor now answer e
refs c t u actor (events.Close reason) answer rising e =
    let took_it = took (λ (x : Unit {0}). answers.Closed) (close t reason) u answer e in
    close_refs c _ t u reason took_it.given refl refl took_it.is
refs c t u actor events.Shutdown answer rising e =
    let took_it = took (λ (x : Unit {0}). answers.Closed) (close t reasons.Asked) u answer e in
    close_refs c _ t u reasons.Asked took_it.given refl refl took_it.is
