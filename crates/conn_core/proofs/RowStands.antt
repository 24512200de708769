-- What is kept beside rows stands for the table where a row is sent, answered, taken out or added.
use Rattle.std.proofs.Common.{◌≡◌, ℕ, ◌+◌, Bool, true, false, List, [], ◌∷◌, ◌++◌, refl, sym, ap, subst, ◌∙◌, Option, Some, None, Ok, Err}
use Rattle.std.specs.Prelude.{Result, ◌&&◌, ◌==◌, count_by, filter, nat_lt, if◌then◌else◌, not}
use Rattle.std.specs.List.{AllZip, find}
use Rattle.std.specs.Option.{option_map}
use Rattle.std.proofs.lemmas.Bool.{and_parts, eq-eqb, eqb-true}
use Rattle.std.proofs.lemmas.List.Elements.{filter-append}
use Rattle.txn_core.specs.FirstPlaces.{Fails, found_at}
use Rattle.txn_core.specs.PlainRows.{plain_replied, plain_sent, plain_with_row, plain_without, plain_draft, sent_id}
use Rattle.txn_core.specs.RowEnds.{IsOnly, only, phases_at}
use Rattle.txn_core.specs.RowSteps.{Draft, added, added_under, answer_of, arrival_for, arrival_of, awaiting, taken, taken_from, ended_phase, in_phase, in_phases, queued_row, replied, sent, sent_from, sent_next, sent_phase, stays, with_row, without}
use Rattle.txn_core.specs.RowTables.{IsRising, IsRowTable, Row, RowTable, has_id, has_reference, ids_of, is_ended, is_full, is_live, is_quarantined, is_queued, is_row_of, is_sent, is_sent_and, phase_ended, phase_queued}
use Rattle.txn_core.specs.declared.phases.AddRefusal.{AddRefusal}
use Rattle.txn_core.specs.declared.phases.AddRefusal.TheVariants as add_refusals
use Rattle.txn_core.specs.declared.phases.Arrival.TheVariants as arrivals
use Rattle.txn_core.specs.declared.phases.Phase.{Phase}
use Rattle.txn_core.specs.declared.phases.Phase.TheVariants.{Queued, Sent, Ended}
use Rattle.wire_frames.specs.declared.ends.Outcome.{Outcome}
use Rattle.conn_core.specs.HandedItems.{sent_item}
use Rattle.conn_core.specs.KeptTables.{IsHandedIn, Stands, end_kind, phase_values}
use Rattle.conn_core.specs.Tables.{Handed, Table}
use Rattle.conn_core.specs.declared.entries.Entry.{Entry}
use Rattle.conn_core.specs.declared.handed.HandedIn.{HandedIn}
use Rattle.conn_core.specs.declared.table.KeptTable.{KeptTable}
use Rattle.conn_core.proofs.HandedLemmas.{IsSplit, zip_join}

-- one row comes to another phase, and its item changes with it
pub phase_zip : (journal : List Entry) (phase : Row Handed Outcome → Phase Outcome) (before : List (Row Handed Outcome)) (row : Row Handed Outcome) (after : List (Row Handed Outcome)) (items changed : List HandedIn) (item : HandedIn) (s : IsSplit (IsHandedIn journal) before row after items) → IsOnly before after row → ((other : Row Handed Outcome) → has_id row.id other ≡ false → phase other ≡ other.phase) → IsHandedIn journal (in_phase phase row) item → changed ≡ s.items_before ++ item ∷ s.items_after → AllZip (IsHandedIn journal) (in_phases phase (before ++ row ∷ after)) changed
phase_zip journal phase before row after items changed item s only stays here is =
    rw (phases_at phase before after row only stays, is) (zip_join (IsHandedIn journal) before (in_phase phase row) after s.items_before item s.items_after s.zip_before here s.zip_after)

-- ---- a request is sent

sent_not : (b : Bool) (phase : Phase Outcome) → (if b && false then Sent else phase) ≡ phase
sent_not true phase = refl
sent_not false phase = refl

sent_other : (id : ℕ) (other : Row Handed Outcome) → has_id id other ≡ false → sent_phase id other ≡ other.phase
sent_other id other out = rw out (sent_not (is_queued other) other.phase)

sent_here : (row : Row Handed Outcome) → is_queued row ≡ true → has_id row.id row ≡ true → sent_phase row.id row ≡ Sent
sent_here row queued named = rw (queued, named) refl

queued_values : (phase : Phase Outcome) → phase_queued phase ≡ true → phase_values phase ≡ []
queued_values Queued e = refl
queued_values Sent e = cc
queued_values (Ended outcome) e = cc

sent_handed : (journal : List Entry) (row : Row Handed Outcome) (item : HandedIn) (phase : Phase Outcome) → phase ≡ Sent → is_queued row ≡ true → IsHandedIn journal row item → (let after : Row Handed Outcome = record row { phase = phase } in IsHandedIn journal after (sent_item item))
sent_handed journal row item phase is queued h = record {
  id = h.id;
  reference = h.reference;
  entry = h.entry;
  stands = h.stands;
  accepted = h.accepted;
  frame = λ e. (let not_queued : phase_queued phase ≡ false = ap phase_queued is in cc);
  values = h.values ∙ queued_values row.phase queued ∙ sym (ap phase_values is);
}

pub sent_stands : (journal : List Entry) (k m : KeptTable) (t : Table) (before : List (Row Handed Outcome)) (row : Row Handed Outcome) (after : List (Row Handed Outcome)) (s : IsSplit (IsHandedIn journal) before row after k.handed.items) → Stands journal k t → t.requests.rows ≡ before ++ row ∷ after → IsOnly before after row → is_queued row ≡ true → has_id row.id row ≡ true → m.requests ≡ sent row.id k.requests → m.handed.items ≡ s.items_before ++ sent_item s.item ∷ s.items_after → m.leases ≡ k.leases → m.clock ≡ k.clock → m.closed ≡ k.closed → m.frames ≡ k.frames → (let next : Table = record t { requests = sent row.id t.requests } in Stands journal m next)
sent_stands journal k m t before row after s stands rows only queued named requests handed leases clock closed frames = record {
  requests = requests ∙ ap (sent row.id) stands.requests ∙ plain_sent end_kind row.id t.requests;
  leases = leases ∙ stands.leases;
  clock = clock ∙ stands.clock;
  closed = closed ∙ stands.closed;
  frames = frames ∙ stands.frames;
  handed = rw rows (phase_zip journal (sent_phase row.id) before row after k.handed.items m.handed.items (sent_item s.item) s only (sent_other row.id) (sent_handed journal row s.item (sent_phase row.id row) (sent_here row queued named) queued s.here) handed);
}

-- ---- a request is answered

abbrev pub answered_item : Outcome → HandedIn → HandedIn
answered_item outcome item = record item { values = outcome.values }

answered_here : (outcome : Outcome) (row : Row Handed Outcome) → is_live row ≡ true → has_id row.id row ≡ true → ended_phase (has_id row.id) outcome row ≡ Ended outcome
answered_here outcome row live named = rw (live, named) refl

answered_handed : (journal : List Entry) (outcome : Outcome) (row : Row Handed Outcome) (item : HandedIn) (phase : Phase Outcome) → phase ≡ Ended outcome → IsHandedIn journal row item → (let after : Row Handed Outcome = record row { phase = phase } in IsHandedIn journal after (answered_item outcome item))
answered_handed journal outcome row item phase is h = record {
  id = h.id;
  reference = h.reference;
  entry = h.entry;
  stands = h.stands;
  accepted = h.accepted;
  frame = λ e. (let not_queued : phase_queued phase ≡ false = ap phase_queued is in cc);
  values = sym (ap phase_values is);
}

answered_not : (outcome : Outcome) (b : Bool) (phase : Phase Outcome) → (if b && false then Ended outcome else phase) ≡ phase
answered_not outcome true phase = refl
answered_not outcome false phase = refl

answered_other : (outcome : Outcome) (id : ℕ) (other : Row Handed Outcome) → has_id id other ≡ false → ended_phase (has_id id) outcome other ≡ other.phase
answered_other outcome id other out = rw out (answered_not outcome (is_live other) other.phase)

pub answered_stands : (journal : List Entry) (k m : KeptTable) (t : Table) (outcome : Outcome) (before : List (Row Handed Outcome)) (row : Row Handed Outcome) (after : List (Row Handed Outcome)) (s : IsSplit (IsHandedIn journal) before row after k.handed.items) → Stands journal k t → t.requests.rows ≡ before ++ row ∷ after → IsOnly before after row → is_live row ≡ true → has_id row.id row ≡ true → m.requests ≡ replied row.id outcome.kind k.requests → m.handed.items ≡ s.items_before ++ answered_item outcome s.item ∷ s.items_after → m.leases ≡ k.leases → m.clock ≡ k.clock → m.closed ≡ k.closed → m.frames ≡ k.frames → (let next : Table = record t { requests = replied row.id outcome t.requests } in Stands journal m next)
answered_stands journal k m t outcome before row after s stands rows only live named requests handed leases clock closed frames = record {
  requests = requests ∙ ap (replied row.id outcome.kind) stands.requests ∙ plain_replied end_kind row.id outcome t.requests;
  leases = leases ∙ stands.leases;
  clock = clock ∙ stands.clock;
  closed = closed ∙ stands.closed;
  frames = frames ∙ stands.frames;
  handed = rw rows (phase_zip journal (ended_phase (has_id row.id) outcome) before row after k.handed.items m.handed.items (answered_item outcome s.item) s only (answered_other outcome row.id) (answered_handed journal outcome row s.item (ended_phase (has_id row.id) outcome row) (answered_here outcome row live named) s.here) handed);
}

-- ---- a request is accepted

zip_push : {A B : Type 0} (R : A → B → Type 0) (xs : List A) (ys : List B) (x : A) (y : B) → AllZip R xs ys → R x y → AllZip R (xs ++ x ∷ []) (ys ++ y ∷ [])
zip_push R [] [] x y h r = (r, tt)
zip_push R [] (b ∷ bs) x y h r = absurd h
zip_push R (a ∷ rest) [] x y h r = absurd h
zip_push R (a ∷ rest) (b ∷ bs) x y h r = (h.0, zip_push R rest bs x y h.1 r)

pub added_stands : (journal : List Entry) (k m : KeptTable) (t : Table) (draft : Draft Handed) (reference clock : ℕ) (rest : List ℕ) (item : HandedIn) → Stands journal k t → m.requests ≡ with_row (plain_draft draft) k.requests reference rest → m.handed.items ≡ k.handed.items ++ item ∷ [] → IsHandedIn journal (queued_row draft (t.requests.drawn + 1) reference) item → m.leases ≡ k.leases → m.clock ≡ clock → m.closed ≡ k.closed → m.frames ≡ k.frames → (let next : Table = record t { requests = with_row draft t.requests reference rest; clock = clock } in Stands journal m next)
added_stands journal k m t draft reference clock rest item stands requests handed here leases now closed frames = record {
  requests = requests ∙ ap (λ r. with_row (plain_draft draft) r reference rest) stands.requests ∙ plain_with_row end_kind draft t.requests reference rest;
  leases = leases ∙ stands.leases;
  clock = now;
  closed = closed ∙ stands.closed;
  frames = frames ∙ stands.frames;
  handed = rw handed (zip_push (IsHandedIn journal) t.requests.rows k.handed.items (queued_row draft (t.requests.drawn + 1) reference) item stands.handed here);
}

-- ---- a request is taken out

ended_either : (b : Bool) → not (b && false) ≡ true
ended_either true = refl
ended_either false = refl

stay_other : {X E : Type 0} (owner id : ℕ) (row : Row X E) → has_id id row ≡ false → stays owner id row ≡ true
stay_other owner id row out = rw out (ended_either (is_ended row))

all_stay : {X E : Type 0} (owner id : ℕ) (rows : List (Row X E)) → Fails (has_id id) rows → filter (stays owner id) rows ≡ rows
all_stay owner id [] fails = refl
all_stay owner id (row ∷ rows) fails = rw (stay_other owner id row fails.0) (ap (λ rest. row ∷ rest) (all_stay owner id rows fails.1))

filter_middle : {R : Type 0} (p : R → Bool) (before : List R) (row : R) (after : List R) → p row ≡ false → filter p before ≡ before → filter p after ≡ after → filter p (before ++ row ∷ after) ≡ before ++ after
filter_middle p before row after out one two = filter-append p before (row ∷ after) ∙ rw (out, one, two) refl

zip_cut : {A B : Type 0} (R : A → B → Type 0) (before after : List A) (xs ys : List B) → AllZip R before xs → AllZip R after ys → AllZip R (before ++ after) (xs ++ ys)
zip_cut R [] after [] ys h k = k
zip_cut R [] after (x ∷ xs) ys h k = absurd h
zip_cut R (b ∷ bs) after [] ys h k = absurd h
zip_cut R (b ∷ bs) after (x ∷ xs) ys h k = (h.0, zip_cut R bs after xs ys h.1 k)

pub taken_stands : (journal : List Entry) (k m : KeptTable) (t : Table) (owner : ℕ) (before : List (Row Handed Outcome)) (row : Row Handed Outcome) (after : List (Row Handed Outcome)) (s : IsSplit (IsHandedIn journal) before row after k.handed.items) → Stands journal k t → t.requests.rows ≡ before ++ row ∷ after → IsOnly before after row → stays owner row.id row ≡ false → m.requests ≡ without owner row.id k.requests → m.handed.items ≡ s.items_before ++ s.items_after → m.leases ≡ k.leases → m.clock ≡ k.clock → m.closed ≡ k.closed → m.frames ≡ k.frames → (let next : Table = record t { requests = without owner row.id t.requests } in Stands journal m next)
taken_stands journal k m t owner before row after s stands rows only out requests handed leases clock closed frames =
    let left : filter (stays owner row.id) (before ++ row ∷ after) ≡ before ++ after = filter_middle (stays owner row.id) before row after out (all_stay owner row.id before only.before_it) (all_stay owner row.id after only.after_it) in
    record {
      requests = requests ∙ ap (without owner row.id) stands.requests ∙ plain_without end_kind owner row.id t.requests;
      leases = leases ∙ stands.leases;
      clock = clock ∙ stands.clock;
      closed = closed ∙ stands.closed;
      frames = frames ∙ stands.frames;
      handed = rw (rows, left, handed) (zip_cut (IsHandedIn journal) before after s.items_before s.items_after s.zip_before s.zip_after);
    }

-- ---- the request that is sent next

pub record SendsRow {X E : Type 0} (t : RowTable X E) (id : ℕ) : Type 0 where
  pub row : Row X E
  pub before : List (Row X E)
  pub after : List (Row X E)
  pub rows : t.rows ≡ before ++ row ∷ after
  pub queued : is_queued row ≡ true
  pub same : row.id ≡ id
  pub only_one : IsOnly before after row
  pub taken : sent_next t ≡ Some (sent row.id t, row)

send_found : {X E : Type 0} (t : RowTable X E) (id : ℕ) (found : Option (Row X E)) → IsRising 0 t.drawn (ids_of t.rows) → find is_queued t.rows ≡ found → sent_next t ≡ sent_from t found → sent_id (sent_from t found) ≡ Some id → SendsRow t id
send_found t id None table e is h = cc
send_found {X} {E} t id (Some row) table e is h =
    let at = found_at is_queued t.rows row e in
    let first = at.1 in
    let rising : IsRising 0 t.drawn (ids_of (first.before ++ row ∷ first.after)) = let P : List (Row X E) → Type 0 = λ rows. IsRising 0 t.drawn (ids_of rows) in subst P first.split table in
    record {
      row = row;
      before = first.before;
      after = first.after;
      rows = first.split;
      queued = first.passes;
      same = cc;
      only_one = only 0 t.drawn first.before first.after row rising;
      taken = is;
    }

send_cases : {X E : Type 0} (t : RowTable X E) (id : ℕ) (b : Bool) → IsRising 0 t.drawn (ids_of t.rows) → nat_lt (count_by is_sent t.rows) t.window ≡ b → sent_id (if b then sent_from t (find is_queued t.rows) else None) ≡ Some id → SendsRow t id
send_cases t id false table e h = cc
send_cases t id true table e h = send_found t id (find is_queued t.rows) table refl (ap (λ b. if b then sent_from t (find is_queued t.rows) else None) e) h

pub send_rising : {X E : Type 0} (t : RowTable X E) (id : ℕ) → IsRising 0 t.drawn (ids_of t.rows) → sent_id (sent_next t) ≡ Some id → SendsRow t id
send_rising t id rising h = send_cases t id (nat_lt (count_by is_sent t.rows) t.window) rising refl h

pub send_row : {X E : Type 0} (t : RowTable X E) (id : ℕ) → IsRowTable t → sent_id (sent_next t) ≡ Some id → SendsRow t id
send_row t id table h = send_rising t id table.ids h

-- ---- the request that is taken out

pub record TakesRow {X E : Type 0} (t : RowTable X E) (owner id : ℕ) (kind : E) : Type 0 where
  pub row : Row X E
  pub before : List (Row X E)
  pub after : List (Row X E)
  pub rows : t.rows ≡ before ++ row ∷ after
  pub ended : row.phase ≡ Ended kind
  pub same : row.id ≡ id
  pub only_one : IsOnly before after row
  pub out : stays owner row.id row ≡ false
  pub taken : taken owner id t ≡ Ok (without owner id t, kind)

id_same : (n m : ℕ) (b : Bool) → ((n == m) && b) ≡ true → n ≡ m
id_same n m b e = eqb-true n m (and_parts (n == m) b e).0

out_of : (a b : Bool) → a ≡ true → b ≡ true → not (a && b) ≡ false
out_of a b e f = rw (e, f) refl

both_of : {X E : Type 0} (owner id : ℕ) (row : Row X E) → is_row_of owner id row ≡ true → is_row_of owner row.id row ≡ true
both_of owner id row e =
    let both = and_parts (row.id == id) (row.owner == owner) e in
    rw (eq-eqb row.id row.id refl, both.1) refl

take_phase : {X E : Type 0} (t : RowTable X E) (owner id : ℕ) (kind : E) (row : Row X E) (phase : Phase E) → IsRowTable t → find (is_row_of owner id) t.rows ≡ Some row → row.phase ≡ phase → answer_of (taken_from owner id t (Some phase)) ≡ Ok kind → TakesRow t owner id kind
take_phase t owner id kind row Queued table e is h = cc
take_phase t owner id kind row Sent table e is h = cc
take_phase {X} {E} t owner id kind row (Ended k) table e is h =
    let at = found_at (is_row_of owner id) t.rows row e in
    let first = at.1 in
    let rising : IsRising 0 t.drawn (ids_of (first.before ++ row ∷ first.after)) = let P : List (Row X E) → Type 0 = λ rows. IsRising 0 t.drawn (ids_of rows) in subst P first.split table.ids in
    let told : k ≡ kind = cc in
    record {
      row = row;
      before = first.before;
      after = first.after;
      rows = first.split;
      ended = is ∙ ap Ended told;
      same = id_same row.id id (row.owner == owner) first.passes;
      only_one = only 0 t.drawn first.before first.after row rising;
      out = out_of (is_ended row) (is_row_of owner row.id row) (ap phase_ended is) (both_of owner id row first.passes);
      taken = ap (λ (o : Option (Row X E)). taken_from owner id t (option_map (λ (r : Row X E). r.phase) o)) e ∙ ap (λ p. taken_from owner id t (Some p)) is ∙ ap (λ o. Ok (without owner id t, o)) told;
    }

take_found : {X E : Type 0} (t : RowTable X E) (owner id : ℕ) (kind : E) (found : Option (Row X E)) → IsRowTable t → find (is_row_of owner id) t.rows ≡ found → answer_of (taken_from owner id t (option_map (λ (row : Row X E). row.phase) found)) ≡ Ok kind → TakesRow t owner id kind
take_found t owner id kind None table e h = cc
take_found t owner id kind (Some row) table e h = take_phase t owner id kind row row.phase table e refl h

pub take_row : {X E : Type 0} (t : RowTable X E) (owner id : ℕ) (kind : E) → IsRowTable t → answer_of (taken owner id t) ≡ Ok kind → TakesRow t owner id kind
take_row t owner id kind table h = take_found t owner id kind (find (is_row_of owner id) t.rows) table refl h

-- the others stay
pub rows_left : {X E : Type 0} (owner : ℕ) (before : List (Row X E)) (row : Row X E) (after : List (Row X E)) → IsOnly before after row → stays owner row.id row ≡ false → filter (stays owner row.id) (before ++ row ∷ after) ≡ before ++ after
rows_left owner before row after only out = filter_middle (stays owner row.id) before row after out (all_stay owner row.id before only.before_it) (all_stay owner row.id after only.after_it)

-- ---- the request that a frame ends

pub record AwaitsRow {X E : Type 0} (t : RowTable X E) (reference id : ℕ) : Type 0 where
  pub row : Row X E
  pub before : List (Row X E)
  pub after : List (Row X E)
  pub rows : t.rows ≡ before ++ row ∷ after
  pub sent : is_sent row ≡ true
  pub same : row.id ≡ id
  pub only_one : IsOnly before after row
  pub awaited : awaiting reference t ≡ Some row

await_none : {Y : Type 0} (b : Bool) (id : ℕ) → (if b then arrivals.Late else arrivals.Stray) ≡ arrivals.Row id → Y
await_none true id e = cc
await_none false id e = cc

await_found : {X E : Type 0} (t : RowTable X E) (reference id : ℕ) (found : Option (Row X E)) → IsRowTable t → awaiting reference t ≡ found → arrival_for reference t found ≡ arrivals.Row id → AwaitsRow t reference id
await_found t reference id None table e h = await_none (is_quarantined reference t) id h
await_found {X} {E} t reference id (Some row) table e h =
    let at = found_at (is_sent_and (has_reference reference)) t.rows row e in
    let first = at.1 in
    let rising : IsRising 0 t.drawn (ids_of (first.before ++ row ∷ first.after)) = let P : List (Row X E) → Type 0 = λ rows. IsRising 0 t.drawn (ids_of rows) in subst P first.split table.ids in
    record {
      row = row;
      before = first.before;
      after = first.after;
      rows = first.split;
      sent = (and_parts (is_sent row) (has_reference reference row) first.passes).0;
      same = cc;
      only_one = only 0 t.drawn first.before first.after row rising;
      awaited = e;
    }

pub await_row : {X E : Type 0} (t : RowTable X E) (reference id : ℕ) → IsRowTable t → arrival_of reference t ≡ arrivals.Row id → AwaitsRow t reference id
await_row t reference id table h = await_found t reference id (awaiting reference t) table refl h

-- no request is awaited under the reference, and it is in quarantine or not
pub record AwaitsNone {X E : Type 0} (t : RowTable X E) (reference : ℕ) (late : Bool) : Type 0 where
  pub none : awaiting reference t ≡ None
  pub quarantined : is_quarantined reference t ≡ late

late_none : {X E : Type 0} (t : RowTable X E) (reference : ℕ) (b : Bool) → awaiting reference t ≡ None → is_quarantined reference t ≡ b → (if b then arrivals.Late else arrivals.Stray) ≡ arrivals.Late → AwaitsNone t reference true
late_none t reference true none is h = record { none = none; quarantined = is }
late_none t reference false none is h = cc

late_found : {X E : Type 0} (t : RowTable X E) (reference : ℕ) (found : Option (Row X E)) → awaiting reference t ≡ found → arrival_for reference t found ≡ arrivals.Late → AwaitsNone t reference true
late_found t reference None e h = late_none t reference (is_quarantined reference t) e refl h
late_found t reference (Some row) e h = cc

pub late_row : {X E : Type 0} (t : RowTable X E) (reference : ℕ) → arrival_of reference t ≡ arrivals.Late → AwaitsNone t reference true
late_row t reference h = late_found t reference (awaiting reference t) refl h

stray_none : {X E : Type 0} (t : RowTable X E) (reference : ℕ) (b : Bool) → awaiting reference t ≡ None → is_quarantined reference t ≡ b → (if b then arrivals.Late else arrivals.Stray) ≡ arrivals.Stray → AwaitsNone t reference false
stray_none t reference true none is h = cc
stray_none t reference false none is h = record { none = none; quarantined = is }

stray_found : {X E : Type 0} (t : RowTable X E) (reference : ℕ) (found : Option (Row X E)) → awaiting reference t ≡ found → arrival_for reference t found ≡ arrivals.Stray → AwaitsNone t reference false
stray_found t reference None e h = stray_none t reference (is_quarantined reference t) e refl h
stray_found t reference (Some row) e h = cc

pub stray_row : {X E : Type 0} (t : RowTable X E) (reference : ℕ) → arrival_of reference t ≡ arrivals.Stray → AwaitsNone t reference false
stray_row t reference h = stray_found t reference (awaiting reference t) refl h

-- ---- the request that is added

pub record AddsRow {X E : Type 0} (t : RowTable X E) (draft : Draft X) (id reference : ℕ) : Type 0 where
  pub rest : List ℕ
  pub free : t.free ≡ reference ∷ rest
  pub id_is : id ≡ t.drawn + 1
  pub added_is : added draft t ≡ Ok (with_row draft t reference rest, (t.drawn + 1, reference))

pair_same : {A B R : Type 0} (a c : A) (b d : B) (r s : Result (A × B) R) → r ≡ Ok (a, b) → s ≡ Ok (c, d) → r ≡ s → (a ≡ c) × (b ≡ d)
pair_same {A} {B} a c b d r s e f g = let p : (a, b) ≡ (c, d) = cc in (ap (λ (x : A × B). x.0) p, ap (λ (x : A × B). x.1) p)

add_free : {X E : Type 0} (t : RowTable X E) (draft : Draft X) (id reference : ℕ) (free : List ℕ) → t.free ≡ free → added draft t ≡ added_under draft t free → answer_of (added_under draft t free) ≡ Ok (id, reference) → AddsRow t draft id reference
add_free t draft id reference [] e is h = cc
add_free t draft id reference (first ∷ rest) e is h =
    let r : Result (ℕ × ℕ) AddRefusal = Ok (t.drawn + 1, first) in
    let s : Result (ℕ × ℕ) AddRefusal = Ok (id, reference) in
    let both = pair_same (t.drawn + 1) id first reference r s refl refl h in
    let same : first ≡ reference = both.1 in
    record {
      rest = rest;
      free = e ∙ ap (λ n. n ∷ rest) same;
      id_is = sym both.0;
      added_is = is ∙ ap (λ n. added_under draft t (n ∷ rest)) same;
    }

add_full : {X E : Type 0} (t : RowTable X E) (draft : Draft X) (id reference : ℕ) (b : Bool) → is_full t ≡ b → answer_of (if b then Err add_refusals.Full else added_under draft t t.free) ≡ Ok (id, reference) → AddsRow t draft id reference
add_full t draft id reference true e h = cc
add_full t draft id reference false e h = add_free t draft id reference t.free refl (ap (λ b. if b then Err add_refusals.Full else added_under draft t t.free) e) h

pub add_row : {X E : Type 0} (t : RowTable X E) (draft : Draft X) (id reference : ℕ) → answer_of (added draft t) ≡ Ok (id, reference) → AddsRow t draft id reference
add_row t draft id reference h = add_full t draft id reference (is_full t) refl h
