-- What is kept follows the table where a request is sent, taken out, answered or started.
use Rattle.std.proofs.Common.{◌≡◌, ℕ, Bool, true, false, List, [], ◌∷◌, ◌++◌, refl, sym, ap, subst, ◌∙◌, Option, Some, None, Ok, Err}
use Rattle.std.specs.Prelude.{Result, ◌==◌, IsTrue, if◌then◌else◌}
use Rattle.std.specs.List.{AllZip, slice_get}
use Rattle.std.specs.Option.{option_map}
use Rattle.std.proofs.lemmas.Bool.{eq-eqb}
use Rattle.txn_core.specs.FirstPlaces.{Fails}
use Rattle.txn_core.specs.PlainRows.{plain, plain_after_sent, plain_answer, plain_arrival, plain_sent, plain_sent_next, plain_taken, sent_id, table_plain}
use Rattle.txn_core.specs.RowEnds.{IsOnly}
use Rattle.txn_core.specs.RowSteps.{after_or, answer_of, arrival_of, awaiting, replied, sent, sent_next, settled, table_or, taken, without}
use Rattle.txn_core.specs.RowTables.{IsRowTable, Row, RowTable, has_id, is_quarantined, phase_live, phase_sent}
use Rattle.txn_core.specs.declared.phases.Arrival.TheVariants as arrivals
use Rattle.txn_core.specs.declared.phases.Phase.{Phase}
use Rattle.txn_core.specs.declared.phases.Phase.TheVariants.{Queued, Sent, Ended}
use Rattle.txn_core.specs.declared.phases.TakeRefusal.{TakeRefusal}
use Rattle.node_tree.specs.declared.readings.Reading.{Reading}
use Rattle.wire_frames.specs.WireMeaning.{WireMeaning}
use Rattle.wire_frames.specs.declared.asks.Ask.{Ask}
use Rattle.wire_frames.specs.declared.ends.EndKind.{EndKind}
use Rattle.wire_frames.specs.declared.ends.Outcome.{Outcome}
use Rattle.wire_frames.specs.declared.ends.Reason.{Reason}
use Rattle.wire_frames.specs.declared.kinds.PlcValue.{PlcValue}
use Rattle.conn_core.specs.HandedItems.{HasItem, IsItemAt, item_has, sent_item, with_values}
use Rattle.conn_core.specs.Journals.{IsAdmitted}
use Rattle.conn_core.specs.KeptMoves.{Arrives, Moves}
use Rattle.conn_core.specs.KeptTables.{Accepts, IsHandedIn, Stands, end_kind, phase_values}
use Rattle.conn_core.specs.Requests.{Asks}
use Rattle.conn_core.specs.Steps.{arrived, collect, collected_as, sending_as, take_send, when_open, without_request}
use Rattle.conn_core.specs.Tables.{Handed, Requests, Table}
use Rattle.conn_core.specs.declared.answers.FrameAnswer.{FrameAnswer}
use Rattle.conn_core.specs.declared.answers.FrameAnswer.TheVariants as frame_answers
use Rattle.conn_core.specs.declared.answers.SendRefusal.{SendRefusal}
use Rattle.conn_core.specs.declared.answers.SendRefusal.TheVariants as send_refusals
use Rattle.conn_core.specs.declared.answers.Sending.{Sending}
use Rattle.conn_core.specs.declared.entries.Answer.{Answer}
use Rattle.conn_core.specs.declared.entries.Answer.TheVariants as answers
use Rattle.conn_core.specs.declared.entries.Entry.{Entry}
use Rattle.conn_core.specs.declared.entries.Event.{Event}
use Rattle.conn_core.specs.declared.entries.Event.TheVariants as events
use Rattle.conn_core.specs.declared.handed.HandedIn.{HandedIn}
use Rattle.conn_core.specs.declared.table.KeptTable.{KeptTable}
use Rattle.conn_core.proofs.HandedLemmas.{IsSplit, zip_split}
use Rattle.conn_core.proofs.RowStands.{AwaitsRow, SendsRow, TakesRow, answered_stands, await_row, late_row, send_row, sent_stands, stray_row, take_row, taken_stands}

-- ---- a step's table and answer

pub moves_by : {A R : Type 0} (journal : List Entry) (m : KeptTable) (t u : Table) (wanted result : Result A R) (w : Result (Table × A) R) (a : A) → w ≡ Ok (u, a) → result ≡ Ok a → Stands journal m u → Moves journal m t w result
moves_by journal m t u wanted result w a is told stands = record {
  answer = told ∙ sym (ap answer_of is);
  stands = rw is stands;
}

pub moves_refused : {A R : Type 0} (journal : List Entry) (m : KeptTable) (t : Table) (result : Result A R) (w : Result (Table × A) R) (r : R) → w ≡ Err r → result ≡ Err r → Stands journal m t → Moves journal m t w result
moves_refused journal m t result w r is told stands = record {
  answer = told ∙ sym (ap answer_of is);
  stands = rw is stands;
}

pub same_stands : (journal : List Entry) (k m : KeptTable) (t : Table) → m ≡ k → Stands journal k t → Stands journal m t
same_stands journal k m t e s = let P : KeptTable → Type 0 = λ x. Stands journal x t in subst P (sym e) s

-- ---- the item beside a row

zip_fails : (journal : List Entry) (id : ℕ) (rows : List (Row Handed Outcome)) (items : List HandedIn) → AllZip (IsHandedIn journal) rows items → Fails (has_id id) rows → Fails (item_has id) items
zip_fails journal id [] [] h fails = tt
zip_fails journal id [] (i ∷ is) h fails = absurd h
zip_fails journal id (r ∷ rs) [] h fails = tt
zip_fails journal id (r ∷ rs) (i ∷ is) h fails = let first = h.0 in (ap (λ n. n == id) first.id ∙ fails.0, zip_fails journal id rs is h.1 fails.1)

pub item_of : (journal : List Entry) (before : List (Row Handed Outcome)) (row : Row Handed Outcome) (after : List (Row Handed Outcome)) (items : List HandedIn) (id : ℕ) (s : IsSplit (IsHandedIn journal) before row after items) → IsOnly before after row → row.id ≡ id → IsItemAt items id s.items_before s.item s.items_after
item_of journal before row after items id s only same = record {
  split = s.split;
  fails = let P : ℕ → Type 0 = λ n. Fails (has_id n) before in zip_fails journal id before s.items_before s.zip_before (subst P same only.before_it);
  named = eq-eqb s.item.id id (s.here.id ∙ same);
}

split_of : (journal : List Entry) (k : KeptTable) (t : Table) (before : List (Row Handed Outcome)) (row : Row Handed Outcome) (after : List (Row Handed Outcome)) → Stands journal k t → t.requests.rows ≡ before ++ row ∷ after → IsSplit (IsHandedIn journal) before row after k.handed.items
split_of journal k t before row after s is = let P : List (Row Handed Outcome) → Type 0 = λ rows. AllZip (IsHandedIn journal) rows k.handed.items in zip_split (IsHandedIn journal) before row after k.handed.items (subst P is s.handed)

table_at : (journal : List Entry) (k : KeptTable) (t : Table) → IsRowTable k.requests → Stands journal k t → IsRowTable t.requests
table_at journal k t table s = table_plain end_kind t.requests (let P : RowTable (Unit {0}) EndKind → Type 0 = IsRowTable in subst P s.requests table)

-- ---- a request is sent

pub record SendsItem (journal : List Entry) (k : KeptTable) (t : Table) (id : ℕ) : Type 0 where
  pub row : SendsRow t.requests id
  pub split : IsSplit (IsHandedIn journal) row.before row.row row.after k.handed.items
  pub at : IsItemAt k.handed.items id split.items_before split.item split.items_after
  pub frame : split.item.frame ≡ Some row.row.what.frame

pub sends_item : (journal : List Entry) (k : KeptTable) (t : Table) (id : ℕ) → IsRowTable k.requests → Stands journal k t → sent_id (sent_next k.requests) ≡ Some id → SendsItem journal k t id
sends_item journal k t id table s h =
    let next : sent_id (sent_next t.requests) ≡ Some id = sym (ap (λ (r : RowTable (Unit {0}) EndKind). sent_id (sent_next r)) s.requests ∙ plain_sent_next end_kind t.requests) ∙ h in
    let row = send_row t.requests id (table_at journal k t table s) next in
    let split = split_of journal k t row.before row.row row.after s row.rows in
    record {
      row = row;
      split = split;
      at = item_of journal row.before row.row row.after k.handed.items id split row.only_one row.same;
      frame = split.here.frame row.queued;
    }

send_is : (t : Table) (id : ℕ) (s : SendsRow t.requests id) → t.closed ≡ None → take_send t ≡ Ok (record t { requests = sent s.row.id t.requests }, record { id = s.row.id; reference = s.row.reference; frame = s.row.what.frame })
send_is t id s none = ap (λ c. when_open send_refusals.Closed c (sending_as t (sent_next t.requests))) none ∙ ap (sending_as t) s.taken

requests_sent : (journal : List Entry) (k : KeptTable) (t : Table) (id : ℕ) (s : SendsRow t.requests id) (r : RowTable (Unit {0}) EndKind) → Stands journal k t → r ≡ after_or k.requests (sent_next k.requests) → r ≡ sent s.row.id k.requests
requests_sent journal k t id s r stands is =
    is ∙ ap (λ (x : RowTable (Unit {0}) EndKind). after_or x (sent_next x)) stands.requests
    ∙ plain_after_sent end_kind t.requests
    ∙ ap (λ o. plain end_kind (after_or t.requests o)) s.taken
    ∙ sym (plain_sent end_kind s.row.id t.requests)
    ∙ sym (ap (sent s.row.id) stands.requests)

sending_is : (id a r s : ℕ) (f g : List ℕ) → a ≡ id → r ≡ s → f ≡ g → (let x : Sending = record { id = id; reference = r; frame = f } in x) ≡ (let y : Sending = record { id = a; reference = s; frame = g } in y)
sending_is id a r s f g d e h = cc

pub send_moves : (journal : List Entry) (k m : KeptTable) (t : Table) (id : ℕ) (sending : Sending) (s : SendsItem journal k t id) → Stands journal k t → k.closed ≡ None → m.requests ≡ after_or k.requests (sent_next k.requests) → m.handed.items ≡ s.split.items_before ++ sent_item s.split.item ∷ s.split.items_after → (let told : Sending = record { id = id; reference = s.split.item.reference; frame = s.row.row.what.frame } in sending ≡ told) → m.leases ≡ k.leases → m.clock ≡ k.clock → m.closed ≡ k.closed → m.frames ≡ k.frames → Moves journal m t (take_send t) (Ok sending)
send_moves journal k m t id sending s stands none requests handed told leases clock closed frames =
    let next : Table = record t { requests = sent s.row.row.id t.requests } in
    let given : Sending = record { id = s.row.row.id; reference = s.row.row.reference; frame = s.row.row.what.frame } in
    let r : Result Sending SendRefusal = Ok sending in
    let row = s.row in
    let split = s.split in
    moves_by journal m t next r r (take_send t) given (send_is t id row (sym stands.closed ∙ none))
    (ap Ok (told ∙ sending_is id row.row.id split.item.reference row.row.reference row.row.what.frame row.row.what.frame row.same split.here.reference refl))
    (sent_stands journal k m t row.before row.row row.after split stands row.rows row.only_one row.queued (eq-eqb row.row.id row.row.id refl) (requests_sent journal k t id row m.requests stands requests) handed leases clock closed frames)

none_from : {A B : Type 0} (f : A → B) (o : Option A) → option_map f o ≡ None → o ≡ None
none_from f None e = refl
none_from f (Some a) e = cc

pub send_nothing : (journal : List Entry) (k m : KeptTable) (t : Table) → Stands journal k t → k.closed ≡ None → sent_id (sent_next k.requests) ≡ None → m ≡ k → Moves journal m t (take_send t) (Err send_refusals.Nothing)
send_nothing journal k m t stands none h same =
    let next : sent_id (sent_next t.requests) ≡ None = sym (ap (λ (r : RowTable (Unit {0}) EndKind). sent_id (sent_next r)) stands.requests ∙ plain_sent_next end_kind t.requests) ∙ h in
    let nothing = none_from (λ (p : Requests × Row Handed Outcome). p.1.id) (sent_next t.requests) next in
    let is : take_send t ≡ Err send_refusals.Nothing = ap (λ c. when_open send_refusals.Closed c (sending_as t (sent_next t.requests))) (sym stands.closed ∙ none) ∙ ap (sending_as t) nothing in
    moves_refused journal m t (Err send_refusals.Nothing) (take_send t) send_refusals.Nothing is refl (same_stands journal k m t same stands)

-- the table stays where nothing is sent
pub nothing_sent : (r : RowTable (Unit {0}) EndKind) → sent_id (sent_next r) ≡ None → after_or r (sent_next r) ≡ r
nothing_sent r h = ap (after_or r) (none_from (λ (p : RowTable (Unit {0}) EndKind × Row (Unit {0}) EndKind). p.1.id) (sent_next r) h)

pub send_closed : (journal : List Entry) (k m : KeptTable) (t : Table) (reason : Reason) → Stands journal k t → k.closed ≡ Some reason → m ≡ k → Moves journal m t (take_send t) (Err (send_refusals.Closed reason))
send_closed journal k m t reason stands closed same =
    let is : take_send t ≡ Err (send_refusals.Closed reason) = ap (λ c. when_open send_refusals.Closed c (sending_as t (sent_next t.requests))) (sym stands.closed ∙ closed) in
    moves_refused journal m t (Err (send_refusals.Closed reason)) (take_send t) (send_refusals.Closed reason) is refl (same_stands journal k m t same stands)

-- ---- a request is taken out

plain_ok : {A B R : Type 0} (f : A → B) (r : Result A R) (b : B) → plain_answer f r ≡ Ok b → (a : A) × (r ≡ Ok a) × (f a ≡ b)
plain_ok f (Ok a) b e = (a, refl, cc)
plain_ok f (Err refusal) b e = cc

plain_err : {A B R : Type 0} (f : A → B) (r : Result A R) (refusal : R) → plain_answer f r ≡ Err refusal → r ≡ Err refusal
plain_err f (Ok a) refusal e = cc
plain_err f (Err other) refusal e = ap Err (let same : other ≡ refusal = cc in same)

err_of : {T A R : Type 0} (r : Result (T × A) R) (refusal : R) → answer_of r ≡ Err refusal → r ≡ Err refusal
err_of (Ok p) refusal e = cc
err_of (Err other) refusal e = ap Err (let same : other ≡ refusal = cc in same)

taken_at : (journal : List Entry) (k : KeptTable) (t : Table) (actor id : ℕ) (r : Result EndKind TakeRefusal) → Stands journal k t → answer_of (taken actor id k.requests) ≡ r → plain_answer end_kind (answer_of (taken actor id t.requests)) ≡ r
taken_at journal k t actor id r s h = sym (ap (λ (x : RowTable (Unit {0}) EndKind). answer_of (taken actor id x)) s.requests ∙ plain_taken end_kind actor id t.requests) ∙ h

pub record TakesItem (journal : List Entry) (k : KeptTable) (t : Table) (actor id : ℕ) (kind : EndKind) : Type 0 where
  pub outcome : Outcome
  pub kind_is : outcome.kind ≡ kind
  pub row : TakesRow t.requests actor id outcome
  pub split : IsSplit (IsHandedIn journal) row.before row.row row.after k.handed.items
  pub at : IsItemAt k.handed.items id split.items_before split.item split.items_after
  pub values : split.item.values ≡ outcome.values

pub takes_item : (journal : List Entry) (k : KeptTable) (t : Table) (actor id : ℕ) (kind : EndKind) → IsRowTable k.requests → Stands journal k t → answer_of (taken actor id k.requests) ≡ Ok kind → TakesItem journal k t actor id kind
takes_item journal k t actor id kind table s h =
    let found = plain_ok end_kind (answer_of (taken actor id t.requests)) kind (taken_at journal k t actor id (Ok kind) s h) in
    let row = take_row t.requests actor id found.0 (table_at journal k t table s) found.1 in
    let split = split_of journal k t row.before row.row row.after s row.rows in
    record {
      outcome = found.0;
      kind_is = found.2;
      row = row;
      split = split;
      at = item_of journal row.before row.row row.after k.handed.items id split row.only_one row.same;
      values = split.here.values ∙ ap phase_values row.ended;
    }

outcome_is : (o : Outcome) (kind : EndKind) (values : List (List PlcValue)) → kind ≡ o.kind → values ≡ o.values → (let x : Outcome = record { kind = kind; values = values } in x ≡ o)
outcome_is o kind values e f =
    ap (λ (k : EndKind). let x : Outcome = record { kind = k; values = values } in x) e ∙ ap (λ (v : List (List PlcValue)). let x : Outcome = record { kind = o.kind; values = v } in x) f

requests_taken : (k : KeptTable) (actor id : ℕ) (kind : EndKind) (n : ℕ) (r : RowTable (Unit {0}) EndKind) → IsRowTable k.requests → answer_of (taken actor id k.requests) ≡ Ok kind → n ≡ id → r ≡ table_or k.requests (taken actor id k.requests) → r ≡ without actor n k.requests
requests_taken k actor id kind n r table h same is =
    let row = take_row k.requests actor id kind table h in
    is ∙ ap (table_or k.requests) row.taken ∙ ap (λ x. without actor x k.requests) (sym same)

pub collect_moves : (journal : List Entry) (k m : KeptTable) (t : Table) (actor id : ℕ) (kind : EndKind) (values : List (List PlcValue)) (s : TakesItem journal k t actor id kind) → IsRowTable k.requests → Stands journal k t → answer_of (taken actor id k.requests) ≡ Ok kind → m.requests ≡ table_or k.requests (taken actor id k.requests) → m.handed.items ≡ s.split.items_before ++ s.split.items_after → values ≡ s.split.item.values → m.leases ≡ k.leases → m.clock ≡ k.clock → m.closed ≡ k.closed → m.frames ≡ k.frames → (let told : Outcome = record { kind = kind; values = values } in Moves journal m t (collect t actor id) (Ok told))
collect_moves journal k m t actor id kind values s table stands h requests handed given leases clock closed frames =
    let row = s.row in
    let next : Table = record t { requests = without actor row.row.id t.requests } in
    let told : Outcome = record { kind = kind; values = values } in
    let r : Result Outcome TakeRefusal = Ok told in
    let is : collect t actor id ≡ Ok (next, s.outcome) = ap (collected_as t) row.taken ∙ ap (λ n. collected_as t (Ok (without actor n t.requests, s.outcome))) (sym row.same) in
    moves_by journal m t next r r (collect t actor id) s.outcome is
    (ap Ok (outcome_is s.outcome kind values (sym s.kind_is) (given ∙ s.values)))
    (taken_stands journal k m t actor row.before row.row row.after s.split stands row.rows row.only_one row.out (requests_taken k actor id kind row.row.id m.requests table h row.same requests) handed leases clock closed frames)

pub collect_refused : (journal : List Entry) (k m : KeptTable) (t : Table) (actor id : ℕ) (refusal : TakeRefusal) → Stands journal k t → answer_of (taken actor id k.requests) ≡ Err refusal → m ≡ k → Moves journal m t (collect t actor id) (Err refusal)
collect_refused journal k m t actor id refusal stands h same =
    let refused = err_of (taken actor id t.requests) refusal (plain_err end_kind (answer_of (taken actor id t.requests)) refusal (taken_at journal k t actor id (Err refusal) stands h)) in
    moves_refused journal m t (Err refusal) (collect t actor id) refusal (ap (collected_as t) refused) refl (same_stands journal k m t same stands)

-- the requests stay where none is taken
pub none_taken : (r : RowTable (Unit {0}) EndKind) (actor id : ℕ) (refusal : TakeRefusal) → answer_of (taken actor id r) ≡ Err refusal → table_or r (taken actor id r) ≡ r
none_taken r actor id refusal h = ap (table_or r) (err_of (taken actor id r) refusal h)

-- ---- a frame that was read

pub accepts_asks : (id reference : ℕ) (what : Handed) (event : Event) (answer : Answer) → Accepts id reference what event answer → Asks event what.ask
accepts_asks id reference what (events.Submit lease ask timeout now) (answers.Accepted i r frame) h = sym h.2
accepts_asks id reference what event answer h = absurd h

asks_same : (event : Event) (found ask : Ask) → Asks event found → Asks event ask → found ≡ ask
asks_same (events.Submit lease ask timeout now) found other a b = a ∙ sym b
asks_same event found ask a b = absurd a

pub asks_admitted : (wire : WireMeaning) (event : Event) (found : Ask) → IsAdmitted wire event → Asks event found → IsTrue (wire.admits found)
asks_admitted wire (events.Submit lease ask timeout now) found h a = let P : Ask → Type 0 = λ x. IsTrue (wire.admits x) in subst P (sym a) h.0
asks_admitted wire event found h a = absurd a

pub record AwaitsItem (journal : List Entry) (k : KeptTable) (t : Table) (reference id : ℕ) : Type 0 where
  pub row : AwaitsRow t.requests reference id
  pub split : IsSplit (IsHandedIn journal) row.before row.row row.after k.handed.items
  pub at : IsItemAt k.handed.items id split.items_before split.item split.items_after
  pub asks : Asks split.here.entry.event row.row.what.ask

arrives_as : (journal : List Entry) (k : KeptTable) (t : Table) (reference : ℕ) → Stands journal k t → arrival_of reference t.requests ≡ arrival_of reference k.requests
arrives_as journal k t reference s = sym (ap (arrival_of reference) s.requests ∙ plain_arrival end_kind t.requests reference)

pub awaits_item : (journal : List Entry) (k : KeptTable) (t : Table) (reference id : ℕ) → IsRowTable k.requests → Stands journal k t → arrival_of reference k.requests ≡ arrivals.Row id → AwaitsItem journal k t reference id
awaits_item journal k t reference id table s h =
    let row = await_row t.requests reference id (table_at journal k t table s) (arrives_as journal k t reference s ∙ h) in
    let split = split_of journal k t row.before row.row row.after s row.rows in
    record {
      row = row;
      split = split;
      at = item_of journal row.before row.row row.after k.handed.items id split row.only_one row.same;
      asks = accepts_asks row.row.id row.row.reference row.row.what split.here.entry.event split.here.entry.answer split.here.accepted;
    }

pub has_item : (items : List HandedIn) (id : ℕ) (before : List HandedIn) (item : HandedIn) (after : List HandedIn) → IsItemAt items id before item after → HasItem items id
has_item items id before item after at = record { before = before; item = item; after = after; at = at }

-- its entry stands where the item says
pub found_at_place : (journal : List Entry) (k : KeptTable) (t : Table) (reference id : ℕ) (s : AwaitsItem journal k t reference id) (items : List HandedIn) (place : ℕ) → items ≡ k.handed.items → ((before : List HandedIn) (item : HandedIn) (after : List HandedIn) → IsItemAt items id before item after → place ≡ item.place) → slice_get journal place ≡ Some s.split.here.entry
found_at_place journal k t reference id s items place same placed =
    let P : List HandedIn → Type 0 = λ xs. IsItemAt xs id s.split.items_before s.split.item s.split.items_after in
    ap (slice_get journal) (placed s.split.items_before s.split.item s.split.items_after (subst P (sym same) s.at)) ∙ s.split.here.stands

sent_live : {E : Type 0} (phase : Phase E) → phase_sent phase ≡ true → phase_live phase ≡ true
sent_live Queued e = cc
sent_live Sent e = refl
sent_live (Ended kind) e = cc

arrives_by : (wire : WireMeaning) (journal : List Entry) (m : KeptTable) (t : Table) (reference : ℕ) (reading : Reading) (answer : FrameAnswer) (found : Option (Row Handed Outcome)) → awaiting reference t.requests ≡ found → answer ≡ (arrived wire reference reading t found).1 → Stands journal m (arrived wire reference reading t found).0 → Arrives wire journal m t reference reading answer
arrives_by wire journal m t reference reading answer found is told stands =
    let P : Option (Row Handed Outcome) → Type 0 = λ o. (answer ≡ (arrived wire reference reading t o).1) × Stands journal m (arrived wire reference reading t o).0 in
    let both = subst P (sym is) (told, stands) in
    record { answer_is = both.0; stands = both.1 }

ended_same : (a b : ℕ) (kind other : EndKind) → a ≡ b → kind ≡ other → frame_answers.Ended a kind ≡ frame_answers.Ended b other
ended_same a b kind other e f = cc

pub answered_arrives : (wire : WireMeaning) (journal : List Entry) (k m : KeptTable) (t : Table) (reference id : ℕ) (reading : Reading) (ask : Ask) (kind : EndKind) (values : List (List PlcValue)) (s : AwaitsItem journal k t reference id) → Stands journal k t → Asks s.split.here.entry.event ask → (let told : Outcome = record { kind = kind; values = values } in told ≡ wire.fit ask reading) → m.requests ≡ replied id kind k.requests → m.handed.items ≡ s.split.items_before ++ with_values values s.split.item ∷ s.split.items_after → m.leases ≡ k.leases → m.clock ≡ k.clock → m.closed ≡ k.closed → m.frames ≡ k.frames → Arrives wire journal m t reference reading (frame_answers.Ended id kind)
answered_arrives wire journal k m t reference id reading ask kind values s stands asks fits requests handed leases clock closed frames =
    let row = s.row in
    let split = s.split in
    let outcome = wire.fit row.row.what.ask reading in
    let told : Outcome = record { kind = kind; values = values } in
    let is : told ≡ outcome = fits ∙ ap (λ a. wire.fit a reading) (asks_same split.here.entry.event ask row.row.what.ask asks s.asks) in
    let kind_is : kind ≡ outcome.kind = ap (λ (o : Outcome). o.kind) is in
    let values_are : values ≡ outcome.values = ap (λ (o : Outcome). o.values) is in
    arrives_by wire journal m t reference reading (frame_answers.Ended id kind) (Some row.row) row.awaited
    (ended_same id row.row.id kind outcome.kind (sym row.same) kind_is)
    (answered_stands journal k m t outcome row.before row.row row.after split stands row.rows row.only_one (sent_live row.row.phase row.sent) (eq-eqb row.row.id row.row.id refl)
    (requests ∙ ap (λ n. replied n kind k.requests) (sym row.same) ∙ ap (λ o. replied row.row.id o k.requests) kind_is)
    (handed ∙ ap (λ v. split.items_before ++ with_values v split.item ∷ split.items_after) values_are) leases clock closed frames)

without_is : (reference : ℕ) (t : Table) (late : Bool) → is_quarantined reference t.requests ≡ late → without_request reference t ≡ (if late then (record t { requests = settled reference t.requests }, frame_answers.Late reference) else (t, frame_answers.Stray reference))
without_is reference t late is = ap (λ b. if b then (record t { requests = settled reference t.requests }, frame_answers.Late reference) else (t, frame_answers.Stray reference)) is

pub late_arrives : (wire : WireMeaning) (journal : List Entry) (k m : KeptTable) (t : Table) (reference : ℕ) (reading : Reading) → Stands journal k t → arrival_of reference k.requests ≡ arrivals.Late → m.requests ≡ settled reference k.requests → m.handed.items ≡ k.handed.items → m.leases ≡ k.leases → m.clock ≡ k.clock → m.closed ≡ k.closed → m.frames ≡ k.frames → Arrives wire journal m t reference reading (frame_answers.Late reference)
late_arrives wire journal k m t reference reading stands h requests handed leases clock closed frames =
    let none = late_row t.requests reference (arrives_as journal k t reference stands ∙ h) in
    let next : Table = record t { requests = settled reference t.requests } in
    let is = without_is reference t true none.quarantined in
    let settles : Stands journal m next = record {
      requests = requests ∙ ap (settled reference) stands.requests;
      leases = leases ∙ stands.leases;
      clock = clock ∙ stands.clock;
      closed = closed ∙ stands.closed;
      frames = frames ∙ stands.frames;
      handed = rw handed stands.handed;
    } in
    arrives_by wire journal m t reference reading (frame_answers.Late reference) None none.none (sym (ap (λ (p : Table × FrameAnswer). p.1) is)) (let P : Table × FrameAnswer → Type 0 = λ p. Stands journal m p.0 in subst P (sym is) settles)

pub stray_arrives : (wire : WireMeaning) (journal : List Entry) (k m : KeptTable) (t : Table) (reference : ℕ) (reading : Reading) → Stands journal k t → arrival_of reference k.requests ≡ arrivals.Stray → m ≡ k → Arrives wire journal m t reference reading (frame_answers.Stray reference)
stray_arrives wire journal k m t reference reading stands h same =
    let none = stray_row t.requests reference (arrives_as journal k t reference stands ∙ h) in
    let is = without_is reference t false none.quarantined in
    arrives_by wire journal m t reference reading (frame_answers.Stray reference) None none.none (sym (ap (λ (p : Table × FrameAnswer). p.1) is)) (let P : Table × FrameAnswer → Type 0 = λ p. Stands journal m p.0 in subst P (sym is) (same_stands journal k m t same stands))
