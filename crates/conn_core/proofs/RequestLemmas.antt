-- What entries of a legal journal say of requests, by their steps.
use Rattle.std.proofs.Common.{◌≡◌, inl, inr, ℕ, Bool, true, false, List, [], take, refl, sym, ap, subst, ◌∙◌, arith, Option, Some, None, Ok, Err}
use Rattle.std.specs.Prelude.{Result, IfOk, IsTrue, ◌==◌}
use Rattle.std.specs.List.{slice_get}
use Rattle.std.proofs.lemmas.Bool.{and_parts, eqb-true}
use Rattle.lease_core.specs.LeaseTables.{LeaseTable}
use Rattle.txn_core.specs.FirstPlaces.{found_at}
use Rattle.txn_core.specs.RowSteps.{answer_of, awaiting}
use Rattle.txn_core.specs.RowTables.{Row, has_reference, is_live, is_quarantined, is_queued, is_row_of, is_sent, is_sent_and, phase_of}
use Rattle.txn_core.specs.declared.phases.Phase.{Phase}
use Rattle.txn_core.specs.declared.phases.Phase.TheVariants.{Ended}
use Rattle.txn_core.specs.declared.phases.TakeRefusal.{TakeRefusal}
use Rattle.node_tree.specs.declared.readings.Reading.{Reading}
use Rattle.wire_frames.specs.WireMeaning.{HasValuesFor, IsReplyOutcome, IsReplyWith, WireMeaning}
use Rattle.wire_frames.specs.declared.asks.Ask.{Ask}
use Rattle.wire_frames.specs.declared.ends.EndKind.{EndKind}
use Rattle.wire_frames.specs.declared.ends.EndKind.TheVariants as kinds
use Rattle.wire_frames.specs.declared.ends.FrameWhy.{FrameWhy}
use Rattle.wire_frames.specs.declared.ends.Outcome.{Outcome}
use Rattle.wire_frames.specs.declared.kinds.PlcValue.{PlcValue}
use Rattle.conn_core.specs.HandedOut.{IsCollected, IsSending, IsShapedOutcome}
use Rattle.conn_core.specs.Journals.{Legal, table_of}
use Rattle.conn_core.specs.KeptStates.{IsState}
use Rattle.conn_core.specs.Places.{Submitted}
use Rattle.conn_core.specs.RequestLaw.{HandedIn, IsReplyTo, RequestLaw}
use Rattle.conn_core.specs.RowLaw.{IsOutcomeOf, IsPhaseOf, IsRowOf, RowLaw}
use Rattle.conn_core.specs.Steps.{arrived, cancel, collect, counted, frame_entry, received, take_send}
use Rattle.conn_core.specs.Tables.{Connection, Handed, IsSettings, Table}
use Rattle.conn_core.specs.declared.answers.SendRefusal.{SendRefusal}
use Rattle.conn_core.specs.declared.answers.Sending.{Sending}
use Rattle.conn_core.specs.declared.entries.Answer.{Answer}
use Rattle.conn_core.specs.declared.entries.Answer.TheVariants as answers
use Rattle.conn_core.specs.declared.entries.Entry.{Entry}
use Rattle.conn_core.specs.declared.kept.Kept.{Kept}
use Rattle.conn_core.proofs.CauseLemmas.{cancel_live}
use Rattle.conn_core.proofs.EntryLemmas.{frame_told, get_low, walked_before}
use Rattle.conn_core.proofs.FrameLemmas.{settled_if}
use Rattle.conn_core.proofs.MoveDoes.{ok_of}
use Rattle.conn_core.proofs.RowLaws.{Known, known, row_found}
use Rattle.conn_core.proofs.RowPlaces.{each_same}
use Rattle.conn_core.proofs.RowWalk.{RowFacts, each_found, sent_phase_of}
use Rattle.conn_core.proofs.StepLaws.{collect_is_table, legal_walked, sends_as, took, walked_steps}

known_before : (c : Connection) (journal : List Entry) (k : ℕ) (e : Entry) → IsSettings c.settings → Legal c journal → slice_get journal k ≡ Some e → Known c (take k journal) (table_of c (take k journal))
known_before c journal k e s legal at = let low = get_low journal k e at in known c (take k journal) s (walked_before c journal k (legal_walked c journal legal) (omega arith))

-- the row of an actor's request
record Own (c : Connection) (journal : List Entry) (actor id : ℕ) (phase : Phase Outcome) : Type 0 where
  row : Row Handed Outcome
  law : IsRowOf c journal row
  same : row.id ≡ id
  owner : row.owner ≡ actor
  phase_is : row.phase ≡ phase

own_row : (c : Connection) (journal : List Entry) (t : Table) (actor id : ℕ) (phase : Phase Outcome) → Known c journal t → phase_of actor id t.requests ≡ Some phase → Own c journal actor id phase
own_row c journal t actor id phase k e =
    let found = row_found t actor id phase e in
    let facts = each_found (RowFacts c journal t.leases) (is_row_of actor id) t.requests.rows found.0 found.1 k.rows in
    let passes = and_parts (found.0.id == id) (found.0.owner == actor) (found_at (is_row_of actor id) t.requests.rows found.0 found.1).1.passes in
    record { row = found.0; law = facts.law; same = eqb-true found.0.id id passes.0; owner = eqb-true found.0.owner actor passes.1; phase_is = found.2 }

handed_in : (c : Connection) (journal : List Entry) (actor id : ℕ) (phase : Phase Outcome) → Own c journal actor id phase → HandedIn journal actor id
handed_in c journal actor id phase o =
    let P : ℕ → Type 0 = HandedIn journal actor in
    subst P o.same (o.law.request, o.law.actor ∙ o.owner)

-- what is collected
collected_row : (c : Connection) (journal : List Entry) (actor id : ℕ) (outcome : Outcome) → Own c journal actor id (Ended outcome) → IsCollected c journal actor id outcome
collected_row c journal actor id outcome o =
    let P : ℕ → Type 0 = λ n. IsCollected c journal actor n outcome in
    let Q : Phase Outcome → Type 0 = IsPhaseOf c o.law.request in
    subst P o.same (record { request = o.law.request; own = o.law.actor ∙ o.owner; outcome_of = subst Q o.phase_is o.law.phase })

sending_row : (c : Connection) (journal : List Entry) (row : Row Handed Outcome) → IsRowOf c journal row → (let given : Sending = record { id = row.id; reference = row.reference; frame = row.what.frame } in IsSending c journal given)
sending_row c journal row h = record { request = h.request; reference = sym h.reference; frame = sym h.frame; framed = h.framed }

-- a frame that ends a request
abbrev RepliesAs : Connection → List Entry → List ℕ → Answer → Type 0
RepliesAs c journal bytes (answers.Ended id kind) = IsReplyTo c journal id bytes kind
RepliesAs c journal bytes _ = Unit {0}

replies_without : (c : Connection) (journal : List Entry) (bytes : List ℕ) (reference : ℕ) (t : Table) (b : Bool) → RepliesAs c journal bytes (frame_entry (settled_if reference t b).1)
replies_without c journal bytes reference t true = tt
replies_without c journal bytes reference t false = tt

replies_arrived : (c : Connection) (journal : List Entry) (t : Table) (bytes : List ℕ) (reading : Reading) (found : Option (Row Handed Outcome)) → Known c journal t → c.wire.reading_of bytes ≡ Ok reading → awaiting (c.wire.reference_of bytes) t.requests ≡ found → RepliesAs c journal bytes (frame_entry (arrived c.wire (c.wire.reference_of bytes) reading (counted t) found).1)
replies_arrived c journal t bytes reading None k reads found = replies_without c journal bytes (c.wire.reference_of bytes) (counted t) (is_quarantined (c.wire.reference_of bytes) t.requests)
replies_arrived c journal t bytes reading (Some row) k reads found =
    let reference = c.wire.reference_of bytes in
    let facts = each_found (RowFacts c journal t.leases) (is_sent_and (has_reference reference)) t.requests.rows row found k.rows in
    let passes = and_parts (is_sent row) (has_reference reference row) (found_at (is_sent_and (has_reference reference)) t.requests.rows row found).1.passes in
    let was = sent_phase_of c journal row facts.law passes.0 in
    record {
      request = facts.law.request;
      sent = was.0;
      sent_at = was.1;
      refers = sym (eqb-true row.reference reference passes.1) ∙ sym facts.law.reference;
      reading = reading;
      reads = reads;
      fits = ap (λ a. (c.wire.fit a reading).kind) (sym facts.law.ask);
    }

replies_received : (c : Connection) (journal : List Entry) (t : Table) (bytes : List ℕ) (reading : Result Reading FrameWhy) → Known c journal t → c.wire.reading_of bytes ≡ reading → RepliesAs c journal bytes (frame_entry (received c.wire t bytes reading).1)
replies_received c journal t bytes (Ok reading) k reads = replies_arrived c journal t bytes reading (awaiting (c.wire.reference_of bytes) t.requests) k reads refl
replies_received c journal t bytes (Err why) k reads = tt

sent_same : (i id : ℕ) → answers.Sent i ≡ answers.Sent id → i ≡ id
sent_same i id e = cc

collected_same : (a b : EndKind) → answers.Collected a ≡ answers.Collected b → b ≡ a
collected_same a b e = cc

pub request_law : (c : Connection) (journal : List Entry) → IsSettings c.settings → Legal c journal → RequestLaw c journal
request_law c journal s legal =
    let steps = walked_steps c journal (legal_walked c journal legal) in
    record {
      sent = λ k actor id at.
          let t = table_of c (take k journal) in
          let before = known_before c journal k _ s legal at in
          let took_it = took (λ (x : Sending). answers.Sent x.id) (take_send t) _ (answers.Sent id) (steps k _ at) in
          let row = sends_as t _ took_it.given took_it.is in
          let facts = each_found (RowFacts c (take k journal) t.leases) is_queued t.requests.rows row.row row.found before.rows in
          let P : Sending → Type 0 = IsSending c (take k journal) in
          (took_it.given, sent_same took_it.given.id id took_it.told, subst P (sym row.sending_is) (sending_row c (take k journal) row.row facts.law));
      collected = λ k actor id kind at.
          let t = table_of c (take k journal) in
          let before = known_before c journal k _ s legal at in
          let took_it = took (λ (o : Outcome). answers.Collected o.kind) (collect t actor id) _ (answers.Collected kind) (steps k _ at) in
          let own = own_row c (take k journal) t actor id (Ended took_it.given) before (collect_is_table t _ actor id took_it.given took_it.is).1 in
          (took_it.given, collected_same took_it.given.kind kind took_it.told, collected_row c (take k journal) actor id took_it.given own);
      own_cancelled = λ k actor id answer at.
          let t = table_of c (take k journal) in
          let before = known_before c journal k _ s legal at in
          let took_it = took (λ (x : Unit {0}). answers.Cancelled) (cancel t actor id) _ answer (steps k _ at) in
          let live = cancel_live t actor id (ap answer_of took_it.is) in
          handed_in c (take k journal) actor id live.phase (own_row c (take k journal) t actor id live.phase before live.found);
      own_collected = λ k actor id answer at.
          let t = table_of c (take k journal) in
          let before = known_before c journal k _ s legal at in
          let took_it = took (λ (o : Outcome). answers.Collected o.kind) (collect t actor id) _ answer (steps k _ at) in
          handed_in c (take k journal) actor id (Ended took_it.given) (own_row c (take k journal) t actor id (Ended took_it.given) before (collect_is_table t _ actor id took_it.given took_it.is).1);
      replies = λ k actor bytes id kind at.
          let t = table_of c (take k journal) in
          let before = known_before c journal k _ s legal at in
          let P : Answer → Type 0 = RepliesAs c (take k journal) bytes in
          subst P (frame_told c t _ actor bytes (answers.Ended id kind) (steps k _ at)) (replies_received c (take k journal) t bytes (c.wire.reading_of bytes) before refl);
    }

-- ---- the rows

not_held : (b : Bool) → (b ≡ true → ⊥) → b ≡ false
not_held true h = absurd (h refl)
not_held false h = refl

pub row_law : (c : Connection) (kept : Kept) → IsState c kept → RowLaw c kept.journal.items (table_of c kept.journal.items)
row_law c kept state =
    let journal = kept.journal.items in
    let t = table_of c journal in
    let k = known c journal state.settings (legal_walked c journal state.legal) in
    record {
      requests = each_same (RowFacts c journal t.leases) (IsRowOf c journal) t.requests.rows (λ row x. x.law) k.rows;
      rising = k.law.within.ids;
      leased = each_same (RowFacts c journal t.leases) _ t.requests.rows (λ row x. x.held) k.rows;
      ended = λ reason closed.
          let quiet = state.kept.quiet reason (state.stands.closed ∙ closed) in
          let none : t.leases.held ≡ [] = sym (ap (λ (l : LeaseTable). l.held) state.stands.leases) ∙ quiet.held in
          each_same (RowFacts c journal t.leases) _ t.requests.rows (λ row x. not_held (is_live row) (λ live. let some = rw none at (x.held live) in cc)) k.rows;
    }

-- ---- an outcome that is handed out

shaped_reply : (ask : Ask) (kind : EndKind) (values : List (List PlcValue)) → IsReplyWith ask kind values → (let o : Outcome = record { kind = kind; values = values } in HasValuesFor ask o)
shaped_reply ask kinds.Done values (inl none) = inl none
shaped_reply ask kinds.Done values (inr rows) = inr (refl, rows)
shaped_reply ask kinds.Written values h = inl h
shaped_reply ask (kinds.Remote code) values h = inl h
shaped_reply ask (kinds.Mismatch place got) values h = inl h
shaped_reply ask kinds.Cancelled values h = absurd h
shaped_reply ask kinds.Expired values h = absurd h
shaped_reply ask kinds.LeaseGone values h = absurd h
shaped_reply ask (kinds.Lost reason) values h = absurd h

abbrev pub RepliesFit : WireMeaning → Type 0
RepliesFit wire = (ask : Ask) (reading : Reading) → IsTrue (wire.admits ask) → IsReplyOutcome ask (wire.fit ask reading)

shaped_by : (c : Connection) (journal : List Entry) (id : ℕ) (r : Submitted journal id) (outcome : Outcome) → RepliesFit c.wire → IsTrue (c.wire.admits r.ask) → IsOutcomeOf c r outcome → HasValuesFor r.ask outcome
shaped_by c journal id r outcome fits admits (inl f) =
    let P : Outcome → Type 0 = HasValuesFor r.ask in
    let o = c.wire.fit r.ask f.reading in
    subst P (sym f.fits) (shaped_reply r.ask o.kind o.values (fits r.ask f.reading admits))
shaped_by c journal id r outcome fits admits (inr bare) = inl bare.1

pub shaped_outcome : (c : Connection) (old : Kept) (actor id : ℕ) (result : Result Outcome TakeRefusal) → RepliesFit c.wire → IsState c old → result ≡ answer_of (collect (table_of c old.journal.items) actor id) → IfOk result (IsShapedOutcome c old.journal.items actor id)
shaped_outcome c old actor id (Err r) fits state is = tt
shaped_outcome c old actor id (Ok outcome) fits state is =
    let journal = old.journal.items in
    let t = table_of c journal in
    let k = known c journal state.settings (legal_walked c journal state.legal) in
    let own = own_row c journal t actor id (Ended outcome) k (collect_is_table t _ actor id outcome (ok_of (collect t actor id) t outcome (sym is))).1 in
    let collected = collected_row c journal actor id outcome own in
    let admits = (state.admitted collected.request.place _ collected.request.stands).0 in
    (collected, shaped_by c journal id collected.request outcome fits admits collected.outcome_of)

-- ---- what the table of a legal journal hands out

sent_if : (c : Connection) (journal : List Entry) (t : Table) (r : Result Sending SendRefusal) → Known c journal t → answer_of (take_send t) ≡ r → IfOk r (IsSending c journal)
sent_if c journal t (Err refusal) k e = tt
sent_if c journal t (Ok sending) k e =
    let row = sends_as t _ sending (ok_of (take_send t) t sending e) in
    let facts = each_found (RowFacts c journal t.leases) is_queued t.requests.rows row.row row.found k.rows in
    let P : Sending → Type 0 = IsSending c journal in
    subst P (sym row.sending_is) (sending_row c journal row.row facts.law)

pub handed_sending : (c : Connection) (journal : List Entry) → IsSettings c.settings → Legal c journal → IfOk (answer_of (take_send (table_of c journal))) (IsSending c journal)
handed_sending c journal s legal = sent_if c journal (table_of c journal) (answer_of (take_send (table_of c journal))) (known c journal s (legal_walked c journal legal)) refl

collected_if : (c : Connection) (journal : List Entry) (t : Table) (actor id : ℕ) (r : Result Outcome TakeRefusal) → Known c journal t → answer_of (collect t actor id) ≡ r → IfOk r (IsCollected c journal actor id)
collected_if c journal t actor id (Err refusal) k e = tt
collected_if c journal t actor id (Ok outcome) k e =
    collected_row c journal actor id outcome (own_row c journal t actor id (Ended outcome) k (collect_is_table t _ actor id outcome (ok_of (collect t actor id) t outcome e)).1)

pub handed_outcome : (c : Connection) (journal : List Entry) (actor id : ℕ) → IsSettings c.settings → Legal c journal → IfOk (answer_of (collect (table_of c journal) actor id)) (IsCollected c journal actor id)
handed_outcome c journal actor id s legal = collected_if c journal (table_of c journal) actor id (answer_of (collect (table_of c journal) actor id)) (known c journal s (legal_walked c journal legal)) refl
