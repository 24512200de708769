-- A request that is started stands for the row that the table adds.
use Rattle.std.proofs.Common.{◌≡◌, ◌⊎◌, inl, inr, ℕ, ◌+◌, List, [], ◌∷◌, ◌++◌, length, refl, sym, ap, subst, ◌∙◌, Some, Ok, Err}
use Rattle.std.specs.Prelude.{Result, max}
use Rattle.std.specs.List.{slice_get}
use Rattle.lease_core.specs.LeaseTables.{deadline_of}
use Rattle.txn_core.specs.PlainRows.{plain_added, plain_draft}
use Rattle.txn_core.specs.RowSteps.{Draft, IsGivenOrNoMemory, added, answer_of, queued_row, table_or, with_row}
use Rattle.txn_core.specs.RowTables.{Row, RowTable}
use Rattle.txn_core.specs.declared.phases.AddRefusal.{AddRefusal}
use Rattle.wire_frames.specs.declared.ends.EndKind.{EndKind}
use Rattle.wire_frames.specs.declared.ends.Outcome.{Outcome}
use Rattle.wire_frames.specs.declared.kinds.PlcValue.{PlcValue}
use Rattle.conn_core.specs.KeptMoves.{Starts}
use Rattle.conn_core.specs.KeptTables.{IsHandedIn, Stands, end_kind}
use Rattle.conn_core.specs.Requests.{submitted_entry}
use Rattle.conn_core.specs.Steps.{Request, Started, accepted_of, draft_of, started, started_as}
use Rattle.conn_core.specs.Tables.{Handed, Table, at_moment}
use Rattle.conn_core.specs.declared.answers.Accepted.{Accepted}
use Rattle.conn_core.specs.declared.answers.SubmitRefusal.{SubmitRefusal}
use Rattle.conn_core.specs.declared.entries.Entry.{Entry}
use Rattle.conn_core.specs.declared.handed.HandedIn.{HandedIn}
use Rattle.conn_core.specs.declared.table.KeptTable.{KeptTable}
use Rattle.conn_core.proofs.RowStands.{add_row, added_stands}
use Rattle.conn_core.proofs.TurnLemmas.{get_last, stands_more}

-- the draft of a request, as the rows alone see it
abbrev pub plain_draft_of : Request → ℕ → Draft (Unit {0})
plain_draft_of q clock = record { owner = q.actor; lease = q.lease; deadline = deadline_of clock q.timeout; what = tt }

-- the item that is kept beside its row
abbrev pub new_item : (id place reference : ℕ) → List ℕ → HandedIn
new_item id place reference frame = record { id = id; place = place; reference = reference; frame = Some frame; values = [] }

given_only : (missing : AddRefusal) (p : ℕ × ℕ) (wanted : Result (ℕ × ℕ) AddRefusal) → IsGivenOrNoMemory missing (Ok p) wanted → wanted ≡ Ok p
given_only missing p wanted (inl e) = sym e
given_only missing p wanted (inr e) = cc

-- where a request was added the table is the one after it
pub new_given : {X : Type 0} (missing : AddRefusal) (p : ℕ × ℕ) (r : Result (ℕ × ℕ) AddRefusal) → r ≡ Ok p → ((r ≡ Err missing) ⊎ X) → X
new_given missing p r is (inl e) = cc
new_given missing p r is (inr x) = x

pub draft_is : (q : Request) (clock deadline : ℕ) → deadline ≡ deadline_of clock q.timeout → (let draft : Draft (Unit {0}) = record { owner = q.actor; lease = q.lease; deadline = deadline; what = tt } in draft ≡ plain_draft_of q clock)
draft_is q clock deadline e = ap (λ n. let draft : Draft (Unit {0}) = record { owner = q.actor; lease = q.lease; deadline = n; what = tt } in draft) e

pub item_is : (id place reference : ℕ) (frame : List ℕ) (values : List (List PlcValue)) → values ≡ [] → (let item : HandedIn = record { id = id; place = place; reference = reference; frame = Some frame; values = values } in item ≡ new_item id place reference frame)
item_is id place reference frame values e = ap (λ (v : List (List PlcValue)). let item : HandedIn = record { id = id; place = place; reference = reference; frame = Some frame; values = v } in item) e

new_handed : (journal : List Entry) (q : Request) (frame : List ℕ) (clock n id place reference : ℕ) → id ≡ n → place ≡ length journal → (let accepted : Accepted = record { id = id; reference = reference } in let row : Row Handed Outcome = queued_row (draft_of q clock frame) n reference in IsHandedIn (journal ++ submitted_entry q accepted frame ∷ []) row (new_item id place reference frame))
new_handed journal q frame clock n id place reference same placed =
    let accepted : Accepted = record { id = id; reference = reference } in
    let e = submitted_entry q accepted frame in
    record {
      id = same;
      reference = refl;
      entry = e;
      stands = ap (slice_get (journal ++ e ∷ [])) placed ∙ get_last journal e;
      accepted = (same, refl, refl, refl);
      frame = λ queued. refl;
      values = refl;
    }

rest_same : (xs ys : List ℕ) (n : ℕ) → n ∷ xs ≡ n ∷ ys → xs ≡ ys
rest_same xs ys n e = cc

pub start_ok : (journal : List Entry) (k m : KeptTable) (t : Table) (q : Request) (frame : List ℕ) (missing : AddRefusal) (id place reference clock : ℕ) (item : HandedIn) → place ≡ length journal → Stands journal k t → clock ≡ max k.clock q.moment → IsGivenOrNoMemory missing (Ok (id, reference)) (answer_of (added (plain_draft_of q clock) k.requests)) → m.requests ≡ table_or k.requests (added (plain_draft_of q clock) k.requests) → m.handed.items ≡ k.handed.items ++ item ∷ [] → item ≡ new_item id place reference frame → m.leases ≡ k.leases → m.clock ≡ clock → m.closed ≡ k.closed → m.frames ≡ k.frames → Starts journal m t q frame (Ok (record { id = id; reference = reference }))
start_ok journal k m t q frame missing id place reference clock item placed stands at given requests handed item_is leases now closed frames =
    let u = at_moment q.moment t in
    let draft = draft_of q u.clock frame in
    let accepted : Accepted = record { id = id; reference = reference } in
    let e = submitted_entry q accepted frame in
    let clock_is : clock ≡ u.clock = at ∙ ap (λ n. max n q.moment) stands.clock in
    let told = given_only missing (id, reference) (answer_of (added (plain_draft_of q clock) k.requests)) given in
    let adds_kept = add_row k.requests (plain_draft_of q clock) id reference told in
    let told_table : answer_of (added draft t.requests) ≡ Ok (id, reference) =
    sym (ap (λ n. answer_of (added (plain_draft_of q n) k.requests)) clock_is ∙ ap (λ (r : RowTable (Unit {0}) EndKind). answer_of (added (plain_draft draft) r)) stands.requests ∙ plain_added end_kind draft t.requests) ∙ told in
    let adds = add_row t.requests draft id reference told_table in
    let next : Table = record u { requests = with_row draft t.requests reference adds.rest } in
    let begun : Started = record { id = t.requests.drawn + 1; reference = reference; frame = frame } in
    let is : started q frame u ≡ Ok (next, begun) = ap (started_as u frame) adds.added_is in
    let rest_is : adds_kept.rest ≡ adds.rest = rest_same adds_kept.rest adds.rest reference (sym adds_kept.free ∙ ap (λ (r : RowTable (Unit {0}) EndKind). r.free) stands.requests ∙ adds.free) in
    let row_is : m.requests ≡ with_row (plain_draft draft) k.requests reference adds.rest =
    requests ∙ ap (table_or k.requests) adds_kept.added_is
    ∙ ap (λ n. with_row (plain_draft_of q n) k.requests reference adds_kept.rest) clock_is
    ∙ ap (with_row (plain_draft draft) k.requests reference) rest_is in
    let longer = stands_more journal (e ∷ []) k t stands in
    let P : HandedIn → Type 0 = IsHandedIn (journal ++ e ∷ []) (queued_row draft (t.requests.drawn + 1) reference) in
    let here = subst P (sym item_is) (new_handed journal q frame u.clock (t.requests.drawn + 1) id place reference adds.id_is placed) in
    let Q : Result (Table × Started) SubmitRefusal → Type 0 = λ w. Stands (journal ++ e ∷ []) m (table_or t w) in
    record {
      answer = inl (ap (λ n. let a : Accepted = record { id = n; reference = reference } in Ok a) adds.id_is ∙ sym (ap (λ w. accepted_of (answer_of w)) is));
      stands = subst Q (sym is) (added_stands (journal ++ e ∷ []) k m t draft reference u.clock adds.rest item longer row_is handed here leases (now ∙ clock_is) closed frames);
    }
