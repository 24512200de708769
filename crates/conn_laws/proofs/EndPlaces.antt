-- What `cancel` and `collect` answer of an actor's request, by its end place.
use Rattle.std.proofs.Common.{◌≡◌, inl, inr, ℕ, ◌+◌, true, List, [], refl, sym, ap, subst, ◌∙◌, arith, Option, Some, None, Ok, Err}
use Rattle.std.specs.Prelude.{Result, ◌==◌, ◌↔◌}
use Rattle.std.specs.List.{find, list_any}
use Rattle.std.specs.Option.{option_map}
use Rattle.std.proofs.lemmas.Bool.{and_parts, eq-eqb, eqb-true}
use Rattle.txn_core.specs.FirstPlaces.{none_any, not_found}
use Rattle.txn_core.specs.RowSteps.{answer_of, taken_from}
use Rattle.txn_core.specs.RowTables.{Row, has_id, is_row_of, phase_live, phase_of}
use Rattle.txn_core.specs.declared.phases.Phase.{Phase}
use Rattle.txn_core.specs.declared.phases.Phase.TheVariants.{Queued, Sent, Ended}
use Rattle.txn_core.specs.declared.phases.TakeRefusal.{TakeRefusal}
use Rattle.txn_core.specs.declared.phases.TakeRefusal.TheVariants as take_refusals
use Rattle.node_tree.specs.declared.readings.Reading.{Reading}
use Rattle.wire_frames.specs.declared.asks.Ask.{Ask}
use Rattle.wire_frames.specs.declared.ends.EndKind.{EndKind}
use Rattle.wire_frames.specs.declared.ends.Outcome.{Outcome}
use Rattle.conn_core.specs.Ends as ends
use Rattle.conn_core.specs.Ends.{IsEndPlace, IsOutcome}
use Rattle.conn_core.specs.HistoryLaw.{IsUnended}
use Rattle.conn_core.specs.Journals.{table_of}
use Rattle.conn_core.specs.Places.{Stands, Submitted}
use Rattle.conn_core.specs.Steps.{cancel, cancel_as, collect, collected_as}
use Rattle.conn_core.specs.Tables.{Connection, Handed, IsSettings, Table}
use Rattle.conn_core.specs.declared.answers.CancelRefusal.{CancelRefusal}
use Rattle.conn_core.specs.declared.answers.CancelRefusal.TheVariants as cancel_refusals
use Rattle.conn_core.specs.declared.entries.Answer.TheVariants as answers
use Rattle.conn_core.specs.declared.entries.Entry.{Entry}
use Rattle.conn_core.specs.declared.entries.Event.TheVariants as events
use Rattle.conn_core.proofs.RowLaws.{row_found}
use Rattle.conn_core.proofs.StepLaws.{Walked}
use Rattle.conn_laws.specs.KeptRequests.{IsKept}
use Rattle.conn_laws.proofs.Awaiting.{knows}
use Rattle.conn_laws.proofs.Fronts.{end_same, live_or_ended, outcome_end, row_unended}
use Rattle.conn_laws.proofs.Members.{In, any_in, in_any, in_found}
use Rattle.conn_laws.proofs.OtherPlaces.{IsSame, same_request}
use Rattle.conn_laws.proofs.OwnEnds.{one_end}
use Rattle.conn_laws.proofs.Replies.{event_of}
use Rattle.conn_laws.proofs.RowsKept.{not_both}
use Rattle.conn_laws.proofs.Standing.{outcome_over, row_law}

-- ---- one outcome

end_frame : (journal : List Entry) (k id : ℕ) (a b : ℕ) (bytes other : List ℕ) (kind by : EndKind) → Stands journal k a (events.Frame bytes) (answers.Ended id kind) → Stands journal k b (events.Frame other) (answers.Ended id by) → bytes ≡ other
end_frame journal k id a b bytes other kind by one two =
    let same = ap (λ (x : Entry). x.event) (event_of journal k _ _ one two) in cc

read_once : (a b : Reading) (c : Connection) (bytes other : List ℕ) → bytes ≡ other → c.wire.reading_of bytes ≡ Ok a → c.wire.reading_of other ≡ Ok b → a ≡ b
read_once a b c bytes other same one two = let both : Ok a ≡ Ok b = sym one ∙ ap c.wire.reading_of same ∙ two in cc

one_outcome : (c : Connection) (journal : List Entry) (id k : ℕ) (r s : Submitted journal id) (o p : Outcome) → IsSame r s → o.kind ≡ p.kind → IsOutcome c journal id r k o → IsOutcome c journal id s k p → o ≡ p
one_outcome c journal id k r s _ _ same kinds (ends.fitted a bytes kind x at reads e) (ends.fitted b other by y there also f) =
    let one = end_frame journal k id a b bytes other kind by at there in
    let reading = read_once x y c bytes other one reads also in
    ap (λ (n : Ask). c.wire.fit n x) same.ask ∙ ap (c.wire.fit s.ask) reading
one_outcome c journal id k r s _ _ same kinds (ends.fitted a bytes kind x at reads e) (ends.bare by f none) = absurd (none a bytes kind at)
one_outcome c journal id k r s _ _ same kinds (ends.bare kind e none) (ends.fitted b other by y there also f) = absurd (none b other by there)
one_outcome c journal id k r s _ _ same kinds (ends.bare kind e none) (ends.bare by f also) = ap (λ (n : EndKind). let o : Outcome = record { kind = n; values = [] } in o) kinds

outcome_once : (c : Connection) (journal : List Entry) (id j k : ℕ) (r s : Submitted journal id) (o p : Outcome) → IsSettings c.settings → Walked c journal → IsOutcome c journal id r j o → IsOutcome c journal id s k p → o ≡ p
outcome_once c journal id j k r s o p set w x y =
    let both = one_end c journal id j k r s o.kind p.kind set w (outcome_end c journal id r j o x) (outcome_end c journal id s k p y) in
    let same = same_request journal id r s ((knows c journal set w).ids.accepted_once id r s) in
    let P : ℕ → Type 0 = λ n. IsOutcome c journal id s n p in
    one_outcome c journal id j r s o p same both.1 x (subst P (sym both.0) y)

-- ---- the row of a kept request

record KeptRow (c : Connection) (journal : List Entry) (actor id : ℕ) (phase : Phase Outcome) : Type 0 where
  row : Row Handed Outcome
  here : In row (table_of c journal).requests.rows
  same : row.id ≡ id
  phase_is : row.phase ≡ phase
  kept : IsKept journal actor id

kept_by_row : (c : Connection) (journal : List Entry) (actor id : ℕ) (phase : Phase Outcome) → IsSettings c.settings → Walked c journal → phase_of actor id (table_of c journal).requests ≡ Some phase → KeptRow c journal actor id phase
kept_by_row c journal actor id phase s w e =
    let t = table_of c journal in
    let known = knows c journal s w in
    let found = row_found t actor id phase e in
    let there = in_found (is_row_of actor id) t.requests.rows found.0 found.1 in
    let both = and_parts (found.0.id == id) (found.0.owner == actor) there.1 in
    let same : found.0.id ≡ id = eqb-true found.0.id id both.0 in
    let law = (row_law c journal t found.0 known.rows there.0).law in
    let P : ℕ → Type 0 = λ n. (r : Submitted journal n) × (r.actor ≡ actor) in
    let own = subst P same (law.request, law.actor ∙ eqb-true found.0.owner actor both.1) in
    record {
      row = found.0;
      here = there.0;
      same = same;
      phase_is = found.2;
      kept = record {
        request = own.0;
        own = own.1;
        uncollected = λ was. not_both (list_any (has_id id) t.requests.rows) (any_in (has_id id) t.requests.rows found.0 there.0 both.0) (known.ids.gone id was.0 was.1);
      };
    }

phase_if : (t : Table) (actor id : ℕ) (o : Option (Row Handed Outcome)) → find (is_row_of actor id) t.requests.rows ≡ o → list_any (is_row_of actor id) t.requests.rows ≡ true → (phase : Phase Outcome) × (phase_of actor id t.requests ≡ Some phase)
phase_if t actor id None found some = not_both (list_any (is_row_of actor id) t.requests.rows) some (none_any (is_row_of actor id) t.requests.rows (not_found (is_row_of actor id) t.requests.rows found))
phase_if t actor id (Some row) found some = (row.phase, ap (option_map (λ (x : Row Handed Outcome). x.phase)) found)

phase_of_kept : (c : Connection) (journal : List Entry) (actor id : ℕ) → IsSettings c.settings → Walked c journal → IsKept journal actor id → (phase : Phase Outcome) × (phase_of actor id (table_of c journal).requests ≡ Some phase)
phase_of_kept c journal actor id s w h =
    let t = table_of c journal in
    let known = knows c journal s w in
    elim (known.ids.kept id h.request) [
      | inl has ↦ (
          let x = in_any (has_id id) t.requests.rows has in
          let same : x.0.id ≡ id = eqb-true x.0.id id x.2 in
          let law = (row_law c journal t x.0 known.rows x.1).law in
          let P : ℕ → Type 0 = λ n. (r : Submitted journal n) × (r.actor ≡ x.0.owner) in
          let own = subst P same (law.request, law.actor) in
          let one = same_request journal id own.0 h.request (known.ids.accepted_once id own.0 h.request) in
          let owner : x.0.owner ≡ actor = sym own.1 ∙ one.actor ∙ h.own in
          phase_if t actor id (find (is_row_of actor id) t.requests.rows) refl
          (any_in (is_row_of actor id) t.requests.rows x.0 x.1 (rw (x.2, eq-eqb x.0.owner actor owner) refl)))
      | inr was ↦ absurd (h.uncollected was)
    ]

-- ---- what a kept request is: live, or ended with its outcome

data IsNow (c : Connection) (journal : List Entry) (actor id : ℕ) (phase : Phase Outcome) : Type 0 where
  live : (h : IsKept journal actor id) → phase_live phase ≡ true → IsUnended c journal id h.request → IsNow c journal actor id phase
  over : (h : IsKept journal actor id) (o : Outcome) → phase ≡ Ended o → (k : ℕ) → IsOutcome c journal id h.request k o → IsNow c journal actor id phase

is_now : (c : Connection) (journal : List Entry) (actor id : ℕ) (phase : Phase Outcome) → IsSettings c.settings → Walked c journal → phase_of actor id (table_of c journal).requests ≡ Some phase → IsNow c journal actor id phase
is_now c journal actor id phase s w e =
    let t = table_of c journal in
    let known = knows c journal s w in
    let x = kept_by_row c journal actor id phase s w e in
    elim (live_or_ended phase) [
      | inl lives ↦ live x.kept lives (row_unended c journal t x.row id known.standing x.here (ap phase_live x.phase_is ∙ lives) x.same x.kept.request)
      | inr ended ↦ (
          let h = known.standing.ended x.row ended.0 x.here (x.phase_is ∙ ended.1) in
          let P : ℕ → Type 0 = λ n. (r : Submitted journal n) × (k : ℕ) × IsOutcome c journal n r k ended.0 in
          let y = subst P x.same h in
          let one = same_request journal id y.0 x.kept.request (known.ids.accepted_once id y.0 x.kept.request) in
          over x.kept ended.0 ended.1 y.1 (outcome_over c journal journal (y.1 + 1) id refl y.0 x.kept.request one y.1 ended.0 (omega arith) y.2))
    ]

-- ---- where the actor's request stands

data StandsAs (c : Connection) (journal : List Entry) (actor id : ℕ) : Option (Phase Outcome) → Type 0 where
  nowhere : ¬ IsKept journal actor id → StandsAs c journal actor id None
  somewhere : (phase : Phase Outcome) → IsNow c journal actor id phase → StandsAs c journal actor id (Some phase)

stands_as : (c : Connection) (journal : List Entry) (actor id : ℕ) (o : Option (Phase Outcome)) → IsSettings c.settings → Walked c journal → phase_of actor id (table_of c journal).requests ≡ o → StandsAs c journal actor id o
stands_as c journal actor id None s w e = nowhere (λ h. let x = phase_of_kept c journal actor id s w h in let both : None ≡ Some x.0 = sym e ∙ x.1 in absurd (cc))
stands_as c journal actor id (Some phase) s w e = somewhere phase (is_now c journal actor id phase s w e)

-- a kept request that has ended isn't live, and has one end
ended_not_live : {Y : Type 0} (c : Connection) (journal : List Entry) (actor id k : ℕ) (kind : EndKind) (h g : IsKept journal actor id) → IsSettings c.settings → Walked c journal → IsUnended c journal id h.request → IsEndPlace c journal id g.request k kind → Y
ended_not_live c journal actor id k kind h g s w unended e =
    let one = same_request journal id g.request h.request ((knows c journal s w).ids.accepted_once id g.request h.request) in
    absurd (unended k kind (end_same c journal id g.request h.request one k kind e))

-- ---- what cancel answers

abbrev EndedAs : Connection → List Entry → ℕ → ℕ → EndKind → Type 0
EndedAs c journal actor id kind = (h : IsKept journal actor id) × (k : ℕ) × IsEndPlace c journal id h.request k kind

abbrev IsLiveNow : Connection → List Entry → ℕ → ℕ → Type 0
IsLiveNow c journal actor id = (h : IsKept journal actor id) × IsUnended c journal id h.request

abbrev OutcomeNow : Connection → List Entry → ℕ → ℕ → Outcome → Type 0
OutcomeNow c journal actor id o = (h : IsKept journal actor id) × (k : ℕ) × IsOutcome c journal id h.request k o

already_kinds : (a b : EndKind) → cancel_refusals.AlreadyEnded a ≡ cancel_refusals.AlreadyEnded b → a ≡ b
already_kinds a b e = cc

refusal_parts : {A : Type 0} (a b : CancelRefusal) → (let x : Result A CancelRefusal = Err a in let y : Result A CancelRefusal = Err b in x ≡ y) → a ≡ b
refusal_parts a b e = cc

-- the kind of a phase that has ended
ended_now : (c : Connection) (journal : List Entry) (t : Table) (actor id : ℕ) (phase : Phase Outcome) (kind : EndKind) → IsNow c journal actor id phase → answer_of (cancel_as id t (Some phase)) ≡ Err (cancel_refusals.AlreadyEnded kind) → EndedAs c journal actor id kind
ended_now c journal t actor id Queued kind n e = absurd (cc)
ended_now c journal t actor id Sent kind n e = absurd (cc)
ended_now c journal t actor id (Ended o) kind (live h lives unended) e = absurd (cc)
ended_now c journal t actor id (Ended o) kind (over h p is k x) e =
    let same : o.kind ≡ kind = already_kinds o.kind kind (refusal_parts (cancel_refusals.AlreadyEnded o.kind) (cancel_refusals.AlreadyEnded kind) e) in
    let of : o ≡ p = cc in
    let P : EndKind → Type 0 = IsEndPlace c journal id h.request k in
    (h, k, subst P (sym (ap (λ (y : Outcome). y.kind) of) ∙ same) (outcome_end c journal id h.request k p x))

already_to : (c : Connection) (journal : List Entry) (actor id : ℕ) (kind : EndKind) (o : Option (Phase Outcome)) → StandsAs c journal actor id o → answer_of (cancel_as id (table_of c journal) o) ≡ Err (cancel_refusals.AlreadyEnded kind) → EndedAs c journal actor id kind
already_to c journal actor id kind _ (nowhere none) e = absurd (cc)
already_to c journal actor id kind _ (somewhere phase n) e = ended_now c journal (table_of c journal) actor id phase kind n e

already_from : (c : Connection) (journal : List Entry) (actor id : ℕ) (kind : EndKind) (o : Option (Phase Outcome)) → IsSettings c.settings → Walked c journal → StandsAs c journal actor id o → EndedAs c journal actor id kind → answer_of (cancel_as id (table_of c journal) o) ≡ Err (cancel_refusals.AlreadyEnded kind)
already_from c journal actor id kind _ s w (nowhere none) x = absurd (none x.0)
already_from c journal actor id kind _ s w (somewhere phase (live h lives unended)) x = ended_not_live c journal actor id x.1 kind h x.0 s w unended x.2
already_from c journal actor id kind _ s w (somewhere phase (over h o is k y)) x =
    let both = one_end c journal id k x.1 h.request x.0.request o.kind kind s w (outcome_end c journal id h.request k o y) x.2 in
    ap (λ (f : Phase Outcome). answer_of (cancel_as id (table_of c journal) (Some f))) is ∙ ap (λ n. Err (cancel_refusals.AlreadyEnded n)) both.1

pub already_ended : (c : Connection) (journal : List Entry) (actor id : ℕ) (kind : EndKind) → IsSettings c.settings → Walked c journal → (answer_of (cancel (table_of c journal) actor id) ≡ Err (cancel_refusals.AlreadyEnded kind)) ↔ EndedAs c journal actor id kind
already_ended c journal actor id kind s w =
    let o = phase_of actor id (table_of c journal).requests in
    let at = stands_as c journal actor id o s w refl in
    (already_to c journal actor id kind o at, already_from c journal actor id kind o s w at)

cancel_live : (t : Table) (id : ℕ) (phase : Phase Outcome) → phase_live phase ≡ true → answer_of (cancel_as id t (Some phase)) ≡ Ok tt
cancel_live t id Queued e = refl
cancel_live t id Sent e = refl
cancel_live t id (Ended o) e = absurd (cc)

cancels_to : (c : Connection) (journal : List Entry) (actor id : ℕ) (o : Option (Phase Outcome)) → StandsAs c journal actor id o → answer_of (cancel_as id (table_of c journal) o) ≡ Ok tt → IsLiveNow c journal actor id
cancels_to c journal actor id _ (nowhere none) e = absurd (cc)
cancels_to c journal actor id _ (somewhere phase (live h lives unended)) e = (h, unended)
cancels_to c journal actor id _ (somewhere phase (over h o is k y)) e =
    let other : answer_of (cancel_as id (table_of c journal) (Some phase)) ≡ Err (cancel_refusals.AlreadyEnded o.kind) = ap (λ (f : Phase Outcome). answer_of (cancel_as id (table_of c journal) (Some f))) is in
    absurd (cc)

cancels_from : (c : Connection) (journal : List Entry) (actor id : ℕ) (o : Option (Phase Outcome)) → IsSettings c.settings → Walked c journal → StandsAs c journal actor id o → IsLiveNow c journal actor id → answer_of (cancel_as id (table_of c journal) o) ≡ Ok tt
cancels_from c journal actor id _ s w (nowhere none) x = absurd (none x.0)
cancels_from c journal actor id _ s w (somewhere phase (live h lives unended)) x = cancel_live (table_of c journal) id phase lives
cancels_from c journal actor id _ s w (somewhere phase (over h o is k y)) x = ended_not_live c journal actor id k o.kind x.0 h s w x.1 (outcome_end c journal id h.request k o y)

pub cancels : (c : Connection) (journal : List Entry) (actor id : ℕ) → IsSettings c.settings → Walked c journal → (answer_of (cancel (table_of c journal) actor id) ≡ Ok tt) ↔ IsLiveNow c journal actor id
cancels c journal actor id s w =
    let o = phase_of actor id (table_of c journal).requests in
    let at = stands_as c journal actor id o s w refl in
    (cancels_to c journal actor id o at, cancels_from c journal actor id o s w at)

some_cancel : {Y : Type 0} (t : Table) (id : ℕ) (phase : Phase Outcome) → answer_of (cancel_as id t (Some phase)) ≡ Err cancel_refusals.NoRequest → Y
some_cancel t id Queued e = absurd (cc)
some_cancel t id Sent e = absurd (cc)
some_cancel t id (Ended o) e = absurd (cc)

unknown_to : (c : Connection) (journal : List Entry) (actor id : ℕ) (o : Option (Phase Outcome)) → StandsAs c journal actor id o → answer_of (cancel_as id (table_of c journal) o) ≡ Err cancel_refusals.NoRequest → ¬ IsKept journal actor id
unknown_to c journal actor id _ (nowhere none) e = none
unknown_to c journal actor id _ (somewhere phase n) e = some_cancel (table_of c journal) id phase e

kept_now : (c : Connection) (journal : List Entry) (actor id : ℕ) (phase : Phase Outcome) → IsNow c journal actor id phase → IsKept journal actor id
kept_now c journal actor id phase (live h lives unended) = h
kept_now c journal actor id phase (over h o is k y) = h

unknown_from : (c : Connection) (journal : List Entry) (actor id : ℕ) (o : Option (Phase Outcome)) → StandsAs c journal actor id o → ¬ IsKept journal actor id → answer_of (cancel_as id (table_of c journal) o) ≡ Err cancel_refusals.NoRequest
unknown_from c journal actor id _ (nowhere none) h = refl
unknown_from c journal actor id _ (somewhere phase n) h = absurd (h (kept_now c journal actor id phase n))

pub unknown_cancelled : (c : Connection) (journal : List Entry) (actor id : ℕ) → IsSettings c.settings → Walked c journal → (answer_of (cancel (table_of c journal) actor id) ≡ Err cancel_refusals.NoRequest) ↔ ¬ IsKept journal actor id
unknown_cancelled c journal actor id s w =
    let o = phase_of actor id (table_of c journal).requests in
    let at = stands_as c journal actor id o s w refl in
    (unknown_to c journal actor id o at, unknown_from c journal actor id o at)

-- ---- what collect answers

abbrev collected_from : Table → ℕ → ℕ → Option (Phase Outcome) → Result Outcome TakeRefusal
collected_from t actor id o = answer_of (collected_as t (taken_from actor id t.requests o))

outcome_parts : (a b : Outcome) → (let x : Result Outcome TakeRefusal = Ok a in let y : Result Outcome TakeRefusal = Ok b in x ≡ y) → a ≡ b
outcome_parts a b e = cc

outcome_now : (c : Connection) (journal : List Entry) (t : Table) (actor id : ℕ) (phase : Phase Outcome) (o : Outcome) → IsNow c journal actor id phase → collected_from t actor id (Some phase) ≡ Ok o → OutcomeNow c journal actor id o
outcome_now c journal t actor id Queued o n e = absurd (cc)
outcome_now c journal t actor id Sent o n e = absurd (cc)
outcome_now c journal t actor id (Ended p) o (live h lives unended) e = absurd (cc)
outcome_now c journal t actor id (Ended p) o (over h q is k x) e =
    let same : p ≡ o = outcome_parts p o e in
    let of : p ≡ q = cc in
    let P : Outcome → Type 0 = IsOutcome c journal id h.request k in
    (h, k, subst P (sym of ∙ same) x)

collected_to : (c : Connection) (journal : List Entry) (actor id : ℕ) (outcome : Outcome) (o : Option (Phase Outcome)) → StandsAs c journal actor id o → collected_from (table_of c journal) actor id o ≡ Ok outcome → OutcomeNow c journal actor id outcome
collected_to c journal actor id outcome _ (nowhere none) e = absurd (cc)
collected_to c journal actor id outcome _ (somewhere phase n) e = outcome_now c journal (table_of c journal) actor id phase outcome n e

collected_back : (c : Connection) (journal : List Entry) (actor id : ℕ) (outcome : Outcome) (o : Option (Phase Outcome)) → IsSettings c.settings → Walked c journal → StandsAs c journal actor id o → OutcomeNow c journal actor id outcome → collected_from (table_of c journal) actor id o ≡ Ok outcome
collected_back c journal actor id outcome _ s w (nowhere none) x = absurd (none x.0)
collected_back c journal actor id outcome _ s w (somewhere phase (live h lives unended)) x =
    ended_not_live c journal actor id x.1 outcome.kind h x.0 s w unended (outcome_end c journal id x.0.request x.1 outcome x.2)
collected_back c journal actor id outcome _ s w (somewhere phase (over h o is k y)) x =
    ap (λ (f : Phase Outcome). collected_from (table_of c journal) actor id (Some f)) is ∙ ap (λ (n : Outcome). Ok n) (outcome_once c journal id k x.1 h.request x.0.request o outcome s w y x.2)

pub collected : (c : Connection) (journal : List Entry) (actor id : ℕ) (outcome : Outcome) → IsSettings c.settings → Walked c journal → (answer_of (collect (table_of c journal) actor id) ≡ Ok outcome) ↔ OutcomeNow c journal actor id outcome
collected c journal actor id outcome s w =
    let o = phase_of actor id (table_of c journal).requests in
    let at = stands_as c journal actor id o s w refl in
    (collected_to c journal actor id outcome o at, collected_back c journal actor id outcome o s w at)

pending_live : (t : Table) (actor id : ℕ) (phase : Phase Outcome) → phase_live phase ≡ true → collected_from t actor id (Some phase) ≡ Err take_refusals.Pending
pending_live t actor id Queued e = refl
pending_live t actor id Sent e = refl
pending_live t actor id (Ended o) e = absurd (cc)

pending_to : (c : Connection) (journal : List Entry) (actor id : ℕ) (o : Option (Phase Outcome)) → StandsAs c journal actor id o → collected_from (table_of c journal) actor id o ≡ Err take_refusals.Pending → IsLiveNow c journal actor id
pending_to c journal actor id _ (nowhere none) e = absurd (cc)
pending_to c journal actor id _ (somewhere phase (live h lives unended)) e = (h, unended)
pending_to c journal actor id _ (somewhere phase (over h o is k y)) e =
    let other : collected_from (table_of c journal) actor id (Some phase) ≡ Ok o = ap (λ (f : Phase Outcome). collected_from (table_of c journal) actor id (Some f)) is in
    absurd (cc)

pending_from : (c : Connection) (journal : List Entry) (actor id : ℕ) (o : Option (Phase Outcome)) → IsSettings c.settings → Walked c journal → StandsAs c journal actor id o → IsLiveNow c journal actor id → collected_from (table_of c journal) actor id o ≡ Err take_refusals.Pending
pending_from c journal actor id _ s w (nowhere none) x = absurd (none x.0)
pending_from c journal actor id _ s w (somewhere phase (live h lives unended)) x = pending_live (table_of c journal) actor id phase lives
pending_from c journal actor id _ s w (somewhere phase (over h o is k y)) x = ended_not_live c journal actor id k o.kind x.0 h s w x.1 (outcome_end c journal id h.request k o y)

pub pending : (c : Connection) (journal : List Entry) (actor id : ℕ) → IsSettings c.settings → Walked c journal → (answer_of (collect (table_of c journal) actor id) ≡ Err take_refusals.Pending) ↔ IsLiveNow c journal actor id
pending c journal actor id s w =
    let o = phase_of actor id (table_of c journal).requests in
    let at = stands_as c journal actor id o s w refl in
    (pending_to c journal actor id o at, pending_from c journal actor id o s w at)

some_taken : {Y : Type 0} (t : Table) (actor id : ℕ) (phase : Phase Outcome) → collected_from t actor id (Some phase) ≡ Err take_refusals.NoRequest → Y
some_taken t actor id Queued e = absurd (cc)
some_taken t actor id Sent e = absurd (cc)
some_taken t actor id (Ended o) e = absurd (cc)

missing_to : (c : Connection) (journal : List Entry) (actor id : ℕ) (o : Option (Phase Outcome)) → StandsAs c journal actor id o → collected_from (table_of c journal) actor id o ≡ Err take_refusals.NoRequest → ¬ IsKept journal actor id
missing_to c journal actor id _ (nowhere none) e = none
missing_to c journal actor id _ (somewhere phase n) e = some_taken (table_of c journal) actor id phase e

missing_from : (c : Connection) (journal : List Entry) (actor id : ℕ) (o : Option (Phase Outcome)) → StandsAs c journal actor id o → ¬ IsKept journal actor id → collected_from (table_of c journal) actor id o ≡ Err take_refusals.NoRequest
missing_from c journal actor id _ (nowhere none) h = refl
missing_from c journal actor id _ (somewhere phase n) h = absurd (h (kept_now c journal actor id phase n))

pub unknown_collected : (c : Connection) (journal : List Entry) (actor id : ℕ) → IsSettings c.settings → Walked c journal → (answer_of (collect (table_of c journal) actor id) ≡ Err take_refusals.NoRequest) ↔ ¬ IsKept journal actor id
unknown_collected c journal actor id s w =
    let o = phase_of actor id (table_of c journal).requests in
    let at = stands_as c journal actor id o s w refl in
    (missing_to c journal actor id o at, missing_from c journal actor id o at)
