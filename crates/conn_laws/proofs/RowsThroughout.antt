-- The rows after each number of a legal journal's entries.
use Rattle.std.proofs.Common.{◌≡◌, inl, inr, ℕ, zero, suc, ◌<◌, ◌≤◌, List, [], ◌∷◌, length, take, sym, ap, subst, ◌∙◌, arith, Some}
use Rattle.std.specs.Prelude.{◌↔◌}
use Rattle.std.specs.List.{slice_get}
use Rattle.std.proofs.lemmas.Bool.{cases_lt}
use Rattle.std.proofs.lemmas.List.{take_all}
use Rattle.wire_frames.specs.declared.ends.Outcome.{Outcome}
use Rattle.conn_core.specs.Journals.{Legal, table_of}
use Rattle.conn_core.specs.Places.{Stands, Submitted}
use Rattle.conn_core.specs.Steps.{collect}
use Rattle.conn_core.specs.Tables.{Connection}
use Rattle.conn_core.specs.declared.entries.Answer.{Answer}
use Rattle.conn_core.specs.declared.entries.Answer.TheVariants as answers
use Rattle.conn_core.specs.declared.entries.Entry.{Entry}
use Rattle.conn_core.specs.declared.entries.Event.TheVariants as events
use Rattle.conn_core.proofs.EntryLemmas.{walked_before}
use Rattle.conn_core.proofs.StepLaws.{Walked, legal_walked, took, walked_steps}
use Rattle.conn_laws.specs.RowsKept.{CollectedAt, HasRow}
use Rattle.conn_laws.proofs.RowEffects.{has_row}
use Rattle.conn_laws.proofs.RowsKept.{Facts, accepted_once, facts, not_both}

-- ---- places of a front

front_get : {X : Type 0} (xs : List X) (k j : ℕ) (x : X) → slice_get (take k xs) j ≡ Some x → (j < k) × (slice_get xs j ≡ Some x)
front_get xs zero j x e = absurd (cc)
front_get [] (suc k) j x e = absurd (cc)
front_get (y ∷ ys) (suc k) zero x e = (omega arith, e)
front_get (y ∷ ys) (suc k) (suc j) x e = let rest = front_get ys k j x e in let low = rest.0 in (omega arith, rest.1)

get_front : {X : Type 0} (xs : List X) (k j : ℕ) (x : X) → j < k → slice_get xs j ≡ Some x → slice_get (take k xs) j ≡ Some x
get_front xs zero j x low e = absurd (omega arith)
get_front [] (suc k) j x low e = absurd (cc)
get_front (y ∷ ys) (suc k) zero x low e = e
get_front (y ∷ ys) (suc k) (suc j) x low e = get_front ys k j x (omega arith) e

submitted_front : (journal : List Entry) (k id : ℕ) (r : Submitted journal id) → r.place < k → Submitted (take k journal) id
submitted_front journal k id r low = record {
  place = r.place;
  actor = r.actor;
  lease = r.lease;
  ask = r.ask;
  timeout = r.timeout;
  now = r.now;
  reference = r.reference;
  frame = r.frame;
  stands = get_front journal k r.place _ low r.stands;
}

front_submitted : (journal : List Entry) (k id : ℕ) → Submitted (take k journal) id → (r : Submitted journal id) × (r.place < k)
front_submitted journal k id r =
    let both = front_get journal k r.place _ r.stands in
    (record { place = r.place; actor = r.actor; lease = r.lease; ask = r.ask; timeout = r.timeout; now = r.now; reference = r.reference; frame = r.frame; stands = both.1 }, both.0)

collected_front : (journal : List Entry) (k id j : ℕ) → CollectedAt journal id j → j < k → CollectedAt (take k journal) id j
collected_front journal k id j a low = record { actor = a.actor; kind = a.kind; stands = get_front journal k j _ low a.stands }

front_collected : (journal : List Entry) (k id j : ℕ) → CollectedAt (take k journal) id j → CollectedAt journal id j × (j < k)
front_collected journal k id j a = let both = front_get journal k j _ a.stands in (record { actor = a.actor; kind = a.kind; stands = both.1 }, both.0)

-- ---- after each number of entries

front_facts : (c : Connection) (journal : List Entry) (k : ℕ) → Walked c journal → Facts (take k journal) (table_of c (take k journal))
front_facts c journal k w =
    elim (cases_lt k (length journal)) [
      | inl short ↦ facts c (take k journal) (walked_before c journal k w (omega arith))
      | inr long ↦ (let P : List Entry → Type 0 = λ xs. Facts xs (table_of c xs) in subst P (sym (take_all k journal long)) (facts c journal w))
    ]

collected_later : (c : Connection) (journal : List Entry) (id k j : ℕ) → Facts (take k journal) (table_of c (take k journal)) → HasRow (table_of c (take k journal)) id → CollectedAt journal id j → k ≤ j
collected_later c journal id k j f has a =
    elim (cases_lt j k) [
      | inl before ↦ not_both (has_row id (table_of c (take k journal))) has (f.gone id j (collected_front journal k id j a before))
      | inr later ↦ later
    ]

has_still : (c : Connection) (journal : List Entry) (id k : ℕ) (r : Submitted journal id) → Facts (take k journal) (table_of c (take k journal)) → r.place < k → ((j : ℕ) → CollectedAt journal id j → k ≤ j) → HasRow (table_of c (take k journal)) id
has_still c journal id k r f low later =
    elim (f.kept id (submitted_front journal k id r low)) [
      | inl has ↦ has
      | inr was ↦ let before = front_collected journal k id was.0 was.1 in let under = before.1 in let over = later was.0 before.0 in absurd (omega arith)
    ]

pub throughout : (c : Connection) (journal : List Entry) (id k : ℕ) (r : Submitted journal id) → Legal c journal → HasRow (table_of c (take k journal)) id ↔ ((r.place < k) × ((j : ℕ) → CollectedAt journal id j → k ≤ j))
throughout c journal id k r legal =
    let f = front_facts c journal k (legal_walked c journal legal) in (
      λ has.
          let other = front_submitted journal k id (f.only id has) in
          let same = accepted_once c journal id r other.0 legal in
          let low = other.1 in
          (omega arith, λ j a. collected_later c journal id k j f has a),
      λ both. has_still c journal id k r f both.0 both.1,
    )

-- ---- each Collect collects

pub collects : (c : Connection) (journal : List Entry) (id k actor : ℕ) (answer : Answer) → Legal c journal → Stands journal k actor (events.Collect id) answer → CollectedAt journal id k
collects c journal id k actor answer legal at =
    let steps = walked_steps c journal (legal_walked c journal legal) in
    let took_it = took (λ (o : Outcome). answers.Collected o.kind) (collect (table_of c (take k journal)) actor id) _ answer (steps k _ at) in
    record {
      actor = actor;
      kind = took_it.given.kind;
      stands = at ∙ ap (λ (a : Answer). let x : Entry = record { actor = actor; event = events.Collect id; answer = a } in Some x) (sym took_it.told);
    }
