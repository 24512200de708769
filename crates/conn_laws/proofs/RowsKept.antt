-- The rows of any legal journal's table, by its entries one after another.
use Rattle.std.proofs.Common.{◌≡◌, ◌⊎◌, inl, inr, ℕ, ◌+◌, ◌<◌, ◌≤◌, Bool, true, false, List, [], ◌∷◌, ◌++◌, length, refl, sym, ap, subst, ◌∙◌, arith, Some}
use Rattle.std.specs.List.{slice_get}
use Rattle.txn_core.specs.RowLaws.{one}
use Rattle.conn_core.specs.Entries.{is_submit}
use Rattle.conn_core.specs.Journals.{Legal, table_of}
use Rattle.conn_core.specs.Places.{Submitted}
use Rattle.conn_core.specs.Steps.{step}
use Rattle.conn_core.specs.Tables.{Connection, Table}
use Rattle.conn_core.specs.declared.entries.Answer.{Answer}
use Rattle.conn_core.specs.declared.entries.Entry.{Entry}
use Rattle.conn_core.specs.declared.entries.Event.{Event}
use Rattle.conn_core.proofs.RowPlaces.{submitted_low, submitted_more}
use Rattle.conn_core.proofs.StepLaws.{Walked, begun, follows, get_place, legal_walked, walk_law, walked}
use Rattle.conn_core.proofs.TurnLemmas.{get_last, get_more, table_more}
use Rattle.conn_laws.specs.RowsKept.{CollectedAt, HasRow, WasCollected}
use Rattle.conn_laws.proofs.RowEffects.{Accepts, Collects, Effect, effect, has_row}

-- what a journal's places and the rows of its table say of each other
pub record Facts (journal : List Entry) (t : Table) : Type 0 where
  pub kept : (id : ℕ) → Submitted journal id → HasRow t id ⊎ WasCollected journal id
  pub gone : (id k : ℕ) → CollectedAt journal id k → has_row id t ≡ false
  pub only : (id : ℕ) → HasRow t id → Submitted journal id
  pub low : (id : ℕ) → Submitted journal id → id ≤ t.requests.drawn
  pub accepted_once : (id : ℕ) (a b : Submitted journal id) → a.place ≡ b.place
  pub collected_once : (id j k : ℕ) → CollectedAt journal id j → CollectedAt journal id k → j ≡ k
  pub collected_behind : (id k : ℕ) → CollectedAt journal id k → (r : Submitted journal id) × (r.place < k)

-- ---- one entry more

collected_more : (journal : List Entry) (e : Entry) (id k : ℕ) → CollectedAt journal id k → CollectedAt (journal ++ e ∷ []) id k
collected_more journal e id k c = record { actor = c.actor; kind = c.kind; stands = get_more journal (e ∷ []) k _ c.stands }

was_more : (journal : List Entry) (e : Entry) (id : ℕ) → WasCollected journal id → WasCollected (journal ++ e ∷ []) id
was_more journal e id w = (w.0, collected_more journal e id w.0 w.1)

-- a request that was accepted before, or by the new entry
old_or_new : (journal : List Entry) (e : Entry) (id : ℕ) (r : Submitted (journal ++ e ∷ []) id) → ((old : Submitted journal id) × (old.place ≡ r.place)) ⊎ ((r.place ≡ length journal) × Accepts e id)
old_or_new journal e id r =
    elim (get_place journal e _ r.place r.stands) [
      | inl both ↦ inl (record { place = r.place; actor = r.actor; lease = r.lease; ask = r.ask; timeout = r.timeout; now = r.now; reference = r.reference; frame = r.frame; stands = both.1 }, refl)
      | inr both ↦ inr (
        both.0,
        record {
          lease = r.lease;
          ask = r.ask;
          timeout = r.timeout;
          now = r.now;
          reference = r.reference;
          frame = r.frame;
          event = ap (λ (x : Entry). x.event) both.1;
          answer = ap (λ (x : Entry). x.answer) both.1;
        },
      )
    ]

collected_old_or_new : (journal : List Entry) (e : Entry) (id k : ℕ) → CollectedAt (journal ++ e ∷ []) id k → CollectedAt journal id k ⊎ ((k ≡ length journal) × Collects e id)
collected_old_or_new journal e id k c =
    elim (get_place journal e _ k c.stands) [
      | inl both ↦ inl (record { actor = c.actor; kind = c.kind; stands = both.1 })
      | inr both ↦ inr (both.0, record { kind = c.kind; event = ap (λ (x : Entry). x.event) both.1; answer = ap (λ (x : Entry). x.answer) both.1 })
    ]

entry_is : (e : Entry) (event : Event) (answer : Answer) → e.event ≡ event → e.answer ≡ answer → (let x : Entry = record { actor = e.actor; event = event; answer = answer } in Some e ≡ Some x)
entry_is e event answer one two =
    ap (λ (y : Event). let x : Entry = record { actor = e.actor; event = y; answer = e.answer } in Some x) one
    ∙ ap (λ (y : Answer). let x : Entry = record { actor = e.actor; event = event; answer = y } in Some x) two

submitted_now : (journal : List Entry) (e : Entry) (id : ℕ) → Accepts e id → Submitted (journal ++ e ∷ []) id
submitted_now journal e id a = record {
  place = length journal;
  actor = e.actor;
  lease = a.lease;
  ask = a.ask;
  timeout = a.timeout;
  now = a.now;
  reference = a.reference;
  frame = a.frame;
  stands = get_last journal e ∙ entry_is e _ _ a.event a.answer;
}

collected_now : (journal : List Entry) (e : Entry) (id : ℕ) → Collects e id → CollectedAt (journal ++ e ∷ []) id (length journal)
collected_now journal e id c = record { actor = e.actor; kind = c.kind; stands = get_last journal e ∙ entry_is e _ _ c.event c.answer }

-- ---- what the entry leaves

-- a step with what it draws
record Goes (t : Table) (e : Entry) (u : Table) : Type 0 where
  effects : Effect t e u
  drawn : u.requests.drawn ≡ t.requests.drawn + one (is_submit e.event)

one_of_submit : (e : Entry) (id : ℕ) → Accepts e id → one (is_submit e.event) ≡ 1
one_of_submit e id a = ap (λ x. one (is_submit x)) a.event

-- no id is accepted twice
apart : {Y : Type 0} (journal : List Entry) (t : Table) (e : Entry) (u : Table) (id : ℕ) → Facts journal t → Goes t e u → Submitted journal id → Accepts e id → Y
apart journal t e u id f g r a =
    let low = f.low id r in
    let is = (g.effects.accepts id a).0 in
    absurd (omega arith)

pub not_both : {Y : Type 0} (b : Bool) → b ≡ true → b ≡ false → Y
not_both true one two = absurd (cc)
not_both false one two = absurd (cc)

kept_more : (journal : List Entry) (t : Table) (e : Entry) (u : Table) → Facts journal t → Goes t e u → (id : ℕ) → Submitted (journal ++ e ∷ []) id → HasRow u id ⊎ WasCollected (journal ++ e ∷ []) id
kept_more journal t e u f g id r =
    elim (old_or_new journal e id r) [
      | inl old ↦ elim (f.kept id old.0) [
        | inl has ↦ elim (g.effects.stays_on id has) [ inl still ↦ inl still | inr now ↦ inr (length journal, collected_now journal e id now) ]
        | inr was ↦ inr (was_more journal e id was)
      ]
      | inr new ↦ inl (g.effects.accepts id new.1).1
    ]

no_row : (journal : List Entry) (t : Table) (e : Entry) (u : Table) → Facts journal t → Goes t e u → (id k : ℕ) → CollectedAt journal id k → (b : Bool) → has_row id u ≡ b → b ≡ false
no_row journal t e u f g id k c false is = refl
no_row journal t e u f g id k c true is =
    elim (g.effects.comes id is) [
      | inl before ↦ not_both (has_row id t) before (f.gone id k c)
      | inr new ↦ apart journal t e u id f g (f.collected_behind id k c).0 new
    ]

gone_more : (journal : List Entry) (t : Table) (e : Entry) (u : Table) → Facts journal t → Goes t e u → (id k : ℕ) → CollectedAt (journal ++ e ∷ []) id k → has_row id u ≡ false
gone_more journal t e u f g id k c =
    elim (collected_old_or_new journal e id k c) [
      | inl old ↦ no_row journal t e u f g id k old (has_row id u) refl
      | inr new ↦ (g.effects.collects id new.1).1
    ]

only_more : (journal : List Entry) (t : Table) (e : Entry) (u : Table) → Facts journal t → Goes t e u → (id : ℕ) → HasRow u id → Submitted (journal ++ e ∷ []) id
only_more journal t e u f g id has =
    elim (g.effects.comes id has) [
      | inl before ↦ submitted_more journal e id (f.only id before)
      | inr new ↦ submitted_now journal e id new
    ]

low_more : (journal : List Entry) (t : Table) (e : Entry) (u : Table) → Facts journal t → Goes t e u → (id : ℕ) → Submitted (journal ++ e ∷ []) id → id ≤ u.requests.drawn
low_more journal t e u f g id r =
    let drawn = g.drawn in
    elim (old_or_new journal e id r) [
      | inl old ↦ let low = f.low id old.0 in omega arith
      | inr new ↦ let is = (g.effects.accepts id new.1).0 in let more = one_of_submit e id new.1 in omega arith
    ]

accepted_once_more : (journal : List Entry) (t : Table) (e : Entry) (u : Table) → Facts journal t → Goes t e u → (id : ℕ) (a b : Submitted (journal ++ e ∷ []) id) → a.place ≡ b.place
accepted_once_more journal t e u f g id a b =
    elim (old_or_new journal e id a) [
      | inl old ↦ elim (old_or_new journal e id b) [
        | inl other ↦ sym old.1 ∙ f.accepted_once id old.0 other.0 ∙ other.1
        | inr new ↦ apart journal t e u id f g old.0 new.1
      ]
      | inr new ↦ elim (old_or_new journal e id b) [
        | inl other ↦ apart journal t e u id f g other.0 new.1
        | inr again ↦ new.0 ∙ sym again.0
      ]
    ]

-- no id is collected twice
apart_collected : {Y : Type 0} (journal : List Entry) (t : Table) (e : Entry) (u : Table) (id k : ℕ) → Facts journal t → Goes t e u → CollectedAt journal id k → Collects e id → Y
apart_collected journal t e u id k f g old new = not_both (has_row id t) (g.effects.collects id new).0 (f.gone id k old)

collected_once_more : (journal : List Entry) (t : Table) (e : Entry) (u : Table) → Facts journal t → Goes t e u → (id j k : ℕ) → CollectedAt (journal ++ e ∷ []) id j → CollectedAt (journal ++ e ∷ []) id k → j ≡ k
collected_once_more journal t e u f g id j k a b =
    elim (collected_old_or_new journal e id j a) [
      | inl old ↦ elim (collected_old_or_new journal e id k b) [
        | inl other ↦ f.collected_once id j k old other
        | inr new ↦ apart_collected journal t e u id j f g old new.1
      ]
      | inr new ↦ elim (collected_old_or_new journal e id k b) [
        | inl other ↦ apart_collected journal t e u id k f g other new.1
        | inr again ↦ new.0 ∙ sym again.0
      ]
    ]

behind_more : (journal : List Entry) (t : Table) (e : Entry) (u : Table) → Facts journal t → Goes t e u → (id k : ℕ) → CollectedAt (journal ++ e ∷ []) id k → (r : Submitted (journal ++ e ∷ []) id) × (r.place < k)
behind_more journal t e u f g id k c =
    elim (collected_old_or_new journal e id k c) [
      | inl old ↦ let before = f.collected_behind id k old in (submitted_more journal e id before.0, before.1)
      | inr new ↦ (
          let r = f.only id (g.effects.collects id new.1).0 in
          let low = submitted_low journal id r in
          let here = new.0 in
          (submitted_more journal e id r, omega arith))
    ]

facts_more : (journal : List Entry) (t : Table) (e : Entry) (u : Table) → Facts journal t → Goes t e u → Facts (journal ++ e ∷ []) u
facts_more journal t e u f g = record {
  kept = kept_more journal t e u f g;
  gone = gone_more journal t e u f g;
  only = only_more journal t e u f g;
  low = low_more journal t e u f g;
  accepted_once = accepted_once_more journal t e u f g;
  collected_once = collected_once_more journal t e u f g;
  collected_behind = behind_more journal t e u f g;
}

-- ---- the walk

nowhere : {Y : Type 0} (k : ℕ) (e : Entry) → slice_get [] k ≡ Some e → Y
nowhere k e at = absurd (cc)

opening_facts : (c : Connection) → Facts [] (table_of c [])
unfolding table_of
opening_facts c = record {
  kept = λ id r. nowhere r.place _ r.stands;
  gone = λ id k a. refl;
  only = λ id has. absurd (cc);
  low = λ id r. nowhere r.place _ r.stands;
  accepted_once = λ id a b. nowhere a.place _ a.stands;
  collected_once = λ id j k a b. nowhere j _ a.stands;
  collected_behind = λ id k a. nowhere k _ a.stands;
}

goes : (c : Connection) (journal : List Entry) (e : Entry) (u : Table) → Walked c journal → step c (table_of c journal) e.actor e.event ≡ Some (u, e.answer) → Goes (table_of c journal) e u
goes c journal e u before stepped = record {
  effects = effect c (table_of c journal) u e.actor e.event e.answer (walk_law c journal before).within.ids stepped;
  drawn = (follows c (table_of c journal) u e.actor e.event e.answer stepped).requests;
}

pub facts : (c : Connection) (journal : List Entry) → Walked c journal → Facts journal (table_of c journal)
facts c _ begun = opening_facts c
facts c _ (walked journal e u before stepped) =
    let P : Table → Type 0 = Facts (journal ++ e ∷ []) in
    subst P (sym (table_more c journal e u stepped)) (facts_more journal (table_of c journal) e u (facts c journal before) (goes c journal e u before stepped))

legal_facts : (c : Connection) (journal : List Entry) → Legal c journal → Facts journal (table_of c journal)
legal_facts c journal legal = facts c journal (legal_walked c journal legal)

-- ---- the law

pub kept : (c : Connection) (journal : List Entry) (id : ℕ) → Legal c journal → Submitted journal id → HasRow (table_of c journal) id ⊎ WasCollected journal id
kept c journal id legal r = (legal_facts c journal legal).kept id r

pub gone : (c : Connection) (journal : List Entry) (id : ℕ) → Legal c journal → WasCollected journal id → ¬ HasRow (table_of c journal) id
gone c journal id legal was has = not_both (has_row id (table_of c journal)) has ((legal_facts c journal legal).gone id was.0 was.1)

pub only : (c : Connection) (journal : List Entry) (id : ℕ) → Legal c journal → HasRow (table_of c journal) id → Submitted journal id
only c journal id legal has = (legal_facts c journal legal).only id has

pub accepted_once : (c : Connection) (journal : List Entry) (id : ℕ) (a b : Submitted journal id) → Legal c journal → a.place ≡ b.place
accepted_once c journal id a b legal = (legal_facts c journal legal).accepted_once id a b

pub collected_once : (c : Connection) (journal : List Entry) (id j k : ℕ) → Legal c journal → CollectedAt journal id j → CollectedAt journal id k → j ≡ k
collected_once c journal id j k legal a b = (legal_facts c journal legal).collected_once id j k a b

pub collected_behind : (c : Connection) (journal : List Entry) (id k : ℕ) → Legal c journal → CollectedAt journal id k → (r : Submitted journal id) × (r.place < k)
collected_behind c journal id k legal a = (legal_facts c journal legal).collected_behind id k a
