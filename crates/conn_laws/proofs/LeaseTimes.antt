-- Held leases over a walk: each outlasts the ticks since it was set, and a live row's lease is its actor's.
use Rattle.std.proofs.Common.{◌≡◌, inl, inr, ℕ, zero, suc, ◌+◌, ◌<◌, ◌≤◌, true, List, [], ◌∷◌, ◌++◌, length, take, refl, sym, ap, subst, ◌∙◌, arith, Some}
use Rattle.std.specs.Prelude.{◌==◌}
use Rattle.std.specs.List.{list_any}
use Rattle.std.proofs.lemmas.Bool.{and_parts, cases_lt, eq-eqb, eqb-true}
use Rattle.lease_core.specs.LeaseTables.{Lease, LeaseTable, has_number, is_lease_of}
use Rattle.txn_core.specs.RowTables.{Row, is_live}
use Rattle.wire_frames.specs.declared.asks.Ask.{Ask}
use Rattle.wire_frames.specs.declared.ends.Outcome.{Outcome}
use Rattle.conn_core.specs.Journals.{table_of}
use Rattle.conn_core.specs.LeasePlaces.{held_after, leases_after, leases_of}
use Rattle.conn_core.specs.Places.{Stands, Submitted}
use Rattle.conn_core.specs.Steps.{Request, Started, step, submit}
use Rattle.conn_core.specs.Tables.{Connection, Handed, IsSettings, Table, holds}
use Rattle.conn_core.specs.declared.entries.Answer.{Answer}
use Rattle.conn_core.specs.declared.entries.Answer.TheVariants as answers
use Rattle.conn_core.specs.declared.entries.Entry.{Entry}
use Rattle.conn_core.specs.declared.entries.Event.TheVariants as events
use Rattle.conn_core.proofs.RowLaws.{Known, known}
use Rattle.conn_core.proofs.RowPlaces.{submitted_low}
use Rattle.conn_core.proofs.StepLaws.{Walked, begun, follows, get_place, queues, take_more, take_whole, took, walk_law, walked}
use Rattle.conn_core.proofs.TurnLemmas.{table_more}
use Rattle.conn_laws.proofs.Fates.{came}
use Rattle.conn_laws.proofs.LeaseFates.{HeldFrom, WaitsFrom, asks, fresh, held_after_entry, held_drawn, held_not_waiting, held_one, kept, still, waited, waits_after_entry}
use Rattle.conn_laws.proofs.Members.{In, any_in, in_any}
use Rattle.conn_laws.proofs.RowEffects.{Accepts, effect}
use Rattle.conn_laws.proofs.RowsKept.{facts}
use Rattle.conn_laws.proofs.Standing.{came_live, last_is, longer, older, row_law, step_as}

abbrev pub held_at : Connection → List Entry → ℕ → List Lease
held_at c journal k = held_after c.settings (take k journal)

pub record LeaseStanding (c : Connection) (journal : List Entry) : Type 0 where
  -- the number of a waiter was held at no time, and no number is above those that were drawn
  pub unheld : (x : Lease) → In x (leases_of c.settings journal).waiting → (k : ℕ) (y : Lease) → k ≤ length journal → In y (held_at c journal k) → y.number ≡ x.number → ⊥
  pub drawn : (k : ℕ) (y : Lease) → k ≤ length journal → In y (held_at c journal k) → y.number ≤ (leases_of c.settings journal).drawn
  -- a held lease outlasts each tick at which it was held
  pub in_time : (x : Lease) → In x (leases_of c.settings journal).held → (k actor now : ℕ) (answer : Answer) (y : Lease) → Stands journal k actor (events.Tick now) answer → In y (held_at c journal k) → y.number ≡ x.number → now < x.deadline

-- one entry more
record Going (c : Connection) (journal : List Entry) (t : Table) (e : Entry) (u : Table) : Type 0 where
  before : Known c journal t
  after : Known c (journal ++ e ∷ []) u
  leases : LeaseStanding c journal
  stepped : step c t e.actor e.event ≡ Some (u, e.answer)

grown : (c : Connection) (journal : List Entry) (t : Table) (e : Entry) (u : Table) → Going c journal t e u → leases_of c.settings (journal ++ e ∷ []) ≡ leases_after u.clock (leases_of c.settings journal) e
grown c journal t e u g =
    let f = follows c t u e.actor e.event e.answer g.stepped in
    sym g.after.law.leases ∙ f.leases ∙ ap (λ (l : LeaseTable). leases_after u.clock l e) g.before.law.leases

more_drawn : (c : Connection) (journal : List Entry) (t : Table) (e : Entry) (u : Table) → Going c journal t e u → (leases_of c.settings journal).drawn ≤ (leases_of c.settings (journal ++ e ∷ [])).drawn
more_drawn c journal t e u g =
    let f = follows c t u e.actor e.event e.answer g.stepped in
    let was : t.leases.drawn ≡ (leases_of c.settings journal).drawn = ap (λ (l : LeaseTable). l.drawn) g.before.law.leases in
    let now : u.leases.drawn ≡ (leases_of c.settings (journal ++ e ∷ [])).drawn = ap (λ (l : LeaseTable). l.drawn) g.after.law.leases in
    let more = f.asks in
    omega arith

was_held : (c : Connection) (journal : List Entry) (e : Entry) (k : ℕ) (y : Lease) → k ≤ length journal → In y (held_at c (journal ++ e ∷ []) k) → In y (held_at c journal k)
was_held c journal e k y low h = let P : List Entry → Type 0 = λ xs. In y (held_after c.settings xs) in subst P (take_more journal e k low) h

held_now : (c : Connection) (journal : List Entry) (e : Entry) (k : ℕ) (y : Lease) → k ≡ length journal + 1 → In y (held_at c (journal ++ e ∷ []) k) → In y (leases_of c.settings (journal ++ e ∷ [])).held
held_now c journal e k y is h =
    let long = longer journal e in
    let P : List Entry → Type 0 = λ xs. In y (held_after c.settings xs) in
    subst P (take_whole (journal ++ e ∷ []) k (omega arith)) h

held_of : (c : Connection) (journal : List Entry) (t : Table) (e : Entry) (u : Table) → Going c journal t e u → (x : Lease) → In x (leases_of c.settings (journal ++ e ∷ [])).held → HeldFrom (leases_of c.settings journal) e x
held_of c journal t e u g x h = let P : LeaseTable → Type 0 = λ l. In x l.held in held_after_entry u.clock (leases_of c.settings journal) e x (subst P (grown c journal t e u g) h)

waits_of : (c : Connection) (journal : List Entry) (t : Table) (e : Entry) (u : Table) → Going c journal t e u → (x : Lease) → In x (leases_of c.settings (journal ++ e ∷ [])).waiting → WaitsFrom (leases_of c.settings journal) x
waits_of c journal t e u g x h = let P : LeaseTable → Type 0 = λ l. In x l.waiting in waits_after_entry u.clock (leases_of c.settings journal) e x (subst P (grown c journal t e u g) h)

-- the leases after the entry are lawful
to_table : (c : Connection) (journal : List Entry) (u : Table) (y : Lease) → Known c journal u → In y (leases_of c.settings journal).held → In y u.leases.held
to_table c journal u y k h = let P : LeaseTable → Type 0 = λ l. In y l.held in subst P (sym k.law.leases) h

drawn_more : (c : Connection) (journal : List Entry) (t : Table) (e : Entry) (u : Table) → Going c journal t e u → (k : ℕ) (y : Lease) → k ≤ length (journal ++ e ∷ []) → In y (held_at c (journal ++ e ∷ []) k) → y.number ≤ (leases_of c.settings (journal ++ e ∷ [])).drawn
drawn_more c journal t e u g k y low h =
    let long = longer journal e in
    elim (cases_lt k (length journal + 1)) [
      | inl before ↦ (
          let few = g.leases.drawn k y (omega arith) (was_held c journal e k y (omega arith) h) in
          let more = more_drawn c journal t e u g in
          omega arith)
      | inr last ↦ (
          let few = held_drawn u.leases y g.after.lawful (to_table c (journal ++ e ∷ []) u y g.after (held_now c journal e k y (omega arith) h)) in
          let same : u.leases.drawn ≡ (leases_of c.settings (journal ++ e ∷ [])).drawn = ap (λ (l : LeaseTable). l.drawn) g.after.law.leases in
          omega arith)
    ]

unheld_before : (c : Connection) (journal : List Entry) (x : Lease) (k : ℕ) (y : Lease) → LeaseStanding c journal → WaitsFrom (leases_of c.settings journal) x → k ≤ length journal → In y (held_at c journal k) → y.number ≡ x.number → ⊥
unheld_before c journal x k y s (still h) low there same = s.unheld x h k y low there same
unheld_before c journal x k y s (asks is) low there same = let few = s.drawn k y low there in absurd (omega arith)

unheld_more : (c : Connection) (journal : List Entry) (t : Table) (e : Entry) (u : Table) → Going c journal t e u → (x : Lease) → In x (leases_of c.settings (journal ++ e ∷ [])).waiting → (k : ℕ) (y : Lease) → k ≤ length (journal ++ e ∷ []) → In y (held_at c (journal ++ e ∷ []) k) → y.number ≡ x.number → ⊥
unheld_more c journal t e u g x h k y low there same =
    let long = longer journal e in
    elim (cases_lt k (length journal + 1)) [
      | inl before ↦ unheld_before c journal x k y g.leases (waits_of c journal t e u g x h) (omega arith) (was_held c journal e k y (omega arith) there) same
      | inr last ↦ (
          let P : LeaseTable → Type 0 = λ l. In x l.waiting in
          held_not_waiting u.leases y x g.after.lawful (to_table c (journal ++ e ∷ []) u y g.after (held_now c journal e k y (omega arith) there)) (subst P (sym g.after.law.leases) h) same)
    ]

-- a lease with a number that was held before was held and stays, whatever comes
in_time_by : (c : Connection) (journal : List Entry) (e : Entry) (x : Lease) (k now : ℕ) (y : Lease) → LeaseStanding c journal → k ≤ length journal → In y (held_at c journal k) → y.number ≡ x.number → (In x (leases_of c.settings journal).held → now < x.deadline) → HeldFrom (leases_of c.settings journal) e x → now < x.deadline
in_time_by c journal e x k now y s low there same old (kept h f) = old h
in_time_by c journal e x k now y s low there same old (waited z h is) = absurd (s.unheld z h k y low there (same ∙ sym is))
in_time_by c journal e x k now y s low there same old (fresh is) = let few = s.drawn k y low there in absurd (omega arith)

in_time_now : (c : Connection) (journal : List Entry) (e : Entry) (x : Lease) (k now : ℕ) (y : Lease) → LeaseStanding c journal → k ≤ length journal → In y (held_at c journal k) → y.number ≡ x.number → e.event ≡ events.Tick now → HeldFrom (leases_of c.settings journal) e x → now < x.deadline
in_time_now c journal e x k now y s low there same event (kept h f) = f now event
in_time_now c journal e x k now y s low there same event (waited z h is) = absurd (s.unheld z h k y low there (same ∙ sym is))
in_time_now c journal e x k now y s low there same event (fresh is) = let few = s.drawn k y low there in absurd (omega arith)

in_time_more : (c : Connection) (journal : List Entry) (t : Table) (e : Entry) (u : Table) → Going c journal t e u → (x : Lease) → In x (leases_of c.settings (journal ++ e ∷ [])).held → (k actor now : ℕ) (answer : Answer) (y : Lease) → Stands (journal ++ e ∷ []) k actor (events.Tick now) answer → In y (held_at c (journal ++ e ∷ []) k) → y.number ≡ x.number → now < x.deadline
in_time_more c journal t e u g x h k actor now answer y at there same =
    let from = held_of c journal t e u g x h in
    elim (get_place journal e _ k at) [
      | inl both ↦ (
          let low = both.0 in
          let old = was_held c journal e k y (omega arith) there in
          in_time_by c journal e x k now y g.leases (omega arith) old same (λ held. g.leases.in_time x held k actor now answer y both.1 old same) from)
      | inr both ↦ (
          let is = both.0 in
          in_time_now c journal e x k now y g.leases (omega arith) (was_held c journal e k y (omega arith) there) same (ap (λ (z : Entry). z.event) both.1) from)
    ]

take_none : (k : ℕ) → (let none : List Entry = [] in take k none ≡ none)
take_none zero = refl
take_none (suc k) = refl

no_lease : {Y : Type 0} (c : Connection) (k : ℕ) (y : Lease) → In y (held_at c [] k) → Y
no_lease c k y there = let P : List Entry → Type 0 = λ xs. In y (held_after c.settings xs) in absurd (subst P (take_none k) there)

opening_leases : (c : Connection) → LeaseStanding c []
opening_leases c = record {
  unheld = λ x h k y low there same. absurd h;
  drawn = λ k y low there. no_lease c k y there;
  in_time = λ x h k actor now answer y at there same. absurd h;
}

pub leases_stand : (c : Connection) (journal : List Entry) → IsSettings c.settings → Walked c journal → LeaseStanding c journal
leases_stand c _ s begun = opening_leases c
leases_stand c _ s (walked journal e u before stepped) =
    let is = table_more c journal e u stepped in
    let P : Table → Type 0 = Known c (journal ++ e ∷ []) in
    let g : Going c journal (table_of c journal) e u = record {
      before = known c journal s before;
      after = subst P is (known c (journal ++ e ∷ []) s (walked journal e u before stepped));
      leases = leases_stand c journal s before;
      stepped = stepped;
    } in
    record {
      unheld = unheld_more c journal (table_of c journal) e u g;
      drawn = drawn_more c journal (table_of c journal) e u g;
      in_time = in_time_more c journal (table_of c journal) e u g;
    }

-- ---- a live row's lease is its actor's

pub record Holder (l : LeaseTable) (row : Row Handed Outcome) : Type 0 where
  pub lease : Lease
  pub held : In lease l.held
  pub number : lease.number ≡ row.lease
  pub own : lease.owner ≡ row.owner

abbrev pub Holders : Table → Type 0
Holders t = (row : Row Handed Outcome) → In row t.requests.rows → is_live row ≡ true → Holder t.leases row

-- the lease of a row that was live is the one that is held still
still_holds : (c : Connection) (journal : List Entry) (t : Table) (e : Entry) (u : Table) → Going c journal t e u → (row next : Row Handed Outcome) → Holder t.leases row → next.lease ≡ row.lease → next.owner ≡ row.owner → (x : Lease) → In x u.leases.held → x.number ≡ next.lease → HeldFrom t.leases e x → Holder u.leases next
still_holds c journal t e u g row next old lease owner x here number (kept h f) =
    let one_lease = held_one t.leases x old.lease g.before.lawful h old.held (number ∙ lease ∙ sym old.number) in
    record { lease = x; held = here; number = number; own = ap (λ (y : Lease). y.owner) one_lease ∙ old.own ∙ sym owner }
still_holds c journal t e u g row next old lease owner x here number (waited y h is) =
    held_not_waiting t.leases old.lease y g.before.lawful old.held h (old.number ∙ sym lease ∙ sym number ∙ sym is)
still_holds c journal t e u g row next old lease owner x here number (fresh is) =
    let few = held_drawn t.leases old.lease g.before.lawful old.held in
    let same = old.number in
    absurd (omega arith)

-- a new row's lease is held by the actor that handed the request in
new_holds : (c : Connection) (t u : Table) (actor lease : ℕ) (ask : Ask) (timeout now : ℕ) (answer : Answer) → step c t actor (events.Submit lease ask timeout now) ≡ Some (u, answer) → (holds actor lease t ≡ true) × (u.leases ≡ t.leases)
new_holds c t u actor lease ask timeout now answer e =
    let q : Request = record { actor = actor; lease = lease; ask = ask; timeout = timeout; moment = now } in
    let took_it = took (λ (s : Started). answers.Accepted s.id s.reference s.frame) (submit c.wire t q) u answer e in
    let queued = queues c.wire t q u took_it.given took_it.is in
    (queued.holding, ap (λ (x : Table). x.leases) queued.table)

holder_of : (actor number : ℕ) (xs : List Lease) → list_any (is_lease_of actor number) xs ≡ true → (x : Lease) × In x xs × (x.number ≡ number) × (x.owner ≡ actor)
holder_of actor number xs e =
    let x = in_any (is_lease_of actor number) xs e in
    let both = and_parts (has_number number x.0) (x.0.owner == actor) x.2 in
    (x.0, x.1, eqb-true x.0.number number both.0, eqb-true x.0.owner actor both.1)

-- the row that the entry adds
added_holds : (c : Connection) (journal : List Entry) (t : Table) (e : Entry) (u : Table) → Going c journal t e u → (next : Row Handed Outcome) → In next u.requests.rows → Accepts e next.id → ((r : Submitted (journal ++ e ∷ []) next.id) → r.place ≡ length journal) → Holder u.leases next
added_holds c journal t e u g next here a place =
    let law = (row_law c (journal ++ e ∷ []) u next g.after here).law in
    let r = law.request in
    let at_end = place r in
    let stepped = step_as c t u e _ (last_is journal e _ r.place r.stands (omega arith)) g.stepped in
    let both = new_holds c t u r.actor r.lease r.ask r.timeout r.now (answers.Accepted next.id r.reference r.frame) stepped in
    let x = holder_of r.actor r.lease t.leases.held both.0 in
    let P : LeaseTable → Type 0 = λ l. In x.0 l.held in
    record { lease = x.0; held = subst P (sym both.1) x.1; number = x.2 ∙ law.lease; own = x.3 ∙ law.actor }

holder_next : (c : Connection) (journal : List Entry) (t : Table) (e : Entry) (u : Table) → Going c journal t e u → Holders t → ((next : Row Handed Outcome) → Accepts e next.id → (r : Submitted (journal ++ e ∷ []) next.id) → r.place ≡ length journal) → Holders u
holder_next c journal t e u g old place = λ next here live.
    let f = follows c t u e.actor e.event e.answer g.stepped in
    elim (came_live t e next (came c t u e.actor e.event e.answer g.stepped next here) live) [
      | inl was ↦ (
          let held = (row_law c (journal ++ e ∷ []) u next g.after here).held live in
          let x = in_any (has_number next.lease) u.leases.held held in
          let P : LeaseTable → Type 0 = λ l. In x.0 l.held in
          let from = held_after_entry u.clock t.leases e x.0 (subst P f.leases x.1) in
          still_holds c journal t e u g was.row next (old was.row was.here was.live) was.kin.lease was.kin.owner x.0 x.1 (eqb-true x.0.number next.lease x.2) from)
      | inr new ↦ added_holds c journal t e u g next here new (place next new)
    ]

no_rows : (c : Connection) → Holders (table_of c [])
unfolding table_of
no_rows c = λ row here live. absurd here

new_place : (c : Connection) (journal : List Entry) (e : Entry) (u : Table) → Walked c journal → step c (table_of c journal) e.actor e.event ≡ Some (u, e.answer) → (next : Row Handed Outcome) → Accepts e next.id → (r : Submitted (journal ++ e ∷ []) next.id) → r.place ≡ length journal
new_place c journal e u before stepped next a r =
    let long = longer journal e in
    let under = submitted_low (journal ++ e ∷ []) next.id r in
    elim (cases_lt r.place (length journal)) [
      | inl low ↦ (
          let f = facts c journal before in
          let old = older journal e next.id r low in
          let few = f.low next.id old.0 in
          let is = ((effect c (table_of c journal) u e.actor e.event e.answer (walk_law c journal before).within.ids stepped).accepts next.id a).0 in
          absurd (omega arith))
      | inr high ↦ omega arith
    ]

pub holders : (c : Connection) (journal : List Entry) → IsSettings c.settings → Walked c journal → Holders (table_of c journal)
holders c _ s begun = no_rows c
holders c _ s (walked journal e u before stepped) =
    let is = table_more c journal e u stepped in
    let P : Table → Type 0 = Known c (journal ++ e ∷ []) in
    let g : Going c journal (table_of c journal) e u = record {
      before = known c journal s before;
      after = subst P is (known c (journal ++ e ∷ []) s (walked journal e u before stepped));
      leases = leases_stand c journal s before;
      stepped = stepped;
    } in
    let Q : Table → Type 0 = Holders in
    subst Q (sym is) (holder_next c journal (table_of c journal) e u g (holders c journal s before) (new_place c journal e u before stepped))

-- the lease as a test of the table
pub holder_test : (l : LeaseTable) (row : Row Handed Outcome) → Holder l row → list_any (is_lease_of row.owner row.lease) l.held ≡ true
holder_test l row h = any_in (is_lease_of row.owner row.lease) l.held h.lease h.held (rw (eq-eqb h.lease.number row.lease h.number, eq-eqb h.lease.owner row.owner h.own) refl)
