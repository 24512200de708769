-- The journal and what is kept go on by an event that isn't refused.
use Rattle.std.proofs.Common.{◌≡◌, ◌⊎◌, inl, inr, ℕ, zero, suc, ◌+◌, ◌<◌, ◌≤◌, Bool, true, false, List, [], ◌∷◌, ◌++◌, length, refl, sym, ap, subst, ◌∙◌, arith, Option, Some, None, append_assoc, length-append}
use Rattle.std.specs.Prelude.{◌&&◌, ◌==◌, is_none}
use Rattle.std.specs.List.{AllZip, slice_get}
use Rattle.std.proofs.lemmas.Bool.{and_parts, eqb-false, eqb-true}
use Rattle.std.proofs.lemmas.List.{length-map}
use Rattle.lease_core.specs.LeaseLaws.{cleared_lawful}
use Rattle.txn_core.specs.RowLaws.{ended_all_table}
use Rattle.txn_core.specs.RowSteps.{ended_phase, in_phase}
use Rattle.txn_core.specs.RowTables.{Row, any_row, count_where}
use Rattle.wire_frames.specs.declared.ends.EndKind.TheVariants as kinds
use Rattle.wire_frames.specs.declared.ends.Outcome.{Outcome}
use Rattle.wire_frames.specs.declared.ends.Reason.{Reason}
use Rattle.wire_frames.specs.declared.ends.Reason.TheVariants as reasons
use Rattle.conn_core.specs.Entries.{closing_reason}
use Rattle.conn_core.specs.Journals as journals
use Rattle.conn_core.specs.Journals.{AreAdmitted, AreCarried, IsAdmitted, IsCarriedBy, Legal, after_entries, after_entry, after_step, is_worn, table_of, turn_if, turn_of, wears, worn_entry}
use Rattle.conn_core.specs.KeptStates.{ClosesAs, IsKept, IsStateOf, close_needs, needs_of, wears_kept, worn_kept}
use Rattle.conn_core.specs.KeptSteps.{closed_kept}
use Rattle.conn_core.specs.KeptTables.{IsHandedIn, Stands}
use Rattle.conn_core.specs.Steps.{closed_by, step}
use Rattle.conn_core.specs.Tables.{Connection, Handed, IsSettings, Table, opening}
use Rattle.conn_core.specs.declared.entries.Answer.TheVariants as answers
use Rattle.conn_core.specs.declared.entries.Entry.{Entry}
use Rattle.conn_core.specs.declared.settings.Settings.{Settings}
use Rattle.conn_core.specs.declared.handed.HandedIn.{HandedIn}
use Rattle.conn_core.specs.declared.table.KeptTable.{KeptTable}
use Rattle.conn_core.proofs.EndLemmas.{ended_count}
use Rattle.conn_core.proofs.NeedLemmas.{queued_count}
use Rattle.conn_core.proofs.StandLemmas.{closed_stands}

-- ---- places of a longer journal

pub get_more : {X : Type 0} (xs ys : List X) (k : ℕ) (x : X) → slice_get xs k ≡ Some x → slice_get (xs ++ ys) k ≡ Some x
get_more [] ys k x e = cc
get_more (y ∷ xs) ys zero x e = e
get_more (y ∷ xs) ys (suc k) x e = get_more xs ys k x e

pub get_last : {X : Type 0} (xs : List X) (x : X) → slice_get (xs ++ x ∷ []) (length xs) ≡ Some x
get_last [] x = refl
get_last (y ∷ xs) x = get_last xs x

pub get_cases : {X : Type 0} (xs : List X) (x y : X) (k : ℕ) → slice_get (xs ++ x ∷ []) k ≡ Some y → (slice_get xs k ≡ Some y) ⊎ (x ≡ y)
get_cases [] x y zero e = inr (cc)
get_cases [] x y (suc k) e = cc
get_cases (z ∷ xs) x y zero e = inl e
get_cases (z ∷ xs) x y (suc k) e = get_cases xs x y k e

handed_item : (journal more : List Entry) (row : Row Handed Outcome) (item : HandedIn) → IsHandedIn journal row item → IsHandedIn (journal ++ more) row item
handed_item journal more row item h = record {
  id = h.id;
  reference = h.reference;
  entry = h.entry;
  stands = get_more journal more item.place h.entry h.stands;
  accepted = h.accepted;
  frame = h.frame;
  values = h.values;
}

handed_more : (journal more : List Entry) (rows : List (Row Handed Outcome)) (items : List HandedIn) → AllZip (IsHandedIn journal) rows items → AllZip (IsHandedIn (journal ++ more)) rows items
handed_more journal more [] [] h = h
handed_more journal more [] (i ∷ is) h = h
handed_more journal more (r ∷ rs) [] h = h
handed_more journal more (r ∷ rs) (i ∷ is) h = (handed_item journal more r i h.0, handed_more journal more rs is h.1)

pub stands_more : (journal more : List Entry) (k : KeptTable) (t : Table) → Stands journal k t → Stands (journal ++ more) k t
stands_more journal more k t s = record {
  requests = s.requests;
  leases = s.leases;
  clock = s.clock;
  closed = s.closed;
  frames = s.frames;
  handed = handed_more journal more t.requests.rows k.handed.items s.handed;
}

-- ---- one entry more

pub closes_open : (journal : List Entry) (e : Entry) (closed : Option Reason) → ClosesAs journal None → closed ≡ closing_reason e → ClosesAs (journal ++ e ∷ []) closed
closes_open journal e closed old is reason = (
  λ same. (length journal, e, get_last journal e, sym is ∙ same),
  λ w. elim (get_cases journal e w.1 w.0 w.2) [
    | inl at ↦ let none = (old reason).1 (w.0, w.1, at, w.3) in absurd cc
    | inr same ↦ is ∙ ap closing_reason same ∙ w.3
  ],
)

pub admitted_more : (c : Connection) (journal : List Entry) (e : Entry) → AreAdmitted c.wire journal → IsAdmitted c.wire e.event → AreAdmitted c.wire (journal ++ e ∷ [])
admitted_more c journal e old this k x at =
    elim (get_cases journal e x k at) [
      | inl before ↦ old k x before
      | inr same ↦ let P : Entry → Type 0 = λ y. IsAdmitted c.wire y.event in subst P same this
    ]

pub carried_more : (c : Connection) (journal : List Entry) (e : Entry) → AreCarried c journal → IsCarriedBy c e.event e.answer → AreCarried c (journal ++ e ∷ [])
carried_more c journal e old this k x at =
    elim (get_cases journal e x k at) [
      | inl before ↦ old k x before
      | inr same ↦ let P : Entry → Type 0 = λ y. IsCarriedBy c y.event y.answer in subst P same this
    ]

after_more : (c : Connection) (t : Table) (xs ys : List Entry) → after_entries c t (xs ++ ys) ≡ after_entries c (after_entries c t xs) ys
after_more c t [] ys = refl
after_more c t (x ∷ xs) ys = after_more c (after_entry c t x) xs ys

pub table_more : (c : Connection) (journal : List Entry) (e : Entry) (t : Table) → step c (table_of c journal) e.actor e.event ≡ Some (t, e.answer) → table_of c (journal ++ e ∷ []) ≡ t
unfolding table_of
table_more c journal e t is = after_more c (opening c.settings) journal (e ∷ []) ∙ ap (after_step (after_entries c (opening c.settings) journal)) is

-- ---- the close

pub closed_kept_at : (s : Settings) (entries : ℕ) (k : KeptTable) (reason : Reason) → IsKept s entries k → IsKept s entries (closed_kept reason k)
closed_kept_at s entries k reason h =
    let none : count_where any_row (closed_kept reason k).requests ≡ 0 = (let ends = ended_count any_row (kinds.Lost reason) k.requests in omega arith) in
    record {
      rows = ended_all_table any_row (kinds.Lost reason) k.requests h.rows;
      leases = cleared_lawful k.leases h.leases;
      references = h.references;
      window = h.window;
      share = h.share;
      lease_ms = h.lease_ms;
      wait_ms = h.wait_ms;
      requests_drawn = h.requests_drawn;
      leases_drawn = h.leases_drawn;
      frames = h.frames;
      quiet = λ r e. record { live = none; held = refl; waiting = refl };
    }

kept_later : (s : Settings) (entries : ℕ) (k : KeptTable) → IsKept s entries k → IsKept s (entries + 1) k
kept_later s entries k h = record {
  rows = h.rows;
  leases = h.leases;
  references = h.references;
  window = h.window;
  share = h.share;
  lease_ms = h.lease_ms;
  wait_ms = h.wait_ms;
  requests_drawn = let drawn = h.requests_drawn in omega arith;
  leases_drawn = let drawn = h.leases_drawn in omega arith;
  frames = let frames = h.frames in omega arith;
  quiet = h.quiet;
}

pub closed_kept_law : (s : Settings) (entries : ℕ) (k : KeptTable) (reason : Reason) → IsKept s entries k → IsKept s (entries + 1) (closed_kept reason k)
closed_kept_law s entries k reason h = kept_later s entries (closed_kept reason k) (closed_kept_at s entries k reason h)

pub closed_needs : (k : KeptTable) (reason : Reason) → k.closed ≡ None → needs_of (closed_kept reason k) + 1 ≤ needs_of k
closed_needs k reason unclosed =
    let rows = length-map k.requests.rows (in_phase (ended_phase any_row (kinds.Lost reason))) in
    let live = ended_count any_row (kinds.Lost reason) k.requests in
    let queued = queued_count any_row (kinds.Lost reason) k.requests in
    let close : close_needs k.closed ≡ 1 = ap close_needs unclosed in
    omega arith

none_is : {X : Type 0} (o : Option X) → is_none o ≡ true → o ≡ None
none_is None e = refl
none_is (Some x) e = cc

worn_step : (c : Connection) (t : Table) (actor : ℕ) → t.closed ≡ None → step c t actor (worn_entry actor).event ≡ Some (closed_by reasons.Worn t, answers.Closed)
worn_step c t actor unclosed = rw unclosed refl

-- ---- a turn

-- an event that isn't refused, by what it leaves of an open table
pub record Turning (c : Connection) (journal : List Entry) (e : Entry) (t : Table) (k : KeptTable) (capacity : ℕ) : Type 0 where
  pub settings : IsSettings c.settings
  pub legal : Legal c journal
  pub admitted : AreAdmitted c.wire journal
  pub carried : AreCarried c journal
  pub closes : ClosesAs journal None
  pub below : length journal < c.settings.journal
  pub stepped : step c (table_of c journal) e.actor e.event ≡ Some (t, e.answer)
  pub not_worn : is_worn e.event ≡ false
  pub admits : IsAdmitted c.wire e.event
  pub carries : IsCarriedBy c e.event e.answer
  pub closed : k.closed ≡ closing_reason e
  pub stands : Stands (journal ++ e ∷ []) k t
  pub kept : IsKept c.settings (length journal + 1) k
  pub room : length journal + 1 + needs_of k ≤ capacity

wears_same : (c : Connection) (journal : List Entry) (e : Entry) (t : Table) (k : KeptTable) (capacity : ℕ) → Turning c journal e t k capacity → wears_kept c.settings (length journal + 1) k.closed ≡ wears c.settings (length journal + 1) t
wears_same c journal e t k capacity h = ap (wears_kept c.settings (length journal + 1)) h.stands.closed

below_limit : (b : Bool) (closed : Option Reason) → (b && is_none closed) ≡ false → closed ≡ None → b ≡ false
below_limit true None is unclosed = is
below_limit true (Some reason) is unclosed = cc
below_limit false closed is unclosed = refl

not_full : (c : Connection) (journal : List Entry) (e : Entry) (k : KeptTable) → wears_kept c.settings (length journal + 1) k.closed ≡ false → k.closed ≡ None → length journal < c.settings.journal → length (journal ++ e ∷ []) < c.settings.journal
not_full c journal e k is unclosed below =
    let other : (length journal + 1 == c.settings.journal) ≡ false = below_limit (length journal + 1 == c.settings.journal) k.closed is unclosed in
    let apart : length journal + 1 ≡ c.settings.journal → ⊥ = eqb-false _ _ other in
    let long : length (journal ++ e ∷ []) ≡ length journal + 1 = omega (arith, length-append journal (e ∷ [])) in
    omega arith

turned_if : (c : Connection) (journal : List Entry) (e : Entry) (t : Table) (k : KeptTable) (capacity : ℕ) (b : Bool) → Turning c journal e t k capacity → wears_kept c.settings (length journal + 1) k.closed ≡ b → IsStateOf c (journal ++ turn_if b e) (worn_kept b k) capacity
turned_if c journal e t k capacity false h is =
    let long : length (journal ++ e ∷ []) ≡ length journal + 1 = omega (arith, length-append journal (e ∷ [])) in
    let few = h.kept.rows.rows in
    let legal : Legal c (journal ++ e ∷ []) = let P : Bool → Type 0 = λ b. Legal c (journal ++ turn_if b e) in subst P (sym (wears_same c journal e t k capacity h) ∙ is) (journals.turned journal e t h.legal h.not_worn h.stepped) in
    record {
      settings = h.settings;
      legal = legal;
      stands = rw (table_more c journal e t h.stepped) h.stands;
      kept = rw long h.kept;
      closes = closes_open journal e k.closed h.closes h.closed;
      below = λ unclosed. not_full c journal e k is unclosed h.below;
      within = let below = h.below in omega arith;
      room = let room = h.room in omega arith;
      admitted = admitted_more c journal e h.admitted h.admits;
      carried = carried_more c journal e h.carried h.carries;
    }
turned_if c journal e t k capacity true h is =
    let both = and_parts (length journal + 1 == c.settings.journal) (is_none k.closed) is in
    let full : length journal + 1 ≡ c.settings.journal = eqb-true _ _ both.0 in
    let unclosed : k.closed ≡ None = none_is k.closed both.1 in
    let worn = worn_entry e.actor in
    let apart : journal ++ e ∷ worn ∷ [] ≡ (journal ++ e ∷ []) ++ worn ∷ [] = sym (append_assoc journal (e ∷ []) (worn ∷ [])) in
    let shorter : length (journal ++ e ∷ []) ≡ length journal + 1 = omega (arith, length-append journal (e ∷ [])) in
    let long : length (journal ++ e ∷ worn ∷ []) ≡ length journal + 1 + 1 = omega (arith, length-append journal (e ∷ worn ∷ [])) in
    let rows = length-map k.requests.rows (in_phase (ended_phase any_row (kinds.Lost reasons.Worn))) in
    let few = h.kept.rows.rows in
    let now : table_of c (journal ++ e ∷ []) ≡ t = table_more c journal e t h.stepped in
    let later : table_of c ((journal ++ e ∷ []) ++ worn ∷ []) ≡ closed_by reasons.Worn t = table_more c (journal ++ e ∷ []) worn (closed_by reasons.Worn t) (rw now (worn_step c t e.actor (sym h.stands.closed ∙ unclosed))) in
    let legal : Legal c (journal ++ e ∷ worn ∷ []) = let P : Bool → Type 0 = λ b. Legal c (journal ++ turn_if b e) in subst P (sym (wears_same c journal e t k capacity h) ∙ is) (journals.turned journal e t h.legal h.not_worn h.stepped) in
    record {
      settings = h.settings;
      legal = legal;
      stands = rw (apart, later) (stands_more (journal ++ e ∷ []) (worn ∷ []) (closed_kept reasons.Worn k) (closed_by reasons.Worn t) (closed_stands (journal ++ e ∷ []) k t reasons.Worn h.stands));
      kept = rw long (closed_kept_law c.settings (length journal + 1) k reasons.Worn h.kept);
      closes = rw apart (closes_open (journal ++ e ∷ []) worn (Some reasons.Worn) (let P : Option Reason → Type 0 = ClosesAs (journal ++ e ∷ []) in subst P unclosed (closes_open journal e k.closed h.closes h.closed)) refl);
      below = λ none. absurd (cc);
      within = let below = h.below in omega arith;
      room = let room = h.room in let fewer = closed_needs k reasons.Worn unclosed in omega arith;
      admitted = rw apart (admitted_more c (journal ++ e ∷ []) worn (admitted_more c journal e h.admitted h.admits) tt);
      carried = rw apart (carried_more c (journal ++ e ∷ []) worn (carried_more c journal e h.carried h.carries) tt);
    }

pub turned : (c : Connection) (journal : List Entry) (e : Entry) (t : Table) (k : KeptTable) (capacity : ℕ) → Turning c journal e t k capacity → (let b = wears_kept c.settings (length journal + 1) k.closed in IsStateOf c (journal ++ turn_if b e) (worn_kept b k) capacity)
turned c journal e t k capacity h = turned_if c journal e t k capacity (wears_kept c.settings (length journal + 1) k.closed) h refl
