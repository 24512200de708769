-- Requests that end one after another, the least id first, end as all of them at once.
use Rattle.std.proofs.Common.{◌≡◌, ℕ, ◌+◌, ◌<◌, ◌≤◌, Bool, true, false, cond, List, [], ◌∷◌, ◌++◌, Option, Some, None, inl, inr, refl, sym, ap, ◌∙◌, subst, arith, append_assoc}
use Rattle.std.specs.Prelude.{◌&&◌, ◌==◌, count_by, filter, if◌then◌else◌, map}
use Rattle.std.specs.List.{find, list_any}
use Rattle.std.specs.Option.{option_map}
use Rattle.std.proofs.lemmas.Bool.{and_parts, eq-eqb, ne_eqb, or_cases, or_left, or_right}
use Rattle.std.proofs.lemmas.List.{append-nil, map-append}
use Rattle.std.proofs.lemmas.List.Elements.{filter-append}
use Rattle.txn_core.specs.FirstPlaces.{Fails, any_found, found_at, not_found}
use Rattle.txn_core.specs.RowLaws.{count_append, count_cons, one}
use Rattle.txn_core.specs.RowSteps.{awaiting, ended, ended_all, ended_phase, in_phase, in_phases, references_of}
use Rattle.txn_core.specs.RowTables.{IsRising, IsRowTable, Row, RowTable, count_where, first_where, has_id, has_live, has_reference, has_sent, ids_of, is_live, is_live_and, is_queued, is_queued_and, is_row_of, is_sent, is_sent_and, phase_live, phase_of, phase_queued, phase_sent}
use Rattle.txn_core.specs.declared.phases.Phase.{Phase}
use Rattle.txn_core.specs.declared.phases.Phase.TheVariants.{Queued, Sent, Ended}

-- ---- a row stands alone with its id

pub fails_above : {X E : Type 0} (id low high : ℕ) (rows : List (Row X E)) → id ≤ low → IsRising low high (ids_of rows) → Fails (has_id id) rows
fails_above id low high [] under rises = tt
fails_above id low high (row ∷ rows) under rises =
    let first = rises.0 in (ne_eqb row.id id (λ same. omega arith), fails_above id row.id high rows (omega arith) rises.1)

pub above : {X E : Type 0} (low high : ℕ) (before after : List (Row X E)) (x : Row X E) → IsRising low high (ids_of (before ++ x ∷ after)) → low < x.id
above low high [] after x rises = rises.0
above low high (row ∷ rows) after x rises = let first = rises.0 in let rest = above row.id high rows after x rises.1 in omega arith

-- no other row has its id
pub record IsOnly {X E : Type 0} (before after : List (Row X E)) (x : Row X E) : Type 0 where
  pub before_it : Fails (has_id x.id) before
  pub after_it : Fails (has_id x.id) after

pub only : {X E : Type 0} (low high : ℕ) (before after : List (Row X E)) (x : Row X E) → IsRising low high (ids_of (before ++ x ∷ after)) → IsOnly before after x
only low high [] after x rises = record { before_it = tt; after_it = fails_above x.id x.id high after (omega arith) rises.1 }
only low high (row ∷ rows) after x rises =
    let rest = only row.id high rows after x rises.1 in
    let higher = above row.id high rows after x rises.1 in
    record { before_it = (ne_eqb row.id x.id (λ same. omega arith), rest.before_it); after_it = rest.after_it }

-- ---- rows that don't pass

pub and_fails : (a b : Bool) → b ≡ false → (a && b) ≡ false
and_fails true b is = is
and_fails false b is = refl

pub fails_both : {X E : Type 0} (a p : Row X E → Bool) (rows : List (Row X E)) → Fails p rows → Fails (λ row. a row && p row) rows
fails_both a p [] fails = tt
fails_both a p (row ∷ rows) fails = (and_fails (a row) (p row) fails.0, fails_both a p rows fails.1)

pub fails_filter : {R : Type 0} (p : R → Bool) (xs : List R) → Fails p xs → filter p xs ≡ []
fails_filter p [] fails = refl
fails_filter p (x ∷ xs) fails = ap (λ b. cond b (x ∷ filter p xs) (filter p xs)) fails.0 ∙ fails_filter p xs fails.1

pub fails_count : {R : Type 0} (p : R → Bool) (xs : List R) → Fails p xs → count_by p xs ≡ 0
fails_count p [] fails = refl
fails_count p (x ∷ xs) fails = count_cons p x xs ∙ ap (λ b. one b + count_by p xs) fails.0 ∙ ap (λ n. 0 + n) (fails_count p xs fails.1)

-- rows stay as they are where none passes that comes to another phase
pub fails_phases : {X E : Type 0} (p : Row X E → Bool) (phase : Row X E → Phase E) (rows : List (Row X E)) → ((row : Row X E) → p row ≡ false → phase row ≡ row.phase) → Fails p rows → in_phases phase rows ≡ rows
fails_phases p phase [] stays fails = refl
fails_phases p phase (row ∷ rows) stays fails =
    ap (λ (f : Phase _). record row { phase = f } ∷ in_phases phase rows) (stays row fails.0) ∙ ap (λ rest. row ∷ rest) (fails_phases p phase rows stays fails.1)

-- only the row with an id comes to another phase
pub phases_at : {X E : Type 0} (phase : Row X E → Phase E) (before after : List (Row X E)) (x : Row X E) → IsOnly before after x → ((row : Row X E) → has_id x.id row ≡ false → phase row ≡ row.phase) → in_phases phase (before ++ x ∷ after) ≡ before ++ in_phase phase x ∷ after
phases_at phase before after x alone stays =
    map-append (in_phase phase) before (x ∷ after)
    ∙ ap (λ rows. rows ++ in_phase phase x ∷ in_phases phase after) (fails_phases (has_id x.id) phase before stays alone.before_it)
    ∙ ap (λ rows. before ++ in_phase phase x ∷ rows) (fails_phases (has_id x.id) phase after stays alone.after_it)

pub ended_other : {X E : Type 0} (p : Row X E → Bool) (kind : E) (row : Row X E) → is_live_and p row ≡ false → ended_phase p kind row ≡ row.phase
ended_other p kind row out = ap (λ b. if b then Ended kind else row.phase) out

pub ended_here : {X E : Type 0} (p : Row X E → Bool) (kind : E) (row : Row X E) → is_live_and p row ≡ true → ended_phase p kind row ≡ Ended kind
ended_here p kind row here = ap (λ b. if b then Ended kind else row.phase) here

-- the reference of the only row with an id, where it passes
abbrev pub reference_if : {X E : Type 0} → Bool → Row X E → List ℕ
reference_if b x = cond b (x.reference ∷ []) []

references_cons : {X E : Type 0} (q : Row X E → Bool) (x : Row X E) (rows : List (Row X E)) → references_of q (x ∷ rows) ≡ reference_if (q x) x ++ references_of q rows
references_cons q x rows =
    elim (q x) as (λ b. map (λ (row : Row _ _). row.reference) (cond b (x ∷ filter q rows) (filter q rows)) ≡ reference_if b x ++ references_of q rows) [ true ↦ refl | false ↦ refl ]

references_append : {X E : Type 0} (q : Row X E → Bool) (before after : List (Row X E)) → references_of q (before ++ after) ≡ references_of q before ++ references_of q after
references_append q before after = ap (map (λ row. row.reference)) (filter-append q before after) ∙ map-append (λ row. row.reference) (filter q before) (filter q after)

references_none : {X E : Type 0} (q : Row X E → Bool) (rows : List (Row X E)) → Fails q rows → references_of q rows ≡ []
references_none q rows fails = ap (map (λ row. row.reference)) (fails_filter q rows fails)

-- behind rows that don't pass
references_from : {X E : Type 0} (q : Row X E → Bool) (before after : List (Row X E)) (x : Row X E) → Fails q before → references_of q (before ++ x ∷ after) ≡ reference_if (q x) x ++ references_of q after
references_from q before after x fails =
    references_append q before (x ∷ after) ∙ ap (λ ns. ns ++ references_of q (x ∷ after)) (references_none q before fails) ∙ references_cons q x after

own : (a : Bool) (id : ℕ) → (a && (id == id)) ≡ a
own true id = eq-eqb id id refl
own false id = refl

pub references_at : {X E : Type 0} (a : Row X E → Bool) (before after : List (Row X E)) (x : Row X E) → IsOnly before after x → references_of (λ row. a row && has_id x.id row) (before ++ x ∷ after) ≡ reference_if (a x) x
references_at a before after x alone =
    let q = λ (row : Row _ _). a row && has_id x.id row in
    references_from q before after x (fails_both a (has_id x.id) before alone.before_it)
    ∙ ap (λ ns. reference_if (q x) x ++ ns) (references_none q after (fails_both a (has_id x.id) after alone.after_it))
    ∙ append-nil (reference_if (q x) x)
    ∙ ap (λ b. reference_if b x) (own (a x) x.id)

-- ---- the first that passes ends, then the rest

-- the row ends
abbrev pub as_ended : {X E : Type 0} → E → Row X E → Row X E
as_ended kind row = record row { phase = Ended kind }

-- The row with an id, and what was said of the rest, by where it stands.
record Alone {X E : Type 0} (p : Row X E → Bool) (t : RowTable X E) (x : Row X E) : Type 0 where
  before : List (Row X E)
  after : List (Row X E)
  split : t.rows ≡ before ++ x ∷ after
  passes : is_live_and p x ≡ true
  fails : Fails (is_live_and p) before
  alone : IsOnly before after x

alone_by : {X E : Type 0} (p : Row X E → Bool) (t : RowTable X E) (x : Row X E) → IsRowTable t → find (is_live_and p) t.rows ≡ Some x → Alone p t x
alone_by p t x table found =
    let first = (found_at (is_live_and p) t.rows x found).1 in
    record {
      before = first.before;
      after = first.after;
      split = first.split;
      passes = first.passes;
      fails = first.fails;
      alone = only 0 t.drawn first.before first.after x (subst (λ rows. IsRising 0 t.drawn (ids_of rows)) first.split table.ids);
    }

live_with_id : (live p : Bool) (id : ℕ) → (live && p) ≡ true → (live && (id == id)) ≡ true
live_with_id true p id is = eq-eqb id id refl
live_with_id false p id is = absurd (cc)

-- the row that ends, among the others
one_ended : {X E : Type 0} (p : Row X E → Bool) (kind : E) (t : RowTable X E) (x : Row X E) (a : Alone p t x) → in_phases (ended_phase (has_id x.id) kind) t.rows ≡ a.before ++ as_ended kind x ∷ a.after
one_ended p kind t x a =
    let phase = ended_phase (has_id x.id) kind in
    ap (in_phases phase) a.split
    ∙ phases_at phase a.before a.after x a.alone (λ row other. ended_other (has_id x.id) kind row (and_fails (is_live row) (has_id x.id row) other))
    ∙ ap (λ (f : Phase _). a.before ++ record x { phase = f } ∷ a.after) (ended_here (has_id x.id) kind x (live_with_id (is_live x) (p x) x.id a.passes))

rows_first : {X E : Type 0} (p : Row X E → Bool) (kind : E) (t : RowTable X E) (x : Row X E) (a : Alone p t x) → in_phases (ended_phase p kind) (in_phases (ended_phase (has_id x.id) kind) t.rows) ≡ in_phases (ended_phase p kind) t.rows
rows_first p kind t x a =
    let phase = ended_phase p kind in
    let f = in_phase phase in
    let once = ap (in_phases phase) (one_ended p kind t x a) ∙ map-append f a.before (as_ended kind x ∷ a.after) in
    let all = ap (in_phases phase) a.split ∙ map-append f a.before (x ∷ a.after) in
    let same : f x ≡ as_ended kind x = ap (λ (g : Phase _). record x { phase = g }) (ended_here p kind x a.passes) in
    once ∙ ap (λ (row : Row _ _). map f a.before ++ row ∷ map f a.after) (sym same) ∙ sym all

-- of a queued row that passes, its reference is free
queued_passes : {E : Type 0} (phase : Phase E) (p : Bool) → (phase_live phase && p) ≡ true → (phase_queued phase && p) ≡ phase_queued phase
queued_passes Queued true is = refl
queued_passes Queued false is = absurd (cc)
queued_passes Sent p is = refl
queued_passes (Ended kind) p is = refl

queued_fails : {E : Type 0} (phase : Phase E) (p : Bool) → (phase_live phase && p) ≡ false → (phase_queued phase && p) ≡ false
queued_fails Queued p is = is
queued_fails Sent p is = refl
queued_fails (Ended kind) p is = refl

none_queued : {X E : Type 0} (p : Row X E → Bool) (rows : List (Row X E)) → Fails (is_live_and p) rows → Fails (is_queued_and p) rows
none_queued p [] fails = tt
none_queued p (row ∷ rows) fails = (queued_fails row.phase (p row) fails.0, none_queued p rows fails.1)

references_first : {X E : Type 0} (p : Row X E → Bool) (kind : E) (t : RowTable X E) (x : Row X E) (a : Alone p t x) → references_of (is_queued_and (has_id x.id)) t.rows ++ references_of (is_queued_and p) (in_phases (ended_phase (has_id x.id) kind) t.rows) ≡ references_of (is_queued_and p) t.rows
references_first p kind t x a =
    let q = is_queued_and p in
    let fails = none_queued p a.before a.fails in
    let own = ap (references_of (is_queued_and (has_id x.id))) a.split ∙ references_at is_queued a.before a.after x a.alone in
    let rest = ap (references_of q) (one_ended p kind t x a) ∙ references_from q a.before a.after (as_ended kind x) fails in
    let all = ap (references_of q) a.split ∙ references_from q a.before a.after x fails in
    let queued = ap (λ b. reference_if b x ++ references_of q a.after) (queued_passes x.phase (p x) a.passes) in
    ap (λ ns. ns ++ references_of q (in_phases (ended_phase (has_id x.id) kind) t.rows)) own
    ∙ ap (λ ns. reference_if (is_queued x) x ++ ns) rest
    ∙ sym queued
    ∙ sym all

first_of_all : {X E : Type 0} (p : Row X E → Bool) (kind : E) (t : RowTable X E) (x : Row X E) → IsRowTable t → find (is_live_and p) t.rows ≡ Some x → ended_all p kind (ended_all (has_id x.id) kind t) ≡ ended_all p kind t
first_of_all p kind t x table found =
    let a = alone_by p t x table found in
    let rows = rows_first p kind t x a in
    let free = append_assoc t.free (references_of (is_queued_and (has_id x.id)) t.rows) (references_of (is_queued_and p) (in_phases (ended_phase (has_id x.id) kind) t.rows)) ∙ ap (λ ns. t.free ++ ns) (references_first p kind t x a) in
    ap (λ (rows : List (Row _ _)). record t { rows = rows; free = (t.free ++ references_of (is_queued_and (has_id x.id)) t.rows) ++ references_of (is_queued_and p) (in_phases (ended_phase (has_id x.id) kind) t.rows) }) rows
    ∙ ap (λ (free : List ℕ). record t { rows = in_phases (ended_phase p kind) t.rows; free = free }) free

-- the row that an answer names
pub named : {X E : Type 0} (p : Row X E → Bool) (id : ℕ) (o : Option (Row X E)) → option_map (λ (row : Row X E). row.id) o ≡ Some id → (x : Row X E) × (o ≡ Some x) × (x.id ≡ id)
named p id None is = absurd (cc)
named p id (Some x) is = let same : x.id ≡ id = cc in (x, refl, same)

pub unnamed : {X E : Type 0} (o : Option (Row X E)) → option_map (λ (row : Row X E). row.id) o ≡ None → o ≡ None
unnamed None is = refl
unnamed (Some x) is = absurd (cc)

-- Where the first that passes has ended, as many end as before, so that one after another they end as all at once.
pub ended_first : {X E : Type 0} (p : Row X E → Bool) (kind : E) (t : RowTable X E) (id : ℕ) → IsRowTable t → first_where p t ≡ Some id → ended_all p kind (ended id false kind t) ≡ ended_all p kind t
ended_first p kind t id table first =
    let found = named p id (find (is_live_and p) t.rows) first in
    ap (λ n. ended_all p kind (ended_all (has_id n) kind t)) (sym found.2) ∙ first_of_all p kind t found.0 table found.1

-- Where none passes, nothing ends.
pub ended_none : {X E : Type 0} (p : Row X E → Bool) (kind : E) (t : RowTable X E) → first_where p t ≡ None → ended_all p kind t ≡ t
ended_none p kind t none =
    let fails = not_found (is_live_and p) t.rows (unnamed (find (is_live_and p) t.rows) none) in
    let rows = fails_phases (is_live_and p) (ended_phase p kind) t.rows (λ row out. ended_other p kind row out) fails in
    let free = ap (λ ns. t.free ++ ns) (references_none (is_queued_and p) t.rows (none_queued p t.rows fails)) ∙ append-nil t.free in
    ap (λ (rows : List (Row _ _)). record t { rows = rows; free = t.free ++ references_of (is_queued_and p) t.rows }) rows ∙ ap (λ (free : List ℕ). record t { free = free }) free

-- ---- how many end

pub count_first : {X E : Type 0} (p : Row X E → Bool) (kind : E) (t : RowTable X E) (id : ℕ) → IsRowTable t → first_where p t ≡ Some id → count_where p (ended id false kind t) + 1 ≡ count_where p t
count_first p kind t id table first =
    let found = named p id (find (is_live_and p) t.rows) first in
    let x = found.0 in
    let a = alone_by p t x table found.1 in
    let q = is_live_and p in
    let same = ap (λ n. count_where p (ended n false kind t)) found.2 in
    let left = ap (count_by q) (one_ended p kind t x a) ∙ count_append q a.before (as_ended kind x ∷ a.after) in
    let left_one = count_cons q (as_ended kind x) a.after in
    let all = ap (count_by q) a.split ∙ count_append q a.before (x ∷ a.after) in
    let all_one = count_cons q x a.after in
    let counts : one (q x) ≡ 1 = ap one a.passes in omega arith

pub count_none_left : {X E : Type 0} (p : Row X E → Bool) (t : RowTable X E) → first_where p t ≡ None → count_where p t ≡ 0
count_none_left p t none = fails_count (is_live_and p) t.rows (not_found (is_live_and p) t.rows (unnamed (find (is_live_and p) t.rows) none))

-- ---- what an answer names is there

pub first_is_live : {X E : Type 0} (p : Row X E → Bool) (t : RowTable X E) (id : ℕ) → first_where p t ≡ Some id → has_live id t ≡ true
first_is_live p t id first =
    let found = named p id (find (is_live_and p) t.rows) first in
    let x = found.0 in
    let passes = (found_at (is_live_and p) t.rows x found.1).1.passes in
    ap (λ n. has_live n t) (sym found.2) ∙ any_found (is_live_and p) (is_live_and (has_id x.id)) t.rows x found.1 (live_with_id (is_live x) (p x) x.id passes)

pub awaiting_is_sent : {X E : Type 0} (reference : ℕ) (t : RowTable X E) (x : Row X E) → awaiting reference t ≡ Some x → has_sent x.id t ≡ true
awaiting_is_sent reference t x found =
    let q = is_sent_and (has_reference reference) in
    let passes = (found_at q t.rows x found).1.passes in
    any_found q (is_sent_and (has_id x.id)) t.rows x found (live_with_id (is_sent x) (has_reference reference x) x.id passes)

phased : {X E : Type 0} (o : Option (Row X E)) (phase : Phase E) → option_map (λ (row : Row X E). row.phase) o ≡ Some phase → (x : Row X E) × (o ≡ Some x) × (x.phase ≡ phase)
phased None phase is = absurd (cc)
phased (Some x) phase is = let same : x.phase ≡ phase = cc in (x, refl, same)

with_id_live : (live : Bool) (id n : ℕ) → live ≡ true → (id == n) ≡ true → (live && (id == n)) ≡ true
with_id_live true id n is same = same
with_id_live false id n is same = absurd (cc)

-- an owner's row that is live
pub phase_is_live : {X E : Type 0} (t : RowTable X E) (owner id : ℕ) (phase : Phase E) → phase_of owner id t ≡ Some phase → phase_live phase ≡ true → has_live id t ≡ true
phase_is_live t owner id phase at live =
    let found = phased (find (is_row_of owner id) t.rows) phase at in
    let x = found.0 in
    let passes = (found_at (is_row_of owner id) t.rows x found.1).1.passes in
    any_found (is_row_of owner id) (is_live_and (has_id id)) t.rows x found.1
    (with_id_live (is_live x) x.id id (ap phase_live found.2 ∙ live) (and_parts (has_id id x) (x.owner == owner) passes).0)

sent_lives : {E : Type 0} (phase : Phase E) (b : Bool) → (phase_sent phase && b) ≡ true → (phase_live phase && b) ≡ true
sent_lives Queued b is = absurd (cc)
sent_lives Sent b is = is
sent_lives (Ended kind) b is = absurd (cc)

any_lives : {X E : Type 0} (id : ℕ) (rows : List (Row X E)) → list_any (is_sent_and (has_id id)) rows ≡ true → list_any (is_live_and (has_id id)) rows ≡ true
any_lives id [] is = absurd (cc)
any_lives id (row ∷ rows) is =
    elim (or_cases (is_sent_and (has_id id) row) (list_any (is_sent_and (has_id id)) rows) is) [
      | inl here ↦ or_left (is_live_and (has_id id) row) (list_any (is_live_and (has_id id)) rows) (sent_lives row.phase (has_id id row) here)
      | inr there ↦ or_right (is_live_and (has_id id) row) (list_any (is_live_and (has_id id)) rows) (any_lives id rows there)
    ]

-- a sent row is live
pub sent_is_live : {X E : Type 0} (t : RowTable X E) (id : ℕ) → has_sent id t ≡ true → has_live id t ≡ true
sent_is_live t id is = any_lives id t.rows is
