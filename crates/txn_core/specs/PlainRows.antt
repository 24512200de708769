-- A request table without what its rows carry, and with other kinds of ends: each step and each answer is the same there.
use Rattle.std.proofs.Common.{◌≡◌, ℕ, ◌+◌, Bool, true, false, cond, List, [], ◌∷◌, ◌++◌, Option, Some, None, refl, sym, ap, ◌∙◌, subst, arith}
use Rattle.std.specs.Prelude.{◌&&◌, ◌==◌, ◌||◌, count_by, filter, if◌then◌else◌, map, not, nat_lt, Result, Ok, Err}
use Rattle.std.specs.List.{find, list_any}
use Rattle.std.specs.Option.{option_map}
use Rattle.std.proofs.lemmas.List.{length-map, map-append}
use Rattle.txn_core.specs.RowLaws.{count_map, counts_same}
use Rattle.txn_core.specs.RowSteps.{Draft, added, added_under, after_or, answer_of, arrival_for, arrival_of, awaiting, ended, ended_all, ended_phase, in_phase, in_phases, queued_row, references_of, replied, sent, sent_from, sent_next, sent_phase, settled, stays, table_or, taken, taken_from, with_row, without}
use Rattle.txn_core.specs.RowTables.{IsRising, IsRowTable, Row, RowTable, count_where, first_where, has_id, has_live, has_reference, has_sent, ids_of, is_full, is_live, is_live_and, is_number, is_quarantined, is_queued, is_queued_and, is_reference, is_row_of, is_sent, is_sent_and, next_reference, phase_ended, phase_live, phase_of, phase_queued, phase_sent, rows_limit, uses_of}
use Rattle.txn_core.specs.declared.phases.AddRefusal.TheVariants as add_refusals
use Rattle.txn_core.specs.declared.phases.Arrival.TheVariants as arrivals
use Rattle.txn_core.specs.declared.phases.Phase.{Phase}
use Rattle.txn_core.specs.declared.phases.Phase.TheVariants.{Queued, Sent, Ended}

-- nothing more is said of a row
abbrev pub Nothing : Type 0
Nothing = Unit {0}

abbrev pub plain_phase : {E F : Type 0} → (E → F) → Phase E → Phase F
plain_phase f Queued = Queued
plain_phase f Sent = Sent
plain_phase f (Ended kind) = Ended (f kind)

abbrev pub plain_row : {X E F : Type 0} → (E → F) → Row X E → Row Nothing F
plain_row f row = record {
  id = row.id;
  owner = row.owner;
  lease = row.lease;
  reference = row.reference;
  deadline = row.deadline;
  phase = plain_phase f row.phase;
  what = tt;
}

abbrev pub plain : {X E F : Type 0} → (E → F) → RowTable X E → RowTable Nothing F
plain f t = record { references = t.references; window = t.window; rows = map (plain_row f) t.rows; free = t.free; drawn = t.drawn }

abbrev pub plain_draft : {X : Type 0} → Draft X → Draft Nothing
plain_draft draft = record { owner = draft.owner; lease = draft.lease; deadline = draft.deadline; what = tt }

abbrev pub plain_answer : {A B R : Type 0} → (A → B) → Result A R → Result B R
plain_answer f (Ok a) = Ok (f a)
plain_answer f (Err refusal) = Err refusal

-- a test of plain rows tells what a test of the rows does
abbrev pub TellsAlike : {X E F : Type 0} → (E → F) → (Row X E → Bool) → (Row Nothing F → Bool) → Type 0
TellsAlike {X} {E} f p q = (row : Row X E) → q (plain_row f row) ≡ p row

-- ---- lists

find_map : {R S : Type 0} (q : S → Bool) (g : R → S) (xs : List R) → find q (map g xs) ≡ option_map g (find (λ x. q (g x)) xs)
find_map q g [] = refl
find_map q g (x ∷ xs) =
    elim (q (g x)) as (λ b. cond b (Some (g x)) (find q (map g xs)) ≡ option_map g (cond b (Some x) (find (λ y. q (g y)) xs))) [ true ↦ refl | false ↦ find_map q g xs ]

find_same : {R : Type 0} (p q : R → Bool) (xs : List R) → ((x : R) → q x ≡ p x) → find q xs ≡ find p xs
find_same p q [] same = refl
find_same p q (x ∷ xs) same = ap (λ b. cond b (Some x) (find q xs)) (same x) ∙ ap (λ (o : Option _). cond (p x) (Some x) o) (find_same p q xs same)

any_map : {R S : Type 0} (p : R → Bool) (q : S → Bool) (g : R → S) (xs : List R) → ((x : R) → q (g x) ≡ p x) → list_any q (map g xs) ≡ list_any p xs
any_map p q g [] same = refl
any_map p q g (x ∷ xs) same = ap (λ b. b || list_any q (map g xs)) (same x) ∙ ap (λ b. p x || b) (any_map p q g xs same)

filter_map_same : {R S : Type 0} (p : R → Bool) (q : S → Bool) (g : R → S) (xs : List R) → ((x : R) → q (g x) ≡ p x) → filter q (map g xs) ≡ map g (filter p xs)
filter_map_same p q g [] same = refl
filter_map_same {R} {S} p q g (x ∷ xs) same =
    ap (λ b. cond b (g x ∷ filter q (map g xs)) (filter q (map g xs))) (same x)
    ∙ ap (λ (rest : List S). cond (p x) (g x ∷ rest) rest) (filter_map_same p q g xs same)
    ∙ (elim (p x) as (λ b. cond b (g x ∷ map g (filter p xs)) (map g (filter p xs)) ≡ map g (cond b (x ∷ filter p xs) (filter p xs))) [ true ↦ refl | false ↦ refl ])

map_map : {R S T : Type 0} (g : R → S) (h : S → T) (k : R → T) (xs : List R) → ((x : R) → h (g x) ≡ k x) → map h (map g xs) ≡ map k xs
map_map g h k [] same = refl
map_map {T = T} g h k (x ∷ xs) same = ap (λ (y : T). y ∷ map h (map g xs)) (same x) ∙ ap (λ ys. k x ∷ ys) (map_map g h k xs same)

-- ---- tests of a phase

pub plain_live : {E F : Type 0} (f : E → F) (phase : Phase E) → phase_live (plain_phase f phase) ≡ phase_live phase
plain_live f Queued = refl
plain_live f Sent = refl
plain_live f (Ended kind) = refl

pub plain_queued : {E F : Type 0} (f : E → F) (phase : Phase E) → phase_queued (plain_phase f phase) ≡ phase_queued phase
plain_queued f Queued = refl
plain_queued f Sent = refl
plain_queued f (Ended kind) = refl

pub plain_sent_phase : {E F : Type 0} (f : E → F) (phase : Phase E) → phase_sent (plain_phase f phase) ≡ phase_sent phase
plain_sent_phase f Queued = refl
plain_sent_phase f Sent = refl
plain_sent_phase f (Ended kind) = refl

pub plain_ended_phase : {E F : Type 0} (f : E → F) (phase : Phase E) → phase_ended (plain_phase f phase) ≡ phase_ended phase
plain_ended_phase f Queued = refl
plain_ended_phase f Sent = refl
plain_ended_phase f (Ended kind) = refl

both_alike : (a b c d : Bool) → a ≡ b → c ≡ d → (a && c) ≡ (b && d)
both_alike a b c d one two = ap (λ x. x && c) one ∙ ap (λ x. b && x) two

pub live_alike : {X E F : Type 0} (f : E → F) (p : Row X E → Bool) (q : Row Nothing F → Bool) → TellsAlike f p q → TellsAlike f (is_live_and p) (is_live_and q)
live_alike f p q alike = λ row. both_alike (is_live (plain_row f row)) (is_live row) (q (plain_row f row)) (p row) (plain_live f row.phase) (alike row)

pub queued_alike : {X E F : Type 0} (f : E → F) (p : Row X E → Bool) (q : Row Nothing F → Bool) → TellsAlike f p q → TellsAlike f (is_queued_and p) (is_queued_and q)
queued_alike f p q alike = λ row. both_alike (is_queued (plain_row f row)) (is_queued row) (q (plain_row f row)) (p row) (plain_queued f row.phase) (alike row)

pub sent_alike : {X E F : Type 0} (f : E → F) (p : Row X E → Bool) (q : Row Nothing F → Bool) → TellsAlike f p q → TellsAlike f (is_sent_and p) (is_sent_and q)
sent_alike f p q alike = λ row. both_alike (is_sent (plain_row f row)) (is_sent row) (q (plain_row f row)) (p row) (plain_sent_phase f row.phase) (alike row)

-- ---- what a table tells

plain_find : {X E F : Type 0} (f : E → F) (p : Row X E → Bool) (q : Row Nothing F → Bool) (rows : List (Row X E)) → TellsAlike f p q → find q (map (plain_row f) rows) ≡ option_map (plain_row f) (find p rows)
plain_find f p q rows alike = find_map q (plain_row f) rows ∙ ap (option_map (plain_row f)) (find_same p (λ row. q (plain_row f row)) rows alike)

plain_count : {X E F : Type 0} (f : E → F) (p : Row X E → Bool) (q : Row Nothing F → Bool) (rows : List (Row X E)) → TellsAlike f p q → count_by q (map (plain_row f) rows) ≡ count_by p rows
plain_count f p q rows alike = count_map q (plain_row f) rows ∙ counts_same (λ row. q (plain_row f row)) p rows alike

pub plain_full : {X E F : Type 0} (f : E → F) (t : RowTable X E) → is_full (plain f t) ≡ is_full t
plain_full f t = ap (λ n. n == rows_limit) (length-map t.rows (plain_row f))

pub plain_next_reference : {X E F : Type 0} (f : E → F) (t : RowTable X E) → next_reference (plain f t) ≡ next_reference t
plain_next_reference f t = refl

pub plain_uses : {X E F : Type 0} (f : E → F) (t : RowTable X E) (reference : ℕ) → uses_of reference (plain f t) ≡ uses_of reference t
plain_uses f t reference =
    ap (λ n. count_by (is_number reference) t.free + n) (plain_count f (is_live_and (has_reference reference)) (is_live_and (has_reference reference)) t.rows (live_alike f (has_reference reference) (has_reference reference) (λ row. refl)))

pub plain_quarantined : {X E F : Type 0} (f : E → F) (t : RowTable X E) (reference : ℕ) → is_quarantined reference (plain f t) ≡ is_quarantined reference t
plain_quarantined f t reference = ap (λ n. is_reference reference t && (n == 0)) (plain_uses f t reference)

id_kept : {X E F : Type 0} (f : E → F) (o : Option (Row X E)) → option_map (λ (row : Row Nothing F). row.id) (option_map (plain_row f) o) ≡ option_map (λ (row : Row X E). row.id) o
id_kept f None = refl
id_kept f (Some row) = refl

pub plain_first_where : {X E F : Type 0} (f : E → F) (p : Row X E → Bool) (q : Row Nothing F → Bool) (t : RowTable X E) → TellsAlike f p q → first_where q (plain f t) ≡ first_where p t
plain_first_where f p q t alike = ap (option_map (λ (row : Row _ _). row.id)) (plain_find f (is_live_and p) (is_live_and q) t.rows (live_alike f p q alike)) ∙ id_kept f (find (is_live_and p) t.rows)

pub plain_count_where : {X E F : Type 0} (f : E → F) (p : Row X E → Bool) (q : Row Nothing F → Bool) (t : RowTable X E) → TellsAlike f p q → count_where q (plain f t) ≡ count_where p t
plain_count_where f p q t alike = plain_count f (is_live_and p) (is_live_and q) t.rows (live_alike f p q alike)

pub plain_has_live : {X E F : Type 0} (f : E → F) (t : RowTable X E) (id : ℕ) → has_live id (plain f t) ≡ has_live id t
plain_has_live f t id = any_map (is_live_and (has_id id)) (is_live_and (has_id id)) (plain_row f) t.rows (live_alike f (has_id id) (has_id id) (λ row. refl))

pub plain_has_sent : {X E F : Type 0} (f : E → F) (t : RowTable X E) (id : ℕ) → has_sent id (plain f t) ≡ has_sent id t
plain_has_sent f t id = any_map (is_sent_and (has_id id)) (is_sent_and (has_id id)) (plain_row f) t.rows (sent_alike f (has_id id) (has_id id) (λ row. refl))

phase_kept : {X E F : Type 0} (f : E → F) (o : Option (Row X E)) → option_map (λ (row : Row Nothing F). row.phase) (option_map (plain_row f) o) ≡ option_map (plain_phase f) (option_map (λ (row : Row X E). row.phase) o)
phase_kept f None = refl
phase_kept f (Some row) = refl

pub plain_phase_of : {X E F : Type 0} (f : E → F) (t : RowTable X E) (owner id : ℕ) → phase_of owner id (plain f t) ≡ option_map (plain_phase f) (phase_of owner id t)
plain_phase_of f t owner id =
    ap (option_map (λ (row : Row _ _). row.phase)) (plain_find f (is_row_of owner id) (is_row_of owner id) t.rows (λ row. refl)) ∙ phase_kept f (find (is_row_of owner id) t.rows)

pub plain_awaiting : {X E F : Type 0} (f : E → F) (t : RowTable X E) (reference : ℕ) → awaiting reference (plain f t) ≡ option_map (plain_row f) (awaiting reference t)
plain_awaiting f t reference =
    plain_find f (is_sent_and (has_reference reference)) (is_sent_and (has_reference reference)) t.rows (sent_alike f (has_reference reference) (has_reference reference) (λ row. refl))

arrival_kept : {X E F : Type 0} (f : E → F) (t : RowTable X E) (reference : ℕ) (o : Option (Row X E)) → arrival_for reference (plain f t) (option_map (plain_row f) o) ≡ arrival_for reference t o
arrival_kept f t reference None = ap (λ b. if b then arrivals.Late else arrivals.Stray) (plain_quarantined f t reference)
arrival_kept f t reference (Some row) = refl

pub plain_arrival : {X E F : Type 0} (f : E → F) (t : RowTable X E) (reference : ℕ) → arrival_of reference (plain f t) ≡ arrival_of reference t
plain_arrival f t reference = ap (arrival_for reference (plain f t)) (plain_awaiting f t reference) ∙ arrival_kept f t reference (awaiting reference t)

-- ---- steps

-- each row comes to a phase, and is plain then, or the other way round
plain_in_phases : {X E F : Type 0} (f : E → F) (phase : Row X E → Phase E) (after : Row Nothing F → Phase F) (rows : List (Row X E)) → ((row : Row X E) → after (plain_row f row) ≡ plain_phase f (phase row)) → in_phases after (map (plain_row f) rows) ≡ map (plain_row f) (in_phases phase rows)
plain_in_phases f phase after [] alike = refl
plain_in_phases f phase after (row ∷ rows) alike =
    ap (λ (g : Phase _). record (plain_row f row) { phase = g } ∷ in_phases after (map (plain_row f) rows)) (alike row)
    ∙ ap (λ rest. plain_row f (in_phase phase row) ∷ rest) (plain_in_phases f phase after rows alike)

plain_references : {X E F : Type 0} (f : E → F) (p : Row X E → Bool) (q : Row Nothing F → Bool) (rows : List (Row X E)) → TellsAlike f p q → references_of q (map (plain_row f) rows) ≡ references_of p rows
plain_references {X} {E} {F} f p q rows alike =
    ap (map (λ (row : Row Nothing F). row.reference)) (filter_map_same p q (plain_row f) rows alike)
    ∙ map_map (plain_row f) (λ (row : Row Nothing F). row.reference) (λ (row : Row X E). row.reference) (filter p rows) (λ row. refl)

pub plain_with_row : {X E F : Type 0} (f : E → F) (draft : Draft X) (t : RowTable X E) (reference : ℕ) (rest : List ℕ) → with_row (plain_draft draft) (plain f t) reference rest ≡ plain f (with_row draft t reference rest)
plain_with_row f draft t reference rest =
    ap (λ (rows : List (Row _ _)). record (plain f t) { rows = rows; free = rest; drawn = t.drawn + 1 }) (sym (map-append (plain_row f) t.rows (queued_row draft (t.drawn + 1) reference ∷ [])))

added_answer : {X E F : Type 0} (f : E → F) (draft : Draft X) (t : RowTable X E) (free : List ℕ) (b : Bool) → answer_of (if b then Err add_refusals.Full else added_under (plain_draft draft) (plain f t) free) ≡ answer_of (if b then Err add_refusals.Full else added_under draft t free)
added_answer f draft t free true = refl
added_answer f draft t [] false = refl
added_answer f draft t (reference ∷ rest) false = refl

pub plain_added : {X E F : Type 0} (f : E → F) (draft : Draft X) (t : RowTable X E) → answer_of (added (plain_draft draft) (plain f t)) ≡ answer_of (added draft t)
plain_added f draft t = ap (λ b. answer_of (if b then Err add_refusals.Full else added_under (plain_draft draft) (plain f t) t.free)) (plain_full f t) ∙ added_answer f draft t t.free (is_full t)

added_after : {X E F : Type 0} (f : E → F) (draft : Draft X) (t : RowTable X E) (free : List ℕ) (b : Bool) → table_or (plain f t) (if b then Err add_refusals.Full else added_under (plain_draft draft) (plain f t) free) ≡ plain f (table_or t (if b then Err add_refusals.Full else added_under draft t free))
added_after f draft t free true = refl
added_after f draft t [] false = refl
added_after f draft t (reference ∷ rest) false = plain_with_row f draft t reference rest

pub plain_after_added : {X E F : Type 0} (f : E → F) (draft : Draft X) (t : RowTable X E) → table_or (plain f t) (added (plain_draft draft) (plain f t)) ≡ plain f (table_or t (added draft t))
plain_after_added f draft t = ap (λ b. table_or (plain f t) (if b then Err add_refusals.Full else added_under (plain_draft draft) (plain f t) t.free)) (plain_full f t) ∙ added_after f draft t t.free (is_full t)

sent_kept : {X E F : Type 0} (f : E → F) (id : ℕ) (row : Row X E) (b : Bool) → (if b then Sent else plain_phase f row.phase) ≡ plain_phase f (if b then Sent else row.phase)
sent_kept f id row true = refl
sent_kept f id row false = refl

pub plain_sent : {X E F : Type 0} (f : E → F) (id : ℕ) (t : RowTable X E) → sent id (plain f t) ≡ plain f (sent id t)
plain_sent f id t =
    ap (λ (rows : List (Row _ _)). record (plain f t) { rows = rows }) (plain_in_phases f (sent_phase id) (sent_phase id) t.rows
    (λ row. ap (λ b. if b then Sent else plain_phase f row.phase) (queued_alike f (has_id id) (has_id id) (λ r. refl) row) ∙ sent_kept f id row (is_queued_and (has_id id) row)))

-- the row that is sent
abbrev pub sent_id : {X E : Type 0} → Option (RowTable X E × Row X E) → Option ℕ
sent_id o = option_map (λ p. p.1.id) o

sent_id_kept : {X E F : Type 0} (f : E → F) (t : RowTable X E) (o : Option (Row X E)) → sent_id (sent_from (plain f t) (option_map (plain_row f) o)) ≡ sent_id (sent_from t o)
sent_id_kept f t None = refl
sent_id_kept f t (Some row) = refl

sent_after_kept : {X E F : Type 0} (f : E → F) (t : RowTable X E) (o : Option (Row X E)) → after_or (plain f t) (sent_from (plain f t) (option_map (plain_row f) o)) ≡ plain f (after_or t (sent_from t o))
sent_after_kept f t None = refl
sent_after_kept f t (Some row) = plain_sent f row.id t

plain_next_queued : {X E F : Type 0} (f : E → F) (t : RowTable X E) → find is_queued (plain f t).rows ≡ option_map (plain_row f) (find is_queued t.rows)
plain_next_queued f t = plain_find f is_queued is_queued t.rows (λ row. plain_queued f row.phase)

plain_room : {X E F : Type 0} (f : E → F) (t : RowTable X E) → nat_lt (count_by is_sent (plain f t).rows) t.window ≡ nat_lt (count_by is_sent t.rows) t.window
plain_room f t = ap (λ n. nat_lt n t.window) (plain_count f is_sent is_sent t.rows (λ row. plain_sent_phase f row.phase))

sent_id_if : {X E F : Type 0} (f : E → F) (t : RowTable X E) (b : Bool) → sent_id (if b then sent_from (plain f t) (find is_queued (plain f t).rows) else None) ≡ sent_id (if b then sent_from t (find is_queued t.rows) else None)
sent_id_if f t true = ap (λ o. sent_id (sent_from (plain f t) o)) (plain_next_queued f t) ∙ sent_id_kept f t (find is_queued t.rows)
sent_id_if f t false = refl

pub plain_sent_next : {X E F : Type 0} (f : E → F) (t : RowTable X E) → sent_id (sent_next (plain f t)) ≡ sent_id (sent_next t)
plain_sent_next f t = ap (λ b. sent_id (if b then sent_from (plain f t) (find is_queued (plain f t).rows) else None)) (plain_room f t) ∙ sent_id_if f t (nat_lt (count_by is_sent t.rows) t.window)

sent_after_if : {X E F : Type 0} (f : E → F) (t : RowTable X E) (b : Bool) → after_or (plain f t) (if b then sent_from (plain f t) (find is_queued (plain f t).rows) else None) ≡ plain f (after_or t (if b then sent_from t (find is_queued t.rows) else None))
sent_after_if f t true = ap (λ o. after_or (plain f t) (sent_from (plain f t) o)) (plain_next_queued f t) ∙ sent_after_kept f t (find is_queued t.rows)
sent_after_if f t false = refl

pub plain_after_sent : {X E F : Type 0} (f : E → F) (t : RowTable X E) → after_or (plain f t) (sent_next (plain f t)) ≡ plain f (after_or t (sent_next t))
plain_after_sent f t = ap (λ b. after_or (plain f t) (if b then sent_from (plain f t) (find is_queued (plain f t).rows) else None)) (plain_room f t) ∙ sent_after_if f t (nat_lt (count_by is_sent t.rows) t.window)

pub plain_settled : {X E F : Type 0} (f : E → F) (reference : ℕ) (t : RowTable X E) → settled reference (plain f t) ≡ plain f (settled reference t)
plain_settled f reference t = refl

ended_kept : {X E F : Type 0} (f : E → F) (kind : E) (row : Row X E) (b : Bool) → (if b then Ended (f kind) else plain_phase f row.phase) ≡ plain_phase f (if b then Ended kind else row.phase)
ended_kept f kind row true = refl
ended_kept f kind row false = refl

plain_ended_rows : {X E F : Type 0} (f : E → F) (p : Row X E → Bool) (q : Row Nothing F → Bool) (kind : E) (rows : List (Row X E)) → TellsAlike f p q → in_phases (ended_phase q (f kind)) (map (plain_row f) rows) ≡ map (plain_row f) (in_phases (ended_phase p kind) rows)
plain_ended_rows f p q kind rows alike =
    plain_in_phases f (ended_phase p kind) (ended_phase q (f kind)) rows
    (λ row. ap (λ b. if b then Ended (f kind) else plain_phase f row.phase) (live_alike f p q alike row) ∙ ended_kept f kind row (is_live_and p row))

pub plain_ended_all : {X E F : Type 0} (f : E → F) (p : Row X E → Bool) (q : Row Nothing F → Bool) (kind : E) (t : RowTable X E) → TellsAlike f p q → ended_all q (f kind) (plain f t) ≡ plain f (ended_all p kind t)
plain_ended_all f p q kind t alike =
    ap (λ (rows : List (Row _ _)). record (plain f t) { rows = rows; free = t.free ++ references_of (is_queued_and q) (plain f t).rows }) (plain_ended_rows f p q kind t.rows alike)
    ∙ ap (λ (back : List ℕ). record (plain f (ended_all p kind t)) { free = t.free ++ back }) (plain_references f (is_queued_and p) (is_queued_and q) t.rows (queued_alike f p q alike))

pub plain_replied : {X E F : Type 0} (f : E → F) (id : ℕ) (kind : E) (t : RowTable X E) → replied id (f kind) (plain f t) ≡ plain f (replied id kind t)
plain_replied f id kind t =
    ap (λ (rows : List (Row _ _)). record (plain f t) { rows = rows; free = t.free ++ references_of (is_live_and (has_id id)) (plain f t).rows }) (plain_ended_rows f (has_id id) (has_id id) kind t.rows (λ row. refl))
    ∙ ap (λ (back : List ℕ). record (plain f (replied id kind t)) { free = t.free ++ back }) (plain_references f (is_live_and (has_id id)) (is_live_and (has_id id)) t.rows (live_alike f (has_id id) (has_id id) (λ row. refl)))

pub plain_ended : {X E F : Type 0} (f : E → F) (id : ℕ) (answered : Bool) (kind : E) (t : RowTable X E) → ended id answered (f kind) (plain f t) ≡ plain f (ended id answered kind t)
plain_ended f id true kind t = plain_replied f id kind t
plain_ended f id false kind t = plain_ended_all f (has_id id) (has_id id) kind t (λ row. refl)

pub plain_without : {X E F : Type 0} (f : E → F) (owner id : ℕ) (t : RowTable X E) → without owner id (plain f t) ≡ plain f (without owner id t)
plain_without f owner id t =
    ap (λ (rows : List (Row _ _)). record (plain f t) { rows = rows }) (filter_map_same (stays owner id) (stays owner id) (plain_row f) t.rows
    (λ row. ap (λ b. not (b && is_row_of owner id row)) (plain_ended_phase f row.phase)))

taken_answer : {X E F : Type 0} (f : E → F) (owner id : ℕ) (t : RowTable X E) (o : Option (Phase E)) → answer_of (taken_from owner id (plain f t) (option_map (plain_phase f) o)) ≡ plain_answer f (answer_of (taken_from owner id t o))
taken_answer f owner id t None = refl
taken_answer f owner id t (Some Queued) = refl
taken_answer f owner id t (Some Sent) = refl
taken_answer f owner id t (Some (Ended kind)) = refl

pub plain_taken : {X E F : Type 0} (f : E → F) (owner id : ℕ) (t : RowTable X E) → answer_of (taken owner id (plain f t)) ≡ plain_answer f (answer_of (taken owner id t))
plain_taken f owner id t = ap (λ o. answer_of (taken_from owner id (plain f t) o)) (plain_phase_of f t owner id) ∙ taken_answer f owner id t (phase_of owner id t)

taken_after : {X E F : Type 0} (f : E → F) (owner id : ℕ) (t : RowTable X E) (o : Option (Phase E)) → table_or (plain f t) (taken_from owner id (plain f t) (option_map (plain_phase f) o)) ≡ plain f (table_or t (taken_from owner id t o))
taken_after f owner id t None = refl
taken_after f owner id t (Some Queued) = refl
taken_after f owner id t (Some Sent) = refl
taken_after f owner id t (Some (Ended kind)) = plain_without f owner id t

pub plain_after_taken : {X E F : Type 0} (f : E → F) (owner id : ℕ) (t : RowTable X E) → table_or (plain f t) (taken owner id (plain f t)) ≡ plain f (table_or t (taken owner id t))
plain_after_taken f owner id t = ap (λ o. table_or (plain f t) (taken_from owner id (plain f t) o)) (plain_phase_of f t owner id) ∙ taken_after f owner id t (phase_of owner id t)

-- ---- what holds of every table

plain_ids : {X E F : Type 0} (f : E → F) (rows : List (Row X E)) → ids_of (map (plain_row f) rows) ≡ ids_of rows
plain_ids {X} {E} {F} f rows = map_map (plain_row f) (λ (row : Row Nothing F). row.id) (λ (row : Row X E). row.id) rows (λ row. refl)

pub plain_table : {X E F : Type 0} (f : E → F) (t : RowTable X E) → IsRowTable t → IsRowTable (plain f t)
plain_table f t table =
    let long = length-map t.rows (plain_row f) in
    let few = table.rows in
    record {
      settings = table.settings;
      rows = omega arith;
      ids = subst (IsRising 0 t.drawn) (sym (plain_ids f t.rows)) table.ids;
      drawn = table.drawn;
      once = λ r. let uses = plain_uses f t r in let was = table.once r in omega arith;
      within = λ r out. plain_uses f t r ∙ table.within r out;
    }

pub table_plain : {X E F : Type 0} (f : E → F) (t : RowTable X E) → IsRowTable (plain f t) → IsRowTable t
table_plain f t table =
    let long = length-map t.rows (plain_row f) in
    let few = table.rows in
    record {
      settings = table.settings;
      rows = omega arith;
      ids = subst (IsRising 0 t.drawn) (plain_ids f t.rows) table.ids;
      drawn = table.drawn;
      once = λ r. let uses = plain_uses f t r in let was = table.once r in omega arith;
      within = λ r out. sym (plain_uses f t r) ∙ table.within r out;
    }
