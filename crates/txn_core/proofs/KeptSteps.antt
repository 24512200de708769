-- What a write into the kept rows, references and marks does to the table that they stand for.
use Rattle.std.proofs.Common.{◌≡◌, inl, inr, ℕ, suc, ◌+◌, ◌<◌, ◌≤◌, Bool, true, false, cond, List, [], ◌∷◌, ◌++◌, length, get_or, set, take, drop, zero, refl, sym, ap, ◌∙◌, subst, arith, length-append}
use Rattle.std.specs.Prelude.{◌&&◌, ◌==◌, count_by, filter, if◌then◌else◌, map, nat_le, not, remove}
use Rattle.std.proofs.lemmas.Bool.{and_from, and_parts, and_right, cases_Bool, eq-eqb, eqb-true, ne_eqb}
use Rattle.std.proofs.lemmas.Bool.Decides.{nat_tests}
use Rattle.std.proofs.lemmas.List.{append-nil, get_or-set_other, get_or-set_same, get_or_at, length-set, map-append, map-set, set_at, take-map, take_at}
use Rattle.std.proofs.lemmas.List.Elements.{filter-append}
use Rattle.txn_core.specs.FirstPlaces.{Fails, IsFirstAt}
use Rattle.txn_core.specs.KeptRows.{AreMarks, row_of, rows_of, table_of}
use Rattle.txn_core.specs.RowEnds.{IsOnly, and_fails, ended_here, ended_other, fails_count, only, phases_at, reference_if, references_at}
use Rattle.txn_core.specs.RowLaws.{count_append, count_cons, number_cases, one, stays_out, uses_ended_all, uses_replied}
use Rattle.txn_core.specs.RowSteps.{ended, ended_all, ended_phase, in_phase, in_phases, references_of, sent, sent_phase, stays, without}
use Rattle.txn_core.specs.RowTables.{IsRising, IsRowTable, Row, RowTable, has_id, has_reference, ids_of, is_ended, is_live, is_live_and, is_number, is_quarantined, is_queued, is_reference, is_row_of, is_sent, phase_live, phase_queued, phase_sent, uses_of}
use Rattle.txn_core.specs.declared.kept.KeptRow.{KeptRow}
use Rattle.txn_core.specs.declared.table.Rows.TheInside.{Inside}
use Rattle.txn_core.specs.declared.phases.Phase.{Phase}
use Rattle.txn_core.specs.declared.phases.Phase.TheVariants.{Queued, Sent, Ended}

-- ---- a row is read, or written

get_or_map : {R S : Type 0} (f : R → S) (xs : List R) (i : ℕ) (d : R) → get_or (map f xs) i (f d) ≡ f (get_or xs i d)
get_or_map f [] i d = refl
get_or_map f (x ∷ xs) zero d = refl
get_or_map f (x ∷ xs) (suc i) d = get_or_map f xs i d

pub place_within : {R : Type 0} (p : R → Bool) (xs : List R) (at : ℕ) (x : R) → IsFirstAt p xs at x → at < length xs
place_within p xs at x first =
    let long = ap length first.split ∙ length-append first.before (x ∷ first.after) in
    let place = first.place in omega arith

-- the row that is read at a place stands for the row there
pub here : {E : Type 0} (p : Row (Unit {0}) E → Bool) (rows : List (KeptRow E)) (at : ℕ) (x : Row (Unit {0}) E) (k : KeptRow E) → IsFirstAt p (rows_of rows) at x → k ≡ get_or rows at k → row_of k ≡ x
here p rows at x k first read =
    ap row_of read
    ∙ sym (get_or_map row_of rows at k)
    ∙ ap (λ (xs : List (Row (Unit {0}) _)). get_or xs at (row_of k)) first.split
    ∙ get_or_at first.before x first.after (row_of k) at first.place

written : {E : Type 0} (p : Row (Unit {0}) E → Bool) (rows : List (KeptRow E)) (at : ℕ) (x : Row (Unit {0}) E) (new : KeptRow E) (first : IsFirstAt p (rows_of rows) at x) → rows_of (set rows at new) ≡ first.before ++ row_of new ∷ first.after
written p rows at x new first =
    map-set row_of rows at new
    ∙ ap (λ (xs : List (Row (Unit {0}) _)). set xs at (row_of new)) first.split
    ∙ set_at first.before x first.after (row_of new) at first.place

-- the row stands alone with its id
pub alone : {X E : Type 0} (p : Row X E → Bool) (t : RowTable X E) (at : ℕ) (x : Row X E) (first : IsFirstAt p t.rows at x) → IsRowTable t → IsOnly first.before first.after x
alone p t at x first table = only 0 t.drawn first.before first.after x (subst (λ rows. IsRising 0 t.drawn (ids_of rows)) first.split table.ids)

-- the row that is written comes to a phase, and the others stay
come_to : {E : Type 0} (p : Row (Unit {0}) E → Bool) (phase : Row (Unit {0}) E → Phase E) (a : Inside E) (at : ℕ) (x : Row (Unit {0}) E) (new : KeptRow E) → IsRowTable (table_of a) → IsFirstAt p (rows_of a.rows.items) at x → ((row : Row (Unit {0}) E) → has_id x.id row ≡ false → phase row ≡ row.phase) → row_of new ≡ in_phase phase x → rows_of (set a.rows.items at new) ≡ in_phases phase (rows_of a.rows.items)
come_to {E} p phase a at x new table first stays new_is =
    written p a.rows.items at x new first
    ∙ ap (λ (row : Row (Unit {0}) E). first.before ++ row ∷ first.after) new_is
    ∙ sym (ap (in_phases phase) first.split ∙ phases_at phase first.before first.after x (alone p (table_of a) at x first table) stays)

-- ---- the first queued row is sent

sent_other : {X E : Type 0} (id : ℕ) (row : Row X E) → has_id id row ≡ false → sent_phase id row ≡ row.phase
sent_other id row other = ap (λ b. if b then Sent else row.phase) (and_fails (is_queued row) (has_id id row) other)

sent_here : {X E : Type 0} (row : Row X E) → is_queued row ≡ true → sent_phase row.id row ≡ Sent
sent_here row queued = ap (λ b. if b then Sent else row.phase) (and_from (is_queued row) (row.id == row.id) queued (eq-eqb row.id row.id refl))

pub sent_rows : {E : Type 0} (a : Inside E) (at : ℕ) (x : Row (Unit {0}) E) (k : KeptRow E) → IsRowTable (table_of a) → IsFirstAt is_queued (rows_of a.rows.items) at x → k ≡ get_or a.rows.items at k → rows_of (set a.rows.items at (record k { phase = Sent })) ≡ (sent x.id (table_of a)).rows
sent_rows {E} a at x k table first read =
    come_to is_queued (sent_phase x.id) a at x (record k { phase = Sent }) table first (sent_other x.id)
    (ap (λ (row : Row (Unit {0}) E). record row { phase = Sent }) (here is_queued a.rows.items at x k first read)
    ∙ ap (λ (phase : Phase E). record x { phase = phase }) (sym (sent_here x first.passes)))

-- ---- a live row ends

-- the row with an id that passes as live
pub live_id : {X E : Type 0} (id : ℕ) (x : Row X E) → is_live_and (has_id id) x ≡ true → x.id ≡ id
live_id id x passes = eqb-true x.id id (and_parts (is_live x) (x.id == id) passes).1

pub ended_rows : {E : Type 0} (a : Inside E) (id : ℕ) (kind : E) (at : ℕ) (x : Row (Unit {0}) E) (k : KeptRow E) → IsRowTable (table_of a) → IsFirstAt (is_live_and (has_id id)) (rows_of a.rows.items) at x → k ≡ get_or a.rows.items at k → rows_of (set a.rows.items at (record k { phase = Ended kind })) ≡ in_phases (ended_phase (has_id id) kind) (rows_of a.rows.items)
ended_rows {E} a id kind at x k table first read =
    let p = is_live_and (has_id id) in
    let same = live_id id x first.passes in
    come_to p (ended_phase (has_id id) kind) a at x (record k { phase = Ended kind }) table first
    (λ row other. ended_other (has_id id) kind row (and_fails (is_live row) (has_id id row) (sym (ap (λ n. has_id n row) same) ∙ other)))
    (ap (λ (row : Row (Unit {0}) E). record row { phase = Ended kind }) (here p a.rows.items at x k first read)
    ∙ ap (λ (phase : Phase E). record x { phase = phase }) (sym (ended_here (has_id id) kind x first.passes)))

-- the references of the row with an id that passes
pub own_references : {X E : Type 0} (q : Row X E → Bool) (t : RowTable X E) (id : ℕ) (at : ℕ) (x : Row X E) → IsRowTable t → IsFirstAt (is_live_and (has_id id)) t.rows at x → references_of (λ row. q row && has_id id row) t.rows ≡ reference_if (q x) x
own_references q t id at x table first =
    ap (λ n. references_of (λ row. q row && has_id n row) t.rows) (sym (live_id id x first.passes))
    ∙ ap (references_of (λ row. q row && has_id x.id row)) first.split
    ∙ references_at q first.before first.after x (alone (is_live_and (has_id id)) t at x first table)

sent_not_queued : {E : Type 0} (phase : Phase E) → phase_sent phase ≡ true → phase_queued phase ≡ false
sent_not_queued Queued is = absurd (cc)
sent_not_queued Sent is = refl
sent_not_queued (Ended kind) is = refl

live_not_sent : {E : Type 0} (phase : Phase E) → phase_live phase ≡ true → phase_sent phase ≡ false → phase_queued phase ≡ true
live_not_sent Queued live stays = refl
live_not_sent Sent live stays = absurd (cc)
live_not_sent (Ended kind) live stays = absurd (cc)

-- it was sent, and isn't answered: its reference stays out
pub ends_out : {E : Type 0} (a : Inside E) (id : ℕ) (kind : E) (at : ℕ) (x : Row (Unit {0}) E) (k : KeptRow E) → IsRowTable (table_of a) → IsFirstAt (is_live_and (has_id id)) (rows_of a.rows.items) at x → k ≡ get_or a.rows.items at k → is_sent x ≡ true → record (table_of a) { rows = rows_of (set a.rows.items at (record k { phase = Ended kind })) } ≡ ended id false kind (table_of a)
ends_out {E} a id kind at x k table first read is_sent_x =
    let t = table_of a in
    let none : is_queued x ≡ false = sent_not_queued x.phase is_sent_x in
    ap (λ (rows : List (Row (Unit {0}) E)). record t { rows = rows }) (ended_rows a id kind at x k table first read)
    ∙ ap (λ (free : List ℕ). record (ended_all (has_id id) kind t) { free = free })
    (sym (ap (λ ns. t.free ++ ns) (own_references is_queued t id at x table first ∙ ap (λ b. reference_if b x) none) ∙ append-nil t.free))

-- else it is free again, at the back
freed : {E : Type 0} (a : Inside E) (id : ℕ) (answered : Bool) (kind : E) (at : ℕ) (x : Row (Unit {0}) E) → IsRowTable (table_of a) → IsFirstAt (is_live_and (has_id id)) (rows_of a.rows.items) at x → is_live x ≡ true → (not answered && is_sent x) ≡ false → record (table_of a) { rows = in_phases (ended_phase (has_id id) kind) (table_of a).rows; free = (table_of a).free ++ x.reference ∷ [] } ≡ ended id answered kind (table_of a)
freed {E} a id true kind at x table first live stays =
    let t = table_of a in
    ap (λ (back : List ℕ). record t { rows = in_phases (ended_phase (has_id id) kind) t.rows; free = t.free ++ back }) (sym (own_references is_live t id at x table first ∙ ap (λ b. reference_if b x) live))
freed {E} a id false kind at x table first live stays =
    let t = table_of a in
    let queued : is_queued x ≡ true = live_not_sent x.phase live stays in
    ap (λ (back : List ℕ). record t { rows = in_phases (ended_phase (has_id id) kind) t.rows; free = t.free ++ back }) (sym (own_references is_queued t id at x table first ∙ ap (λ b. reference_if b x) queued))

pub ends_free : {E : Type 0} (a : Inside E) (id : ℕ) (answered : Bool) (kind : E) (at : ℕ) (x : Row (Unit {0}) E) (k : KeptRow E) → IsRowTable (table_of a) → IsFirstAt (is_live_and (has_id id)) (rows_of a.rows.items) at x → k ≡ get_or a.rows.items at k → (not answered && is_sent x) ≡ false → record (table_of a) { rows = rows_of (set a.rows.items at (record k { phase = Ended kind })); free = a.free.items ++ k.reference ∷ [] } ≡ ended id answered kind (table_of a)
ends_free {E} a id answered kind at x k table first read stays =
    let t = table_of a in
    let p = is_live_and (has_id id) in
    let row = here p a.rows.items at x k first read in
    let live : is_live x ≡ true = (and_parts (is_live x) (x.id == id) first.passes).0 in
    ap (λ (rows : List (Row (Unit {0}) E)). record t { rows = rows; free = t.free ++ k.reference ∷ [] }) (ended_rows a id kind at x k table first read)
    ∙ ap (λ (r : ℕ). record t { rows = in_phases (ended_phase (has_id id) kind) t.rows; free = t.free ++ r ∷ [] }) (ap (λ (row : Row (Unit {0}) E). row.reference) row)
    ∙ freed a id answered kind at x table first live stays

-- ---- an ended row is taken out

drop_map : {R S : Type 0} (f : R → S) (i : ℕ) (xs : List R) → drop i (map f xs) ≡ map f (drop i xs)
drop_map f zero xs = refl
drop_map f (suc i) [] = refl
drop_map f (suc i) (x ∷ xs) = drop_map f i xs

remove_map : {R S : Type 0} (f : R → S) (xs : List R) (i : ℕ) → map f (remove xs i) ≡ remove (map f xs) i
remove_map f xs i = map-append f (take i xs) (drop (suc i) xs) ∙ ap (λ ys. ys ++ map f (drop (suc i) xs)) (sym (take-map f i xs)) ∙ ap (λ ys. take i (map f xs) ++ ys) (sym (drop_map f (suc i) xs))

past_all : {R : Type 0} (before after : List R) (x : R) → drop (suc (length before)) (before ++ x ∷ after) ≡ after
past_all [] after x = refl
past_all (y ∷ ys) after x = past_all ys after x

drop_past : {R : Type 0} (before after : List R) (x : R) (i : ℕ) → length before ≡ i → drop (suc i) (before ++ x ∷ after) ≡ after
drop_past before after x i place = ap (λ n. drop (suc n) (before ++ x ∷ after)) (sym place) ∙ past_all before after x

removed_at : {R : Type 0} (before after : List R) (x : R) (i : ℕ) → length before ≡ i → remove (before ++ x ∷ after) i ≡ before ++ after
removed_at before after x i place =
    ap (λ ys. ys ++ drop (suc i) (before ++ x ∷ after)) (take_at before (x ∷ after) i place)
    ∙ ap (λ ys. before ++ ys) (drop_past before after x i place)

other_stays : (ended id owner : Bool) → id ≡ false → not (ended && (id && owner)) ≡ true
other_stays true id owner is = ap (λ b. not (b && owner)) is
other_stays false id owner is = refl

fails_stay : {X E : Type 0} (owner id : ℕ) (rows : List (Row X E)) → Fails (has_id id) rows → filter (stays owner id) rows ≡ rows
fails_stay owner id [] fails = refl
fails_stay owner id (row ∷ rows) fails =
    ap (λ b. cond b (row ∷ filter (stays owner id) rows) (filter (stays owner id) rows)) (other_stays (is_ended row) (has_id id row) (row.owner == owner) fails.0)
    ∙ ap (λ rest. row ∷ rest) (fails_stay owner id rows fails.1)

pub taken_rows : {E : Type 0} (a : Inside E) (owner id : ℕ) (at : ℕ) (x : Row (Unit {0}) E) → IsRowTable (table_of a) → IsFirstAt (is_row_of owner id) (rows_of a.rows.items) at x → is_ended x ≡ true → rows_of (remove a.rows.items at) ≡ (without owner id (table_of a)).rows
taken_rows {E} a owner id at x table first ended_x =
    let t = table_of a in
    let same : x.id ≡ id = eqb-true x.id id (and_parts (x.id == id) (x.owner == owner) first.passes).0 in
    let only_one = alone (is_row_of owner id) t at x first table in
    let s = stays owner x.id in
    let goes : s x ≡ false = ap not (and_from (is_ended x) (is_row_of owner x.id x) ended_x (ap (λ n. is_row_of owner n x) same ∙ first.passes)) in
    remove_map row_of a.rows.items at
    ∙ ap (λ (xs : List (Row (Unit {0}) E)). remove xs at) first.split
    ∙ removed_at first.before first.after x at first.place
    ∙ sym (ap (λ n. filter (stays owner n) t.rows) (sym same)
    ∙ ap (filter s) first.split
    ∙ filter-append s first.before (x ∷ first.after)
    ∙ ap (λ rows. rows ++ filter s (x ∷ first.after)) (fails_stay owner x.id first.before only_one.before_it)
    ∙ ap (λ b. first.before ++ cond b (x ∷ filter s first.after) (filter s first.after)) goes
    ∙ ap (λ rows. first.before ++ rows) (fails_stay owner x.id first.after only_one.after_it))

-- ---- the uses of the row's reference

live_counts : {X E : Type 0} (p q : Row X E → Bool) (t : RowTable X E) (at : ℕ) (x : Row X E) → IsFirstAt p t.rows at x → q x ≡ true → 1 ≤ count_by q t.rows
live_counts p q t at x first passes =
    let all = ap (count_by q) first.split ∙ count_append q first.before (x ∷ first.after) in
    let last = count_cons q x first.after in
    let counts : one (q x) ≡ 1 = ap one passes in omega arith

pub some_live : {X E : Type 0} (p : Row X E → Bool) (t : RowTable X E) (at : ℕ) (x : Row X E) → IsFirstAt p t.rows at x → is_live x ≡ true → 1 ≤ count_by is_live t.rows
some_live p t at x first live = live_counts p is_live t at x first live

pub live_uses : {X E : Type 0} (p : Row X E → Bool) (t : RowTable X E) (at : ℕ) (x : Row X E) → IsRowTable t → IsFirstAt p t.rows at x → is_live x ≡ true → uses_of x.reference t ≡ 1
live_uses p t at x table first live =
    let some = live_counts p (is_live_and (has_reference x.reference)) t at x first (and_from (is_live x) (x.reference == x.reference) live (eq-eqb x.reference x.reference refl)) in
    let once = table.once x.reference in omega arith

pub live_reference : {X E : Type 0} (p : Row X E → Bool) (t : RowTable X E) (at : ℕ) (x : Row X E) → IsRowTable t → IsFirstAt p t.rows at x → is_live x ≡ true → is_reference x.reference t ≡ true
live_reference p t at x table first live =
    let uses = live_uses p t at x table first live in
    elim (cases_Bool (is_reference x.reference t)) [ inl is ↦ is | inr out ↦ let none = table.within x.reference out in absurd (omega arith) ]

out_fails : {X E : Type 0} (id r : ℕ) (rows : List (Row X E)) → Fails (has_id id) rows → Fails (stays_out (has_id id) r) rows
out_fails id r [] fails = tt
out_fails id r (row ∷ rows) fails = (ap (λ b. b && has_reference r row) (and_fails (is_sent row) (has_id id row) fails.0), out_fails id r rows fails.1)

own_id : (a : Bool) (id : ℕ) → (a && (id == id)) ≡ a
own_id true id = eq-eqb id id refl
own_id false id = refl

-- of an unanswered end, only the row's own reference stays out, where it was sent
out_count : {X E : Type 0} (t : RowTable X E) (id : ℕ) (at : ℕ) (x : Row X E) (r : ℕ) → IsRowTable t → IsFirstAt (is_live_and (has_id id)) t.rows at x → count_by (stays_out (has_id id) r) t.rows ≡ one (is_sent x && is_number r x.reference)
out_count t id at x r table first =
    let same = live_id id x first.passes in
    let only_one = alone (is_live_and (has_id id)) t at x first table in
    let q = stays_out (has_id x.id) r in
    let before = fails_count q first.before (out_fails x.id r first.before only_one.before_it) in
    let after = fails_count q first.after (out_fails x.id r first.after only_one.after_it) in
    let all = ap (count_by q) first.split ∙ count_append q first.before (x ∷ first.after) in
    let last = count_cons q x first.after in
    let own : one (q x) ≡ one (is_sent x && is_number r x.reference) = ap (λ b. one (b && is_number r x.reference)) (own_id (is_sent x) x.id) in
    ap (λ n. count_by (stays_out (has_id n) r) t.rows) (sym same) ∙ omega arith

pub uses_out : {X E : Type 0} (t : RowTable X E) (id : ℕ) (kind : E) (at : ℕ) (x : Row X E) → IsRowTable t → IsFirstAt (is_live_and (has_id id)) t.rows at x → is_sent x ≡ true → (r : ℕ) → uses_of r (ended id false kind t) + one (is_number r x.reference) ≡ uses_of r t
uses_out t id kind at x table first sent_x r =
    let uses = uses_ended_all (has_id id) kind t r in
    let out = out_count t id at x r table first ∙ ap (λ b. one (b && is_number r x.reference)) sent_x in omega arith

pub uses_freed : {X E : Type 0} (t : RowTable X E) (id : ℕ) (answered : Bool) (kind : E) (at : ℕ) (x : Row X E) → IsRowTable t → IsFirstAt (is_live_and (has_id id)) t.rows at x → (not answered && is_sent x) ≡ false → (r : ℕ) → uses_of r (ended id answered kind t) ≡ uses_of r t
uses_freed t id true kind at x table first stays r = uses_replied id kind t r
uses_freed t id false kind at x table first stays r =
    let uses = uses_ended_all (has_id id) kind t r in
    let out = out_count t id at x r table first ∙ ap (λ b. one (b && is_number r x.reference)) stays in omega arith

-- ---- marks

quarantined_same : {X E : Type 0} (t u : RowTable X E) (r : ℕ) → u.references ≡ t.references → uses_of r u ≡ uses_of r t → is_quarantined r t ≡ is_quarantined r u
quarantined_same t u r references uses = ap (λ n. (nat_le 1 r && nat_le r n) && (uses_of r t == 0)) (sym references) ∙ ap (λ n. is_reference r u && (n == 0)) (sym uses)

marks_length : {E : Type 0} (marks others : List Bool) (t u : RowTable (Unit {0}) E) → AreMarks marks t → u.references ≡ t.references → length others ≡ length marks → length others ≡ u.references + 1
marks_length marks others t u are references long = long ∙ are.0 ∙ ap (λ n. n + 1) (sym references)

pub marks_same : {E : Type 0} (marks : List Bool) (t u : RowTable (Unit {0}) E) → AreMarks marks t → u.references ≡ t.references → ((r : ℕ) → uses_of r u ≡ uses_of r t) → AreMarks marks u
marks_same marks t u are references uses = (
  marks_length marks marks t u are references refl,
  λ r d within. are.1 r d (subst (λ n. r ≤ n) references within) ∙ quarantined_same t u r references (uses r),
)

pub up_to : (n r : ℕ) → (nat_le 1 r && nat_le r n) ≡ true → r ≤ n
up_to n r is = grind (arith, nat_tests)

own_number : (r : ℕ) → one (is_number r r) ≡ 1
own_number r = ap one (eq-eqb r r refl)

differ : (r reference : ℕ) → r ≡ reference → one (is_number r reference) ≡ 0 → ⊥
differ r reference e other = let own = own_number r in let same : one (is_number r reference) ≡ one (is_number r r) = ap (λ n. one (is_number r n)) (sym e) in omega arith

pub marks_out : {E : Type 0} (marks : List Bool) (t u : RowTable (Unit {0}) E) (reference : ℕ) → AreMarks marks t → u.references ≡ t.references → ((r : ℕ) → uses_of r u + one (is_number r reference) ≡ uses_of r t) → uses_of reference t ≡ 1 → is_reference reference t ≡ true → AreMarks (set marks reference true) u
marks_out marks t u reference are references uses used inside = (
  marks_length marks (set marks reference true) t u are references (length-set marks reference true),
  λ r d within.
      elim (number_cases r reference) [
        | inl same ↦
            let low = up_to t.references reference inside in
            let long = are.0 in
            let mark : get_or (set marks reference true) reference d ≡ true = get_or-set_same marks reference true d (omega arith) in
            let none : uses_of reference u ≡ 0 = let here = uses reference in let own = own_number reference in omega arith in
            let is : is_quarantined reference u ≡ true = and_from (is_reference reference u) (uses_of reference u == 0) (ap (λ n. nat_le 1 reference && nat_le reference n) references ∙ inside) (eq-eqb (uses_of reference u) 0 none) in
            subst (λ q. get_or (set marks reference true) q d ≡ is_quarantined q u) (sym same) (mark ∙ sym is)
        | inr other ↦
            let here = uses r in
            let apart : r ≡ reference → ⊥ = λ e. differ r reference e other in
            get_or-set_other marks reference r true d apart ∙ are.1 r d (subst (λ n. r ≤ n) references within) ∙ quarantined_same t u r references (omega arith)
      ],
)

pub marks_in : {E : Type 0} (marks : List Bool) (t u : RowTable (Unit {0}) E) (reference : ℕ) → AreMarks marks t → u.references ≡ t.references → ((r : ℕ) → uses_of r u ≡ uses_of r t + one (is_number r reference)) → is_reference reference t ≡ true → AreMarks (set marks reference false) u
marks_in marks t u reference are references uses inside = (
  marks_length marks (set marks reference false) t u are references (length-set marks reference false),
  λ r d within.
      elim (number_cases r reference) [
        | inl same ↦
            let low = up_to t.references reference inside in
            let long = are.0 in
            let mark : get_or (set marks reference false) reference d ≡ false = get_or-set_same marks reference false d (omega arith) in
            let used : uses_of reference u ≡ 0 → ⊥ = λ none. let here = uses reference in let own = own_number reference in omega arith in
            let is : is_quarantined reference u ≡ false = and_right (is_reference reference u) (uses_of reference u == 0) (ne_eqb (uses_of reference u) 0 used) in
            subst (λ q. get_or (set marks reference false) q d ≡ is_quarantined q u) (sym same) (mark ∙ sym is)
        | inr other ↦
            let here = uses r in
            let apart : r ≡ reference → ⊥ = λ e. differ r reference e other in
            get_or-set_other marks reference r false d apart ∙ are.1 r d (subst (λ n. r ≤ n) references within) ∙ quarantined_same t u r references (omega arith)
      ],
)
