-- What each call leaves, by what it wrote: the table that it is to leave, with marks that fit it.
use Rattle.std.proofs.Common.{◌≡◌, ◌⊎◌, inl, inr, ℕ, ◌+◌, ◌-◌, ◌^◌, ◌<◌, ◌≤◌, Bool, true, false, List, [], ◌∷◌, ◌++◌, Option, Some, None, Result, Ok, Err, length, get_or, set, refl, sym, ap, ◌∙◌, subst, arith}
use Rattle.std.specs.Prelude.{◌&&◌, ◌==◌, IfSome, count_by, if◌then◌else◌, nat_le, nat_lt, not, remove, replicate, vec_len}
use Rattle.std.specs.List.{find, range_with_len}
use Rattle.std.specs.Option.{IsSome, option_map, option_to_list}
use Rattle.std.specs.Result.{is_ok}
use Rattle.std.specs.Vec.{vec_capacity}
use Rattle.std.specs.VecDeque.{deque_capacity}
use Rattle.std.proofs.lemmas.Bool.{and_left, and_parts, and_right, cases_Bool, cases_lt, lt-leb, lt-ltb, ne_eqb}
use Rattle.std.proofs.lemmas.Bool.Decides.{nat_tests}
use Rattle.std.proofs.lemmas.List.{get_or-replicate, get_or_past, length-map, length-replicate, map-append}
use Rattle.txn_core.specs.FirstPlaces.{IsFirstAt, IsPlace, fails_find, first_is_found, none_any}
use Rattle.txn_core.specs.KeptRows.{AreMarks, IsKept, first_id, row_of, rows_of, table_of}
use Rattle.txn_core.specs.RowEnds.{awaiting_is_sent, first_is_live, named, unnamed}
use Rattle.txn_core.specs.RowLaws.{added_table, count_range, ended_table, free_few, free_fewer, opening_table, quarantined_parts, sent_table, settled_table, uses_added, uses_sent, uses_settled, uses_without, without_table}
use Rattle.txn_core.specs.RowSteps.{Draft, answer_of, arrival_for, arrival_of, awaiting, ended, queued_row, sent, sent_from, sent_next, settled, table_or, taken, taken_from, with_row, without}
use Rattle.txn_core.specs.RowTables.{IsRowSettings, IsRowTable, Row, RowTable, first_where, has_id, has_live, has_reference, has_sent, is_ended, is_full, is_live, is_live_and, is_number, is_quarantined, is_queued, is_reference, is_row_of, is_sent, is_sent_and, opening, phase_of, rows_limit, uses_of}
use Rattle.txn_core.specs.declared.kept.KeptRow.{KeptRow}
use Rattle.txn_core.specs.declared.phases.Arrival.TheVariants as arrivals
use Rattle.txn_core.specs.declared.phases.Phase.{Phase}
use Rattle.txn_core.specs.declared.phases.TakeRefusal.TheVariants as take_refusals
use Rattle.txn_core.specs.declared.phases.Phase.TheVariants.{Queued, Sent, Ended}
use Rattle.txn_core.specs.declared.table.Rows.TheInside.{Inside}
use Rattle.txn_core.proofs.KeptSteps.{ends_free, ends_out, here, live_reference, live_uses, marks_in, marks_out, marks_same, sent_rows, some_live, taken_rows, up_to, uses_freed, uses_out}

-- a table that was written is the one that was wanted, and the marks fit it
pub record Steps {E : Type 0} (new : RowTable (Unit {0}) E) (marks : List Bool) (u : RowTable (Unit {0}) E) : Type 0 where
  pub same : new ≡ u
  pub sound : IsRowTable u
  pub fit : AreMarks marks u

pub kept_by : {E : Type 0} (b : Inside E) (u : RowTable (Unit {0}) E) → Steps (table_of b) b.quarantined.items u → rows_limit ≤ vec_capacity b.rows → b.references ≤ deque_capacity b.free → IsKept b
kept_by b u steps room free_room = record {
  table = subst IsRowTable (sym steps.same) steps.sound;
  marks = subst (AreMarks b.quarantined.items) (sym steps.same) steps.fit;
  room = room;
  free_room = free_room;
}

pub sound_by : {E : Type 0} (new : RowTable (Unit {0}) E) (marks : List Bool) (u : RowTable (Unit {0}) E) → Steps new marks u → IsRowTable new
sound_by new marks u steps = subst IsRowTable (sym steps.same) steps.sound

-- a place in a list is one in the same list
pub place_in : {E : Type 0} (p : Row (Unit {0}) E → Bool) (rows items : List (KeptRow E)) (at : Option ℕ) → rows ≡ items → IsPlace p (rows_of rows) at → IsPlace p (rows_of items) at
place_in p rows items at same place = subst (λ rows. IsPlace p (rows_of rows) at) same place

-- ---- send_next

pub sends : {E : Type 0} (a : Inside E) (at : ℕ) (x : Row (Unit {0}) E) (k : KeptRow E) → IsKept a → IsFirstAt is_queued (rows_of a.rows.items) at x → k ≡ get_or a.rows.items at k → Steps (record (table_of a) { rows = rows_of (set a.rows.items at (record k { phase = Sent })) }) a.quarantined.items (sent x.id (table_of a))
sends {E} a at x k kept first read = record {
  same = ap (λ (rows : List (Row (Unit {0}) E)). record (table_of a) { rows = rows }) (sent_rows a at x k kept.table first read);
  sound = sent_table x.id (table_of a) kept.table;
  fit = marks_same a.quarantined.items (table_of a) (sent x.id (table_of a)) kept.marks refl (uses_sent x.id (table_of a));
}

-- what is sent next, by the place of the first queued row
pub sends_next : {X E : Type 0} (t : RowTable X E) (at : ℕ) (x : Row X E) → IsFirstAt is_queued t.rows at x → count_by is_sent t.rows < t.window → sent_next t ≡ Some (sent x.id t, x)
sends_next t at x first few =
    ap (λ b. if b then sent_from t (find is_queued t.rows) else None) (lt-ltb (count_by is_sent t.rows) t.window few) ∙ ap (sent_from t) (first_is_found is_queued t.rows at x first)

none_by : {X E : Type 0} (t : RowTable X E) (b : Bool) → find is_queued t.rows ≡ None → (if b then sent_from t (find is_queued t.rows) else None) ≡ None
none_by t true none = ap (sent_from t) none
none_by t false none = refl

pub sends_none : {X E : Type 0} (t : RowTable X E) → find is_queued t.rows ≡ None → sent_next t ≡ None
sends_none t none = none_by t (nat_lt (count_by is_sent t.rows) t.window) none

-- ---- add

pub adds : {E : Type 0} (a : Inside E) (draft : Draft (Unit {0})) (k : KeptRow E) (items : List (KeptRow E)) (reference : ℕ) (rest : List ℕ) → IsKept a → items ≡ a.rows.items ++ k ∷ [] → row_of k ≡ queued_row draft (a.drawn + 1) reference → a.free.items ≡ reference ∷ rest → is_full (table_of a) ≡ false → a.drawn < 2 ^ 64 - 1 → Steps (record (table_of a) { rows = rows_of items; free = rest; drawn = a.drawn + 1 }) a.quarantined.items (with_row draft (table_of a) reference rest)
adds {E} a draft k items reference rest kept pushed is first room few =
    let t = table_of a in
    let rows = ap rows_of pushed ∙ map-append row_of a.rows.items (k ∷ []) ∙ ap (λ (row : Row (Unit {0}) E). t.rows ++ row ∷ []) is in
    record {
      same = ap (λ (rows : List (Row (Unit {0}) E)). record t { rows = rows; free = rest; drawn = a.drawn + 1 }) rows;
      sound = added_table draft t reference rest kept.table room first few;
      fit = marks_same a.quarantined.items t (with_row draft t reference rest) kept.marks refl (uses_added draft t reference rest first);
    }

-- ---- settle

pub settles : {E : Type 0} (a : Inside E) (reference : ℕ) (free : List ℕ) (marks : List Bool) → IsKept a → is_quarantined reference (table_of a) ≡ true → free ≡ a.free.items ++ reference ∷ [] → marks ≡ set a.quarantined.items reference false → Steps (record (table_of a) { free = free }) marks (settled reference (table_of a))
settles {E} a reference free marks kept is pushed marked =
    let t = table_of a in
    record {
      same = ap (λ (free : List ℕ). record t { free = free }) pushed;
      sound = settled_table reference t kept.table is;
      fit = subst (λ marks. AreMarks marks (settled reference t)) (sym marked) (marks_in a.quarantined.items t (settled reference t) reference kept.marks refl (uses_settled reference t) (quarantined_parts reference t is).0);
    }

pub settles_room : {E : Type 0} (a : Inside E) (reference : ℕ) → IsKept a → is_quarantined reference (table_of a) ≡ true → length a.free.items < deque_capacity a.free
settles_room a reference kept is =
    let few = free_fewer (table_of a) reference kept.table is in
    let room = kept.free_room in omega arith

-- ---- end

pub ends_sent : {E : Type 0} (a : Inside E) (id : ℕ) (kind : E) (at : ℕ) (x : Row (Unit {0}) E) (k : KeptRow E) (marks : List Bool) → IsKept a → IsFirstAt (is_live_and (has_id id)) (rows_of a.rows.items) at x → k ≡ get_or a.rows.items at k → is_sent (row_of k) ≡ true → marks ≡ set a.quarantined.items k.reference true → Steps (record (table_of a) { rows = rows_of (set a.rows.items at (record k { phase = Ended kind })) }) marks (ended id false kind (table_of a))
ends_sent {E} a id kind at x k marks kept first read sent_k marked =
    let t = table_of a in
    let p = is_live_and (has_id id) in
    let row = here p a.rows.items at x k first read in
    let sent_x : is_sent x ≡ true = sym (ap (λ (r : Row (Unit {0}) E). is_sent r) row) ∙ sent_k in
    let reference : k.reference ≡ x.reference = ap (λ (r : Row (Unit {0}) E). r.reference) row in
    let live : is_live x ≡ true = (and_parts (is_live x) (has_id id x) first.passes).0 in
    record {
      same = ends_out a id kind at x k kept.table first read sent_x;
      sound = ended_table id false kind t kept.table;
      fit = subst (λ marks. AreMarks marks (ended id false kind t)) (sym (marked ∙ ap (λ r. set a.quarantined.items r true) reference))
          (marks_out a.quarantined.items t (ended id false kind t) x.reference kept.marks refl (uses_out t id kind at x kept.table first sent_x) (live_uses p t at x kept.table first live) (live_reference p t at x kept.table first live));
    }

ended_references : {X E : Type 0} (id : ℕ) (answered : Bool) (kind : E) (t : RowTable X E) → (ended id answered kind t).references ≡ t.references
ended_references id true kind t = refl
ended_references id false kind t = refl

pub ends_other : {E : Type 0} (a : Inside E) (id : ℕ) (answered : Bool) (kind : E) (at : ℕ) (x : Row (Unit {0}) E) (k : KeptRow E) (free : List ℕ) → IsKept a → IsFirstAt (is_live_and (has_id id)) (rows_of a.rows.items) at x → k ≡ get_or a.rows.items at k → (not answered && is_sent (row_of k)) ≡ false → free ≡ a.free.items ++ k.reference ∷ [] → Steps (record (table_of a) { rows = rows_of (set a.rows.items at (record k { phase = Ended kind })); free = free }) a.quarantined.items (ended id answered kind (table_of a))
ends_other {E} a id answered kind at x k free kept first read stays pushed =
    let t = table_of a in
    let p = is_live_and (has_id id) in
    let row = here p a.rows.items at x k first read in
    let stays_x : (not answered && is_sent x) ≡ false = sym (ap (λ (r : Row (Unit {0}) E). not answered && is_sent r) row) ∙ stays in
    record {
      same = ap (λ (free : List ℕ). record t { rows = rows_of (set a.rows.items at (record k { phase = Ended kind })); free = free }) pushed ∙ ends_free a id answered kind at x k kept.table first read stays_x;
      sound = ended_table id answered kind t kept.table;
      fit = marks_same a.quarantined.items t (ended id answered kind t) kept.marks (ended_references id answered kind t) (uses_freed t id answered kind at x kept.table first stays_x);
    }

pub ends_room : {E : Type 0} (a : Inside E) (id : ℕ) (at : ℕ) (x : Row (Unit {0}) E) → IsKept a → IsFirstAt (is_live_and (has_id id)) (rows_of a.rows.items) at x → length a.free.items < deque_capacity a.free
ends_room a id at x kept first =
    let live : is_live x ≡ true = (and_parts (is_live x) (has_id id x) first.passes).0 in
    let some = some_live (is_live_and (has_id id)) (table_of a) at x first live in
    let few = free_few (table_of a) kept.table in
    let room = kept.free_room in omega arith

-- the mark of the row's reference is there
pub ends_mark : {E : Type 0} (a : Inside E) (id : ℕ) (at : ℕ) (x : Row (Unit {0}) E) (k : KeptRow E) → IsKept a → IsFirstAt (is_live_and (has_id id)) (rows_of a.rows.items) at x → k ≡ get_or a.rows.items at k → k.reference < length a.quarantined.items
ends_mark {E} a id at x k kept first read =
    let p = is_live_and (has_id id) in
    let live : is_live x ≡ true = (and_parts (is_live x) (has_id id x) first.passes).0 in
    let reference : k.reference ≡ x.reference = ap (λ (r : Row (Unit {0}) E). r.reference) (here p a.rows.items at x k first read) in
    let low = up_to a.references x.reference (live_reference p (table_of a) at x kept.table first live) in
    let long = kept.marks.0 in omega arith

-- ---- take

pub takes : {E : Type 0} (a : Inside E) (owner id : ℕ) (at : ℕ) (x : Row (Unit {0}) E) (k : KeptRow E) (items : List (KeptRow E)) → IsKept a → IsFirstAt (is_row_of owner id) (rows_of a.rows.items) at x → k ≡ get_or a.rows.items at k → is_ended (row_of k) ≡ true → items ≡ remove a.rows.items at → Steps (record (table_of a) { rows = rows_of items }) a.quarantined.items (without owner id (table_of a))
takes {E} a owner id at x k items kept first read ended_k removed =
    let t = table_of a in
    let ended_x : is_ended x ≡ true = sym (ap (λ (r : Row (Unit {0}) E). is_ended r) (here (is_row_of owner id) a.rows.items at x k first read)) ∙ ended_k in
    record {
      same = ap (λ (rows : List (Row (Unit {0}) E)). record t { rows = rows }) (ap rows_of removed ∙ taken_rows a owner id at x kept.table first ended_x);
      sound = without_table owner id t kept.table;
      fit = marks_same a.quarantined.items t (without owner id t) kept.marks refl (uses_without owner id t);
    }

-- the phase of the row at its place
pub phase_at : {E : Type 0} (a : Inside E) (owner id : ℕ) (at : ℕ) (x : Row (Unit {0}) E) (k : KeptRow E) → IsFirstAt (is_row_of owner id) (rows_of a.rows.items) at x → k ≡ get_or a.rows.items at k → phase_of owner id (table_of a) ≡ Some k.phase
phase_at {E} a owner id at x k first read =
    ap (option_map (λ (row : Row (Unit {0}) E). row.phase)) (first_is_found (is_row_of owner id) (rows_of a.rows.items) at x first)
    ∙ ap (λ (row : Row (Unit {0}) E). Some row.phase) (sym (here (is_row_of owner id) a.rows.items at x k first read))

pub no_phase : {X E : Type 0} (t : RowTable X E) (owner id : ℕ) → IsPlace (is_row_of owner id) t.rows None → phase_of owner id t ≡ None
no_phase t owner id fails = ap (option_map (λ (row : Row _ _). row.phase)) (fails_find (is_row_of owner id) t.rows fails)

-- ---- due, live_of and first_live

pub named_is_live : {X E : Type 0} (p : Row X E → Bool) (t : RowTable X E) (o : Option ℕ) → o ≡ first_where p t → IfSome o (λ id. has_live id t ≡ true)
named_is_live p t None is = tt
named_is_live p t (Some id) is = first_is_live p t id (sym is)

-- ---- what a push leaves

pub ok_items : {A R X : Type 0} (r : Result A R) (new pushed old : List X) (a : A) → new ≡ (if is_ok r then pushed else old) → r ≡ Ok a → new ≡ pushed
ok_items r new pushed old a is ok = is ∙ ap (λ r. if is_ok r then pushed else old) ok

pub first_drawn : (o : Option ℕ) (free rest : List ℕ) (reference : ℕ) → free ≡ option_to_list o ++ rest → o ≡ Some reference → free ≡ reference ∷ rest
first_drawn o free rest reference is some = is ∙ ap (λ o. option_to_list o ++ rest) some

pub not_full : {E : Type 0} (a : Inside E) → (vec_len a.rows ≡ rows_limit → ⊥) → is_full (table_of a) ≡ false
not_full a apart =
    let long = length-map a.rows.items row_of in
    let len = a.rows.ok.0 in ne_eqb (length (rows_of a.rows.items)) rows_limit (λ full. apart (omega arith))

pub unanswered : (answered sent : Bool) → (not answered && sent) ≡ true → (answered ≡ false) × (sent ≡ true)
unanswered true sent is = absurd (cc)
unanswered false sent is = (refl, is)

pub place_of_live : {X E : Type 0} (id : ℕ) (t : RowTable X E) (at : Option ℕ) → has_live id t ≡ true → IsPlace (is_live_and (has_id id)) t.rows at → IsSome at
place_of_live id t None live none = let out = none_any (is_live_and (has_id id)) t.rows none in absurd (cc)
place_of_live id t (Some at) live place = refl

-- a live row isn't taken
pub pending : {X E : Type 0} (t : RowTable X E) (owner id : ℕ) (phase : Phase E) → phase_of owner id t ≡ Some phase → (phase ≡ Queued) ⊎ (phase ≡ Sent) → (answer_of (taken owner id t) ≡ Err take_refusals.Pending) × (table_or t (taken owner id t) ≡ t)
pending t owner id phase at is =
    elim is [
      | inl queued ↦ let found = at ∙ ap Some queued in (ap (λ o. answer_of (taken_from owner id t o)) found, ap (λ o. table_or t (taken_from owner id t o)) found)
      | inr sent ↦ let found = at ∙ ap Some sent in (ap (λ o. answer_of (taken_from owner id t o)) found, ap (λ o. table_or t (taken_from owner id t o)) found)
    ]

-- ---- arrival

-- a mark tells whether a reference is in quarantine, and none is past the marks
pub marked : {E : Type 0} (marks : List Bool) (t : RowTable (Unit {0}) E) (reference : ℕ) → AreMarks marks t → get_or marks reference false ≡ is_quarantined reference t
marked marks t reference are =
    elim (cases_lt t.references reference) [
      | inl past ↦ let long = are.0 in get_or_past marks reference false (omega arith) ∙ sym (and_left (is_reference reference t) (uses_of reference t == 0) (and_right (nat_le 1 reference) (nat_le reference t.references) (lt-leb reference t.references past)))
      | inr within ↦ are.1 reference false within
    ]

pub arrives : {E : Type 0} (t : RowTable (Unit {0}) E) (reference id : ℕ) → Some id ≡ first_id (is_sent_and (has_reference reference)) t.rows → (arrivals.Row id ≡ arrival_of reference t) × (has_sent id t ≡ true)
arrives t reference id is =
    let found = named (is_sent_and (has_reference reference)) id (awaiting reference t) (sym is) in
    let x = found.0 in (
      ap arrivals.Row (sym found.2) ∙ sym (ap (arrival_for reference t) found.1),
      ap (λ n. has_sent n t) (sym found.2) ∙ awaiting_is_sent reference t x found.1,
    )

pub arrives_late : {E : Type 0} (t : RowTable (Unit {0}) E) (reference : ℕ) (b : Bool) → None ≡ first_id (is_sent_and (has_reference reference)) t.rows → is_quarantined reference t ≡ b → arrival_of reference t ≡ (if b then arrivals.Late else arrivals.Stray)
arrives_late t reference b none is =
    ap (arrival_for reference t) (unnamed (awaiting reference t) (sym none)) ∙ ap (λ b. if b then arrivals.Late else arrivals.Stray) is

-- ---- new

-- all references are free, so none is in quarantine
opening_uses : (references r : ℕ) → (nat_le 1 r && nat_le r references) ≡ true → 1 ≤ count_by (is_number r) (range_with_len 1 references)
opening_uses references r inside = let all = count_range 1 references r in grind (arith, nat_tests)

none_out : (E : Type 0) (references window r : ℕ) → is_quarantined r (opening {X = Unit {0}} {E = E} references window) ≡ false
none_out E references window r =
    let t : RowTable (Unit {0}) E = opening references window in
    elim (cases_Bool (is_reference r t)) [
      | inl inside ↦ let some = opening_uses references r inside in and_right (is_reference r t) (uses_of r t == 0) (ne_eqb (uses_of r t) 0 (λ none. omega arith))
      | inr outside ↦ and_left (is_reference r t) (uses_of r t == 0) outside
    ]

pub opens : {E : Type 0} (a : Inside E) → IsRowSettings a.references a.window → a.rows.items ≡ [] → a.free.items ≡ range_with_len 1 a.references → a.quarantined.items ≡ replicate (a.references + 1) false → a.drawn ≡ 0 → rows_limit ≤ vec_capacity a.rows → a.references ≤ deque_capacity a.free → IsKept a
opens {E} a settings rows free marks drawn room free_room =
    let u : RowTable (Unit {0}) E = opening a.references a.window in
    kept_by a u (record {
      same = ap (λ (rows : List (KeptRow E)). record (table_of a) { rows = rows_of rows }) rows ∙ ap (λ (free : List ℕ). record (table_of a) { rows = []; free = free }) free ∙ ap (λ (drawn : ℕ). record u { drawn = drawn }) drawn;
      sound = opening_table a.references a.window settings;
      fit = (
        ap length marks ∙ length-replicate (a.references + 1) false,
        λ r d within. ap (λ (ms : List Bool). get_or ms r d) marks ∙ get_or-replicate (a.references + 1) r false d (omega arith) ∙ sym (none_out E a.references a.window r),
      );
    }) room free_room
