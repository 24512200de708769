-- When `submit` finds no reference, and which one it draws.
use Rattle.std.proofs.Common.{◌≡◌, ◌⊎◌, inl, inr, ℕ, ◌+◌, ◌<◌, Bool, true, false, List, [], ◌∷◌, length, refl, sym, ap, subst, ◌∙◌, arith, Option, Some, None, Ok, Err}
use Rattle.std.specs.Prelude.{Result, ◌↔◌, count_by, if◌then◌else◌, max, nat_lt, unwrap_or}
use Rattle.std.specs.List.{list_any, slice_get}
use Rattle.std.proofs.lemmas.Bool.{eqb-false, ne_eqb}
use Rattle.std.proofs.lemmas.Bool.Decides.{nat_tests}
use Rattle.lease_core.specs.LeaseTables.{LeaseTable, is_lease_of}
use Rattle.txn_core.specs.RowSteps.{added_under, answer_of}
use Rattle.txn_core.specs.RowTables.{is_full, is_number, rows_limit}
use Rattle.txn_core.specs.declared.phases.AddRefusal.TheVariants as add_refusals
use Rattle.wire_frames.specs.WireMeaning.{Refused, WireMeaning}
use Rattle.wire_frames.specs.declared.ends.Reason.{Reason}
use Rattle.conn_core.specs.Entries.{requests_in}
use Rattle.conn_core.specs.Journals.{table_of}
use Rattle.conn_core.specs.Steps.{Request, Started, draft_of, reference_to_try, started, started_as, submit, when_open, with_frame}
use Rattle.conn_core.specs.Tables.{Connection, IsSettings, Table, at_moment, holds}
use Rattle.conn_core.specs.declared.answers.SubmitRefusal.{SubmitRefusal}
use Rattle.conn_core.specs.declared.answers.SubmitRefusal.TheVariants as submits
use Rattle.conn_core.specs.declared.entries.Entry.{Entry}
use Rattle.conn_core.proofs.PromiseLemmas.{closed_none, none_closes}
use Rattle.conn_core.proofs.StepLaws.{Walked, queues, walk_law}
use Rattle.conn_laws.specs.Drawing.{AllTaken, IsFirstFree, PassesTests, started_with}
use Rattle.conn_laws.proofs.FreeOrder.{first_free}
use Rattle.conn_laws.proofs.Fronts.{taken_by}
use Rattle.conn_laws.proofs.RowCounts.{kept_count}

-- ---- the tests, at the table

record Tests (wire : WireMeaning) (t : Table) (q : Request) : Type 0 where
  unclosed : t.closed ≡ None
  holding : holds q.actor q.lease t ≡ true
  full : is_full t.requests ≡ false
  frame : List ℕ
  framed : wire.frame_of q.ask (reference_to_try t) ≡ Ok frame
  small : nat_lt wire.limit (wire.size q.ask) ≡ false

abbrev started_from : Table → Request → List ℕ → List ℕ → Result (Table × Started) SubmitRefusal
started_from t q frame free = started_as (at_moment q.moment t) frame (added_under (draft_of q (max t.clock q.moment) frame) t.requests free)

-- what it answers where it passes them
passed : (wire : WireMeaning) (t : Table) (q : Request) (p : Tests wire t q) → submit wire t q ≡ started_from t q p.frame t.requests.free
passed wire t q p =
    let after_lease = if is_full t.requests then Err submits.TableFull else with_frame wire t q (wire.frame_of q.ask (reference_to_try t)) in
    ap (λ o. when_open submits.Closed o (if holds q.actor q.lease t then after_lease else Err submits.NoLease)) p.unclosed
    ∙ ap (λ b. if b then after_lease else Err submits.NoLease) p.holding
    ∙ ap (λ b. if b then Err submits.TableFull else with_frame wire t q (wire.frame_of q.ask (reference_to_try t))) p.full
    ∙ ap (with_frame wire t q) p.framed
    ∙ ap (λ b. if b then Err (submits.TooLarge (wire.size q.ask) wire.limit) else started q p.frame (at_moment q.moment t)) p.small
    ∙ ap (λ b. started_as (at_moment q.moment t) p.frame (if b then Err add_refusals.Full else added_under (draft_of q (max t.clock q.moment) p.frame) t.requests t.requests.free)) p.full

-- where it finds no reference it passed them
record Found (wire : WireMeaning) (t : Table) (q : Request) : Type 0 where
  tests : Tests wire t q
  none : t.requests.free ≡ []

none_free : (wire : WireMeaning) (t : Table) (q : Request) (frame free : List ℕ) → Tests wire t q → t.requests.free ≡ free → started_from t q frame free ≡ Err submits.NoReference → Found wire t q
none_free wire t q frame [] p is e = record { tests = p; none = is }
none_free wire t q frame (n ∷ ns) p is e = absurd (cc)

found_large : (wire : WireMeaning) (t : Table) (q : Request) (frame : List ℕ) (large : Bool) → t.closed ≡ None → holds q.actor q.lease t ≡ true → is_full t.requests ≡ false → wire.frame_of q.ask (reference_to_try t) ≡ Ok frame → nat_lt wire.limit (wire.size q.ask) ≡ large → (if large then Err (submits.TooLarge (wire.size q.ask) wire.limit) else started q frame (at_moment q.moment t)) ≡ Err submits.NoReference → Found wire t q
found_large wire t q frame true unclosed holding full framed small e = absurd (cc)
found_large wire t q frame false unclosed holding full framed small e =
    none_free wire t q frame t.requests.free (record { unclosed = unclosed; holding = holding; full = full; frame = frame; framed = framed; small = small }) refl
    (sym (ap (λ b. started_as (at_moment q.moment t) frame (if b then Err add_refusals.Full else added_under (draft_of q (max t.clock q.moment) frame) t.requests t.requests.free)) full) ∙ e)

found_framed : (wire : WireMeaning) (t : Table) (q : Request) (w : Result (List ℕ) Refused) → t.closed ≡ None → holds q.actor q.lease t ≡ true → is_full t.requests ≡ false → wire.frame_of q.ask (reference_to_try t) ≡ w → with_frame wire t q w ≡ Err submits.NoReference → Found wire t q
found_framed wire t q (Err refused) unclosed holding full framed e = absurd (cc)
found_framed wire t q (Ok frame) unclosed holding full framed e = found_large wire t q frame (nat_lt wire.limit (wire.size q.ask)) unclosed holding full framed refl e

found_room : (wire : WireMeaning) (t : Table) (q : Request) (held full : Bool) → t.closed ≡ None → holds q.actor q.lease t ≡ held → is_full t.requests ≡ full → (if held then (if full then Err submits.TableFull else with_frame wire t q (wire.frame_of q.ask (reference_to_try t))) else Err submits.NoLease) ≡ Err submits.NoReference → Found wire t q
found_room wire t q false full unclosed holding is e = absurd (cc)
found_room wire t q true true unclosed holding is e = absurd (cc)
found_room wire t q true false unclosed holding is e = found_framed wire t q (wire.frame_of q.ask (reference_to_try t)) unclosed holding is refl e

found_open : (wire : WireMeaning) (t : Table) (q : Request) (closed : Option Reason) → t.closed ≡ closed → when_open submits.Closed closed (if holds q.actor q.lease t then (if is_full t.requests then Err submits.TableFull else with_frame wire t q (wire.frame_of q.ask (reference_to_try t))) else Err submits.NoLease) ≡ Err submits.NoReference → Found wire t q
found_open wire t q None is e = found_room wire t q (holds q.actor q.lease t) (is_full t.requests) is refl refl e
found_open wire t q (Some reason) is e = absurd (cc)

found : (wire : WireMeaning) (t : Table) (q : Request) → submit wire t q ≡ Err submits.NoReference → Found wire t q
found wire t q e = found_open wire t q t.closed refl e

-- ---- the tests, by places

tests_of : (c : Connection) (journal : List Entry) (q : Request) (reference : ℕ) → Walked c journal → reference_to_try (table_of c journal) ≡ reference → PassesTests c journal q reference → Tests c.wire (table_of c journal) q
tests_of c journal q reference w tries p =
    let t = table_of c journal in
    let law = walk_law c journal w in
    let kept = kept_count c journal w in
    let room = p.room in
    let small = p.small in
    record {
      unclosed = closed_none journal t.closed law.closed p.unclosed;
      holding = ap (λ (l : LeaseTable). list_any (is_lease_of q.actor q.lease) l.held) law.leases ∙ p.holding;
      full = ne_eqb (length t.requests.rows) rows_limit (λ same. omega arith);
      frame = p.frame;
      framed = ap (c.wire.frame_of q.ask) tries ∙ p.framed;
      small = grind (arith, nat_tests);
    }

passes_of : (c : Connection) (journal : List Entry) (q : Request) (reference : ℕ) → Walked c journal → reference_to_try (table_of c journal) ≡ reference → Tests c.wire (table_of c journal) q → PassesTests c journal q reference
passes_of c journal q reference w tries p =
    let t = table_of c journal in
    let law = walk_law c journal w in
    let kept = kept_count c journal w in
    let few = law.within.rows in
    let apart = eqb-false (length t.requests.rows) rows_limit p.full in
    let small = p.small in
    let under : length t.requests.rows < rows_limit = grind (arith) in
    record {
      unclosed = none_closes journal t.closed law.closed p.unclosed;
      holding = ap (λ (l : LeaseTable). list_any (is_lease_of q.actor q.lease) l.held) (sym law.leases) ∙ p.holding;
      room = omega arith;
      frame = p.frame;
      framed = sym (ap (c.wire.frame_of q.ask) tries) ∙ p.framed;
      small = grind (arith, nat_tests);
    }

tries_first : (t : Table) (first : ℕ) (rest : List ℕ) → t.requests.free ≡ first ∷ rest → reference_to_try t ≡ first
tries_first t first rest is = ap (λ ns. unwrap_or (slice_get ns 0) 1) is

tries_one : (t : Table) → t.requests.free ≡ [] → reference_to_try t ≡ 1
tries_one t is = ap (λ ns. unwrap_or (slice_get ns 0) 1) is

-- ---- all are taken exactly where none is free

none_left : (c : Connection) (journal : List Entry) → IsSettings c.settings → Walked c journal → (table_of c journal).requests.free ≡ [] → AllTaken c journal
none_left c journal s w is = λ reference low high. taken_by c journal reference s w low high (ap (count_by (is_number reference)) is)

all_taken : (c : Connection) (journal : List Entry) (free : List ℕ) → IsSettings c.settings → Walked c journal → (table_of c journal).requests.free ≡ free → AllTaken c journal → free ≡ []
all_taken c journal [] s w is taken = refl
all_taken c journal (first ∷ rest) s w is taken =
    let free = (first_free c journal first rest s w is).free in
    elim (taken first free.0 free.1) [ inl live ↦ absurd (free.2 live) | inr awaited ↦ absurd (free.3 awaited) ]

-- ---- the law

pub no_reference : (c : Connection) (journal : List Entry) (q : Request) → IsSettings c.settings → Walked c journal → (submit c.wire (table_of c journal) q ≡ Err submits.NoReference) ↔ (PassesTests c journal q 1 × AllTaken c journal)
no_reference c journal q s w =
    let t = table_of c journal in (
      λ e. (let f = found c.wire t q e in (passes_of c journal q 1 w (tries_one t f.none) f.tests, none_left c journal s w f.none)),
      λ both. (
          let none : t.requests.free ≡ [] = all_taken c journal t.requests.free s w refl both.1 in
          let p = tests_of c journal q 1 w (tries_one t none) both.0 in
          passed c.wire t q p ∙ ap (started_from t q p.frame) none
          ),
    )

abbrev DrawsNext : Connection → List Entry → ℕ → Type 0
DrawsNext c journal reference = (q : Request) (p : PassesTests c journal q reference) → answer_of (submit c.wire (table_of c journal) q) ≡ Ok (started_with p)

draws_next : (c : Connection) (journal : List Entry) (first : ℕ) (rest : List ℕ) → Walked c journal → (table_of c journal).requests.free ≡ first ∷ rest → DrawsNext c journal first
unfolding tests_of
draws_next c journal first rest w is q p =
    let t = table_of c journal in
    let tests = tests_of c journal q first w (tries_first t first rest is) p in
    let law = walk_law c journal w in
    ap answer_of (passed c.wire t q tests ∙ ap (started_from t q p.frame) is)
    ∙ ap (λ n. let x : Started = record { id = n + 1; reference = first; frame = p.frame } in Ok x) law.requests

else_cases : (c : Connection) (journal : List Entry) (free : List ℕ) → IsSettings c.settings → Walked c journal → (table_of c journal).requests.free ≡ free → AllTaken c journal ⊎ ((reference : ℕ) × IsFirstFree c journal reference × DrawsNext c journal reference)
else_cases c journal [] s w is = inl (none_left c journal s w is)
else_cases c journal (first ∷ rest) s w is = inr (first, first_free c journal first rest s w is, draws_next c journal first rest w is)

pub else_draws : (c : Connection) (journal : List Entry) → IsSettings c.settings → Walked c journal → AllTaken c journal ⊎ ((reference : ℕ) × IsFirstFree c journal reference × DrawsNext c journal reference)
else_draws c journal s w = else_cases c journal (table_of c journal).requests.free s w refl

-- what is accepted passed the tests, and drew the first free one
record Accepting (c : Connection) (journal : List Entry) (q : Request) (u : Table) (given : Started) : Type 0 where
  passes : PassesTests c journal q given.reference
  first : IsFirstFree c journal given.reference
  is : given ≡ started_with passes

accepting : (c : Connection) (journal : List Entry) (q : Request) (u : Table) (given : Started) → IsSettings c.settings → Walked c journal → submit c.wire (table_of c journal) q ≡ Ok (u, given) → Accepting c journal q u given
unfolding passes_of
accepting c journal q u given s w e =
    let t = table_of c journal in
    let queued = queues c.wire t q u given e in
    let tests : Tests c.wire t q = record { unclosed = queued.unclosed; holding = queued.holding; full = queued.full; frame = queued.frame; framed = queued.framed; small = queued.small } in
    let refers : given.reference ≡ queued.reference = ap (λ (x : Started). x.reference) queued.started_is in
    let first = first_free c journal queued.reference queued.rest s w queued.free in
    let P : ℕ → Type 0 = IsFirstFree c journal in
    let law = walk_law c journal w in
    let passes = passes_of c journal q given.reference w (tries_first t queued.reference queued.rest queued.free ∙ sym refers) tests in
    record {
      passes = passes;
      first = subst P (sym refers) first;
      is =
          queued.started_is
          ∙ ap (λ n. let x : Started = record { id = n + 1; reference = queued.reference; frame = queued.frame } in x) law.requests
          ∙ ap (λ n. let x : Started = record { id = requests_in journal + 1; reference = n; frame = queued.frame } in x) (sym refers);
    }

given_of : {A R : Type 0} (r : Result (Table × A) R) (a : A) → answer_of r ≡ Ok a → (u : Table) × (r ≡ Ok (u, a))
given_of (Err x) a e = absurd (cc)
given_of {A} {R} (Ok p) a e =
    let same : p.1 ≡ a = cc in
    (p.0, ap (λ (x : A). let r : Result (Table × A) R = Ok (p.0, x) in r) same)

pub accepted_drew : (c : Connection) (journal : List Entry) (q : Request) (given : Started) → IsSettings c.settings → Walked c journal → answer_of (submit c.wire (table_of c journal) q) ≡ Ok given → (p : PassesTests c journal q given.reference) × (given ≡ started_with p) × IsFirstFree c journal given.reference
accepted_drew c journal q given s w e =
    let x = given_of (submit c.wire (table_of c journal) q) given e in
    let a = accepting c journal q x.0 given s w x.1 in
    (a.passes, a.is, a.first)
