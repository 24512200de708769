-- Each event does to what is kept what it does to the table.
use Rattle.std.proofs.Common.{◌≡◌, ℕ, ◌-◌, Bool, true, false, List, [], ◌∷◌, length, refl, sym, ap, ◌∙◌, Option, Some, None, Ok, Err}
use Rattle.std.specs.Prelude.{◌&&◌, if◌then◌else◌, is_some, max, nat_lt, Result}
use Rattle.std.specs.List.{AllZip}
use Rattle.std.specs.Option.{option_map}
use Rattle.lease_core.specs.LeaseSteps.{asked, asked_answer, cleared, dropped, due_dropped, granted_all}
use Rattle.lease_core.specs.LeaseTables.{LeaseTable, due_numbers, state_of, waiters_limit}
use Rattle.txn_core.specs.PlainRows.{TellsAlike, plain, plain_count_where, plain_ended_all, plain_phase, plain_phase_of}
use Rattle.txn_core.specs.RowSteps.{ended_all, ended_phase, in_phase, in_phases}
use Rattle.txn_core.specs.RowTables.{Row, RowTable, any_row, count_where, has_id, has_lease, is_due, is_live_and, phase_live, phase_of, phase_queued}
use Rattle.txn_core.specs.declared.phases.Phase.{Phase}
use Rattle.txn_core.specs.declared.phases.Phase.TheVariants.{Queued, Sent, Ended}
use Rattle.wire_frames.specs.declared.ends.EndKind.{EndKind}
use Rattle.wire_frames.specs.declared.ends.EndKind.TheVariants as kinds
use Rattle.wire_frames.specs.declared.ends.Outcome.{Outcome}
use Rattle.wire_frames.specs.declared.ends.Reason.{Reason}
use Rattle.wire_frames.specs.declared.kinds.PlcValue.{PlcValue}
use Rattle.conn_core.specs.KeptEnds.{leases_ended}
use Rattle.conn_core.specs.KeptSteps.{ask_answer, asked_kept, cancel_answer, cancelled_kept, closed_kept, kept_count, release_answer, released_kept, ticked_kept, ticked_requests}
use Rattle.conn_core.specs.KeptTables.{IsHandedIn, Stands, end_kind, phase_values}
use Rattle.conn_core.specs.Steps.{ask_lease, bare, cancel, cancel_as, cancelled, closed_by, end_all, end_leases, release, released, tick_count, ticked, when_open, with_lease}
use Rattle.conn_core.specs.Tables.{Handed, Requests, Table, at_moment}
use Rattle.conn_core.specs.declared.answers.AskRefusal.TheVariants as ask_refusals
use Rattle.conn_core.specs.declared.answers.LeaseRefusal.TheVariants as lease_refusals
use Rattle.conn_core.specs.declared.answers.Ticked.{Ticked}
use Rattle.conn_core.specs.declared.entries.Entry.{Entry}
use Rattle.conn_core.specs.declared.handed.HandedIn.{HandedIn}
use Rattle.conn_core.specs.declared.table.KeptTable.{KeptTable}

-- ---- requests that end without a reply

ended_values : (values : List (List PlcValue)) (kind : EndKind) (phase : Phase Outcome) (b c : Bool) → (phase_live phase && c) ≡ b → values ≡ phase_values phase → values ≡ phase_values (if b then Ended (bare kind) else phase)
ended_values values kind Queued true c e v = v
ended_values values kind Queued false c e v = v
ended_values values kind Sent true c e v = v
ended_values values kind Sent false c e v = v
ended_values values kind (Ended outcome) true c e v = cc
ended_values values kind (Ended outcome) false c e v = v

still_queued : (kind : EndKind) (phase : Phase Outcome) (b : Bool) → phase_queued (if b then Ended (bare kind) else phase) ≡ true → phase_queued phase ≡ true
still_queued kind phase true e = cc
still_queued kind phase false e = e

ended_item : (journal : List Entry) (p : Row Handed Outcome → Bool) (kind : EndKind) (row : Row Handed Outcome) (item : HandedIn) → IsHandedIn journal row item → IsHandedIn journal (in_phase (ended_phase p (bare kind)) row) item
ended_item journal p kind row item h = record {
  id = h.id;
  reference = h.reference;
  entry = h.entry;
  stands = h.stands;
  accepted = h.accepted;
  frame = λ queued. h.frame (still_queued kind row.phase (is_live_and p row) queued);
  values = ended_values item.values kind row.phase (is_live_and p row) (p row) refl h.values;
}

pub ended_handed : (journal : List Entry) (p : Row Handed Outcome → Bool) (kind : EndKind) (rows : List (Row Handed Outcome)) (items : List HandedIn) → AllZip (IsHandedIn journal) rows items → AllZip (IsHandedIn journal) (in_phases (ended_phase p (bare kind)) rows) items
ended_handed journal p kind [] [] h = h
ended_handed journal p kind [] (i ∷ is) h = h
ended_handed journal p kind (r ∷ rs) [] h = h
ended_handed journal p kind (r ∷ rs) (i ∷ is) h = (ended_item journal p kind r i h.0, ended_handed journal p kind rs is h.1)

-- the same requests end, of those that are kept and of those of the table
pub ends_plain : (p : Row Handed Outcome → Bool) (q : Row (Unit {0}) EndKind → Bool) (kind : EndKind) (kept : RowTable (Unit {0}) EndKind) (t : Requests) → TellsAlike end_kind p q → kept ≡ plain end_kind t → ended_all q kind kept ≡ plain end_kind (end_all p kind t)
ends_plain p q kind kept t alike e = ap (ended_all q kind) e ∙ plain_ended_all end_kind p q (bare kind) t alike

-- lease after lease
leases_plain : (numbers : List ℕ) (kept : RowTable (Unit {0}) EndKind) (t : Requests) → kept ≡ plain end_kind t → leases_ended kinds.LeaseGone numbers kept ≡ plain end_kind (end_leases numbers t)
leases_plain [] kept t e = e
leases_plain (n ∷ ns) kept t e =
    leases_plain ns (ended_all (has_lease n) kinds.LeaseGone kept) (end_all (has_lease n) kinds.LeaseGone t) (ends_plain (has_lease n) (has_lease n) kinds.LeaseGone kept t (λ row. refl) e)

leases_handed : (journal : List Entry) (numbers : List ℕ) (t : Requests) (items : List HandedIn) → AllZip (IsHandedIn journal) t.rows items → AllZip (IsHandedIn journal) (end_leases numbers t).rows items
leases_handed journal [] t items h = h
leases_handed journal (n ∷ ns) t items h = leases_handed journal ns (end_all (has_lease n) kinds.LeaseGone t) items (ended_handed journal (has_lease n) kinds.LeaseGone t.rows items h)

-- ---- the tables

pub closed_stands : (journal : List Entry) (k : KeptTable) (t : Table) (reason : Reason) → Stands journal k t → Stands journal (closed_kept reason k) (closed_by reason t)
closed_stands journal k t reason s = record {
  requests = ends_plain any_row any_row (kinds.Lost reason) k.requests t.requests (λ row. refl) s.requests;
  leases = ap cleared s.leases;
  clock = s.clock;
  closed = refl;
  frames = s.frames;
  handed = ended_handed journal any_row (kinds.Lost reason) t.requests.rows k.handed.items s.handed;
}

pub asked_stands : (journal : List Entry) (k : KeptTable) (t : Table) (actor now : ℕ) → Stands journal k t → Stands journal (asked_kept actor now k) (with_lease actor (at_moment now t))
asked_stands journal k t actor now s = record {
  requests = s.requests;
  leases = ap (λ l. asked l actor (max k.clock now)) s.leases ∙ ap (λ n. asked t.leases actor (max n now)) s.clock;
  clock = ap (λ n. max n now) s.clock;
  closed = s.closed;
  frames = s.frames;
  handed = s.handed;
}

pub released_stands : (journal : List Entry) (k : KeptTable) (t : Table) (number now : ℕ) → Stands journal k t → Stands journal (released_kept number now k) (released number (at_moment now t))
released_stands journal k t number now s = record {
  requests = ends_plain (has_lease number) (has_lease number) kinds.LeaseGone k.requests t.requests (λ row. refl) s.requests;
  leases = ap (λ l. granted_all (dropped l number) (max k.clock now)) s.leases ∙ ap (λ n. granted_all (dropped t.leases number) (max n now)) s.clock;
  clock = ap (λ n. max n now) s.clock;
  closed = s.closed;
  frames = s.frames;
  handed = ended_handed journal (has_lease number) kinds.LeaseGone t.requests.rows k.handed.items s.handed;
}

pub cancelled_stands : (journal : List Entry) (k : KeptTable) (t : Table) (id : ℕ) → Stands journal k t → Stands journal (cancelled_kept id k) (cancelled id t)
cancelled_stands journal k t id s = record {
  requests = ends_plain (has_id id) (has_id id) kinds.Cancelled k.requests t.requests (λ row. refl) s.requests;
  leases = s.leases;
  clock = s.clock;
  closed = s.closed;
  frames = s.frames;
  handed = ended_handed journal (has_id id) kinds.Cancelled t.requests.rows k.handed.items s.handed;
}

-- the requests after a tick
ticked_plain : (journal : List Entry) (k : KeptTable) (t : Table) (now : ℕ) → Stands journal k t → ticked_requests now k ≡ plain end_kind (ticked now t).requests
ticked_plain journal k t now s =
    ap (λ l. leases_ended kinds.LeaseGone (due_numbers now l.held) (ended_all (is_due now) kinds.Expired k.requests)) s.leases
    ∙ leases_plain (due_numbers now t.leases.held) (ended_all (is_due now) kinds.Expired k.requests) (end_all (is_due now) kinds.Expired t.requests) (ends_plain (is_due now) (is_due now) kinds.Expired k.requests t.requests (λ row. refl) s.requests)

pub ticked_stands : (journal : List Entry) (k : KeptTable) (t : Table) (now : ℕ) → Stands journal k t → Stands journal (ticked_kept now k) (ticked now (at_moment now t))
ticked_stands journal k t now s = record {
  requests = ticked_plain journal k t now s;
  leases = ap (λ l. granted_all (due_dropped l now) (max k.clock now)) s.leases ∙ ap (λ n. granted_all (due_dropped t.leases now) (max n now)) s.clock;
  clock = ap (λ n. max n now) s.clock;
  closed = s.closed;
  frames = s.frames;
  handed = leases_handed journal (due_numbers now t.leases.held) (end_all (is_due now) kinds.Expired t.requests) k.handed.items (ended_handed journal (is_due now) kinds.Expired t.requests.rows k.handed.items s.handed);
}

live_plain : (kept : RowTable (Unit {0}) EndKind) (t : Requests) → kept ≡ plain end_kind t → count_where any_row kept ≡ count_where any_row t
live_plain kept t e = ap (count_where any_row) e ∙ plain_count_where end_kind any_row any_row t (λ row. refl)

pub counted_stands : (journal : List Entry) (k : KeptTable) (t : Table) (now : ℕ) → Stands journal k t → kept_count now k ≡ tick_count now t
counted_stands journal k t now s =
    let before = live_plain k.requests t.requests s.requests in
    let after = live_plain (ticked_requests now k) (ticked now t).requests (ticked_plain journal k t now s) in
    let count : ℕ → ℕ → LeaseTable → Ticked = λ a b l. record { rows = a - b; leases = length (due_numbers now l.held); waiters = length (due_numbers now l.waiting) } in
    ap (λ a. count a (count_where any_row (ticked_requests now k)) k.leases) before
    ∙ ap (λ b. count (count_where any_row t.requests) b k.leases) after
    ∙ ap (count (count_where any_row t.requests) (count_where any_row (ticked now t).requests)) s.leases

-- ---- the answers, each with the table after it

abbrev pub with_table : {A R : Type 0} → Table → Result A R → Result (Table × A) R
with_table t (Ok answer) = Ok (t, answer)
with_table t (Err refusal) = Err refusal

ask_cases : (t : Table) (actor now : ℕ) (closed : Option Reason) (b : Bool) → when_open ask_refusals.Closed closed (if b then Ok (with_lease actor (at_moment now t), asked_answer t.leases) else Err ask_refusals.QueueFull) ≡ with_table (with_lease actor (at_moment now t)) (when_open ask_refusals.Closed closed (if b then Ok (asked_answer t.leases) else Err ask_refusals.QueueFull))
ask_cases t actor now None true = refl
ask_cases t actor now None false = refl
ask_cases t actor now (Some reason) b = refl

pub ask_is : (journal : List Entry) (k : KeptTable) (t : Table) (actor now : ℕ) → Stands journal k t → ask_lease t actor now ≡ with_table (with_lease actor (at_moment now t)) (ask_answer k.closed k.leases)
ask_is journal k t actor now s =
    ask_cases t actor now t.closed (nat_lt (length t.leases.waiting) waiters_limit)
    ∙ sym (ap (λ r. with_table (with_lease actor (at_moment now t)) (ask_answer r k.leases)) s.closed ∙ ap (λ l. with_table (with_lease actor (at_moment now t)) (ask_answer t.closed l)) s.leases)

release_cases : (t : Table) (number now : ℕ) (closed : Option Reason) (b : Bool) → when_open lease_refusals.Closed closed (if b then Ok (released number (at_moment now t), tt {0}) else Err lease_refusals.NoLease) ≡ with_table (released number (at_moment now t)) (when_open lease_refusals.Closed closed (if b then Ok (tt {0}) else Err lease_refusals.NoLease))
release_cases t number now None true = refl
release_cases t number now None false = refl
release_cases t number now (Some reason) b = refl

pub release_is : (journal : List Entry) (k : KeptTable) (t : Table) (actor number now : ℕ) → Stands journal k t → release t actor number now ≡ with_table (released number (at_moment now t)) (release_answer actor number k.closed k.leases)
release_is journal k t actor number now s =
    release_cases t number now t.closed (is_some (state_of t.leases actor number))
    ∙ sym (ap (λ r. with_table (released number (at_moment now t)) (release_answer actor number r k.leases)) s.closed ∙ ap (λ l. with_table (released number (at_moment now t)) (release_answer actor number t.closed l)) s.leases)

cancel_cases : (t : Table) (id : ℕ) (phase : Option (Phase Outcome)) → cancel_as id t phase ≡ with_table (cancelled id t) (cancel_answer (option_map (plain_phase end_kind) phase))
cancel_cases t id None = refl
cancel_cases t id (Some Queued) = refl
cancel_cases t id (Some Sent) = refl
cancel_cases t id (Some (Ended outcome)) = refl

pub cancel_is : (journal : List Entry) (k : KeptTable) (t : Table) (actor id : ℕ) → Stands journal k t → cancel t actor id ≡ with_table (cancelled id t) (cancel_answer (phase_of actor id k.requests))
cancel_is journal k t actor id s =
    cancel_cases t id (phase_of actor id t.requests)
    ∙ sym (ap (λ o. with_table (cancelled id t) (cancel_answer o)) (ap (phase_of actor id) s.requests ∙ plain_phase_of end_kind t.requests actor id))
