-- Why calls are refused, by what the table is.
use Rattle.std.proofs.Common.{◌≡◌, ◌≢◌, ◌⊎◌, inl, inr, ℕ, ◌+◌, ◌<◌, ◌≤◌, Bool, true, false, List, [], ◌∷◌, length, refl, ap, subst, arith, Option, Some, None, Ok, Err}
use Rattle.std.specs.Prelude.{Result, ◌&&◌, ◌==◌, if◌then◌else◌, is_some, count_by, nat_lt}
use Rattle.std.specs.List.{find}
use Rattle.std.specs.Option.{ok_or}
use Rattle.std.proofs.lemmas.Bool.Decides.{nat_tests}
use Rattle.std.proofs.lemmas.Bool.{eqb-true}
use Rattle.lease_core.specs.LeaseSteps.{asked_answer, is_held_at_once}
use Rattle.lease_core.specs.LeaseTables.{IsLeaseTable, LeaseTable, has_room, state_of, waiters_limit}
use Rattle.lease_core.specs.declared.answers.LeaseAnswer.{LeaseAnswer}
use Rattle.lease_core.specs.declared.answers.LeaseAnswer.TheVariants as lease_answers
use Rattle.lease_core.specs.declared.answers.LeaseState.{LeaseState}
use Rattle.txn_core.specs.RowSteps.{added_under, answer_of, sent_from, taken_from}
use Rattle.txn_core.specs.RowTables.{Row, is_full, is_queued, is_sent, phase_of, rows_limit}
use Rattle.txn_core.specs.declared.phases.AddRefusal.TheVariants as add_refusals
use Rattle.txn_core.specs.declared.phases.Phase.{Phase}
use Rattle.txn_core.specs.declared.phases.Phase.TheVariants.{Queued, Sent, Ended}
use Rattle.txn_core.specs.declared.phases.TakeRefusal.{TakeRefusal}
use Rattle.txn_core.specs.declared.phases.TakeRefusal.TheVariants as take_refusals
use Rattle.wire_frames.specs.WireMeaning.{Refused, WireMeaning}
use Rattle.wire_frames.specs.declared.ends.Outcome.{Outcome}
use Rattle.wire_frames.specs.declared.ends.Reason.{Reason}
use Rattle.conn_core.specs.Causes.{CannotSend, HasEndedRow, HasLiveRow, HasNoRow, IsTooLarge, IsUnwritable, MustWait}
use Rattle.conn_core.specs.KeptSteps.{poll_answer}
use Rattle.conn_core.specs.Steps.{Request, accepted_of, ask_lease, cancel, cancel_as, collect, collected_as, draft_of, reference_to_try, release, sending_as, started, started_as, submit, take_send, when_open, with_frame}
use Rattle.conn_core.specs.Tables.{Handed, Table, at_moment, holds}
use Rattle.conn_core.specs.declared.answers.AskRefusal.{AskRefusal}
use Rattle.conn_core.specs.declared.answers.AskRefusal.TheVariants as asks
use Rattle.conn_core.specs.declared.answers.CancelRefusal.{CancelRefusal}
use Rattle.conn_core.specs.declared.answers.CancelRefusal.TheVariants as cancels
use Rattle.conn_core.specs.declared.answers.LeaseRefusal.{LeaseRefusal}
use Rattle.conn_core.specs.declared.answers.LeaseRefusal.TheVariants as lease_refusals
use Rattle.conn_core.specs.declared.answers.SendRefusal.{SendRefusal}
use Rattle.conn_core.specs.declared.answers.SendRefusal.TheVariants as sends
use Rattle.conn_core.specs.declared.answers.SubmitRefusal.{SubmitRefusal}
use Rattle.conn_core.specs.declared.answers.SubmitRefusal.TheVariants as submits

-- ---- AskLease

abbrev pub AskCause : Table → AskRefusal → Type 0
AskCause t (asks.Closed reason) = t.closed ≡ Some reason
AskCause t asks.QueueFull = waiters_limit ≤ length t.leases.waiting
AskCause t asks.NoMemory = Unit {0}

ask_cause_if : (t : Table) (closed : Option Reason) (b : Bool) (p : Table × LeaseAnswer) (r : AskRefusal) → t.closed ≡ closed → nat_lt (length t.leases.waiting) waiters_limit ≡ b → answer_of (when_open asks.Closed closed (if b then Ok p else Err asks.QueueFull)) ≡ Err r → AskCause t r
ask_cause_if t None true p r closed room is = absurd (cc)
ask_cause_if t None false p r closed room is =
    let same : asks.QueueFull ≡ r = cc in
    let full : waiters_limit ≤ length t.leases.waiting = grind (arith, nat_tests) in subst (AskCause t) same full
ask_cause_if t (Some reason) b p r closed room is = let same : asks.Closed reason ≡ r = cc in subst (AskCause t) same closed

pub ask_cause : (t : Table) (actor now : ℕ) (r : AskRefusal) → answer_of (ask_lease t actor now) ≡ Err r → AskCause t r
ask_cause t actor now r is = ask_cause_if t t.closed (nat_lt (length t.leases.waiting) waiters_limit) _ r refl refl is

must_wait : (l : LeaseTable) (few none : Bool) → IsLeaseTable l → has_room l ≡ few → (length l.waiting == 0) ≡ none → (few && none) ≡ false → (length l.held ≡ l.share) ⊎ (l.waiting ≢ [])
must_wait l true true table few none is = absurd (cc)
must_wait l true false table few none is = inr (λ empty. let zero : length l.waiting ≡ 0 = ap length empty in grind (arith, nat_tests))
must_wait l false none table few none_is is =
    let most = table.held in
    let least : l.share ≤ length l.held = grind (arith, nat_tests) in inl (omega arith)

asked_waits : (l : LeaseTable) (b : Bool) (lease place : ℕ) → IsLeaseTable l → is_held_at_once l ≡ b → (if b then lease_answers.Granted (l.drawn + 1) else lease_answers.Waiting (l.drawn + 1) (length l.waiting)) ≡ lease_answers.Waiting lease place → ((length l.held ≡ l.share) ⊎ (l.waiting ≢ [])) × (place ≡ length l.waiting)
asked_waits l true lease place table test is = absurd (cc)
asked_waits l false lease place table test is = (must_wait l (has_room l) (length l.waiting == 0) table refl refl test, cc)

waits_if : (t : Table) (next : Table) (closed : Option Reason) (b : Bool) (lease place : ℕ) → IsLeaseTable t.leases → answer_of (when_open asks.Closed closed (if b then Ok (next, asked_answer t.leases) else Err asks.QueueFull)) ≡ Ok (lease_answers.Waiting lease place) → MustWait t × (place ≡ length t.leases.waiting)
waits_if t next None true lease place table is = let waits : asked_answer t.leases ≡ lease_answers.Waiting lease place = cc in asked_waits t.leases (is_held_at_once t.leases) lease place table refl waits
waits_if t next None false lease place table is = absurd (cc)
waits_if t next (Some reason) b lease place table is = absurd (cc)

-- an actor waits where no lease is left, or others wait before
pub waits_cause : (t : Table) (actor now lease place : ℕ) → IsLeaseTable t.leases → answer_of (ask_lease t actor now) ≡ Ok (lease_answers.Waiting lease place) → MustWait t × (place ≡ length t.leases.waiting)
waits_cause t actor now lease place table is = waits_if t _ t.closed (nat_lt (length t.leases.waiting) waiters_limit) lease place table is

-- ---- poll_lease and Release

abbrev pub LeaseCause : Option Reason → LeaseTable → (actor number : ℕ) → LeaseRefusal → Type 0
LeaseCause closed l actor number (lease_refusals.Closed reason) = closed ≡ Some reason
LeaseCause closed l actor number lease_refusals.NoLease = (closed ≡ None) × (state_of l actor number ≡ None)

poll_cause_if : (l : LeaseTable) (actor number : ℕ) (closed : Option Reason) (o : Option LeaseState) (r : LeaseRefusal) → state_of l actor number ≡ o → when_open lease_refusals.Closed closed (ok_or o lease_refusals.NoLease) ≡ Err r → LeaseCause closed l actor number r
poll_cause_if l actor number None None r found is = let same : lease_refusals.NoLease ≡ r = cc in subst (LeaseCause None l actor number) same (refl, found)
poll_cause_if l actor number None (Some state) r found is = absurd (cc)
poll_cause_if l actor number (Some reason) o r found is = let same : lease_refusals.Closed reason ≡ r = cc in subst (LeaseCause (Some reason) l actor number) same refl

pub poll_cause : (l : LeaseTable) (actor number : ℕ) (closed : Option Reason) (r : LeaseRefusal) → poll_answer actor number closed l ≡ Err r → LeaseCause closed l actor number r
poll_cause l actor number closed r is = poll_cause_if l actor number closed (state_of l actor number) r refl is

poll_told_if : (closed : Option Reason) (o : Option LeaseState) (found : LeaseState) → when_open lease_refusals.Closed closed (ok_or o lease_refusals.NoLease) ≡ Ok found → o ≡ Some found
poll_told_if None None found is = cc
poll_told_if None (Some state) found is = cc
poll_told_if (Some reason) o found is = cc

pub poll_told : (l : LeaseTable) (actor number : ℕ) (closed : Option Reason) (found : LeaseState) → poll_answer actor number closed l ≡ Ok found → state_of l actor number ≡ Some found
poll_told l actor number closed found is = poll_told_if closed (state_of l actor number) found is

release_cause_if : (t next : Table) (actor number : ℕ) (closed : Option Reason) (o : Option LeaseState) (r : LeaseRefusal) → state_of t.leases actor number ≡ o → answer_of (when_open lease_refusals.Closed closed (if is_some o then Ok (next, tt {0}) else Err lease_refusals.NoLease)) ≡ Err r → LeaseCause closed t.leases actor number r
release_cause_if t next actor number None None r found is = let same : lease_refusals.NoLease ≡ r = cc in subst (LeaseCause None t.leases actor number) same (refl, found)
release_cause_if t next actor number None (Some state) r found is = absurd (cc)
release_cause_if t next actor number (Some reason) o r found is = let same : lease_refusals.Closed reason ≡ r = cc in subst (LeaseCause (Some reason) t.leases actor number) same refl

pub release_cause : (t : Table) (actor number now : ℕ) (r : LeaseRefusal) → answer_of (release t actor number now) ≡ Err r → LeaseCause t.closed t.leases actor number r
release_cause t actor number now r is = release_cause_if t _ actor number t.closed (state_of t.leases actor number) r refl is

-- ---- Submit

abbrev pub SubmitCause : WireMeaning → Table → Request → SubmitRefusal → Type 0
SubmitCause wire t q (submits.Closed reason) = t.closed ≡ Some reason
SubmitCause wire t q submits.NoLease = holds q.actor q.lease t ≡ false
SubmitCause wire t q submits.TableFull = length t.requests.rows ≡ rows_limit
SubmitCause wire t q (submits.Unwritable entry why) = IsUnwritable wire t q.ask entry why
SubmitCause wire t q (submits.TooLarge size limit) = IsTooLarge wire q.ask size limit
SubmitCause wire t q submits.NoReference = t.requests.free ≡ []
SubmitCause wire t q submits.NoMemory = Unit {0}

add_cause : (wire : WireMeaning) (t u : Table) (q : Request) (frame free : List ℕ) (full : Bool) (r : SubmitRefusal) → t.requests.free ≡ free → is_full t.requests ≡ full → accepted_of (answer_of (started_as u frame (if full then Err add_refusals.Full else added_under (draft_of q u.clock frame) t.requests free))) ≡ Err r → SubmitCause wire t q r
add_cause wire t u q frame free true r is_free is_full_now is =
    let same : submits.TableFull ≡ r = cc in
    let full : length t.requests.rows ≡ rows_limit = eqb-true (length t.requests.rows) rows_limit is_full_now in
    subst (SubmitCause wire t q) same full
add_cause wire t u q frame [] false r none is_full_now is = let same : submits.NoReference ≡ r = cc in subst (SubmitCause wire t q) same none
add_cause wire t u q frame (reference ∷ rest) false r none is_full_now is = absurd (cc)

large_cause : (wire : WireMeaning) (t : Table) (q : Request) (frame : List ℕ) (b : Bool) (r : SubmitRefusal) → nat_lt wire.limit (wire.size q.ask) ≡ b → accepted_of (answer_of (if b then Err (submits.TooLarge (wire.size q.ask) wire.limit) else started q frame (at_moment q.moment t))) ≡ Err r → SubmitCause wire t q r
large_cause wire t q frame true r test is =
    let same : submits.TooLarge (wire.size q.ask) wire.limit ≡ r = cc in
    let above : wire.limit < wire.size q.ask = grind (arith, nat_tests) in
    subst (SubmitCause wire t q) same (record { size_is = refl; limit_is = refl; above = above })
large_cause wire t q frame false r test is = add_cause wire t (at_moment q.moment t) q frame t.requests.free (is_full t.requests) r refl refl is

written_cause : (wire : WireMeaning) (t : Table) (q : Request) (w : Result (List ℕ) Refused) (r : SubmitRefusal) → wire.frame_of q.ask (reference_to_try t) ≡ w → accepted_of (answer_of (with_frame wire t q w)) ≡ Err r → SubmitCause wire t q r
written_cause wire t q (Err refused) r written is = let same : submits.Unwritable refused.entry refused.why ≡ r = cc in subst (SubmitCause wire t q) same written
written_cause wire t q (Ok frame) r written is = large_cause wire t q frame (nat_lt wire.limit (wire.size q.ask)) r refl is

submit_cause_if : (wire : WireMeaning) (t : Table) (q : Request) (closed : Option Reason) (held full : Bool) (r : SubmitRefusal) → t.closed ≡ closed → holds q.actor q.lease t ≡ held → is_full t.requests ≡ full → accepted_of (answer_of (when_open submits.Closed closed (if held then (if full then Err submits.TableFull else with_frame wire t q (wire.frame_of q.ask (reference_to_try t))) else Err submits.NoLease))) ≡ Err r → SubmitCause wire t q r
submit_cause_if wire t q (Some reason) held full r closed holding many is = let same : submits.Closed reason ≡ r = cc in subst (SubmitCause wire t q) same closed
submit_cause_if wire t q None false full r closed holding many is = let same : submits.NoLease ≡ r = cc in subst (SubmitCause wire t q) same holding
submit_cause_if wire t q None true true r closed holding many is =
    let same : submits.TableFull ≡ r = cc in
    let filled : length t.requests.rows ≡ rows_limit = eqb-true (length t.requests.rows) rows_limit many in
    subst (SubmitCause wire t q) same filled
submit_cause_if wire t q None true false r closed holding many is = written_cause wire t q (wire.frame_of q.ask (reference_to_try t)) r refl is

pub submit_cause : (wire : WireMeaning) (t : Table) (q : Request) (r : SubmitRefusal) → accepted_of (answer_of (submit wire t q)) ≡ Err r → SubmitCause wire t q r
submit_cause wire t q r is = submit_cause_if wire t q t.closed (holds q.actor q.lease t) (is_full t.requests) r refl refl refl is

-- ---- TakeSend

abbrev pub SendCause : Table → SendRefusal → Type 0
SendCause t (sends.Closed reason) = t.closed ≡ Some reason
SendCause t sends.Nothing = CannotSend t

send_row_cause : (t : Table) (o : Option (Row Handed Outcome)) (r : SendRefusal) → find is_queued t.requests.rows ≡ o → answer_of (sending_as t (sent_from t.requests o)) ≡ Err r → SendCause t r
send_row_cause t None r found is = let same : sends.Nothing ≡ r = cc in let none : CannotSend t = inl found in subst (SendCause t) same none
send_row_cause t (Some row) r found is = absurd (cc)

send_cause_if : (t : Table) (closed : Option Reason) (b : Bool) (r : SendRefusal) → count_by is_sent t.requests.rows ≤ t.requests.window → t.closed ≡ closed → nat_lt (count_by is_sent t.requests.rows) t.requests.window ≡ b → answer_of (when_open sends.Closed closed (sending_as t (if b then sent_from t.requests (find is_queued t.requests.rows) else None))) ≡ Err r → SendCause t r
send_cause_if t None true r few closed room is = send_row_cause t (find is_queued t.requests.rows) r refl is
send_cause_if t None false r few closed room is =
    let same : sends.Nothing ≡ r = cc in
    let least : t.requests.window ≤ count_by is_sent t.requests.rows = grind (arith, nat_tests) in
    let none : CannotSend t = inr (omega arith) in subst (SendCause t) same none
send_cause_if t (Some reason) b r few closed room is = let same : sends.Closed reason ≡ r = cc in subst (SendCause t) same closed

pub send_cause : (t : Table) (r : SendRefusal) → count_by is_sent t.requests.rows ≤ t.requests.window → answer_of (take_send t) ≡ Err r → SendCause t r
send_cause t r few is = send_cause_if t t.closed (nat_lt (count_by is_sent t.requests.rows) t.requests.window) r few refl refl is

-- ---- Cancel

abbrev pub CancelCause : Table → (actor id : ℕ) → CancelRefusal → Type 0
CancelCause t actor id (cancels.AlreadyEnded kind) = HasEndedRow t actor id kind
CancelCause t actor id cancels.NoRequest = HasNoRow t actor id

cancel_cause_if : (t : Table) (actor id : ℕ) (o : Option (Phase Outcome)) (r : CancelRefusal) → phase_of actor id t.requests ≡ o → answer_of (cancel_as id t o) ≡ Err r → CancelCause t actor id r
cancel_cause_if t actor id None r found is = let same : cancels.NoRequest ≡ r = cc in subst (CancelCause t actor id) same found
cancel_cause_if t actor id (Some Queued) r found is = absurd (cc)
cancel_cause_if t actor id (Some Sent) r found is = absurd (cc)
cancel_cause_if t actor id (Some (Ended outcome)) r found is =
    let same : cancels.AlreadyEnded outcome.kind ≡ r = cc in
    subst (CancelCause t actor id) same (record { outcome = outcome; ended = found; kind_is = refl })

pub cancel_cause : (t : Table) (actor id : ℕ) (r : CancelRefusal) → answer_of (cancel t actor id) ≡ Err r → CancelCause t actor id r
cancel_cause t actor id r is = cancel_cause_if t actor id (phase_of actor id t.requests) r refl is

cancel_live_if : (t : Table) (actor id : ℕ) (o : Option (Phase Outcome)) → phase_of actor id t.requests ≡ o → answer_of (cancel_as id t o) ≡ Ok tt → HasLiveRow t actor id
cancel_live_if t actor id None found is = absurd (cc)
cancel_live_if t actor id (Some Queued) found is = record { phase = Queued; found = found; live = refl }
cancel_live_if t actor id (Some Sent) found is = record { phase = Sent; found = found; live = refl }
cancel_live_if t actor id (Some (Ended outcome)) found is = absurd (cc)

pub cancel_live : (t : Table) (actor id : ℕ) → answer_of (cancel t actor id) ≡ Ok tt → HasLiveRow t actor id
cancel_live t actor id is = cancel_live_if t actor id (phase_of actor id t.requests) refl is

-- ---- Collect

abbrev pub TakeCause : Table → (actor id : ℕ) → TakeRefusal → Type 0
TakeCause t actor id take_refusals.Pending = HasLiveRow t actor id
TakeCause t actor id take_refusals.NoRequest = HasNoRow t actor id

collect_cause_if : (t : Table) (actor id : ℕ) (o : Option (Phase Outcome)) (r : TakeRefusal) → phase_of actor id t.requests ≡ o → answer_of (collected_as t (taken_from actor id t.requests o)) ≡ Err r → TakeCause t actor id r
collect_cause_if t actor id None r found is = let same : take_refusals.NoRequest ≡ r = cc in subst (TakeCause t actor id) same found
collect_cause_if t actor id (Some Queued) r found is = let same : take_refusals.Pending ≡ r = cc in subst (TakeCause t actor id) same (record { phase = Queued; found = found; live = refl })
collect_cause_if t actor id (Some Sent) r found is = let same : take_refusals.Pending ≡ r = cc in subst (TakeCause t actor id) same (record { phase = Sent; found = found; live = refl })
collect_cause_if t actor id (Some (Ended outcome)) r found is = absurd (cc)

pub collect_cause : (t : Table) (actor id : ℕ) (r : TakeRefusal) → answer_of (collect t actor id) ≡ Err r → TakeCause t actor id r
collect_cause t actor id r is = collect_cause_if t actor id (phase_of actor id t.requests) r refl is
