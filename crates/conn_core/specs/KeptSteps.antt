-- What each event does to the parts that the program keeps of a table.
use Rattle.std.specs.Prelude.{ℕ, ◌+◌, ◌-◌, max, nat_lt, is_some, if◌then◌else◌, length, Option, Some, None, Result, Ok, Err}
use Rattle.std.specs.Option.{ok_or}
use Rattle.lease_core.specs.LeaseSteps.{asked, asked_answer, cleared, dropped, due_dropped, granted_all}
use Rattle.lease_core.specs.LeaseTables.{LeaseTable, due_numbers, state_of, waiters_limit}
use Rattle.lease_core.specs.declared.answers.LeaseAnswer.{LeaseAnswer}
use Rattle.lease_core.specs.declared.answers.LeaseState.{LeaseState}
use Rattle.txn_core.specs.RowSteps.{ended_all}
use Rattle.txn_core.specs.RowTables.{RowTable, any_row, count_where, has_id, has_lease, is_due}
use Rattle.txn_core.specs.declared.phases.Phase.{Phase}
use Rattle.txn_core.specs.declared.phases.Phase.TheVariants.{Queued, Sent, Ended}
use Rattle.wire_frames.specs.declared.ends.EndKind.{EndKind}
use Rattle.wire_frames.specs.declared.ends.EndKind.TheVariants as kinds
use Rattle.wire_frames.specs.declared.ends.FrameWhy.{FrameWhy}
use Rattle.wire_frames.specs.declared.ends.Reason.{Reason}
use Rattle.wire_frames.specs.declared.ends.Reason.TheVariants as reasons
use Rattle.conn_core.specs.KeptEnds.{leases_ended}
use Rattle.conn_core.specs.Steps.{when_open}
use Rattle.conn_core.specs.declared.answers.AskRefusal.{AskRefusal}
use Rattle.conn_core.specs.declared.answers.AskRefusal.TheVariants as ask_refusals
use Rattle.conn_core.specs.declared.answers.CancelRefusal.{CancelRefusal}
use Rattle.conn_core.specs.declared.answers.CancelRefusal.TheVariants as cancel_refusals
use Rattle.conn_core.specs.declared.answers.LeaseRefusal.{LeaseRefusal}
use Rattle.conn_core.specs.declared.answers.LeaseRefusal.TheVariants as lease_refusals
use Rattle.conn_core.specs.declared.answers.Ticked.{Ticked}
use Rattle.conn_core.specs.declared.table.KeptTable.{KeptTable}

-- ---- a lease is asked, and goes

abbrev pub ask_answer : Option Reason → LeaseTable → Result LeaseAnswer AskRefusal
ask_answer closed leases =
    when_open ask_refusals.Closed closed (
    if nat_lt (length leases.waiting) waiters_limit then Ok (asked_answer leases) else Err ask_refusals.QueueFull)

abbrev pub asked_kept : (actor now : ℕ) → KeptTable → KeptTable
asked_kept actor now k = record k { leases = asked k.leases actor (max k.clock now); clock = max k.clock now }

-- what a lease is to an actor
abbrev pub poll_answer : (actor number : ℕ) → Option Reason → LeaseTable → Result LeaseState LeaseRefusal
poll_answer actor number closed leases = when_open lease_refusals.Closed closed (ok_or (state_of leases actor number) lease_refusals.NoLease)

abbrev pub release_answer : (actor number : ℕ) → Option Reason → LeaseTable → Result (Unit {0}) LeaseRefusal
release_answer actor number closed leases =
    when_open lease_refusals.Closed closed (if is_some (state_of leases actor number) then Ok tt else Err lease_refusals.NoLease)

abbrev pub released_kept : (number now : ℕ) → KeptTable → KeptTable
released_kept number now k = record k {
  requests = ended_all (has_lease number) kinds.LeaseGone k.requests;
  leases = granted_all (dropped k.leases number) (max k.clock now);
  clock = max k.clock now;
}

-- ---- a request is cancelled

abbrev pub cancel_answer : Option (Phase EndKind) → Result (Unit {0}) CancelRefusal
cancel_answer None = Err cancel_refusals.NoRequest
cancel_answer (Some Queued) = Ok tt
cancel_answer (Some Sent) = Ok tt
cancel_answer (Some (Ended kind)) = Err (cancel_refusals.AlreadyEnded kind)

abbrev pub cancelled_kept : (id : ℕ) → KeptTable → KeptTable
cancelled_kept id k = record k { requests = ended_all (has_id id) kinds.Cancelled k.requests }

-- ---- time, and the end

abbrev pub ticked_requests : (now : ℕ) → KeptTable → RowTable (Unit {0}) EndKind
ticked_requests now k = leases_ended kinds.LeaseGone (due_numbers now k.leases.held) (ended_all (is_due now) kinds.Expired k.requests)

abbrev pub ticked_kept : (now : ℕ) → KeptTable → KeptTable
ticked_kept now k = record k {
  requests = ticked_requests now k;
  leases = granted_all (due_dropped k.leases now) (max k.clock now);
  clock = max k.clock now;
}

abbrev pub kept_count : (now : ℕ) → KeptTable → Ticked
kept_count now k = record {
  rows = count_where any_row k.requests - count_where any_row (ticked_requests now k);
  leases = length (due_numbers now k.leases.held);
  waiters = length (due_numbers now k.leases.waiting);
}

abbrev pub closed_kept : Reason → KeptTable → KeptTable
closed_kept reason k = record k {
  requests = ended_all any_row (kinds.Lost reason) k.requests;
  leases = cleared k.leases;
  closed = Some reason;
}

-- ---- a frame that can't be read

abbrev pub undecodable_kept : FrameWhy → KeptTable → KeptTable
undecodable_kept why k = closed_kept (reasons.Undecodable k.frames why) (record k { frames = k.frames + 1 })
