-- What a lease is told to be, as one of a table's answers.
use Rattle.std.proofs.Common.{◌≡◌, ℕ, Option, Some, None, Result, Ok, Err, refl, sym, ap}
use Rattle.std.specs.Prelude.{◌↔◌, ok_or}
use Rattle.lease_core.specs.LeaseTables.{state_of}
use Rattle.lease_core.specs.declared.answers.LeaseState.{LeaseState}
use Rattle.wire_frames.specs.declared.ends.Reason.{Reason}
use Rattle.wire_frames.specs.declared.raw.RawWire.{RawWire}
use Rattle.conn_core.specs.Calls.{PollsLease}
use Rattle.conn_core.specs.States.{State, connection_of, table_in}
use Rattle.conn_core.specs.Steps.{when_open}
use Rattle.conn_core.specs.declared.answers.LeaseRefusal.{LeaseRefusal}
use Rattle.conn_core.specs.declared.answers.LeaseRefusal.TheVariants as lease_refusals
use Rattle.conn_core.proofs.StepLaws.{table_law}
use Rattle.script_replay.specs.Replays.{polled, raw}
use Rattle.script_replay.specs.Timed.{IsLegal}

told_as : (closed : Option Reason) (found : Option LeaseState) (result : Result LeaseState LeaseRefusal) → ((reason : Reason) → (result ≡ Err (lease_refusals.Closed reason)) ↔ (closed ≡ Some reason)) → ((state : LeaseState) → result ≡ Ok state → found ≡ Some state) → (result ≡ Err lease_refusals.NoLease → found ≡ None)
    → result ≡ when_open lease_refusals.Closed closed (ok_or found lease_refusals.NoLease)
told_as (Some reason) found result why told none = (why reason).1 refl
told_as None found (Ok state) why told none = sym (ap (λ (o : Option LeaseState). ok_or o lease_refusals.NoLease) (told state refl))
told_as None found (Err (lease_refusals.Closed reason)) why told none =
    let other : ◌≡◌ {A = Option Reason} None (Some reason) = (why reason).0 refl in absurd (cc)
told_as None found (Err lease_refusals.NoLease) why told none = sym (ap (λ (o : Option LeaseState). ok_or o lease_refusals.NoLease) (none refl))

pub polled_is : (st : State RawWire) (caller lease : ℕ) (result : Result LeaseState LeaseRefusal) → IsLegal st → PollsLease raw caller lease st result → result ≡ polled (table_in raw st) caller lease
polled_is st caller lease result legal h =
    let law = table_law (connection_of raw st.key) st.journal legal in
    told_as (table_in raw st).closed (state_of (table_in raw st).leases caller lease) result
    (λ reason. (λ e. (law.closed reason).1 ((h.closed reason).0 e), λ e. (h.closed reason).1 ((law.closed reason).0 e)))
    h.told
    (λ e. (h.no_lease e).0)
