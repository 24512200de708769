-- The calls of a connection answer by places, since they answer as the table's steps do.
use Rattle.std.proofs.Common.{◌≡◌, inl, inr, ℕ, ◌+◌, refl, sym, ap, subst, ◌∙◌, Ok, Err}
use Rattle.std.specs.Prelude.{Result}
use Rattle.txn_core.specs.RowSteps.{IsGivenOrNoMemory, answer_of}
use Rattle.txn_core.specs.declared.phases.TakeRefusal.{TakeRefusal}
use Rattle.wire_frames.specs.WireMeaning.{WireMeaning}
use Rattle.wire_frames.specs.declared.ends.Outcome.{Outcome}
use Rattle.conn_core.specs.Calls.{Cancels, Collects, IsJournalOf, Submits}
use Rattle.conn_core.specs.Entries.{requests_in}
use Rattle.conn_core.specs.States.{State, connection_of, table_in}
use Rattle.conn_core.specs.Steps.{Request, Started, accepted_of, submit}
use Rattle.conn_core.specs.Tables.{Table}
use Rattle.conn_core.specs.declared.answers.Accepted.{Accepted}
use Rattle.conn_core.specs.declared.answers.CancelRefusal.{CancelRefusal}
use Rattle.conn_core.specs.declared.answers.SubmitRefusal.{SubmitRefusal}
use Rattle.conn_core.specs.declared.answers.SubmitRefusal.TheVariants as submit_refusals
use Rattle.conn_core.proofs.PromiseLemmas.{given_answer, given_refused}
use Rattle.conn_core.proofs.StepLaws.{legal_walked}
use Rattle.conn_laws.specs.CallsByPlaces.{CancelsByPlaces, CollectsByPlaces, IsHistory, SubmitsByPlaces}
use Rattle.conn_laws.specs.Drawing.{IsFirstFree, PassesTests}
use Rattle.conn_laws.proofs.EndPlaces.{already_ended, cancels, collected, pending, unknown_cancelled, unknown_collected}
use Rattle.conn_laws.proofs.HistoryParts.{history_law}
use Rattle.conn_laws.proofs.NoReference.{accepted_drew, else_draws, no_reference}
use Rattle.conn_laws.proofs.OwnEnds.{own_ends}
use Rattle.conn_laws.proofs.TablePlaces.{history_table}

pub is_history : {W : Type 0} (meaning : W → WireMeaning) (state : State W) → IsJournalOf meaning state → IsHistory meaning state
is_history meaning state j =
    let c = connection_of meaning state.key in
    record {
      law = history_law c state.journal j.settings j.legal;
      own_ends = own_ends c state.journal j.settings (legal_walked c state.journal j.legal);
      table = history_table c state.journal j.settings (legal_walked c state.journal j.legal);
    }

-- ---- submit

refused_step : (r : Result (Table × Started) SubmitRefusal) (refusal : SubmitRefusal) → accepted_of (answer_of r) ≡ Err refusal → r ≡ Err refusal
refused_step (Ok p) refusal e = absurd (cc)
refused_step (Err x) refusal e = cc

given_step : (r : Result (Table × Started) SubmitRefusal) (a : Accepted) → accepted_of (answer_of r) ≡ Ok a → (s : Started) × (answer_of r ≡ Ok s) × (s.id ≡ a.id) × (s.reference ≡ a.reference)
given_step (Err x) a e = absurd (cc)
given_step (Ok p) a e =
    let told : Accepted = record { id = p.1.id; reference = p.1.reference } in
    let same : told ≡ a = cc in
    (p.1, refl, ap (λ (x : Accepted). x.id) same, ap (λ (x : Accepted). x.reference) same)

no_memory_apart : submit_refusals.NoReference ≡ submit_refusals.NoMemory → ⊥
no_memory_apart e = cc

given_same : {A R : Type 0} (missing : R) (result wanted other : Result A R) → wanted ≡ other → IsGivenOrNoMemory missing result wanted → IsGivenOrNoMemory missing result other
given_same missing result wanted other is (inl same) = inl (same ∙ is)
given_same missing result wanted other is (inr none) = inr none

pub submits_by : {W : Type 0} (meaning : W → WireMeaning) (q : Request) (old new : State W) (result : Result Accepted SubmitRefusal) → IsJournalOf meaning old → Submits meaning q old new result → SubmitsByPlaces meaning q old result
submits_by meaning q old new result j h =
    let c = connection_of meaning old.key in
    let w = legal_walked c old.journal j.legal in
    let r = submit (meaning old.key.wire) (table_in meaning old) q in
    let exact = no_reference c old.journal q j.settings w in
    record {
      no_reference = λ is. exact.0 (refused_step r submit_refusals.NoReference (given_refused submit_refusals.NoMemory submit_refusals.NoReference result (accepted_of (answer_of r)) no_memory_apart h.acts.answer is));
      once_taken = λ p taken. given_same submit_refusals.NoMemory result (accepted_of (answer_of r)) (Err submit_refusals.NoReference) (ap (λ x. accepted_of (answer_of x)) (exact.1 (p, taken))) h.acts.answer;
      else_draws = elim (else_draws c old.journal j.settings w) [
        | inl taken ↦ inl taken
        | inr next ↦ inr (
          next.0,
          next.1,
          λ p. given_same submit_refusals.NoMemory result (accepted_of (answer_of r)) (Ok (record { id = requests_in old.journal + 1; reference = next.0 })) (ap accepted_of (next.2 q p)) h.acts.answer,
        )
      ];
      accepted = λ a is.
          let given = given_step r a (given_answer submit_refusals.NoMemory a result (accepted_of (answer_of r)) h.acts.answer is) in
          let drew = accepted_drew c old.journal q given.0 j.settings w given.1 in
          let P : ℕ → Type 0 = λ n. PassesTests c old.journal q n × IsFirstFree c old.journal n in
          let both = subst P given.3 (drew.0, drew.2) in
          (both.0, both.1, sym given.2 ∙ ap (λ (s : Started). s.id) drew.1);
    }

-- ---- cancel and collect

pub cancels_by : {W : Type 0} (meaning : W → WireMeaning) (actor id : ℕ) (old new : State W) (result : Result (Unit {0}) CancelRefusal) → IsJournalOf meaning old → Cancels meaning actor id old new result → CancelsByPlaces meaning actor id old result
cancels_by meaning actor id old new result j h =
    let c = connection_of meaning old.key in
    let w = legal_walked c old.journal j.legal in
    subst (CancelsByPlaces meaning actor id old) (sym h.acts.answer) (record {
      already_ended = λ kind. already_ended c old.journal actor id kind j.settings w;
      cancels = cancels c old.journal actor id j.settings w;
      no_request = unknown_cancelled c old.journal actor id j.settings w;
    })

pub collects_by : {W : Type 0} (meaning : W → WireMeaning) (actor id : ℕ) (old new : State W) (result : Result Outcome TakeRefusal) → IsJournalOf meaning old → Collects meaning actor id old new result → CollectsByPlaces meaning actor id old result
collects_by meaning actor id old new result j h =
    let c = connection_of meaning old.key in
    let w = legal_walked c old.journal j.legal in
    subst (CollectsByPlaces meaning actor id old) (sym h.acts.answer) (record {
      collected = λ outcome. collected c old.journal actor id outcome j.settings w;
      pending = pending c old.journal actor id j.settings w;
      no_request = unknown_collected c old.journal actor id j.settings w;
    })
