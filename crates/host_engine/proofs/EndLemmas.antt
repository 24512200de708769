-- What a run comes to once the rest of its text is out.
use Rattle.std.proofs.Common.{◌≡◌, ◌≢◌, ℕ, ◌⊎◌, List, [], ◌++◌, codes, Result, Ok, Err, refl, inl, inr, sym, ap, ◌∙◌, subst, arith}
use Rattle.std.specs.Result.{IfErr, IfOk}
use Rattle.std.proofs.lemmas.Bool.{cases_eq}
use Rattle.std.proofs.lemmas.List.{append-nil}
use Rattle.link_io.specs.Counts.{Rose}
use Rattle.link_io.specs.Streams.{ShelfSeen, SinkSeen, SourceSeen, after_taking}
use Rattle.host_engine.specs.declared.faults.Cut.{Cut}
use Rattle.host_engine.specs.declared.faults.Cut.TheVariants.{NoMemory, WriteFault}
use Rattle.host_engine.specs.declared.statuses.Status.{Status}
use Rattle.host_engine.specs.declared.statuses.Status.TheVariants.{Well, DescriptionRefused, WordsRefused, FileFault, ReadFault, ValueRefused, Truncated, LineRefused, TypeRefused, TooLong}
use Rattle.host_engine.specs.Statuses.{number_of}
use Rattle.host_engine.specs.Runs.{IsRun, PutsFront, RunsTo, StopsEarly, last_of, shown}
use Rattle.host_engine.proofs.RunLemmas.{all_said, front_said, last_said_too}
use Rattle.host_engine.proofs.StatusLemmas.{cut_status}
use Rattle.host_engine.proofs.ToolLemmas.{front_of_tool}

pub concluded : (words : List (List ℕ)) (counts_with : List ℕ → List ℕ → Type 0) (files files' : ShelfSeen) (input input' : SourceSeen) (o0 o1 o2 : SinkSeen) (t0 t1 out : List ℕ) (ran : Result Status Cut) (status : ℕ) → t0 ≡ [] → out ≡ t1
    → RunsTo words counts_with (shown files input o0) (shown files' input' o1) t0 t1 ran
    → (status ≢ 5 → (status ≡ (last_of ran).status) × (o2.held ≡ after_taking (out ++ (last_of ran).text) o1.held) × (o2.faults ≡ o1.faults))
    → (status ≡ 5 → ran ≢ Err WriteFault → PutsFront o1.held o2.held (out ++ (last_of ran).text) × Rose o1.faults o2.faults)
    → (ran ≡ Err WriteFault → (status ≡ 5) × (o2 ≡ o1))
    → IsRun words counts_with (shown files input o0) (shown files' input' o2) status
concluded words counts_with files files' input input' o0 o1 o2 t0 t1 out (Ok n) status empty same run done cut failed =
    let s = run.said in
    let known = cut_status words s.0 s.1 s.3 in
    let well : o1.faults ≡ o0.faults = elim run.out_well [ inl bad ↦ absurd cc | inr kept ↦ kept ] in
    record {
      said = λ five eight. let end = done five in (s.0, s.1, s.2, s.3, all_said o0.held o1.held o2.held t0 t1 out s.1.text empty same s.4 end.1, end.0 ∙ s.5);
      no_memory = λ eight.
          let end = done (λ five. absurd (omega (arith, five, eight))) in
          absurd (known.1 (sym s.5 ∙ sym end.0 ∙ eight));
      write_fault = λ five.
          let put = front_said o0.held o1.held o2.held t0 t1 out s.1.text [] empty same s.4 (cut five (λ e. absurd cc)).0 in
          (s.0, s.1.text, s.2, inl (front_of_tool words s.0 s.1 s.3), subst (λ (xs : List ℕ). PutsFront o0.held o2.held xs) (append-nil s.1.text) put);
      out_failed = λ five. subst (λ (count : ℕ). Rose count o2.faults) well (cut five (λ e. absurd cc)).1;
      out_well = λ five. (done five).2 ∙ well;
      files = run.files;
    }
concluded words counts_with files files' input input' o0 o1 o2 t0 t1 out (Err NoMemory) status empty same run done cut failed =
    let s = run.no_memory refl in
    let last = codes "no memory\n" in
    let well : o1.faults ≡ o0.faults = elim run.out_well [ inl bad ↦ absurd cc | inr kept ↦ kept ] in
    record {
      said = λ five eight. absurd (eight (done five).0);
      no_memory = λ eight.
          let end = done (λ five. absurd (omega (arith, five, eight))) in
          (s.0, s.1, s.2, s.3, last_said_too o0.held o1.held o2.held t0 t1 out s.1 last empty same s.4 end.1, s.5);
      write_fault = λ five.
          let put = front_said o0.held o1.held o2.held t0 t1 out s.1 last empty same s.4 (cut five (λ e. absurd cc)).0 in
          (s.0, s.1 ++ last, s.2, inr (s.1, s.3, s.5, refl), put);
      out_failed = λ five. subst (λ (count : ℕ). Rose count o2.faults) well (cut five (λ e. absurd cc)).1;
      out_well = λ five. (done five).2 ∙ well;
      files = run.files;
    }
concluded words counts_with files files' input input' o0 o1 o2 t0 t1 out (Err WriteFault) status empty same run done cut failed =
    let s = run.cut refl in
    let end = failed refl in
    let put = subst (λ (t : List ℕ). PutsFront o0.held o1.held (t ++ s.1)) empty s.4 in
    record {
      said = λ five eight. absurd (five end.0);
      no_memory = λ eight. absurd (omega (arith, eight, end.0));
      write_fault = λ five. (s.0, s.1, s.2, inl s.3, subst (λ (o : SinkSeen). PutsFront o0.held o.held s.1) (sym end.1) put);
      out_failed = λ five. subst (λ (o : SinkSeen). Rose o0.faults o.faults) (sym end.1) (run.out_failed refl);
      out_well = λ five. absurd (five end.0);
      files = run.files;
    }

early_status : (status : ℕ) → StopsEarly status → (status ≢ 5) × (status ≢ 8)
early_status status (inl one) = (λ e. absurd (omega (arith, e, one)), λ e. absurd (omega (arith, e, one)))
early_status status (inr (inl two)) = (λ e. absurd (omega (arith, e, two)), λ e. absurd (omega (arith, e, two)))
early_status status (inr (inr (inl three))) = (λ e. absurd (omega (arith, e, three)), λ e. absurd (omega (arith, e, three)))
early_status status (inr (inr (inr twelve))) = (λ e. absurd (omega (arith, e, twelve)), λ e. absurd (omega (arith, e, twelve)))

-- a run that stops early came to the status that it answers
pub early_of : (ran : Result Status Cut) (status : ℕ) (P : Type 0) → (status ≢ 5 → status ≡ (last_of ran).status) → StopsEarly status → IfOk ran (λ s. StopsEarly (number_of s) → P) → P
early_of (Ok n) status P done early then = then (subst StopsEarly (done (early_status status early).0) early)
early_of (Err NoMemory) status P done early then =
    let known = early_status status early in absurd (known.1 (done known.0))
early_of (Err WriteFault) status P done early then =
    let known = early_status status early in absurd (known.0 (done known.0))

-- what comes of a run whose file failed
abbrev pub IsFileFault : Result Status Cut → Type 0
IsFileFault ran = (ran ≡ Ok FileFault) ⊎ (ran ≡ Err NoMemory)

file_fault_at_3 : (status : Status) → number_of status ≡ 3 → status ≡ FileFault
file_fault_at_3 Well e = absurd (omega (arith, e))
file_fault_at_3 DescriptionRefused e = absurd (omega (arith, e))
file_fault_at_3 WordsRefused e = absurd (omega (arith, e))
file_fault_at_3 FileFault e = refl
file_fault_at_3 ReadFault e = absurd (omega (arith, e))
file_fault_at_3 ValueRefused e = absurd (omega (arith, e))
file_fault_at_3 Truncated e = absurd (omega (arith, e))
file_fault_at_3 LineRefused e = absurd (omega (arith, e))
file_fault_at_3 TypeRefused e = absurd (omega (arith, e))
file_fault_at_3 TooLong e = absurd (omega (arith, e))

pub three_or_none : (ran : Result Status Cut) → IfOk ran (λ status. number_of status ≡ 3) → IfErr ran (λ cut. cut ≡ NoMemory) → IsFileFault ran
three_or_none (Ok status) three none = inl (ap (λ (s : Status). Ok s) (file_fault_at_3 status three))
three_or_none (Err cut) three none = inr (ap (λ (c : Cut). Err c) none)

lacking_at : (ran : Result Status Cut) (status : ℕ) → status ≡ (last_of ran).status → IsFileFault ran → (status ≡ 3) ⊎ ((status ≡ 5) ⊎ (status ≡ 8))
lacking_at ran status done (inl three) = inl (done ∙ ap (λ (r : Result Status Cut). (last_of r).status) three)
lacking_at ran status done (inr none) = inr (inr (done ∙ ap (λ (r : Result Status Cut). (last_of r).status) none))

pub lacking_of : (ran : Result Status Cut) (status : ℕ) → (status ≢ 5 → status ≡ (last_of ran).status) → IsFileFault ran → (status ≡ 3) ⊎ ((status ≡ 5) ⊎ (status ≡ 8))
lacking_of ran status done failed =
    elim (cases_eq status 5) [ inl five ↦ inr (inl five) | inr well ↦ lacking_at ran status (done well) failed ]
