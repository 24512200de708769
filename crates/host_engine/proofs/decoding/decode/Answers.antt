use Rattle.std.proofs.Common.{rules, ◌≡◌, [], ◌++◌, take, min, Some, vec_len, inl, refl, ap, sym, subst, ◌∙◌}
use Rattle.std.proofs.lemmas.Result.{err_from_is_err_and, IfErr-at_err, IfErr-weaker, IfOk-weaker}
use Rattle.host_engine.specs.declared.faults.Cut.TheVariants.{NoMemory}
use Rattle.host_engine.specs.declared.preparing.Refusal.{Refusal}
use Rattle.host_engine.specs.declared.preparing.Refusal.TheVariants.{FileFault}
use Rattle.mspec_tree.specs.declared.defs.Description.{Description}
use Rattle.mspec_meaning.specs.Plain.{CanRead}
use Rattle.host_engine.specs.Endings.{ending_of}
use Rattle.host_engine.specs.FirstForm.{FirstForm}
use Rattle.host_engine.specs.Preparing.{refusal_said, untaken}
use Rattle.host_engine.specs.Statuses.{number_of}
use Rattle.host_engine.specs.Tool.{Names, listings, last_said, said, Values}
use Rattle.host_engine.proofs.FormReads.{form_reads}
use Rattle.host_engine.proofs.RunLemmas.{Adds-more, Adds-same, Adds-nothing, Adds-gathered}
use Rattle.host_engine.proofs.ToolLemmas.{untouched, both_ok, refusal_tool, decoded, comes_to_values, front_of_values, front_before_last, taken_so, values_tool}
use Rattle.host_engine.proofs.EndLemmas.{three_or_none}
use Rattle.host_engine.proofs.StatusLemmas.{not_early}
use Rattle.host_engine.proofs.WholeLines.{listings_whole}
use Rattle.host_engine.proofs.decoding.decode.Goals as goal

pub returns-in-Err-clause-run : goal.returns-in-Err-clause-run
returns-in-Err-clause-run g c =
    let refused = c.in-Err.ensures.refused in
    let alone = untouched (g.S.Source.seen c.args.input.now) in
    let held = (g.K.Sink.seen c.args.out.now).held in
    let t0 = c.args.gathered.now.items in
    let t1 = c.say.new.gathered.items in
    record {
      said = both_ok c.say.result _ _ _ c.say.ensures.said c.say.ensures.memory
          (λ status added memory. (untaken refused.0, refusal_said c.in-Err.refusal, record { from_files = refused.1; from_input = alone }, refusal_tool c.args.words.now refused.0 c.in-Err.refusal memory refused.2, Adds-gathered held held t0 t1 (refusal_said c.in-Err.refusal).text refl added.0, added.1));
      no_memory = λ e.
          let same = IfErr-at_err (λ cut. (cut ≡ NoMemory) × (t1 ≡ t0)) e c.say.ensures.unchanged in
          (untaken refused.0, [], record { from_files = refused.1; from_input = alone }, inl refl, Adds-nothing held held t0 t1 refl same.1, inl refl);
      cut = search rules;
      out_failed = search rules;
      out_well = search rules;
      files = search rules;
    }

pub returns-in_err-capture-clause-run : goal.returns-in_err-capture-clause-run
returns-in_err-capture-clause-run g c =
    let ready = c.in-Ok.ensures.ready in
    let taken = c.in_err-capture.ensures.no_memory in
    let held = (g.K.Sink.seen c.args.out.now).held in
    let t0 = c.args.gathered.now.items in
    record {
      said = search rules;
      no_memory = λ e. (record { file = Some ready.2; bytes = taken.0; how = taken.1 }, [], record { from_files = ready.4; from_input = taken.2 }, inl refl, Adds-nothing held held t0 t0 refl refl, inl refl);
      cut = search rules;
      out_failed = search rules;
      out_well = search rules;
      files = search rules;
    }

pub put_values-requires-clause-can : goal.put_values-requires-clause-can
put_values-requires-clause-can g c =
    let ready = c.in-Ok.ensures.ready in
    let def = c.in-Ok.ready.def in
    subst (λ (d : Description). CanRead d def []) (sym c.description.ensures.same) (form_reads ready.2 c.in-Ok.ready.checked def ready.1 ready.5 ready.6)

pub returns-in_err-rest-clause-run : goal.returns-in_err-rest-clause-run
returns-in_err-rest-clause-run g c =
    let p = err_from_is_err_and c.from_residual-in_err-rest.result c.from_residual-in_err-rest.ensures.1 in
    let ready = c.in-Ok.ensures.ready in
    let d = c.description.result.now in
    let def = c.in-Ok.ready.def in
    let form = subst (λ (e : Description). FirstForm ready.2 e) (sym c.description.ensures.same) ready.5 in
    let named = subst (λ (e : Description). Names e def ready.1) (sym c.description.ensures.same) ready.6 in
    let taken = c.in_ok-capture.capture.bytes.items in
    let now = c.deref.result.now in
    let n = c.min-counted.result in
    let how = c.in_ok-capture.capture.how in
    let same = decoded n taken now (vec_len c.in_ok-capture.capture.bytes) c.deref.ensures.value c.deref.ensures.len (c.min-counted.ensures ∙ ap (λ k. min k 16777216) c.len.ensures) in
    let cap = c.in_ok-capture.ensures.taken in
    record {
      said = search rules;
      no_memory = λ e.
          let cut = c.in_err-rest.ensures.no_memory (cc) in
          let comes = comes_to_values c.args.words.now ready.0 ready.1 ready.2 taken (take n now) how d def (cut.0 ++ cut.1) cut.2 ready.3 form named same cut.3 in
          (taken_so ready.2 taken how, listings d def cut.0, record { from_files = ready.4; from_input = cap }, front_of_values c.args.words.now ready.2 taken how d def cut.0 cut.1 cut.2 comes, cut.4, listings_whole d def cut.0);
      cut = λ e.
          let cut = c.in_err-rest.ensures.cut (cc) in
          let comes = comes_to_values c.args.words.now ready.0 ready.1 ready.2 taken (take n now) how d def (cut.0 ++ cut.1) cut.2 ready.3 form named same cut.3 in
          (taken_so ready.2 taken how, listings d def cut.0, record { from_files = ready.4; from_input = cap }, front_of_values c.args.words.now ready.2 taken how d def cut.0 cut.1 cut.2 comes, cut.4);
      out_failed = search rules;
      out_well = search rules;
      files = search rules;
    }

pub returns-in_err-status-clause-run : goal.returns-in_err-status-clause-run
returns-in_err-status-clause-run g c =
    let ready = c.in-Ok.ensures.ready in
    let d = c.description.result.now in
    let def = c.in-Ok.ready.def in
    let form = subst (λ (e : Description). FirstForm ready.2 e) (sym c.description.ensures.same) ready.5 in
    let named = subst (λ (e : Description). Names e def ready.1) (sym c.description.ensures.same) ready.6 in
    let taken = c.in_ok-capture.capture.bytes.items in
    let now = c.deref.result.now in
    let n = c.min-counted.result in
    let how = c.in_ok-capture.capture.how in
    let same = decoded n taken now (vec_len c.in_ok-capture.capture.bytes) c.deref.ensures.value c.deref.ensures.len (c.min-counted.ensures ∙ ap (λ k. min k 16777216) c.len.ensures) in
    let cap = c.in_ok-capture.ensures.taken in
    let values = c.in_ok-rest.ensures.values in
    let ending = ending_of c.in_ok-rest.rest in
    let comes = comes_to_values c.args.words.now ready.0 ready.1 ready.2 taken (take n now) how d def values.0 ending ready.3 form named same values.1 in
    let h0 = (g.K.Sink.seen c.args.out.now).held in
    let h1 = (g.K.Sink.seen c.put_values.new.out).held in
    let added = Adds-same h0 h1 h1 c.args.gathered.now.items c.put_values.new.gathered.items c.close.new.gathered.items (listings d def values.0) values.2 refl c.in_err-status.ensures.unchanged in
    record {
      said = search rules;
      no_memory = λ e. (taken_so ready.2 taken how, listings d def values.0, record { from_files = ready.4; from_input = cap }, front_before_last c.args.words.now ready.2 taken how d def values.0 ending comes, added, listings_whole d def values.0);
      cut = search rules;
      out_failed = search rules;
      out_well = search rules;
      files = search rules;
    }

pub returns-clause-run : goal.returns-clause-run
returns-clause-run g c =
    let ready = c.in-Ok.ensures.ready in
    let d = c.description.result.now in
    let def = c.in-Ok.ready.def in
    let form = subst (λ (e : Description). FirstForm ready.2 e) (sym c.description.ensures.same) ready.5 in
    let named = subst (λ (e : Description). Names e def ready.1) (sym c.description.ensures.same) ready.6 in
    let taken = c.in_ok-capture.capture.bytes.items in
    let now = c.deref.result.now in
    let n = c.min-counted.result in
    let how = c.in_ok-capture.capture.how in
    let same = decoded n taken now (vec_len c.in_ok-capture.capture.bytes) c.deref.ensures.value c.deref.ensures.len (c.min-counted.ensures ∙ ap (λ k. min k 16777216) c.len.ensures) in
    let cap = c.in_ok-capture.ensures.taken in
    let values = c.in_ok-rest.ensures.values in
    let ending = ending_of c.in_ok-rest.rest in
    let comes = comes_to_values c.args.words.now ready.0 ready.1 ready.2 taken (take n now) how d def values.0 ending ready.3 form named same values.1 in
    let h0 = (g.K.Sink.seen c.args.out.now).held in
    let h1 = (g.K.Sink.seen c.put_values.new.out).held in
    let t1 = c.put_values.new.gathered.items in
    let t2 = c.close.new.gathered.items in
    let closed = c.in_ok-status.ensures.closed in
    let last = (last_said (Some how) ending).text in
    let added = Adds-more h0 h1 h1 c.args.gathered.now.items t1 t2 (listings d def values.0) last values.2 (Adds-gathered h1 h1 t1 t2 last refl closed.0) in
    record {
      said = (taken_so ready.2 taken how, said (Some how) (Values d def values.0 ending), record { from_files = ready.4; from_input = cap }, values_tool c.args.words.now ready.2 taken how d def values.0 ending comes, added, closed.1);
      no_memory = search rules;
      cut = search rules;
      out_failed = search rules;
      out_well = search rules;
      files = search rules;
    }

pub returns-clause-untouched : goal.returns-clause-untouched
returns-clause-untouched g c =
    λ (early : _). absurd (not_early (Some c.in_ok-capture.capture.how) (ending_of c.in_ok-rest.rest) (number_of c.in_ok-status.status) early c.in_ok-status.ensures.closed.1)

pub returns-in-Err-clause-lacking : goal.returns-in-Err-clause-lacking
returns-in-Err-clause-lacking g c =
    λ lacks.
    let file : c.in-Err.refusal ≡ FileFault = let h = c.in-Err.ensures.lacking lacks in cc in
    let three = IfOk-weaker c.say.result _ _ (λ status added. added.1 ∙ ap (λ (r : Refusal). (refusal_said r).status) file) c.say.ensures.said in
    let none = IfErr-weaker c.say.result _ _ (λ cut kept. kept.0) c.say.ensures.unchanged in
    (refl, three_or_none c.say.result three none)

pub returns-in_err-capture-clause-lacking : goal.returns-in_err-capture-clause-lacking
returns-in_err-capture-clause-lacking g c = λ lacks. absurd (let h = c.in-Ok.ensures.lacking lacks in cc)

pub returns-in_err-rest-clause-lacking : goal.returns-in_err-rest-clause-lacking
returns-in_err-rest-clause-lacking g c = λ lacks. absurd (let h = c.in-Ok.ensures.lacking lacks in cc)

pub returns-in_err-status-clause-lacking : goal.returns-in_err-status-clause-lacking
returns-in_err-status-clause-lacking g c = λ lacks. absurd (let h = c.in-Ok.ensures.lacking lacks in cc)

pub returns-clause-lacking : goal.returns-clause-lacking
returns-clause-lacking g c = λ lacks. absurd (let h = c.in-Ok.ensures.lacking lacks in cc)
