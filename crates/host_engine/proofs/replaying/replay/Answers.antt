use Rattle.std.proofs.Common.{[], ◌++◌, take, min, Some, vec_len, inr, refl, ap, ◌∙◌}
use Rattle.std.proofs.lemmas.List.{append-nil}
use Rattle.std.proofs.lemmas.Result.{err_from_is_err_and}
use Rattle.host_engine.specs.Lines.{lines_of}
use Rattle.host_engine.specs.Tool.{script_last}
use Rattle.host_engine.proofs.ReplyLemmas.{script_of}
use Rattle.host_engine.proofs.RunLemmas.{Adds-more, Adds-same, Adds-gathered}
use Rattle.host_engine.proofs.ToolLemmas.{decoded}
use Rattle.host_engine.proofs.WholeLines.{script_whole}
use Rattle.host_engine.proofs.replaying.replay.Goals as goal

pub returns-in_err-end-clause-no_memory : goal.returns-in_err-end-clause-no_memory
returns-in_err-end-clause-no_memory g c =
    let p = err_from_is_err_and c.from_residual-in_err-end.result c.from_residual-in_err-end.ensures.1 in
    let taken = c.in_ok-script.script.bytes.items in
    let how = c.in_ok-script.script.how in
    let now = c.deref.result.now in
    let n = c.min-counted.result in
    let same = decoded n taken now (vec_len c.in_ok-script.script.bytes) c.deref.ensures.value c.deref.ensures.len (c.min-counted.ensures ∙ ap (λ k. min k 16777216) c.len.ensures) in
    λ (e : _).
    let cut = c.in_err-end.ensures.no_memory (cc) in
    let script = script_of how c.has_ended-ended.result (take n now) (take 16777216 taken) (cut.0 ++ cut.1) cut.2 c.has_ended-ended.ensures same cut.3 in
    (taken, Some how, cut.0, c.in_ok-script.ensures.taken, inr (how, cut.0 ++ cut.1, cut.1, cut.2, refl, script, refl), cut.4, cut.5)

pub returns-in_err-end-clause-cut : goal.returns-in_err-end-clause-cut
returns-in_err-end-clause-cut g c =
    let p = err_from_is_err_and c.from_residual-in_err-end.result c.from_residual-in_err-end.ensures.1 in
    let taken = c.in_ok-script.script.bytes.items in
    let how = c.in_ok-script.script.how in
    let now = c.deref.result.now in
    let n = c.min-counted.result in
    let same = decoded n taken now (vec_len c.in_ok-script.script.bytes) c.deref.ensures.value c.deref.ensures.len (c.min-counted.ensures ∙ ap (λ k. min k 16777216) c.len.ensures) in
    λ (e : _).
    let cut = c.in_err-end.ensures.cut (cc) in
    let script = script_of how c.has_ended-ended.result (take n now) (take 16777216 taken) (cut.0 ++ cut.1) cut.2 c.has_ended-ended.ensures same cut.3 in
    (taken, Some how, cut.0, c.in_ok-script.ensures.taken, inr (how, cut.0 ++ cut.1, cut.1, cut.2, refl, script, refl), cut.4)

pub returns-in_err-status-clause-no_memory : goal.returns-in_err-status-clause-no_memory
returns-in_err-status-clause-no_memory g c =
    let taken = c.in_ok-script.script.bytes.items in
    let how = c.in_ok-script.script.how in
    let now = c.deref.result.now in
    let n = c.min-counted.result in
    let same = decoded n taken now (vec_len c.in_ok-script.script.bytes) c.deref.ensures.value c.deref.ensures.len (c.min-counted.ensures ∙ ap (λ k. min k 16777216) c.len.ensures) in
    let answers = c.in_ok-end.ensures.answers in
    let end = c.in_ok-end.end in
    let script = script_of how c.has_ended-ended.result (take n now) (take 16777216 taken) answers.0 end c.has_ended-ended.ensures same answers.1 in
    let h0 = (g.K.Sink.seen c.args.out.now).held in
    let h1 = (g.K.Sink.seen c.put_answers.new.out).held in
    let added = Adds-same h0 h1 h1 c.args.gathered.now.items c.put_answers.new.gathered.items c.close_script.new.gathered.items answers.0 answers.2 refl c.in_err-status.ensures.unchanged in
    λ (e : _). (taken, Some how, answers.0, c.in_ok-script.ensures.taken, inr (how, answers.0, [], end, refl, script, append-nil answers.0), added, script_whole (lines_of (Some how) (take 16777216 taken)) answers.0 end script)

pub returns-clause-said : goal.returns-clause-said
returns-clause-said g c =
    let taken = c.in_ok-script.script.bytes.items in
    let how = c.in_ok-script.script.how in
    let now = c.deref.result.now in
    let n = c.min-counted.result in
    let same = decoded n taken now (vec_len c.in_ok-script.script.bytes) c.deref.ensures.value c.deref.ensures.len (c.min-counted.ensures ∙ ap (λ k. min k 16777216) c.len.ensures) in
    let answers = c.in_ok-end.ensures.answers in
    let end = c.in_ok-end.end in
    let script = script_of how c.has_ended-ended.result (take n now) (take 16777216 taken) answers.0 end c.has_ended-ended.ensures same answers.1 in
    let h0 = (g.K.Sink.seen c.args.out.now).held in
    let h1 = (g.K.Sink.seen c.put_answers.new.out).held in
    let t1 = c.put_answers.new.gathered.items in
    let t2 = c.close_script.new.gathered.items in
    let closed = c.in_ok-status.ensures.closed in
    let last = (script_last (Some how) end).text in
    let added = Adds-more h0 h1 h1 c.args.gathered.now.items t1 t2 answers.0 last answers.2 (Adds-gathered h1 h1 t1 t2 last refl closed.0) in
    (taken, how, answers.0, end, c.in_ok-script.ensures.taken, script, added, closed.1)
