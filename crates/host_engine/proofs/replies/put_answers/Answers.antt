use Rattle.std.proofs.Common.{◌≡◌, ℕ, [], ◌++◌, inl, inr, refl, ap, sym, ◌∙◌, subst, arith}
use Rattle.std.proofs.lemmas.Result.{err_from_is_err_and}
use Rattle.script_replay.specs.Replays.{Position, Script, after_command, after_line, entries, command_text}
use Rattle.script_replay.specs.declared.replays.ScriptEnd.{ScriptEnd}
use Rattle.script_replay.specs.declared.replays.ScriptEnd.TheVariants.{Answered, Refused}
use Rattle.host_engine.specs.Lines.{lines_in}
use Rattle.host_engine.proofs.ReplyLemmas.{GoesOn, goes_first, in_range, one_more_answer, ends_answered, ends_refused, some_answers}
use Rattle.host_engine.proofs.RunLemmas.{Adds-more, Adds-same, Adds-nothing, PutsFront-after}
use Rattle.host_engine.proofs.WholeLines.{one_more_whole}
use Rattle.host_engine.proofs.replies.put_answers.Goals as goal

pub loop-line-init : goal.loop-line-init
loop-line-init g c =
    let held = (g.K.Sink.seen c.args.out.now).held in
    let t0 = c.args.gathered.now.items in
    let all = lines_in c.args.ended c.args.bytes.now in (
      [],
      Adds-nothing held held t0 t0 refl refl,
      refl,
      subst (λ (p : Position). GoesOn all p.next p.conn all []) (sym c.new-replay.ensures) (goes_first all),
      inl refl,
      omega (arith, ap (λ (p : Position). p.next) c.new-replay.ensures),
    )

pub returns-in_err-put_answer-clause-no_memory : goal.returns-in_err-put_answer-clause-no_memory
returns-in_err-put_answer-clause-no_memory g c =
    let p = err_from_is_err_and c.from_residual.result c.from_residual.ensures.1 in
    let inv = c.loop-line.invariant in
    let all = lines_in c.args.ended c.args.bytes.now in
    let some = some_answers all c.loop-line.replay.next c.loop-line.replay.conn (lines_in c.args.ended c.loop-line.rest.now) inv.0 inv.3 in
    λ (e : _).
    let same = c.in_err-put_answer.ensures.no_memory (cc) in (
      inv.0,
      some.0,
      some.1,
      some.2,
      Adds-same (g.K.Sink.seen c.args.out.now).held (g.K.Sink.seen c.loop-line.out).held (g.K.Sink.seen c.put_answer.new.out).held c.args.gathered.now.items c.loop-line.gathered.items c.put_answer.new.gathered.items inv.0 inv.1 same.0 same.1,
      inv.4,
    )

pub returns-in_err-put_answer-clause-cut : goal.returns-in_err-put_answer-clause-cut
returns-in_err-put_answer-clause-cut g c =
    let p = err_from_is_err_and c.from_residual.result c.from_residual.ensures.1 in
    let inv = c.loop-line.invariant in
    let all = lines_in c.args.ended c.args.bytes.now in
    let n = c.loop-line.replay.next in
    let at = c.loop-line.replay.conn in
    let left = lines_in c.args.ended c.in-Some.more.now in
    λ (e : _).
    let cut = c.in_err-put_answer.ensures.cut (cc) in
    let goes = one_more_answer all n at c.in-Some.line.now (lines_in c.args.ended c.loop-line.rest.now) left inv.0 cut.0 c.in-Some.ensures.line cut.1 inv.3 in
    let some = some_answers all _ (after_command at cut.0) left (inv.0 ++ command_text at cut.0) goes in (
      inv.0 ++ command_text at cut.0,
      some.0,
      some.1,
      some.2,
      PutsFront-after (g.K.Sink.seen c.args.out.now).held (g.K.Sink.seen c.loop-line.out).held (g.K.Sink.seen c.put_answer.new.out).held c.args.gathered.now.items c.loop-line.gathered.items inv.0 (command_text at cut.0) inv.1 cut.2,
    )

pub returns-in-Refused-clause-answers : goal.returns-in-Refused-clause-answers
returns-in-Refused-clause-answers g c =
    let inv = c.loop-line.invariant in
    let all = lines_in c.args.ended c.args.bytes.now in
    let n = c.loop-line.replay.next in
    let at = c.loop-line.replay.conn in
    let refused = c.in_ok-put_answer.ensures.refused (cc) in
    let script = ends_refused all n at c.in-Some.line.now (lines_in c.args.ended c.loop-line.rest.now) (lines_in c.args.ended c.in-Some.more.now) inv.0 c.in-Some.ensures.line refused.0 inv.3 in
    let here : c.next_number-line.result ≡ n = c.next_number-line.ensures ∙ ap (λ (p : Position). p.next) refused.3 in (
      inv.0,
      subst (λ (line : ℕ). Script all inv.0 (Refused line)) (sym here) script,
      Adds-same (g.K.Sink.seen c.args.out.now).held (g.K.Sink.seen c.loop-line.out).held (g.K.Sink.seen c.put_answer.new.out).held c.args.gathered.now.items c.loop-line.gathered.items c.put_answer.new.gathered.items inv.0 inv.1 refused.1 refused.2,
    )

pub loop-line-preserved : goal.loop-line-preserved
loop-line-preserved g c =
    let inv = c.loop-line.invariant in
    let all = lines_in c.args.ended c.args.bytes.now in
    let n = c.loop-line.replay.next in
    let at = c.loop-line.replay.conn in
    let left = lines_in c.args.ended c.in-Some.more.now in
    let answered = c.in_ok-put_answer.ensures.answered (cc) in
    let goes = one_more_answer all n at c.in-Some.line.now (lines_in c.args.ended c.loop-line.rest.now) left inv.0 answered.0 c.in-Some.ensures.line answered.1 inv.3 in
    let text = inv.0 ++ command_text at answered.0 in
    let same = answered.3 ∙ in_range (after_line c.loop-line.replay answered.0) (omega (arith, c.in-Some.ensures.shorter, inv.5, c.requires)) in (
      text,
      Adds-more (g.K.Sink.seen c.args.out.now).held (g.K.Sink.seen c.loop-line.out).held (g.K.Sink.seen c.put_answer.new.out).held c.args.gathered.now.items c.loop-line.gathered.items c.put_answer.new.gathered.items inv.0 (command_text at answered.0) inv.1 answered.2,
      elim c.in_ok-put_answer.ensures.no_fault [ inl bad ↦ absurd cc | inr same ↦ same ∙ inv.2 ],
      subst (λ (p : Position). GoesOn all p.next p.conn left text) (sym same) goes,
      one_more_whole inv.0 at answered.0 inv.4,
      omega (arith, ap (λ (p : Position). p.next) same, c.in-Some.ensures.shorter, inv.5),
    )

pub returns-clause-answers : goal.returns-clause-answers
returns-clause-answers g c =
    let inv = c.loop-line.invariant in
    let all = lines_in c.args.ended c.args.bytes.now in
    let n = c.loop-line.replay.next in
    let at = c.loop-line.replay.conn in
    let script = ends_answered all n at (lines_in c.args.ended c.loop-line.rest.now) inv.0 c.in_default.ensures.line inv.3 in (
      inv.0,
      subst (λ (end : ScriptEnd). Script all inv.0 end) (ap (λ next. Answered next (entries at)) (sym c.next_number.ensures) ∙ ap (λ (k : ℕ). Answered c.next_number.result k) (sym c.entries.ensures.entries)) script,
      inv.1,
    )
