use Rattle.std.proofs.Common.{◌≡◌, ℕ, ◌++◌, ap, sym, ◌∙◌, subst}
use Rattle.std.proofs.lemmas.Result.{err_from_is_err_and, on_err_weaker}
use Rattle.link_io.specs.Counts.{Rose}
use Rattle.host_engine.proofs.RunLemmas.{front_of_first, front_of_second, front_of_all}
use Rattle.link_io.specs.Streams.{after_taking, after_taking-append}
use Rattle.host_engine.proofs.tool.put_and_flush.Goals as goal

pub returns-in_err-put_all-clause-cut : goal.returns-in_err-put_all-clause-cut
returns-in_err-put_all-clause-cut g c =
    let p = err_from_is_err_and c.from_residual.result c.from_residual.ensures.1 in
    rw p.1 (front_of_first (g.K.Sink.seen c.args.out.now).held (g.K.Sink.seen c.put_all.new.out).held c.args.gathered.now c.args.last.now c.in_err-put_all.ensures.front, c.in_err-put_all.ensures.fault)

pub returns-in_err-put_all-2-clause-cut : goal.returns-in_err-put_all-2-clause-cut
returns-in_err-put_all-2-clause-cut g c =
    let p = err_from_is_err_and c.from_residual-in_err-put_all-2.result c.from_residual-in_err-put_all-2.ensures.1 in
    let h0 = (g.K.Sink.seen c.args.out.now).held in
    let h1 = (g.K.Sink.seen c.put_all.new.out).held in
    let h2 = (g.K.Sink.seen c.put_all-2.new.out).held in
    rw p.1 (
      front_of_second h0 h1 h2 c.args.gathered.now c.args.last.now c.in_ok-put_all.ensures.put c.in_err-put_all-2.ensures.front,
      subst (λ (n : ℕ). Rose n (g.K.Sink.seen c.put_all-2.new.out).faults) c.in_ok-put_all.ensures.no_fault c.in_err-put_all-2.ensures.fault,
    )

pub returns-clause-cut : goal.returns-clause-cut
returns-clause-cut g c =
    let h0 = (g.K.Sink.seen c.args.out.now).held in
    let h1 = (g.K.Sink.seen c.put_all.new.out).held in
    let h3 = (g.K.Sink.seen c.flush.new.self).held in
    let put : h3 ≡ after_taking (c.args.gathered.now ++ c.args.last.now) h0 =
    c.flush.ensures.held ∙ c.in_ok-put_all-2.ensures.put ∙ ap (after_taking c.args.last.now) c.in_ok-put_all.ensures.put ∙ sym (after_taking-append c.args.gathered.now c.args.last.now h0) in
    let same : (g.K.Sink.seen c.put_all-2.new.out).faults ≡ (g.K.Sink.seen c.args.out.now).faults = c.in_ok-put_all-2.ensures.no_fault ∙ c.in_ok-put_all.ensures.no_fault in
    on_err_weaker c.flush.result (λ rose. (front_of_all h0 h3 (c.args.gathered.now ++ c.args.last.now) put, subst (λ (n : ℕ). Rose n (g.K.Sink.seen c.flush.new.self).faults) same rose)) c.flush.ensures.failed
