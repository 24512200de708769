use Rattle.std.proofs.Common.{◌≡◌, ℕ, ◌+◌, ◌≤◌, List, length, take, drop, Option, Ok, ap, ◌∙◌, subst, vec_len, arith}
use Rattle.std.specs.Option.{IfSome}
use Rattle.std.proofs.lemmas.List.{length-take, length-take-le}
use Rattle.host_engine.proofs.FrontLemmas.{front_more, front_all, no_read}
use Rattle.host_engine.proofs.files.read_file.Goals as goal

pub loop-buffer-preserved : goal.loop-buffer-preserved
loop-buffer-preserved g c =
    let inv = c.loop-buffer.invariant in
    let text = c.loop-buffer.text.items in
    let count = c.in_ok-count.count in
    let piece = take count c.read_at.new.to in
    let name = c.args.name.now in
    let len = vec_len c.loop-buffer.text in
    let enough : count ≤ length c.read_at.new.to = c.in_ok-count.ensures.count in
    let longer : vec_len c.extend_from_slice.new.self ≡ len + count = omega (arith, c.in_ok-extend_from_slice.ensures.len, length-take-le count c.read_at.new.to enough) in
    let long = c.read_at.auto.to ∙ length-take c.min-room.result c.loop-buffer.buffer in
    let shelf = c.loop-buffer.files in
    let given = subst (λ (n : ℕ). IfSome ((g.F.Shelf.seen shelf).file name) (λ bytes. piece ≡ take count (drop n bytes))) c.len-in-loop-buffer-2.ensures c.in_ok-count.ensures.content in
    let next = subst (λ (told : Option (List ℕ)). IfSome told (λ bytes. piece ≡ take count (drop len bytes))) (inv.files name).0 given in
    record {
      within = omega (arith, longer, enough, long, c.min-room.ensures, c.len-in-loop-buffer.ensures);
      front = rw (c.in_ok-extend_from_slice.ensures.items, longer) (front_more _ text piece len count inv.front next);
      lacking = λ lacks. absurd (no_read c.in_ok-count.count _ _ (inv.files name).1 c.in_ok-count.ensures.lacking lacks);
      counts = λ other. c.in_ok-count.ensures.no_fault other ∙ inv.counts other;
      files = λ other. ((c.in_ok-count.ensures.files other).0 ∙ (inv.files other).0, (c.in_ok-count.ensures.files other).1 ∙ (inv.files other).1);
    }

pub returns-clause-text : goal.returns-clause-text
returns-clause-text g c =
    let all : vec_len c.loop-buffer.text ≡ 1048577 = omega arith in
    subst (λ (n : ℕ). IfSome ((g.F.Shelf.seen c.args.files.now).file c.args.name.now) (λ bytes. c.loop-buffer.text.items ≡ take n bytes)) all c.loop-buffer.invariant.front

pub returns-then-count-eq0-clause-text : goal.returns-then-count-eq0-clause-text
returns-then-count-eq0-clause-text g c =
    let inv = c.loop-buffer.invariant in
    let name = c.args.name.now in
    let len = vec_len c.loop-buffer.text in
    let given = c.in_ok-count.ensures.at_end (ap (λ n. Ok n) c.if-count-eq0.true) in
    let over = subst (λ (n : ℕ). IfSome ((g.F.Shelf.seen c.loop-buffer.files).file name) (λ bytes. length bytes ≤ n)) c.len-in-loop-buffer-2.ensures given in
    let end = subst (λ (told : Option (List ℕ)). IfSome told (λ bytes. length bytes ≤ len)) (inv.files name).0 over in
    front_all ((g.F.Shelf.seen c.args.files.now).file name) c.loop-buffer.text.items len 1048577 inv.within inv.front end

pub returns-in_err-extend_from_slice-clause-lacking : goal.returns-in_err-extend_from_slice-clause-lacking
returns-in_err-extend_from_slice-clause-lacking g c =
    λ lacks. absurd (no_read c.in_ok-count.count _ _ (c.loop-buffer.invariant.files c.args.name.now).1 c.in_ok-count.ensures.lacking lacks)

pub returns-clause-lacking : goal.returns-clause-lacking
returns-clause-lacking g c = λ lacks. absurd (omega (arith, c.loop-buffer.invariant.lacking lacks))

pub returns-then-count-eq0-clause-lacking : goal.returns-then-count-eq0-clause-lacking
returns-then-count-eq0-clause-lacking g c =
    λ lacks. absurd (no_read c.in_ok-count.count _ _ (c.loop-buffer.invariant.files c.args.name.now).1 c.in_ok-count.ensures.lacking lacks)
