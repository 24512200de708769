use Rattle.std.proofs.Common.{◌≡◌, ◌+◌, ◌≤◌, ◌++◌, length, take, vec_len, length-append, ◌∙◌, arith}
use Rattle.std.proofs.lemmas.List.{length-take, length-take-le}
use Rattle.std.proofs.lemmas.Result.{err_from_is_err_and}
use Rattle.host_engine.proofs.InputLemmas.{given_more, next_more, taken_so_far}
use Rattle.host_engine.proofs.inputs.read_input.Goals as goal

pub loop-buffer-preserved : goal.loop-buffer-preserved
loop-buffer-preserved g c =
    let inv = c.loop-buffer.invariant in
    let bytes = c.loop-buffer.bytes.items in
    let count = c.in-Ok.count in
    let piece = take count c.read.new.to in
    let t0 = (g.S.Source.seen c.args.input.now).tape in
    let t1 = (g.S.Source.seen c.loop-buffer.input).tape in
    let t2 = (g.S.Source.seen c.read.new.self).tape in
    let enough : count ≤ length c.read.new.to = c.in-Ok.ensures.count in
    let long = c.read.auto.to ∙ length-take c.min-room.result c.loop-buffer.buffer in
    let longer : vec_len c.extend_from_slice.new.self ≡ vec_len c.loop-buffer.bytes + count = omega (arith, c.in_ok-extend_from_slice.ensures.len, length-take-le count c.read.new.to enough) in
    record {
      within = omega (arith, longer, enough, long, c.min-room.ensures, c.len-in-loop-buffer.ensures);
      given = rw c.in_ok-extend_from_slice.ensures.items (given_more t0 t1 t2 bytes piece inv.given c.in-Ok.ensures.given);
      next = rw c.in_ok-extend_from_slice.ensures.items (next_more t0 t1 bytes piece inv.given inv.next c.in-Ok.ensures.next);
      ends = c.in-Ok.ensures.no_end (omega arith) ∙ inv.ends;
      faults = c.in-Ok.ensures.no_fault ∙ inv.faults;
    }

pub returns-in_err-extend_from_slice-clause-no_memory : goal.returns-in_err-extend_from_slice-clause-no_memory
returns-in_err-extend_from_slice-clause-no_memory g c =
    let inv = c.loop-buffer.invariant in
    let bytes = c.loop-buffer.bytes.items in
    let count = c.in-Ok.count in
    let piece = take count c.read.new.to in
    let t0 = (g.S.Source.seen c.args.input.now).tape in
    let t1 = (g.S.Source.seen c.loop-buffer.input).tape in
    let t2 = (g.S.Source.seen c.read.new.self).tape in
    let enough : count ≤ length c.read.new.to = c.in-Ok.ensures.count in
    let long = c.read.auto.to ∙ length-take c.min-room.result c.loop-buffer.buffer in
    let whole : vec_len c.loop-buffer.bytes ≡ length bytes = omega arith in
    let most : length (bytes ++ piece) ≤ 16777217 = omega (arith, length-append bytes piece, length-take-le count c.read.new.to enough, enough, long, c.min-room.ensures, c.len-in-loop-buffer.ensures, whole) in
    let p = err_from_is_err_and c.from_residual.result c.from_residual.ensures.1 in
    rw p.1
    (taken_so_far (g.S.Source.seen c.args.input.now) (g.S.Source.seen c.read.new.self) (bytes ++ piece)
    (given_more t0 t1 t2 bytes piece inv.given c.in-Ok.ensures.given)
    (next_more t0 t1 bytes piece inv.given inv.next c.in-Ok.ensures.next)
    (c.in-Ok.ensures.no_end (omega arith) ∙ inv.ends)
    (c.in-Ok.ensures.no_fault ∙ inv.faults)
    most)
