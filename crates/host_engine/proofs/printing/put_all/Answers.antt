use Rattle.std.proofs.Common.{◌++◌, take, drop, ap, sym, ◌∙◌, append_assoc, arith}
use Rattle.std.proofs.lemmas.List.{take-append-drop, take_rest}
use Rattle.link_io.specs.Streams.{after_taking, after_taking-append}
use Rattle.host_engine.proofs.printing.put_all.Goals as goal

pub loop-rest-preserved : goal.loop-rest-preserved
loop-rest-preserved g c =
    let inv = c.loop-rest.invariant in
    let rest = c.loop-rest.rest.now in
    let count = c.in_ok-count.count in (
      inv.0 ++ take count rest,
      ap (λ xs. (inv.0 ++ take count rest) ++ xs) (take_rest rest count) ∙ append_assoc inv.0 (take count rest) (drop count rest) ∙ ap (λ xs. inv.0 ++ xs) (take-append-drop count rest) ∙ inv.1,
      c.in_ok-count.ensures.held ∙ ap (after_taking (take count rest)) inv.2 ∙ sym (after_taking-append inv.0 (take count rest) _),
      c.in_ok-count.ensures.no_fault (omega arith) ∙ inv.3,
    )
