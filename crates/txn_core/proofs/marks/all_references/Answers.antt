use Rattle.std.proofs.Common.{◌≡◌, ◌+◌, ◌++◌, ◌∷◌, [], add-one, ap, ◌∙◌, rules, sym, arith}
use Rattle.std.specs.List.{range_with_len}
use Rattle.std.specs.VecDeque.{deque_len}
use Rattle.txn_core.proofs.KeptLemmas.{ok_items}
use Rattle.txn_core.proofs.Ranges.{range_more}
use Rattle.txn_core.proofs.marks.all_references.Goals as goal

pub loop-reference-preserved : goal.loop-reference-preserved
loop-reference-preserved c =
    let n = c.loop-reference.reference in
    let next : n + 1 ≡ 1 + n = omega arith in
    let pushed = ok_items c.push_back.result _ _ _ _ c.push_back.ensures.items c.in_ok-push_back.was in
    let longer : deque_len c.push_back.new.self ≡ deque_len c.loop-reference.free + 1 = search rules in
    record {
      items = rw (add-one n) (pushed ∙ ap (λ ns. ns ++ (n + 1) ∷ []) c.loop-reference.invariant.items ∙ ap (λ m. range_with_len 1 n ++ m ∷ []) next ∙ sym (range_more 1 n));
      len = omega arith;
      room = omega arith;
    }
