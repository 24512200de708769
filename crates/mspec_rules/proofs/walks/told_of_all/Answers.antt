use Rattle.std.proofs.Common.{◌∙◌, ◌+◌, drop, refl, sym, arith}
use Rattle.mspec_rules.specs.Found.{found_all, found_more, from_here, none_here}
use Rattle.mspec_rules.proofs.walks.told_of_all.Goals as goal

pub loop-item-init : goal.loop-item-init
loop-item-init g c = λ wrongs rule. refl

pub loop-item-preserved : goal.loop-item-preserved
loop-item-preserved g c = λ wrongs rule.
    c.loop-item.invariant wrongs rule
    ∙ found_more wrongs c.loop-item.next c.told-next.result (drop c.loop-item.item-index c.args.items.now) (drop (c.loop-item.item-index + 1) c.args.items.now) c.item-item.result
    (from_here c.args.items.now c.loop-item.item-index c.item-item.result c.loop-item-test.true c.item-item.is)
    (rule c.loop-item.next _ c.told-next.result c.told-next.ensures)

pub returns : goal.returns
returns g c = λ wrongs rule.
    sym (c.loop-item.invariant wrongs rule ∙ found_all wrongs c.loop-item.next (drop c.loop-item.item-index c.args.items.now) (none_here c.args.items.now c.loop-item.item-index (omega arith)))
