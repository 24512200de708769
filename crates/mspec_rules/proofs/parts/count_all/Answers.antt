use Rattle.std.proofs.Common.{◌∙◌, ◌+◌, drop, refl, sym, ap, arith}
use Rattle.std.specs.List.{flat_map}
use Rattle.mspec_rules.specs.Counts.{counted}
use Rattle.mspec_rules.specs.Found.{from_here, none_here}
use Rattle.mspec_rules.proofs.CountLaws.{counted_more}
use Rattle.mspec_rules.proofs.parts.count_all.Goals as goal

pub loop-item-init : goal.loop-item-init
loop-item-init g c = λ places rule. refl

pub loop-item-preserved : goal.loop-item-preserved
loop-item-preserved g c = λ places rule.
    c.loop-item.invariant places rule
    ∙ counted_more places c.loop-item.next c.counts-next.result (drop c.loop-item.item-index c.args.items.now) (drop (c.loop-item.item-index + 1) c.args.items.now) c.item-item.result
    (from_here c.args.items.now c.loop-item.item-index c.item-item.result c.loop-item-test.true c.item-item.is)
    (rule c.loop-item.next _ c.counts-next.result c.counts-next.ensures)

pub returns : goal.returns
returns g c = λ places rule.
    sym (c.loop-item.invariant places rule ∙ ap (λ l. counted c.loop-item.next (flat_map places l)) (none_here c.args.items.now c.loop-item.item-index (omega arith)))
