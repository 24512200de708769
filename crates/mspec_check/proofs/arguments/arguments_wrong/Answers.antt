use Rattle.std.proofs.Common.{◌∙◌}
use Rattle.mspec_rules.specs.Found.{from_here}
use Rattle.mspec_check.proofs.ArgumentLaws.{arguments_more}
use Rattle.mspec_check.proofs.arguments.arguments_wrong.Goals as goal

pub loop-i-preserved : goal.loop-i-preserved
loop-i-preserved c =
    arguments_more c.args.d.now c.args.scope.now c.args.named c.args.params.now c.args.args.now c.loop-i.i c.index-args-i.result c.param_want-want.result c.loop-i.told c.argument_wrong.result c.earlier-told.result
    (from_here c.args.args.now c.loop-i.i c.index-args-i.result c.loop-i-test.true c.index-args-i.is)
    c.param_want-want.ensures c.argument_wrong.ensures c.earlier-told.ensures
    ∙ c.loop-i.invariant
