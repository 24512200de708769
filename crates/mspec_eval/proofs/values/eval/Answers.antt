use Rattle.std.proofs.Common.{◌∙◌, ap}
use Rattle.mspec_expr.specs.Fits.{sight_in}
use Rattle.mspec_expr.specs.Sizes.{value}
use Rattle.mspec_eval.specs.Things.{told}
use Rattle.mspec_eval.proofs.ValueLaws.{answer_in}
use Rattle.mspec_eval.proofs.values.eval.Goals as goal

pub returns-clause-meaning : goal.returns-clause-meaning
returns-clause-meaning c meant fits found =
    c.told.ensures ∙ ap told (c.evaluate.ensures.value ∙ c.values_stay_inside.ensures.values c.args.d.now c.args.scope.now c.args.env.now c.args.e.now meant fits found)

pub returns-clause-range : goal.returns-clause-range
returns-clause-range c meant r fits found is =
    answer_in r (value c.args.d.now c.args.e.now (sight_in c.args.scope.now c.args.env.now)).outcome c.told.result
    (c.told.ensures ∙ ap told (c.evaluate.ensures.value ∙ c.values_stay_inside.ensures.values c.args.d.now c.args.scope.now c.args.env.now c.args.e.now meant fits found))
    (λ n v. c.values_lie_in_ranges.ensures.values c.args.d.now c.args.scope.now (sight_in c.args.scope.now c.args.env.now) c.args.e.now meant r n fits.inside found is v)
