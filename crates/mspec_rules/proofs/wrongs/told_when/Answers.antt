use Rattle.std.proofs.Common.{◌≡◌, ◌∙◌, ap, sym}
use Rattle.mspec_rules.specs.Found.{unlooked}
use Rattle.mspec_rules.specs.Wrongs.{earlier, found, wrong_if}
use Rattle.mspec_rules.proofs.wrongs.told_when.Goals as goal

pub returns-then-matters : goal.returns-then-matters
returns-then-matters g c = λ wrong says.
    c.told_if.ensures ∙ ap (λ b. earlier c.args.first (found (wrong_if b c.args.place c.args.rule c.args.why))) (says c.is_wrong.result c.is_wrong.ensures)

pub returns-else-matters : goal.returns-else-matters
returns-else-matters g c = λ wrong says.
    sym (unlooked c.args.first wrong c.args.place c.args.rule c.args.why (sym c.matters.ensures ∙ c.if-matters.false))
