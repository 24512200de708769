use Rattle.std.proofs.Common.{◌∙◌, ap}
use Rattle.mspec_rules.specs.Counts.{reached}
use Rattle.mspec_rules.specs.Limits.{limit_at, most_parts, parts}
use Rattle.mspec_rules.specs.Wrongs.{earlier, found}
use Rattle.mspec_rules.proofs.CountLaws.{reached_past}
use Rattle.mspec_rules.proofs.parts.parts_limit.Goals as goal

pub returns : goal.returns
returns c =
    c.limit_at.ensures
    ∙ ap (λ o. earlier c.args.first (found (limit_at o))) (c.reached.ensures ∙ ap reached c.count_parts.ensures ∙ reached_past most_parts (parts c.args.d.now))
