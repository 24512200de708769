use Rattle.std.proofs.Common.{◌∙◌, [], ap}
use Rattle.mspec_rules.specs.Found.{found_then}
use Rattle.mspec_rules.specs.Names.{constant_names, doubled, param_names}
use Rattle.mspec_rules.specs.Wrongs.{earlier, found}
use Rattle.mspec_rules.proofs.names.enum_titled.Goals as goal

pub returns : goal.returns
returns c =
    c.titles_doubled.ensures
    ∙ ap (λ o. earlier o (found (doubled [] (constant_names c.args.constants.now)))) c.titles_doubled-own.ensures
    ∙ found_then c.args.first (doubled [] (param_names c.args.params.now)) (doubled [] (constant_names c.args.constants.now))
