use Rattle.std.proofs.Common.{◌∙◌, ◌++◌, None, ap}
use Rattle.std.specs.List.{flat_map}
use Rattle.mspec_rules.specs.Found.{found_then}
use Rattle.mspec_rules.specs.Limits.{limit_wrongs}
use Rattle.mspec_rules.specs.Names.{name_wrongs}
use Rattle.mspec_rules.specs.Rules.{def_wrongs}
use Rattle.mspec_rules.specs.Wrongs.{earlier, found}
use Rattle.mspec_rules.proofs.rules.type_wrong.Goals as goal

pub returns : goal.returns
returns c =
    let limits = limit_wrongs c.args.d.now in
    let defs = flat_map (def_wrongs c.args.d.now) c.args.d.now.defs in
    let names = name_wrongs c.args.d.now in
    c.names_wrong.ensures
    ∙ ap (λ o. earlier o (found names)) (c.defs_wrong-types.ensures ∙ ap (λ o. earlier o (found defs)) c.limits_wrong-limits.ensures ∙ found_then None limits defs)
    ∙ found_then None (limits ++ defs) names
