use Rattle.std.proofs.Common.{◌≡◌, ◌+◌, ◌∙◌, ap, rules, sym}
use Rattle.std.specs.Option.{option_map}
use Rattle.mspec_ranges.proofs.PathLaws.{case_number}
use Rattle.mspec_ranges.proofs.paths.case_named.Goals as goal

pub returns : goal.returns
returns c =
    let next : c.map.result ≡ option_map (λ i. i + 1) c.case_place.result = search rules in
    next ∙ ap (λ o. option_map (λ i. i + 1) o) c.case_place.ensures.place ∙ sym (case_number c.args.name.now c.args.cases.now)
