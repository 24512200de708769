use Rattle.std.proofs.Common.{rules, ◌≡◌, List, ap, ◌∙◌, subst}
use Rattle.std.specs.List.{position}
use Rattle.std.specs.Str.{bytes_eq}
use Rattle.mspec_tree.specs.declared.defs.Def.{Def}
use Rattle.mspec_tree.specs.declared.defs.Description.{Description}
use Rattle.host_engine.proofs.NameLemmas.{named_at}
use Rattle.host_engine.proofs.preparing.def_named.Goals as goal

pub returns : goal.returns
returns c =
    let name = c.args.name.now in
    let same : c.map.result ≡ c.place_of.result = search rules in
    let first = subst (λ (defs : List Def). c.place_of.result ≡ position (λ def. bytes_eq def.name name) defs) c.as_slice.ensures c.place_of.ensures.first in
    let there = ap (λ (d : Description). position (λ def. bytes_eq def.name name) d.defs) c.description.ensures.same in
    named_at c.args.checked.now name c.map.result (same ∙ first ∙ there)
