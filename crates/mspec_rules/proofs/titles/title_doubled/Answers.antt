use Rattle.std.proofs.Common.{◌≡◌, ◌∙◌, Bool, List, ℕ, ap, append-nil, sym}
use Rattle.std.specs.Prelude.{map}
use Rattle.std.specs.List.{list_any}
use Rattle.std.specs.Str.{bytes_eq}
use Rattle.mspec_rules.specs.declared.wrongs.Rule.TheVariants.{Names}
use Rattle.mspec_rules.specs.declared.wrongs.CheckWhy.TheVariants.{DoubledName}
use Rattle.mspec_rules.specs.Names.{clashes, named}
use Rattle.mspec_rules.specs.Wrongs.{earlier, found, wrong_if}
use Rattle.mspec_rules.proofs.NameLaws.{any_map}
use Rattle.mspec_rules.proofs.titles.title_doubled.Goals as goal

pub returns : goal.returns
returns g c =
    let f = λ (one : g.row.T.Denot). named (g.T.Titled.title_of one) (g.T.Titled.site_of one) 0 in
    let title = g.T.Titled.title_of c.args.item.now in
    let site = g.T.Titled.site_of c.args.item.now in
    let taken = list_any (clashes title 0) (map f c.args.front.now) in
    c.told_when.ensures taken (λ answer says. says ∙ ap (λ (t : List ℕ). list_any (λ (one : g.row.T.Denot). bytes_eq (g.T.Titled.title_of one) t) c.args.front.now) c.title-title.ensures ∙ sym (any_map (clashes title 0) f c.args.front.now))
    ∙ ap (λ p. earlier c.args.first (found (wrong_if taken p Names DoubledName))) c.site.ensures
    ∙ ap (λ l. earlier c.args.first (found l)) (sym (append-nil (wrong_if taken site Names DoubledName)))
