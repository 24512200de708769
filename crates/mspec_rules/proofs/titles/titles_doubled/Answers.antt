use Rattle.std.proofs.Common.{◌≡◌, ◌∙◌, [], ◌∷◌, take, ap, sym}
use Rattle.std.proofs.lemmas.List.Concat.{flat_map_single}
use Rattle.mspec_rules.specs.Names.{doubled, named}
use Rattle.mspec_rules.specs.Wrongs.{earlier, found}
use Rattle.mspec_rules.proofs.NameLaws.{flat_more}
use Rattle.mspec_rules.proofs.titles.titles_doubled.Goals as goal

pub loop-i-preserved : goal.loop-i-preserved
loop-i-preserved g c =
    let f = λ (one : g.row.T.Denot). named (g.T.Titled.title_of one) (g.T.Titled.site_of one) 0 in
    c.loop-i.invariant
    ∙ flat_more (λ (one : g.row.T.Denot). f one ∷ []) c.loop-i.next c.title_doubled-next.result [] c.args.items.now c.loop-i.i c.index-items-i.result c.loop-i-test.true c.index-items-i.is
    (c.title_doubled-next.ensures ∙ ap (λ b. earlier c.loop-i.next (found (doubled b (f c.index-items-i.result ∷ [])))) (sym (flat_map_single f (take c.loop-i.i c.args.items.now))))
