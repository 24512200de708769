use Rattle.std.proofs.Common.{◌+◌, ◌++◌, ◌∙◌, List, ap, take}
use Rattle.std.specs.List.{flat_map}
use Rattle.mspec_tree.specs.declared.fields.Field.{Field}
use Rattle.mspec_rules.specs.Names.{cases_names, doubled, entry_names, field_names, param_names}
use Rattle.mspec_rules.specs.Wrongs.{earlier, found}
use Rattle.mspec_rules.proofs.NameLaws.{cases_more}
use Rattle.mspec_rules.proofs.names.cases_doubled.Goals as goal

pub loop-i-preserved : goal.loop-i-preserved
loop-i-preserved c =
    let before = param_names c.args.params.now ++ flat_map entry_names c.args.fields.now in
    c.loop-i.invariant
    ∙ cases_more c.loop-i.next c.case_doubled-next.result before c.args.cases.now c.loop-i.i c.index-cases-i.result c.loop-i-test.true c.index-cases-i.is
    (c.case_doubled-next.ensures
    ∙ ap (λ (fields : List Field). earlier c.loop-i.next (found (doubled (before ++ cases_names 1 (take c.loop-i.i c.args.cases.now)) (flat_map (field_names (c.loop-i.i + 1)) fields)))) c.as_slice.ensures)
