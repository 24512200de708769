use Rattle.std.proofs.Common.{◌∙◌}
use Rattle.mspec_rules.specs.Fronts.{front_names}
use Rattle.mspec_rules.specs.Names.{field_names}
use Rattle.mspec_rules.proofs.NameLaws.{flat_more}
use Rattle.mspec_rules.proofs.names.case_doubled.Goals as goal

pub loop-i-preserved : goal.loop-i-preserved
loop-i-preserved c =
    c.loop-i.invariant
    ∙ flat_more (field_names c.args.front.now.case) c.loop-i.next c.field_doubled-next.result (front_names c.args.front.now) c.args.fields.now c.loop-i.i c.index-fields-i.result c.loop-i-test.true c.index-fields-i.is
    c.field_doubled-next.ensures
