use Rattle.std.proofs.Common.{◌++◌, ◌∙◌, [], append-nil, sym}
use Rattle.std.specs.List.{flat_map}
use Rattle.mspec_rules.specs.Names.{entry_names, param_names}
use Rattle.mspec_rules.proofs.NameLaws.{doubled_more, flat_more}
use Rattle.mspec_rules.proofs.names.fields_doubled.Goals as goal

pub loop-i-init : goal.loop-i-init
loop-i-init c =
    doubled_more c.args.first c.titles_doubled-next.result [] (param_names c.args.params.now) (flat_map entry_names c.args.fields.now) (param_names c.args.params.now ++ [])
    c.titles_doubled-next.ensures (append-nil (param_names c.args.params.now))

pub loop-i-preserved : goal.loop-i-preserved
loop-i-preserved c =
    c.loop-i.invariant
    ∙ flat_more entry_names c.loop-i.next c.entry_doubled-next.result (param_names c.args.params.now) c.args.fields.now c.loop-i.i c.index-fields-i.result c.loop-i-test.true c.index-fields-i.is
    c.entry_doubled-next.ensures
