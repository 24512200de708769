use Rattle.tag_address.proofs.StageLaws.{type_refused}
use Rattle.tag_address.proofs.modbus_tags.read_behind_type.Goals as goal

pub returns-in-Err-clause-refused : goal.returns-in-Err-clause-refused
returns-in-Err-clause-refused c =
    type_refused c.args.area c.args.number c.args.kind c.most_values.result c.args.text.now c.in-Err.refusal.place c.in-Err.refusal.why c.requires.low c.most_values.ensures.all c.in-Err.ensures.refused
