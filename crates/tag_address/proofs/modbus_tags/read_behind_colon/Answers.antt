use Rattle.std.proofs.lemmas.List.{take_rest}
use Rattle.tag_address.proofs.StageLaws.{behind_type_refused, no_type, type_read}
use Rattle.tag_address.proofs.TableLaws.{types_fit}
use Rattle.tag_address.proofs.modbus_tags.read_behind_colon.Goals as goal

pub read_behind_type-requires-clause-fits : goal.read_behind_type-requires-clause-fits
read_behind_type-requires-clause-fits c =
    let found = rw c.fitting_types.ensures at c.in-Ok.ensures.found in
    types_fit c.args.area c.args.number c.in-Ok.kind c.requires.high found.is.0

pub returns-in-Ok-read_behind_type-clause-read : goal.returns-in-Ok-read_behind_type-clause-read
returns-in-Ok-read_behind_type-clause-read c =
    type_read c.args.area c.args.number c.args.text.now c.in-Ok.kind c.in-Ok.used c.in-Ok-read_behind_type.item (rw c.fitting_types.ensures at c.in-Ok.ensures.found) (rw take_rest at c.in-Ok-read_behind_type.ensures.read)

pub returns-in-Err-read_behind_type-clause-refused :
    goal.returns-in-Err-read_behind_type-clause-refused
returns-in-Err-read_behind_type-clause-refused c =
    rw c.behind.ensures.place (rw c.behind.ensures.why
    (behind_type_refused c.args.area c.args.number c.args.text.now c.in-Ok.kind c.in-Ok.used c.in-Err-read_behind_type.refusal.place c.in-Err-read_behind_type.refusal.why (rw c.fitting_types.ensures at c.in-Ok.ensures.found) (rw take_rest at c.in-Err-read_behind_type.ensures.refused)))

pub returns-in-Err-clause-refused : goal.returns-in-Err-clause-refused
returns-in-Err-clause-refused c =
    no_type c.args.area c.args.number c.args.text.now c.in-Err.place c.requires.low c.requires.high (rw c.fitting_types.ensures at c.in-Err.ensures.stuck)
