use Rattle.std.proofs.lemmas.List.{take_rest}
use Rattle.tag_address.proofs.StageLaws.{behind_number_refused, no_place, place_read}
use Rattle.tag_address.proofs.modbus_tags.read_behind_area.Goals as goal

pub returns-in-Ok-clause-read : goal.returns-in-Ok-clause-read
returns-in-Ok-clause-read c =
    place_read c.args.area c.args.text.now c.in-Some.number c.in-Some.used c.in-Ok.item c.in-Some.ensures.found (rw take_rest at c.in-Ok.ensures.read)

pub returns-in-Err-clause-refused : goal.returns-in-Err-clause-refused
returns-in-Err-clause-refused c =
    rw c.behind.ensures.place (rw c.behind.ensures.why
    (behind_number_refused c.args.area c.args.text.now c.in-Some.number c.in-Some.used c.in-Err.refusal.place c.in-Err.refusal.why c.in-Some.ensures.found (rw take_rest at c.in-Err.ensures.refused)))

pub returns-in-None-clause-refused : goal.returns-in-None-clause-refused
returns-in-None-clause-refused c = no_place c.args.area c.args.text.now c.requires c.in-None.ensures.missing
