use Rattle.std.proofs.lemmas.List.{take_rest}
use Rattle.tag_address.proofs.StageLaws.{area_read, behind_area_refused, no_area_word}
use Rattle.tag_address.proofs.modbus_tags.read_modbus_tag.Goals as goal

pub returns-in-Ok-read_behind_area-clause-read : goal.returns-in-Ok-read_behind_area-clause-read
returns-in-Ok-read_behind_area-clause-read c =
    area_read c.args.text.now c.in-Ok.area c.in-Ok.used c.in-Ok-read_behind_area.item c.in-Ok.ensures.found (rw take_rest at c.in-Ok-read_behind_area.ensures.read)

pub returns-in-Err-read_behind_area-clause-refused :
    goal.returns-in-Err-read_behind_area-clause-refused
returns-in-Err-read_behind_area-clause-refused c =
    rw c.behind.ensures.place (rw c.behind.ensures.why
    (behind_area_refused c.args.text.now c.in-Ok.area c.in-Ok.used c.in-Err-read_behind_area.refusal.place c.in-Err-read_behind_area.refusal.why c.in-Ok.ensures.found (rw take_rest at c.in-Err-read_behind_area.ensures.refused)))

pub returns-in-Err-clause-refused : goal.returns-in-Err-clause-refused
returns-in-Err-clause-refused c = no_area_word c.args.text.now c.in-Err.place c.in-Err.ensures.stuck
