use Rattle.std.proofs.Common.{◌<◌, ◌∙◌, [], length, length-drop, arith, sym}
use Rattle.std.proofs.lemmas.Bool.{eqb-false}
use Rattle.std.proofs.lemmas.List.{take_rest}
use Rattle.tag_address.proofs.UrlLaws.{named_read, named_stuck, no_name}
use Rattle.tag_address.proofs.urls.read_query.Goals as goal

pub overflow_add-result : goal.overflow_add-result
overflow_add-result c =
    let stuck = rw take_rest at (c.in-Err-read_unit.ensures.stuck [] 0) in
    let long = length-drop c.in-Ok.used c.args.text.now in
    omega (arith, stuck.within, long, c.in-Ok.ensures.found.within)

pub returns-in-Ok-read_unit-clause-read : goal.returns-in-Ok-read_unit-clause-read
returns-in-Ok-read_unit-clause-read c =
    λ host port.
    let some : 0 < length c.args.text.now = (let not = eqb-false (length c.args.text.now) 0 (sym c.is_empty.ensures ∙ c.if-is_empty.false) in omega (arith, not)) in
    named_read host port c.args.text.now c.in-Ok.field-0-0 c.in-Ok.used _ some c.in-Ok.ensures.found (rw take_rest at (c.in-Ok-read_unit.ensures.read host port))

pub returns-in-Err-read_unit-clause-stuck : goal.returns-in-Err-read_unit-clause-stuck
returns-in-Err-read_unit-clause-stuck c =
    λ host port.
    let some : 0 < length c.args.text.now = (let not = eqb-false (length c.args.text.now) 0 (sym c.is_empty.ensures ∙ c.if-is_empty.false) in omega (arith, not)) in
    named_stuck host port c.args.text.now c.in-Ok.field-0-0 c.in-Ok.used c.in-Err-read_unit.place some c.in-Ok.ensures.found (rw take_rest at (c.in-Err-read_unit.ensures.stuck host port))

pub returns-in-Err-clause-stuck : goal.returns-in-Err-clause-stuck
returns-in-Err-clause-stuck c =
    λ host port.
    let some : 0 < length c.args.text.now = (let not = eqb-false (length c.args.text.now) 0 (sym c.is_empty.ensures ∙ c.if-is_empty.false) in omega (arith, not)) in
    no_name host port c.args.text.now c.in-Err.place some c.in-Err.ensures.stuck
