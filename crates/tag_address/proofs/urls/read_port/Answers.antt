use Rattle.std.proofs.Common.{[], length-drop, arith}
use Rattle.std.proofs.lemmas.List.{take_rest}
use Rattle.tag_address.proofs.UrlLaws.{port_missing, port_read, port_stuck}
use Rattle.tag_address.proofs.urls.read_port.Goals as goal

pub overflow_add-result : goal.overflow_add-result
overflow_add-result c =
    let stuck = rw take_rest at (c.in-Err.ensures.stuck [] 0) in
    let long = length-drop c.in-Some.used c.args.text.now in
    omega (arith, stuck.within, long, c.in-Some.ensures.found.within)

pub returns-in-Ok-clause-read : goal.returns-in-Ok-clause-read
returns-in-Ok-clause-read c =
    λ host. port_read host c.args.text.now c.in-Some.port c.in-Some.used _ c.in-Some.ensures.found (rw take_rest at (c.in-Ok.ensures.read host c.in-Some.port))

pub returns-in-Err-clause-stuck : goal.returns-in-Err-clause-stuck
returns-in-Err-clause-stuck c =
    λ host. port_stuck host c.args.text.now c.in-Some.port c.in-Some.used c.in-Err.place c.in-Some.ensures.found (rw take_rest at (c.in-Err.ensures.stuck host c.in-Some.port))

pub returns-in-None-clause-stuck : goal.returns-in-None-clause-stuck
returns-in-None-clause-stuck c = λ host. port_missing host c.args.text.now c.in-None.ensures.missing
