use Rattle.std.proofs.Common.{◌≡◌, ◌<◌, [], length, drop, arith}
use Rattle.std.proofs.lemmas.List.{drop_all}
use Rattle.tag_address.proofs.UrlLaws.{unit_missing, unit_past, unit_read}
use Rattle.tag_address.proofs.urls.read_unit.Goals as goal

pub returns-then-used-text-clause-read : goal.returns-then-used-text-clause-read
returns-then-used-text-clause-read c =
    λ host port.
    let none : drop c.in-Some.used c.args.text.now ≡ [] = drop_all c.in-Some.used c.args.text.now (omega arith) in
    unit_read host port c.args.text.now c.in-Some.unit c.in-Some.used c.in-Some.ensures.found none

pub returns-else-used-text-clause-stuck : goal.returns-else-used-text-clause-stuck
returns-else-used-text-clause-stuck c =
    λ host port.
    let more : c.in-Some.used < length c.args.text.now = omega (arith, c.in-Some.ensures.found.within, c.if-used-text.false) in
    unit_past host port c.args.text.now c.in-Some.unit c.in-Some.used c.in-Some.ensures.found more

pub returns-in-None-clause-stuck : goal.returns-in-None-clause-stuck
returns-in-None-clause-stuck c = λ host port. unit_missing host port c.args.text.now c.in-None.ensures.missing
