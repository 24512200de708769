use Rattle.std.proofs.Common.{arith, length-drop}
use Rattle.std.proofs.lemmas.List.{take_rest}
use Rattle.tag_address.proofs.CountLaws.{bracketed_missing, bracketed_read, bracketed_refused}
use Rattle.tag_address.proofs.modbus_tags.read_bracketed.Goals as goal

pub returns-in_default-clause-refused : goal.returns-in_default-clause-refused
returns-in_default-clause-refused c = bracketed_missing c.args.most c.args.text.now c.in_default.ensures.missing

pub behind-requires : goal.behind-requires
behind-requires c =
    let refused = rw take_rest at (c.in-Err.ensures.refused 0) in
    let long = length-drop c.in-Some.used c.args.text.now in
    omega (arith, refused.at.within, long, c.in-Some.ensures.found.within)

pub returns-in-Ok-clause-read : goal.returns-in-Ok-clause-read
returns-in-Ok-clause-read c =
    bracketed_read c.args.most c.args.text.now c.in-Some.count c.in-Some.used c.requires.range c.in-Some.ensures.found (rw take_rest at c.in-Ok.ensures.read)

pub returns-in-Err-clause-refused : goal.returns-in-Err-clause-refused
returns-in-Err-clause-refused c =
    rw c.behind.ensures.place (rw c.behind.ensures.why
    (bracketed_refused c.args.most c.args.text.now c.in-Some.count c.in-Some.used c.in-Err.refusal.place c.in-Err.refusal.why c.requires.range c.in-Some.ensures.found (rw take_rest at (c.in-Err.ensures.refused c.in-Some.count))))
