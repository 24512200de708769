use Rattle.std.proofs.Common.{[], ◌<◌, take, drop, ℕ, length-drop, arith, subst}
use Rattle.std.proofs.lemmas.List.{take_rest}
use Rattle.tag_address.specs.Parts.{IsNotLed}
use Rattle.tag_address.specs.Urls.{IsHostByte}
use Rattle.tag_address.proofs.UrlLaws.{host_missing, host_read, host_stuck}
use Rattle.tag_address.proofs.urls.read_behind_scheme.Goals as goal

pub returns-then-length-eq0-clause-stuck : goal.returns-then-length-eq0-clause-stuck
returns-then-length-eq0-clause-stuck c =
    host_missing c.args.text.now (subst (λ (k : ℕ). IsNotLed IsHostByte (drop k c.args.text.now)) c.if-length-eq0.true c.host_length-length.ensures.longest)

pub overflow_add-result : goal.overflow_add-result
overflow_add-result c =
    let stuck = rw take_rest at (c.in-Err.ensures.stuck []) in
    let long = length-drop c.host_length-length.result c.args.text.now in
    omega (arith, stuck.within, long, c.host_length-length.ensures.within)

pub returns-in-Ok-clause-read : goal.returns-in-Ok-clause-read
returns-in-Ok-clause-read c =
    let some : 0 < c.host_length-length.result = omega (arith, c.if-length-eq0.false) in
    host_read c.args.text.now c.host_length-length.result _ c.host_length-length.ensures some (rw take_rest at (c.in-Ok.ensures.read (take c.host_length-length.result c.args.text.now)))

pub returns-in-Err-clause-stuck : goal.returns-in-Err-clause-stuck
returns-in-Err-clause-stuck c =
    let some : 0 < c.host_length-length.result = omega (arith, c.if-length-eq0.false) in
    host_stuck c.args.text.now c.host_length-length.result c.in-Err.place c.host_length-length.ensures some (rw take_rest at (c.in-Err.ensures.stuck (take c.host_length-length.result c.args.text.now)))
