use Rattle.std.proofs.Common.{◌∙◌, ◌+◌, ap, drop, sym}
use Rattle.mspec_rules.specs.Found.{found_more, from_here}
use Rattle.mspec_rules.specs.Wrongs.{earlier}
use Rattle.mspec_check.specs.Fields.{def_wrongs}
use Rattle.mspec_check.proofs.fields.scope_wrong.Goals as goal

pub loop-def-preserved : goal.loop-def-preserved
loop-def-preserved c =
    let defs = c.as_slice-def-items.result.now in
    let i = c.loop-def.def-index in
    sym
    (found_more (def_wrongs c.args.d.now) c.loop-def.told c.earlier-told.result (drop i defs) (drop (i + 1) defs) c.def-item.result
    (from_here defs i c.def-item.result c.loop-def-test.true c.def-item.is)
    (c.earlier-told.ensures ∙ ap (earlier c.loop-def.told) c.in_ok-def_wrong.ensures))
    ∙ c.loop-def.invariant
