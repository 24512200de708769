use Rattle.std.proofs.Common.{◌≡◌, ◌+◌, ◌∙◌, ap, sym, arith}
use Rattle.mspec_rules.specs.Limits.{limit_at}
use Rattle.mspec_rules.specs.Wrongs.{earlier, found}
use Rattle.mspec_rules.proofs.LimitLaws.{case_end, case_more}
use Rattle.mspec_rules.proofs.limits.case_limits.Goals as goal

pub loop-i-preserved : goal.loop-i-preserved
loop-i-preserved c =
    c.loop-i.invariant
    ∙ case_more c.loop-i.next c.limit_at-next.result c.args.fields.now c.args.cases.now c.loop-i.i c.loop-i-test.true
    (c.limit_at-next.ensures ∙ ap (λ o. earlier c.loop-i.next (found (limit_at o))) c.field_past.ensures)

pub returns : goal.returns
returns c =
    sym (c.loop-i.invariant ∙ case_end c.loop-i.next c.args.fields.now (c.loop-i.i + 1) c.args.cases.now c.loop-i.i (omega arith))
