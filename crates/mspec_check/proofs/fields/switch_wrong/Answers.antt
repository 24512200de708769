use Rattle.std.proofs.Common.{◌∙◌, ◌+◌, ap, drop, sym}
use Rattle.mspec_rules.specs.Found.{found_more, from_here}
use Rattle.mspec_rules.specs.Wrongs.{earlier}
use Rattle.mspec_check.specs.Fields.{case_wrongs}
use Rattle.mspec_check.specs.Sites.{around_outer}
use Rattle.mspec_check.proofs.fields.switch_wrong.Goals as goal

pub loop-case-preserved : goal.loop-case-preserved
loop-case-preserved c =
    let cases = c.args.cases.now in
    let i = c.loop-case.case-index in
    record {
      told =
          sym
          (found_more (case_wrongs c.args.d.now (around_outer c.args.outer.now) c.args.names.now) c.loop-case.told c.earlier-told.result (drop i cases) (drop (i + 1) cases) c.case-item.result
          (from_here cases i c.case-item.result c.loop-case-test.true c.case-item.is)
          (c.earlier-told.ensures ∙ ap (earlier c.loop-case.told) c.in_ok-one.ensures.told))
          ∙ c.loop-case.invariant.told;
      names = c.in_ok-one.ensures.names ∙ c.loop-case.invariant.names;
    }
