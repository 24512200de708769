use Rattle.std.proofs.Common.{◌∙◌, ap, sym, arith}
use Rattle.std.specs.Prelude.{slice_get}
use Rattle.std.specs.Int.{w128}
use Rattle.std.proofs.lemmas.Int.{to_z-of_z}
use Rattle.mspec_expr.specs.Values.{attributes}
use Rattle.mspec_eval.proofs.EntryLaws.{attribute_here, attribute_past, no_constants}
use Rattle.mspec_eval.proofs.entries.first_attribute.Goals as goal

pub returns-in-Some : goal.returns-in-Some
returns-in-Some c =
    let same = to_z-of_z w128 c.args.number c.ranges.number in
    let kept = rw same at c.loop-constant.invariant in
    let found = rw same at c.in-Some.ensures in
    sym (ap (λ l. slice_get l 0) kept ∙ attribute_here c.args.place c.args.number c.args.constants.now c.loop-constant.constant-index c.constant-item.result c.in-Some.value c.loop-constant-test.true c.constant-item.is found)

pub loop-constant-preserved : goal.loop-constant-preserved
loop-constant-preserved c =
    c.loop-constant.invariant ∙ attribute_past c.args.place _ c.args.constants.now c.loop-constant.constant-index c.constant-item.result c.loop-constant-test.true c.constant-item.is c.in_default.ensures

pub returns : goal.returns
returns c =
    let same = to_z-of_z w128 c.args.number c.ranges.number in
    let kept = rw same at c.loop-constant.invariant in
    sym (ap (λ l. slice_get l 0) kept ∙ ap (λ l. slice_get (attributes c.args.place c.args.number l) 0) (no_constants c.args.constants.now c.loop-constant.constant-index (omega arith)))
