use Rattle.std.proofs.Common.{◌∙◌, sym}
use Rattle.mspec_tree.specs.declared.exprs.Shape.TheOpen.{Shape-F}
use Rattle.mspec_tree.specs.declared.exprs.Shape.TheVariants as variant
use Rattle.mspec_check.specs.Sites.{around}
use Rattle.mspec_check.proofs.PaddingLaws.{if_parts, shape_of, two_parts}
use Rattle.mspec_check.proofs.paddings.+parts_wrong.Goals as goal

pub returns-in-Two : goal.returns-in-Two
returns-in-Two t c =
    two_parts c.args.levels (around c.args.site.now) c.args.e.now c.get-in-Two.result.now c.get-in-Two-2.result.now c.in-Two.a c.in-Two.b c.in-Two.field-0 c.parts_wrong-left.result c.parts_wrong.result c.earlier.result c.if-levels-eq0.false
    (shape_of c.args.e.now (Shape-F.Two c.in-Two.field-0 c.in-Two.a c.in-Two.b) (c.in-Two.is ∙ sym (variant.rolls-Two c.in-Two.field-0 c.in-Two.a c.in-Two.b)))
    c.get-in-Two.ensures c.get-in-Two-2.ensures c.parts_wrong-left.ensures c.parts_wrong.ensures c.earlier.ensures

pub returns-in-If : goal.returns-in-If
returns-in-If t c =
    if_parts c.args.levels (around c.args.site.now) c.args.e.now c.get-in-If.result.now c.get-in-If-2.result.now c.get-in-If-3.result.now c.in-If.c c.in-If.a c.in-If.b c.parts_wrong-condition.result c.parts_wrong-in-If.result c.parts_wrong-in-If-2.result c.earlier-first.result c.earlier-in-If.result c.if-levels-eq0.false
    (shape_of c.args.e.now (Shape-F.If c.in-If.c c.in-If.a c.in-If.b) (c.in-If.is ∙ sym (variant.rolls-If c.in-If.c c.in-If.a c.in-If.b)))
    c.get-in-If.ensures c.get-in-If-2.ensures c.get-in-If-3.ensures c.parts_wrong-condition.ensures c.parts_wrong-in-If.ensures c.parts_wrong-in-If-2.ensures c.earlier-first.ensures c.earlier-in-If.ensures
