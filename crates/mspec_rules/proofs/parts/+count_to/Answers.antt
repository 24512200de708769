use Rattle.std.proofs.Common.{◌≡◌, ◌-◌, ◌∙◌, ap, sym}
use Rattle.mspec_tree.specs.declared.exprs.Expr.{Expr, out-Expr}
use Rattle.mspec_tree.specs.declared.exprs.Shape.{out-Shape}
use Rattle.mspec_tree.specs.declared.exprs.Shape.TheOpen.{Shape-F}
use Rattle.mspec_tree.specs.declared.exprs.Shape.TheVariants as variant
use Rattle.mspec_rules.specs.declared.parts.Count.{Count}
use Rattle.mspec_rules.specs.Counts.{counted}
use Rattle.mspec_rules.specs.Limits.{nodes_to}
use Rattle.mspec_rules.proofs.CountLaws.{by_shape, one_then, shape_of, three_then, two_then}
use Rattle.mspec_rules.proofs.parts.+count_to.Goals as goal

pub returns-in-Dot : goal.returns-in-Dot
returns-in-Dot t c =
    let shape : out-Shape (out-Expr c.args.e.now).shape ≡ Shape-F.Dot c.in-Dot.a c.in-Dot.field-1 = shape_of c.args.e.now (Shape-F.Dot c.in-Dot.a c.in-Dot.field-1) (c.in-Dot.is ∙ sym (variant.rolls-Dot c.in-Dot.a c.in-Dot.field-1)) in
    let k = c.args.levels - 1 in
    by_shape c.args.levels c.args.e.now (Shape-F.Dot c.in-Dot.a c.in-Dot.field-1) c.args.count c.one_more.result c.if-levels-eq0.false shape
    (one_then c.args.count c.count_to.result c.one_more.result (out-Expr c.args.e.now).place (nodes_to k c.in-Dot.a)
    (c.count_to.ensures ∙ ap (λ (x : Expr). counted c.args.count (nodes_to k x)) c.get.ensures) c.one_more.ensures)

pub returns-in-LengthOf : goal.returns-in-LengthOf
returns-in-LengthOf t c =
    let shape : out-Shape (out-Expr c.args.e.now).shape ≡ Shape-F.LengthOf c.in-LengthOf.a = shape_of c.args.e.now (Shape-F.LengthOf c.in-LengthOf.a) (c.in-LengthOf.is ∙ sym (variant.rolls-LengthOf c.in-LengthOf.a)) in
    let k = c.args.levels - 1 in
    by_shape c.args.levels c.args.e.now (Shape-F.LengthOf c.in-LengthOf.a) c.args.count c.one_more-in-LengthOf.result c.if-levels-eq0.false shape
    (one_then c.args.count c.count_to-in-LengthOf.result c.one_more-in-LengthOf.result (out-Expr c.args.e.now).place (nodes_to k c.in-LengthOf.a)
    (c.count_to-in-LengthOf.ensures ∙ ap (λ (x : Expr). counted c.args.count (nodes_to k x)) c.get-in-LengthOf.ensures) c.one_more-in-LengthOf.ensures)

pub returns-in-Two : goal.returns-in-Two
returns-in-Two t c =
    let shape : out-Shape (out-Expr c.args.e.now).shape ≡ Shape-F.Two c.in-Two.field-0 c.in-Two.a c.in-Two.b = shape_of c.args.e.now (Shape-F.Two c.in-Two.field-0 c.in-Two.a c.in-Two.b) (c.in-Two.is ∙ sym (variant.rolls-Two c.in-Two.field-0 c.in-Two.a c.in-Two.b)) in
    let k = c.args.levels - 1 in
    by_shape c.args.levels c.args.e.now (Shape-F.Two c.in-Two.field-0 c.in-Two.a c.in-Two.b) c.args.count c.count_to-in-Two.result c.if-levels-eq0.false shape
    (two_then c.args.count c.count_to-left.result c.one_more-in-Two.result c.count_to-in-Two.result (out-Expr c.args.e.now).place (nodes_to k c.in-Two.a) (nodes_to k c.in-Two.b)
    (c.count_to-left.ensures ∙ ap (λ (x : Expr). counted c.args.count (nodes_to k x)) c.get-in-Two.ensures) c.one_more-in-Two.ensures
    (c.count_to-in-Two.ensures ∙ ap (λ (x : Expr). counted c.one_more-in-Two.result (nodes_to k x)) c.get-in-Two-2.ensures))

pub returns-in-If : goal.returns-in-If
returns-in-If t c =
    let shape : out-Shape (out-Expr c.args.e.now).shape ≡ Shape-F.If c.in-If.c c.in-If.a c.in-If.b = shape_of c.args.e.now (Shape-F.If c.in-If.c c.in-If.a c.in-If.b) (c.in-If.is ∙ sym (variant.rolls-If c.in-If.c c.in-If.a c.in-If.b)) in
    let k = c.args.levels - 1 in
    by_shape c.args.levels c.args.e.now (Shape-F.If c.in-If.c c.in-If.a c.in-If.b) c.args.count c.count_to-in-If.result c.if-levels-eq0.false shape
    (three_then c.args.count c.count_to-condition.result c.one_more-in-If.result c.count_to-first.result c.count_to-in-If.result (out-Expr c.args.e.now).place (nodes_to k c.in-If.c) (nodes_to k c.in-If.a) (nodes_to k c.in-If.b)
    (c.count_to-condition.ensures ∙ ap (λ (x : Expr). counted c.args.count (nodes_to k x)) c.get-in-If.ensures) c.one_more-in-If.ensures
    (c.count_to-first.ensures ∙ ap (λ (x : Expr). counted c.one_more-in-If.result (nodes_to k x)) c.get-in-If-2.ensures)
    (c.count_to-in-If.ensures ∙ ap (λ (x : Expr). counted c.count_to-first.result (nodes_to k x)) c.get-in-If-3.ensures))
