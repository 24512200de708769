use Rattle.std.proofs.Common.{◌≡◌, ◌-◌, ◌∙◌, [], Option, Some, None, List, ℕ, ap, refl, sym, subst}
use Rattle.std.specs.Prelude.{find}
use Rattle.std.specs.Str.{bytes_eq}
use Rattle.mspec_tree.specs.declared.exprs.Expr.{out-Expr}
use Rattle.mspec_tree.specs.declared.exprs.Shape.{out-Shape}
use Rattle.mspec_tree.specs.declared.exprs.Shape.TheOpen.{Shape-F}
use Rattle.mspec_tree.specs.declared.exprs.Shape.TheVariants as variant
use Rattle.mspec_expr.specs.Kinds.{constants_of}
use Rattle.mspec_expr.specs.Ranges.{cast_meant, constant_is, dotted, dotted_meant, enum_of_shape, has_constant, judged_at}
use Rattle.mspec_ranges.specs.Verdicts.{Tells}
use Rattle.mspec_ranges.proofs.JudgingLaws.{by_shape, no_levels, part, shape_of}
use Rattle.mspec_ranges.proofs.judging.+judge.Goals as goal

pub returns-then-levels-eq0 : goal.returns-then-levels-eq0
returns-then-levels-eq0 t c = no_levels c.args.levels c.args.d.now c.args.scope.now c.args.e.now c.nothing.result c.if-levels-eq0.true (c.nothing.ensures [] refl)

pub returns-in-Null : goal.returns-in-Null
returns-in-Null t c =
    let shape : out-Shape (out-Expr c.args.e.now).shape ≡ Shape-F.Null = shape_of c.args.e.now Shape-F.Null (c.in-Null.is ∙ sym variant.rolls-Null) in
    by_shape c.args.levels c.args.d.now c.args.scope.now c.args.e.now (Shape-F.Null) c.is.result c.if-levels-eq0.false shape
    (c.is.ensures [] refl)

pub returns-in-Not : goal.returns-in-Not
returns-in-Not t c =
    let shape : out-Shape (out-Expr c.args.e.now).shape ≡ Shape-F.Not c.in-Not.a = shape_of c.args.e.now (Shape-F.Not c.in-Not.a) (c.in-Not.is ∙ sym (variant.rolls-Not c.in-Not.a)) in
    by_shape c.args.levels c.args.d.now c.args.scope.now c.args.e.now (Shape-F.Not c.in-Not.a) c.denied.result c.if-levels-eq0.false shape
    (c.denied.ensures (judged_at (c.args.levels - 1) c.args.d.now c.args.scope.now c.in-Not.a) (part (c.args.levels - 1) c.args.d.now c.args.scope.now c.get-in-Not.result.now c.in-Not.a c.judge-in-Not.result c.get-in-Not.ensures c.judge-in-Not.ensures))

pub returns-in-Neg : goal.returns-in-Neg
returns-in-Neg t c =
    let shape : out-Shape (out-Expr c.args.e.now).shape ≡ Shape-F.Neg c.in-Neg.a = shape_of c.args.e.now (Shape-F.Neg c.in-Neg.a) (c.in-Neg.is ∙ sym (variant.rolls-Neg c.in-Neg.a)) in
    by_shape c.args.levels c.args.d.now c.args.scope.now c.args.e.now (Shape-F.Neg c.in-Neg.a) c.negated.result c.if-levels-eq0.false shape
    (c.negated.ensures (judged_at (c.args.levels - 1) c.args.d.now c.args.scope.now c.in-Neg.a) (part (c.args.levels - 1) c.args.d.now c.args.scope.now c.get-in-Neg.result.now c.in-Neg.a c.judge-in-Neg.result c.get-in-Neg.ensures c.judge-in-Neg.ensures))

pub returns-in-Two : goal.returns-in-Two
returns-in-Two t c =
    let shape : out-Shape (out-Expr c.args.e.now).shape ≡ Shape-F.Two c.in-Two.o c.in-Two.a c.in-Two.b = shape_of c.args.e.now (Shape-F.Two c.in-Two.o c.in-Two.a c.in-Two.b) (c.in-Two.is ∙ sym (variant.rolls-Two c.in-Two.o c.in-Two.a c.in-Two.b)) in
    by_shape c.args.levels c.args.d.now c.args.scope.now c.args.e.now (Shape-F.Two c.in-Two.o c.in-Two.a c.in-Two.b) c.two_judged.result c.if-levels-eq0.false shape
    (c.two_judged.ensures (judged_at (c.args.levels - 1) c.args.d.now c.args.scope.now c.in-Two.a) (judged_at (c.args.levels - 1) c.args.d.now c.args.scope.now c.in-Two.b) (part (c.args.levels - 1) c.args.d.now c.args.scope.now c.get-in-Two.result.now c.in-Two.a c.judge-left.result c.get-in-Two.ensures c.judge-left.ensures) (part (c.args.levels - 1) c.args.d.now c.args.scope.now c.get-in-Two-2.result.now c.in-Two.b c.judge-right.result c.get-in-Two-2.ensures c.judge-right.ensures))

pub returns-in-If : goal.returns-in-If
returns-in-If t c =
    let shape : out-Shape (out-Expr c.args.e.now).shape ≡ Shape-F.If c.in-If.c c.in-If.a c.in-If.b = shape_of c.args.e.now (Shape-F.If c.in-If.c c.in-If.a c.in-If.b) (c.in-If.is ∙ sym (variant.rolls-If c.in-If.c c.in-If.a c.in-If.b)) in
    by_shape c.args.levels c.args.d.now c.args.scope.now c.args.e.now (Shape-F.If c.in-If.c c.in-If.a c.in-If.b) c.chosen.result c.if-levels-eq0.false shape
    (c.chosen.ensures (judged_at (c.args.levels - 1) c.args.d.now c.args.scope.now c.in-If.c) (judged_at (c.args.levels - 1) c.args.d.now c.args.scope.now c.in-If.a) (judged_at (c.args.levels - 1) c.args.d.now c.args.scope.now c.in-If.b) (part (c.args.levels - 1) c.args.d.now c.args.scope.now c.get-in-If.result.now c.in-If.c c.judge-condition.result c.get-in-If.ensures c.judge-condition.ensures) (part (c.args.levels - 1) c.args.d.now c.args.scope.now c.get-in-If-2.result.now c.in-If.a c.judge-first.result c.get-in-If-2.ensures c.judge-first.ensures) (part (c.args.levels - 1) c.args.d.now c.args.scope.now c.get-in-If-3.result.now c.in-If.b c.judge-second.result c.get-in-If-3.ensures c.judge-second.ensures))

pub returns-in-Cast : goal.returns-in-Cast
returns-in-Cast t c =
    let shape : out-Shape (out-Expr c.args.e.now).shape ≡ Shape-F.Cast c.in-Cast.a c.in-Cast.name = shape_of c.args.e.now (Shape-F.Cast c.in-Cast.a c.in-Cast.name) (c.in-Cast.is ∙ sym (variant.rolls-Cast c.in-Cast.a c.in-Cast.name)) in
    let one = judged_at (c.args.levels - 1) c.args.d.now c.args.scope.now c.in-Cast.a in
    by_shape c.args.levels c.args.d.now c.args.scope.now c.args.e.now (Shape-F.Cast c.in-Cast.a c.in-Cast.name) c.cast.result c.if-levels-eq0.false shape
    (subst (λ (n : List ℕ). Tells c.cast.result (cast_meant c.args.d.now (out-Expr c.args.e.now).place n one.faults one.meant)) c.as_slice-in-Cast.ensures
    (c.cast.ensures one (part (c.args.levels - 1) c.args.d.now c.args.scope.now c.get-in-Cast.result.now c.in-Cast.a c.judge-in-Cast.result c.get-in-Cast.ensures c.judge-in-Cast.ensures)))

pub returns-in-None : goal.returns-in-None
returns-in-None t c =
    let shape : out-Shape (out-Expr c.args.e.now).shape ≡ Shape-F.Dot c.in-Dot.a c.in-Dot.name = shape_of c.args.e.now (Shape-F.Dot c.in-Dot.a c.in-Dot.name) (c.in-Dot.is ∙ sym (variant.rolls-Dot c.in-Dot.a c.in-Dot.name)) in
    let one = judged_at (c.args.levels - 1) c.args.d.now c.args.scope.now c.in-Dot.a in
    let enum : enum_of_shape c.args.d.now c.args.scope.now (out-Shape (out-Expr c.in-Dot.a).shape) ≡ None =
    sym (ap (λ x. enum_of_shape c.args.d.now c.args.scope.now (out-Shape (out-Expr x).shape)) c.get.ensures) ∙ sym c.enum_of.ensures ∙ c.in-None.is in
    by_shape c.args.levels c.args.d.now c.args.scope.now c.args.e.now (Shape-F.Dot c.in-Dot.a c.in-Dot.name) c.dotted.result c.if-levels-eq0.false shape
    (subst (λ (o : Option ℕ). Tells c.dotted.result (dotted (judged_at (c.args.levels - 1) c.args.d.now c.args.scope.now) c.args.d.now c.args.scope.now (out-Expr c.args.e.now).place c.in-Dot.a c.in-Dot.name o)) (sym enum)
    (subst (λ (n : List ℕ). Tells c.dotted.result (dotted_meant c.args.d.now c.args.scope.now (out-Expr c.args.e.now).place n one.faults one.meant)) c.as_slice-in-None.ensures
    (c.dotted.ensures one (part (c.args.levels - 1) c.args.d.now c.args.scope.now c.get-in-None.result.now c.in-Dot.a c.judge.result c.get-in-None.ensures c.judge.ensures))))

pub returns-in-Some : goal.returns-in-Some
returns-in-Some t c =
    let shape : out-Shape (out-Expr c.args.e.now).shape ≡ Shape-F.Dot c.in-Dot.a c.in-Dot.name = shape_of c.args.e.now (Shape-F.Dot c.in-Dot.a c.in-Dot.name) (c.in-Dot.is ∙ sym (variant.rolls-Dot c.in-Dot.a c.in-Dot.name)) in
    let enum : enum_of_shape c.args.d.now c.args.scope.now (out-Shape (out-Expr c.in-Dot.a).shape) ≡ Some c.in-Some.def =
    sym (ap (λ x. enum_of_shape c.args.d.now c.args.scope.now (out-Shape (out-Expr x).shape)) c.get.ensures) ∙ sym c.enum_of.ensures ∙ c.in-Some.is in
    by_shape c.args.levels c.args.d.now c.args.scope.now c.args.e.now (Shape-F.Dot c.in-Dot.a c.in-Dot.name) c.constant_is.result c.if-levels-eq0.false shape
    (subst (λ (o : Option ℕ). Tells c.constant_is.result (dotted (judged_at (c.args.levels - 1) c.args.d.now c.args.scope.now) c.args.d.now c.args.scope.now (out-Expr c.args.e.now).place c.in-Dot.a c.in-Dot.name o)) (sym enum)
    (subst (λ (n : List ℕ). Tells c.constant_is.result (constant_is (out-Expr c.args.e.now).place c.in-Some.def (has_constant (find (λ constant. bytes_eq constant.name n) (constants_of c.args.d.now c.in-Some.def))))) c.as_slice-in-Some.ensures c.constant_is.ensures))
