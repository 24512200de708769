use Rattle.std.proofs.lemmas.Int.{to_z-of_z}
use Rattle.std.specs.Prelude.{not, pos}
use Rattle.std.specs.Int.{w128}
use Rattle.std.specs.Ordering.{int_eq}
use Rattle.std.proofs.Common.{◌-◌, ◌∙◌, true, false, Result, ap, sym}
use Rattle.node_tree.specs.declared.faults.EvalFault.{EvalFault}
use Rattle.mspec_tree.specs.declared.exprs.Expr.{Expr}
use Rattle.mspec_tree.specs.declared.exprs.Shape.TheOpen.{Shape-F}
use Rattle.mspec_tree.specs.declared.exprs.Shape.TheVariants as variant
use Rattle.mspec_expr.specs.Counted.{continued}
use Rattle.mspec_expr.specs.Values.{Thing, Worths, dotted, kept_at, named, number, thing_number, two}
use Rattle.mspec_eval.specs.Things.{kept_outcome, thing_of}
use Rattle.mspec_eval.proofs.WorthLaws.{branch_ok, by_level, inside_fits, numbers_inside, part_ok, taken}
use Rattle.mspec_eval.proofs.evaluating.+evaluating.Goals as goal

pub number-returns-clause-inside : goal.number-returns-clause-inside
number-returns-clause-inside g t c =
    numbers_inside c.args.levels c.args.d.now (g.V.SizedView.sizes c.args.view.now c.args.d.now) c.args.e.now (g.V.SizedView.sight c.args.view.now) c.number_of.result
    (c.number_of.ensures ∙ ap (λ (r : Result Thing EvalFault). (continued r thing_number).outcome) c.in_ok-worth.ensures)

pub worth-returns-in-Name : goal.worth-returns-in-Name
worth-returns-in-Name g t c =
    by_level c.args.levels c.args.d.now (g.V.SizedView.sizes c.args.view.now c.args.d.now) c.args.e.now (g.V.SizedView.sight c.args.view.now) (Shape-F.Name c.in-Name.name) _ c.if-levels-eq0.false (c.in-Name.is ∙ sym (variant.rolls-Name c.in-Name.name))
    (c.named_thing.ensures ∙ ap (λ n. kept_outcome (named c.args.d.now n (g.V.SizedView.sight c.args.view.now).names)) c.as_slice.ensures)

pub worth-returns-in_ok-worth-in-Dot : goal.worth-returns-in_ok-worth-in-Dot
worth-returns-in_ok-worth-in-Dot g t c =
    let worth : Worths = kept_at (c.args.levels - 1) c.args.d.now (g.V.SizedView.sizes c.args.view.now c.args.d.now) in
    by_level c.args.levels c.args.d.now (g.V.SizedView.sizes c.args.view.now c.args.d.now) c.args.e.now (g.V.SizedView.sight c.args.view.now) (Shape-F.Dot c.in-Dot.a c.in-Dot.name) _ c.if-levels-eq0.false (c.in-Dot.is ∙ sym (variant.rolls-Dot c.in-Dot.a c.in-Dot.name))
    (c.dotted.ensures
    ∙ ap (λ n. kept_outcome (dotted c.args.d.now n (thing_of c.in_ok-worth-in-Dot.field-0))) c.as_slice-in-Dot.ensures
    ∙ part_ok (worth c.in-Dot.a (g.V.SizedView.sight c.args.view.now)) (thing_of c.in_ok-worth-in-Dot.field-0) (dotted c.args.d.now c.in-Dot.name)
    (c.in_ok-worth-in-Dot.ensures ∙ ap (λ (a : Expr). (worth a (g.V.SizedView.sight c.args.view.now)).outcome) c.get.ensures))

pub worth-returns-in-Two : goal.worth-returns-in-Two
worth-returns-in-Two g t c =
    let worth : Worths = kept_at (c.args.levels - 1) c.args.d.now (g.V.SizedView.sizes c.args.view.now c.args.d.now) in
    by_level c.args.levels c.args.d.now (g.V.SizedView.sizes c.args.view.now c.args.d.now) c.args.e.now (g.V.SizedView.sight c.args.view.now) (Shape-F.Two c.in-Two.o c.in-Two.a c.in-Two.b) _ c.if-levels-eq0.false (c.in-Two.is ∙ sym (variant.rolls-Two c.in-Two.o c.in-Two.a c.in-Two.b))
    (c.two.ensures
    ∙ ap (λ (a : Expr). kept_outcome (two worth c.in-Two.o a c.get-in-Two-2.result.now (g.V.SizedView.sight c.args.view.now))) c.get-in-Two.ensures
    ∙ ap (λ (b : Expr). kept_outcome (two worth c.in-Two.o c.in-Two.a b (g.V.SizedView.sight c.args.view.now))) c.get-in-Two-2.ensures)

pub worth-returns-then-truth : goal.worth-returns-then-truth
worth-returns-then-truth g t c =
    let worth : Worths = kept_at (c.args.levels - 1) c.args.d.now (g.V.SizedView.sizes c.args.view.now c.args.d.now) in
    by_level c.args.levels c.args.d.now (g.V.SizedView.sizes c.args.view.now c.args.d.now) c.args.e.now (g.V.SizedView.sight c.args.view.now) (Shape-F.If c.in-If.c c.in-If.a c.in-If.b) _ c.if-levels-eq0.false (c.in-If.is ∙ sym (variant.rolls-If c.in-If.c c.in-If.a c.in-If.b))
    (branch_ok worth c.in-If.c c.in-If.a c.in-If.b (g.V.SizedView.sight c.args.view.now) c.in_ok-number-in-If.field-0 true _
    (c.in_ok-number-in-If.ensures.value ∙ ap (λ (x : Expr). (number (worth x (g.V.SizedView.sight c.args.view.now))).outcome) c.get-in-If.ensures)
    (sym c.if-truth.true ∙ c.truth.ensures ∙ ap (λ z. not (int_eq z (pos 0))) (to_z-of_z w128 c.in_ok-number-in-If.field-0 (inside_fits c.in_ok-number-in-If.field-0 c.in_ok-number-in-If.ensures.inside)))
    (taken (c.args.levels - 1) c.args.d.now (g.V.SizedView.sizes c.args.view.now c.args.d.now) c.in-If.a (g.V.SizedView.sight c.args.view.now) _
    (c.worth-then-truth.ensures ∙ ap (λ (x : Expr). (worth x (g.V.SizedView.sight c.args.view.now)).outcome) c.get-then-truth.ensures)))

pub worth-returns-else-truth : goal.worth-returns-else-truth
worth-returns-else-truth g t c =
    let worth : Worths = kept_at (c.args.levels - 1) c.args.d.now (g.V.SizedView.sizes c.args.view.now c.args.d.now) in
    by_level c.args.levels c.args.d.now (g.V.SizedView.sizes c.args.view.now c.args.d.now) c.args.e.now (g.V.SizedView.sight c.args.view.now) (Shape-F.If c.in-If.c c.in-If.a c.in-If.b) _ c.if-levels-eq0.false (c.in-If.is ∙ sym (variant.rolls-If c.in-If.c c.in-If.a c.in-If.b))
    (branch_ok worth c.in-If.c c.in-If.a c.in-If.b (g.V.SizedView.sight c.args.view.now) c.in_ok-number-in-If.field-0 false _
    (c.in_ok-number-in-If.ensures.value ∙ ap (λ (x : Expr). (number (worth x (g.V.SizedView.sight c.args.view.now))).outcome) c.get-in-If.ensures)
    (sym c.if-truth.false ∙ c.truth.ensures ∙ ap (λ z. not (int_eq z (pos 0))) (to_z-of_z w128 c.in_ok-number-in-If.field-0 (inside_fits c.in_ok-number-in-If.field-0 c.in_ok-number-in-If.ensures.inside)))
    (taken (c.args.levels - 1) c.args.d.now (g.V.SizedView.sizes c.args.view.now c.args.d.now) c.in-If.b (g.V.SizedView.sight c.args.view.now) _
    (c.worth-else-truth.ensures ∙ ap (λ (x : Expr). (worth x (g.V.SizedView.sight c.args.view.now)).outcome) c.get-else-truth.ensures)))
