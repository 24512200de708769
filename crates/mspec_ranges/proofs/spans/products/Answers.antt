use Rattle.std.proofs.Common.{◌∙◌, sym, ap, rules, FitsSigned}
use Rattle.std.specs.Int.{w128}
use Rattle.std.specs.Prelude.{◌*ℤ◌}
use Rattle.std.proofs.lemmas.Int.{to_z-of_z}
use Rattle.mspec_ranges.specs.Spans.{found_span}
use Rattle.mspec_ranges.specs.declared.spans.Span.TheVariants.{Within}
use Rattle.mspec_ranges.proofs.SpanLaws.{first_leaves, fourth_leaves, products_within, second_leaves, third_leaves}
use Rattle.mspec_ranges.proofs.spans.products.Goals as goal

pub returns-in_err-p : goal.returns-in_err-p
returns-in_err-p c =
    let al : FitsSigned w128 c.args.a.low = search rules in
    let bl : FitsSigned w128 c.args.b.low = search rules in
    let is = rw (to_z-of_z w128 c.args.a.low al, to_z-of_z w128 c.args.b.low bl) at c.contained_product.ensures in
    ap found_span c.from_residual.ensures ∙ sym (first_leaves (c.args.a.low *ℤ c.args.b.low) (c.args.a.low *ℤ c.args.b.high) (c.args.a.high *ℤ c.args.b.low) (c.args.a.high *ℤ c.args.b.high) (sym is ∙ c.in_err-p.was))

pub returns-in_err-q : goal.returns-in_err-q
returns-in_err-q c =
    let al : FitsSigned w128 c.args.a.low = search rules in
    let bh : FitsSigned w128 c.args.b.high = search rules in
    let is = rw (to_z-of_z w128 c.args.a.low al, to_z-of_z w128 c.args.b.high bh) at c.contained_product-2.ensures in
    ap found_span c.from_residual-in_err-q.ensures ∙ sym (second_leaves (c.args.a.low *ℤ c.args.b.low) (c.args.a.low *ℤ c.args.b.high) (c.args.a.high *ℤ c.args.b.low) (c.args.a.high *ℤ c.args.b.high) (sym is ∙ c.in_err-q.was))

pub returns-in_err-r : goal.returns-in_err-r
returns-in_err-r c =
    let ah : FitsSigned w128 c.args.a.high = search rules in
    let bl : FitsSigned w128 c.args.b.low = search rules in
    let is = rw (to_z-of_z w128 c.args.a.high ah, to_z-of_z w128 c.args.b.low bl) at c.contained_product-3.ensures in
    ap found_span c.from_residual-in_err-r.ensures ∙ sym (third_leaves (c.args.a.low *ℤ c.args.b.low) (c.args.a.low *ℤ c.args.b.high) (c.args.a.high *ℤ c.args.b.low) (c.args.a.high *ℤ c.args.b.high) (sym is ∙ c.in_err-r.was))

pub returns-in_err-s : goal.returns-in_err-s
returns-in_err-s c =
    let ah : FitsSigned w128 c.args.a.high = search rules in
    let bh : FitsSigned w128 c.args.b.high = search rules in
    let is = rw (to_z-of_z w128 c.args.a.high ah, to_z-of_z w128 c.args.b.high bh) at c.contained_product-4.ensures in
    ap found_span c.from_residual-in_err-s.ensures ∙ sym (fourth_leaves (c.args.a.low *ℤ c.args.b.low) (c.args.a.low *ℤ c.args.b.high) (c.args.a.high *ℤ c.args.b.low) (c.args.a.high *ℤ c.args.b.high) (sym is ∙ c.in_err-s.was))

pub returns : goal.returns
returns c =
    let al : FitsSigned w128 c.args.a.low = search rules in
    let bl : FitsSigned w128 c.args.b.low = search rules in
    let ah : FitsSigned w128 c.args.a.high = search rules in
    let bh : FitsSigned w128 c.args.b.high = search rules in
    let one = rw (to_z-of_z w128 c.args.a.low al, to_z-of_z w128 c.args.b.low bl) at c.contained_product.ensures in
    let two = rw (to_z-of_z w128 c.args.a.low al, to_z-of_z w128 c.args.b.high bh) at c.contained_product-2.ensures in
    let three = rw (to_z-of_z w128 c.args.a.high ah, to_z-of_z w128 c.args.b.low bl) at c.contained_product-3.ensures in
    let four = rw (to_z-of_z w128 c.args.a.high ah, to_z-of_z w128 c.args.b.high bh) at c.contained_product-4.ensures in
    ap Within c.over.ensures
    ∙ products_within (c.args.a.low *ℤ c.args.b.low) (c.args.a.low *ℤ c.args.b.high) (c.args.a.high *ℤ c.args.b.low) (c.args.a.high *ℤ c.args.b.high) c.in_ok-p.p c.in_ok-q.q c.in_ok-r.r c.in_ok-s.s (sym one ∙ c.in_ok-p.was) (sym two ∙ c.in_ok-q.was) (sym three ∙ c.in_ok-r.was) (sym four ∙ c.in_ok-s.was)
