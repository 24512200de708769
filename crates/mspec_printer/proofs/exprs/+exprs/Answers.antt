use Rattle.std.proofs.Common.{arith, sym, ◌∙◌}
use Rattle.std.proofs.lemmas.Grind.{common_steps}
use Rattle.mspec_printer.proofs.ExprLaws.{cast, condition, count, dot, last_item, length_of, loose_operand, negative, not_, sum_bytes, two, xor_bytes}
use Rattle.mspec_printer.proofs.exprs.+exprs.Goals as goal

pub append_expr-returns-in-LastItem : goal.append_expr-returns-in-LastItem
append_expr-returns-in-LastItem t c =
    let text = last_item c.args.e.now c.in-LastItem.is in
    grind (arith, common_steps, text)

pub append_expr-returns-in-SumBytes : goal.append_expr-returns-in-SumBytes
append_expr-returns-in-SumBytes t c =
    let text = sum_bytes c.args.e.now c.in-SumBytes.is in
    grind (arith, common_steps, text)

pub append_expr-returns-in-XorBytes : goal.append_expr-returns-in-XorBytes
append_expr-returns-in-XorBytes t c =
    let text = xor_bytes c.args.e.now c.in-XorBytes.is in
    grind (arith, common_steps, text)

pub append_expr-returns-in_ok-extend_from_slice-in-Dot : goal.append_expr-returns-in_ok-extend_from_slice-in-Dot
append_expr-returns-in_ok-extend_from_slice-in-Dot t c =
    let text = dot c.args.e.now c.in-Dot.of c.in-Dot.name c.in-Dot.is in
    grind (arith, common_steps, text)

pub append_expr-returns-in_ok-append_operand-in-LengthOf : goal.append_expr-returns-in_ok-append_operand-in-LengthOf
append_expr-returns-in_ok-append_operand-in-LengthOf t c =
    let text = length_of c.args.e.now c.in-LengthOf.of c.in-LengthOf.is in
    grind (arith, common_steps, text)

pub append_expr-returns-in_ok-append_expr-in-Count : goal.append_expr-returns-in_ok-append_expr-in-Count
append_expr-returns-in_ok-append_expr-in-Count t c =
    let text = count c.args.e.now c.in-Count.of c.in-Count.is in
    grind (arith, common_steps, text)

pub append_expr-returns-in_ok-extend_from_slice-in-Cast-3 : goal.append_expr-returns-in_ok-extend_from_slice-in-Cast-3
append_expr-returns-in_ok-extend_from_slice-in-Cast-3 t c =
    let text = cast c.args.e.now c.in-Cast.of c.in-Cast.name c.in-Cast.is in
    grind (arith, common_steps, text)

pub append_expr-returns-in_ok-extend_from_slice-in-Not : goal.append_expr-returns-in_ok-extend_from_slice-in-Not
append_expr-returns-in_ok-extend_from_slice-in-Not t c =
    let text = not_ c.args.e.now c.in-Not.of c.in-Not.is in
    grind (arith, common_steps, text)

pub append_expr-returns-in_ok-extend_from_slice-in-Neg : goal.append_expr-returns-in_ok-extend_from_slice-in-Neg
append_expr-returns-in_ok-extend_from_slice-in-Neg t c =
    let text = negative c.args.e.now c.in-Neg.of c.in-Neg.is in
    grind (arith, common_steps, text)

pub append_expr-returns-in_ok-extend_from_slice-in-Two-2 : goal.append_expr-returns-in_ok-extend_from_slice-in-Two-2
append_expr-returns-in_ok-extend_from_slice-in-Two-2 t c =
    let text = two c.args.e.now c.in-Two.a c.in-Two.b c.in-Two.with c.in-Two.is in
    grind (arith, common_steps, text)

pub append_expr-returns-in_ok-extend_from_slice-in-If-2 : goal.append_expr-returns-in_ok-extend_from_slice-in-If-2
append_expr-returns-in_ok-extend_from_slice-in-If-2 t c =
    let text = condition c.args.e.now c.in-If.condition c.in-If.a c.in-If.b c.in-If.is in
    grind (arith, common_steps, text)

pub append_operand-returns-in_ok-append_expr : goal.append_operand-returns-in_ok-append_expr
append_operand-returns-in_ok-append_expr t c =
    let text = loose_operand c.args.e.now (sym c.is_tight.ensures ∙ c.if-is_tight.false) in
    grind (arith, common_steps, text)
