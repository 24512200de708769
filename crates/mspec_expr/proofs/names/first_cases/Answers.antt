use Rattle.std.proofs.Common.{◌∙◌, ap, sym, arith}
use Rattle.mspec_expr.specs.Kinds.{first_cases}
use Rattle.mspec_expr.proofs.NameLaws.{cases_here, cases_past}
use Rattle.mspec_expr.specs.InTurn.{from_item, none_left}
use Rattle.mspec_expr.proofs.names.first_cases.Goals as goal

pub returns-in-Some : goal.returns-in-Some
returns-in-Some c =
    let rest = from_item c.args.fields.now c.loop-field.field-index c.field-item.result c.loop-field-test.true c.field-item.is in
    sym (c.loop-field.invariant ∙ cases_here c.args.fields.now c.loop-field.field-index c.field-item.result c.in-Some.cases.now rest (sym c.in-Some.ensures))

pub loop-field-preserved : goal.loop-field-preserved
loop-field-preserved c =
    let rest = from_item c.args.fields.now c.loop-field.field-index c.field-item.result c.loop-field-test.true c.field-item.is in
    c.loop-field.invariant ∙ cases_past c.args.fields.now c.loop-field.field-index c.field-item.result rest (sym c.in_default.ensures)

pub returns : goal.returns
returns c =
    sym (c.loop-field.invariant ∙ ap first_cases (none_left c.args.fields.now c.loop-field.field-index (omega arith)))
