use Rattle.std.proofs.Common.{◌∙◌, ap, sym, arith}
use Rattle.mspec_expr.specs.Kinds.{entry_fields}
use Rattle.mspec_expr.specs.Ranges.{field_named}
use Rattle.mspec_ranges.proofs.PathLaws.{named_here, named_past}
use Rattle.mspec_expr.specs.InTurn.{from_item, none_left}
use Rattle.mspec_ranges.proofs.paths.field_named.Goals as goal

pub returns-in-Some : goal.returns-in-Some
returns-in-Some c =
    let rest = from_item c.args.fields.now c.loop-field.field-index c.field-item.result c.loop-field-test.true c.field-item.is in
    sym
    (c.loop-field.invariant
    ∙ named_here c.args.implicit c.args.name.now c.args.case c.args.fields.now c.loop-field.field-index c.field-item.result c.in-Some.found.now rest (sym c.in-Some.ensures))

pub loop-field-preserved : goal.loop-field-preserved
loop-field-preserved c =
    let rest = from_item c.args.fields.now c.loop-field.field-index c.field-item.result c.loop-field-test.true c.field-item.is in
    c.loop-field.invariant
    ∙ named_past c.args.implicit c.args.name.now c.args.case c.args.fields.now c.loop-field.field-index c.field-item.result rest (sym c.in_default.ensures)

pub returns : goal.returns
returns c =
    sym (c.loop-field.invariant ∙ ap (λ l. field_named c.args.implicit c.args.name.now (entry_fields c.args.case l)) (none_left c.args.fields.now c.loop-field.field-index (omega arith)))
