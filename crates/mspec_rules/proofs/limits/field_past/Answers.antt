use Rattle.std.proofs.Common.{◌≡◌, ◌+◌, ◌∙◌, drop, ap, sym, arith}
use Rattle.std.specs.Option.{option_copied}
use Rattle.std.specs.Prelude.{slice_get}
use Rattle.mspec_expr.specs.Kinds.{entry_fields}
use Rattle.mspec_rules.specs.Found.{from_here, none_here}
use Rattle.mspec_rules.specs.Limits.{field_places}
use Rattle.mspec_rules.proofs.LimitLaws.{place_here, place_past}
use Rattle.mspec_rules.proofs.limits.field_past.Goals as goal

pub returns-in-Some : goal.returns-in-Some
returns-in-Some c =
    let rest = from_here c.args.fields.now c.loop-field.field-index c.field-item.result c.loop-field-test.true c.field-item.is in
    sym
    (c.loop-field.invariant
    ∙ place_here c.loop-field.left c.args.case (drop c.loop-field.field-index c.args.fields.now) (drop (c.loop-field.field-index + 1) c.args.fields.now) c.field-item.result c.in-Some.found.now c.own_fields-own.result.now
    rest c.own_fields-own.ensures (sym (ap option_copied c.in-Some.is) ∙ c.at.ensures))

pub loop-field-preserved : goal.loop-field-preserved
loop-field-preserved c =
    let rest = from_here c.args.fields.now c.loop-field.field-index c.field-item.result c.loop-field-test.true c.field-item.is in
    c.loop-field.invariant
    ∙ place_past c.loop-field.left c.args.case (drop c.loop-field.field-index c.args.fields.now) (drop (c.loop-field.field-index + 1) c.args.fields.now) c.field-item.result c.own_fields-own.result.now
    rest c.own_fields-own.ensures (sym (ap option_copied c.in_default.is) ∙ c.at.ensures)

pub returns : goal.returns
returns c =
    sym (c.loop-field.invariant ∙ ap (λ l. slice_get (field_places (entry_fields c.args.case l)) c.loop-field.left) (none_here c.args.fields.now c.loop-field.field-index (omega arith)))
