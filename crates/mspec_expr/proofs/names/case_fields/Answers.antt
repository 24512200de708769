use Rattle.std.proofs.Common.{◌∙◌, sym}
use Rattle.mspec_expr.proofs.NameLaws.{field_case, no_field}
use Rattle.mspec_expr.proofs.names.case_fields.Goals as goal

pub returns-in-Some : goal.returns-in-Some
returns-in-Some c =
    c.as_slice.ensures ∙ sym (field_case c.args.case c.args.cases.now c.in-Some.found.now c.if-case-eq0.false c.in-Some.ensures)

pub returns-in-None : goal.returns-in-None
returns-in-None c = sym (no_field c.args.case c.args.cases.now c.if-case-eq0.false c.in-None.ensures)
