use Rattle.std.proofs.Common.{◌∙◌, ap}
use Rattle.mspec_expr.specs.Kinds.{entry_fields, first_cases}
use Rattle.mspec_rules.specs.Found.{found_then}
use Rattle.mspec_rules.specs.Limits.{case_limits, field_places, limit_at, most_fields, past}
use Rattle.mspec_rules.specs.Wrongs.{earlier, found}
use Rattle.mspec_rules.proofs.limits.field_limits.Goals as goal

pub returns : goal.returns
returns c =
    let fields = c.args.fields.now in
    c.case_limits.ensures
    ∙ ap (λ cases. earlier c.limit_at-outside.result (found (case_limits fields 1 cases))) c.first_cases.ensures
    ∙ ap (λ o. earlier o (found (case_limits fields 1 (first_cases fields)))) (c.limit_at-outside.ensures ∙ ap (λ o. earlier c.args.first (found (limit_at o))) c.field_past.ensures)
    ∙ found_then c.args.first (past most_fields (field_places (entry_fields 0 fields))) (case_limits fields 1 (first_cases fields))
