use Rattle.std.proofs.Common.{◌≡◌, ◌+◌, ◌∙◌, ◌||◌, List, drop, ap, sym, arith}
use Rattle.std.specs.List.{list_any}
use Rattle.mspec_tree.specs.declared.fields.Field.{Field}
use Rattle.mspec_rules.specs.Found.{none_here}
use Rattle.mspec_rules.specs.Names.{cases_names, clashes, field_names}
use Rattle.mspec_rules.proofs.NameLaws.{any_case}
use Rattle.mspec_rules.proofs.names.have_cases.Goals as goal

pub returns-then-have_fields : goal.returns-then-have_fields
returns-then-have_fields c =
    let p = clashes c.args.name.now c.args.case in
    sym
    (c.loop-i.invariant
    ∙ any_case p c.args.cases.now c.loop-i.i c.index-cases-i.result c.have_fields.result c.loop-i-test.true c.index-cases-i.is
    (c.have_fields.ensures ∙ ap (λ (fields : List Field). list_any (λ field. list_any p (field_names (c.loop-i.i + 1) field)) fields) c.as_slice.ensures)
    ∙ ap (λ b. b || list_any p (cases_names (c.loop-i.i + 1 + 1) (drop (c.loop-i.i + 1) c.args.cases.now))) c.if-have_fields.true)

pub loop-i-preserved : goal.loop-i-preserved
loop-i-preserved c =
    let p = clashes c.args.name.now c.args.case in
    c.loop-i.invariant
    ∙ any_case p c.args.cases.now c.loop-i.i c.index-cases-i.result c.have_fields.result c.loop-i-test.true c.index-cases-i.is
    (c.have_fields.ensures ∙ ap (λ (fields : List Field). list_any (λ field. list_any p (field_names (c.loop-i.i + 1) field)) fields) c.as_slice.ensures)
    ∙ ap (λ b. b || list_any p (cases_names (c.loop-i.i + 1 + 1) (drop (c.loop-i.i + 1) c.args.cases.now))) c.if-have_fields.false

pub returns : goal.returns
returns c =
    sym (c.loop-i.invariant ∙ ap (λ l. list_any (clashes c.args.name.now c.args.case) (cases_names (c.loop-i.i + 1) l)) (none_here c.args.cases.now c.loop-i.i c.loop-i-test.false))
