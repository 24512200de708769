use Rattle.std.proofs.Common.{◌≡◌, ◌++◌, ◌∙◌, Bool, List, ℕ, ap, append-nil, sym}
use Rattle.std.specs.List.{flat_map, list_any}
use Rattle.mspec_tree.specs.declared.fields.Field.{out-Field}
use Rattle.mspec_rules.specs.declared.wrongs.Rule.TheVariants.{Names}
use Rattle.mspec_rules.specs.declared.wrongs.CheckWhy.TheVariants.{DoubledName}
use Rattle.mspec_rules.specs.Found.{unlooked}
use Rattle.mspec_rules.specs.Fronts.{front_names}
use Rattle.mspec_rules.specs.Names.{clashes, doubled, field_names, named, unless_nameless}
use Rattle.mspec_rules.specs.Wrongs.{earlier, found, wrong_if}
use Rattle.mspec_rules.proofs.names.field_doubled.Goals as goal

pub returns-then-not-matters : goal.returns-then-not-matters
returns-then-not-matters c =
    let before = front_names c.args.front.now ++ flat_map (field_names c.args.front.now.case) c.args.own.now in
    let name = (out-Field c.args.field.now).name in
    let place = (out-Field c.args.field.now).named in
    let taken = list_any (clashes name c.args.front.now.case) before in
    sym
    (ap (λ b. earlier c.args.first (found (doubled before (unless_nameless b (named name place c.args.front.now.case))))) (sym c.is_nameless.ensures ∙ c.if-is_nameless.false)
    ∙ ap (λ l. earlier c.args.first (found l)) (append-nil (wrong_if taken place Names DoubledName))
    ∙ unlooked c.args.first taken place Names DoubledName (sym c.matters.ensures ∙ c.if-not-matters.true))

pub returns : goal.returns
returns c =
    let before = front_names c.args.front.now ++ flat_map (field_names c.args.front.now.case) c.args.own.now in
    let name = (out-Field c.args.field.now).name in
    let place = (out-Field c.args.field.now).named in
    let taken = list_any (clashes name c.args.front.now.case) before in
    c.told_if.ensures
    ∙ ap (λ b. earlier c.args.first (found (wrong_if b place Names DoubledName))) (c.is_taken-is_second.ensures ∙ ap (λ (n : List ℕ). list_any (clashes n c.args.front.now.case) before) c.as_slice.ensures)
    ∙ ap (λ l. earlier c.args.first (found l)) (sym (append-nil (wrong_if taken place Names DoubledName)))
    ∙ ap (λ b. earlier c.args.first (found (doubled before (unless_nameless b (named name place c.args.front.now.case))))) (sym c.if-is_nameless.false ∙ c.is_nameless.ensures)
