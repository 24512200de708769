use Rattle.std.proofs.Common.{◌≡◌, ◌∙◌, ◌||◌, Bool, true, ap, sym}
use Rattle.std.specs.List.{list_any}
use Rattle.std.specs.Str.{bytes_eq}
use Rattle.mspec_tree.specs.declared.defs.Param.{Param}
use Rattle.mspec_rules.specs.Names.{cases_names, clashes, entry_names, field_names}
use Rattle.mspec_rules.proofs.NameLaws.{any_taken, or_false, or_true}
use Rattle.mspec_rules.proofs.names.is_taken.Goals as goal
use Rattle.mspec_rules.proofs.names.is_taken.Goals.{then-has_param, else-has_param, then-have_entries, else-have_entries}

pub returns-then-have_cases : goal.returns-then-have_cases
returns-then-have_cases c =
    let p = clashes c.args.name.now c.args.front.now.case in
    let params = list_any (λ (param : Param). bytes_eq param.name c.args.name.now) c.args.front.now.params.now in
    let fields = list_any (λ field. list_any p (entry_names field)) c.args.front.now.fields.now in
    let cases = list_any p (cases_names 1 c.args.front.now.cases.now) in
    let own = list_any (λ field. list_any p (field_names c.args.front.now.case field)) c.args.own.now in
    let one : c.if-has_param.value ≡ (params || fields) =
    elim c.if-has_param.branch [
      | then-has_param w ↦ w.value-is ∙ w.if-has_param.true ∙ or_true params fields (sym c.has_param.ensures ∙ w.if-has_param.true)
      | else-has_param w ↦ w.value-is ∙ w.have_entries.ensures ∙ or_false params fields (sym c.has_param.ensures ∙ w.if-has_param.false)
    ] in
    let two : c.if-have_entries.value ≡ (params || fields || cases) =
    elim c.if-have_entries.branch [
      | then-have_entries w ↦ w.value-is ∙ w.if-have_entries.true ∙ or_true (params || fields) cases (sym one ∙ w.if-have_entries.true)
      | else-have_entries w ↦ w.value-is ∙ w.have_cases.ensures ∙ or_false (params || fields) cases (sym one ∙ w.if-have_entries.false)
    ] in
    c.if-have_cases.true
    ∙ or_true (params || fields || cases) own (sym two ∙ c.if-have_cases.true)
    ∙ sym (any_taken c.args.name.now c.args.front.now c.args.own.now)

pub returns-else-have_cases : goal.returns-else-have_cases
returns-else-have_cases c =
    let p = clashes c.args.name.now c.args.front.now.case in
    let params = list_any (λ (param : Param). bytes_eq param.name c.args.name.now) c.args.front.now.params.now in
    let fields = list_any (λ field. list_any p (entry_names field)) c.args.front.now.fields.now in
    let cases = list_any p (cases_names 1 c.args.front.now.cases.now) in
    let own = list_any (λ field. list_any p (field_names c.args.front.now.case field)) c.args.own.now in
    let one : c.if-has_param.value ≡ (params || fields) =
    elim c.if-has_param.branch [
      | then-has_param w ↦ w.value-is ∙ w.if-has_param.true ∙ or_true params fields (sym c.has_param.ensures ∙ w.if-has_param.true)
      | else-has_param w ↦ w.value-is ∙ w.have_entries.ensures ∙ or_false params fields (sym c.has_param.ensures ∙ w.if-has_param.false)
    ] in
    let two : c.if-have_entries.value ≡ (params || fields || cases) =
    elim c.if-have_entries.branch [
      | then-have_entries w ↦ w.value-is ∙ w.if-have_entries.true ∙ or_true (params || fields) cases (sym one ∙ w.if-have_entries.true)
      | else-have_entries w ↦ w.value-is ∙ w.have_cases.ensures ∙ or_false (params || fields) cases (sym one ∙ w.if-have_entries.false)
    ] in
    c.have_fields.ensures
    ∙ or_false (params || fields || cases) own (sym two ∙ c.if-have_cases.false)
    ∙ sym (any_taken c.args.name.now c.args.front.now c.args.own.now)
