use Rattle.std.proofs.Common.{◌≡◌, ◌+◌, ◌-◌, ◌∙◌, [], ◌∷◌, ap, arith, drop, rules, sym}
use Rattle.std.proofs.lemmas.List.{take_rest}
use Rattle.node_tree.specs.declared.nodes.Node.{out-Node, out-roll-Node}
use Rattle.node_tree.specs.declared.nodes.Node.TheOpen.{Node-F}
use Rattle.node_tree.specs.declared.nodes.Node.TheVariants as variant
use Rattle.mspec_expr.specs.Kinds.{fields_of, layer}
use Rattle.mspec_expr.specs.Sizes.{Measure, Measures, body_measure, measure_entries, measure_fields, measure_to, nothing, together}
use Rattle.mspec_eval.specs.Numbers.{capped}
use Rattle.mspec_eval.specs.Views.{seen_of}
use Rattle.mspec_eval.proofs.SizeLaws.{behind_unseen, behind_switch, group_of, no_entries, no_fields, next_item, none_left, there}
use Rattle.mspec_eval.proofs.sizes.+sizes.Goals as goal

pub entries_bits-returns-in_default-split_first : goal.entries_bits-returns-in_default-split_first
entries_bits-returns-in_default-split_first t c before e =
    let ms : Measures = measure_to c.args.levels c.args.d.now in
    let none : c.args.nodes.now ≡ [] = none_left c.args.nodes.now c.in_default-split_first.ensures.cases in
    e ∙ ap (λ m. capped m.sum.bits)
    (sym (ap (λ l. measure_entries c.args.d.now ms c.args.last c.args.fields.now (there l (seen_of c.args.d.now c.args.names.now) before)) none
    ∙ no_entries c.args.d.now ms c.args.last c.args.fields.now (seen_of c.args.d.now c.args.names.now) before))

pub fields_bits-returns-in_default-split_first : goal.fields_bits-returns-in_default-split_first
fields_bits-returns-in_default-split_first t c before e =
    let ms : Measures = measure_to c.args.levels c.args.d.now in
    let none : c.args.nodes.now ≡ [] = none_left c.args.nodes.now c.in_default-split_first.ensures.cases in
    e ∙ ap (λ m. capped m.sum.bits)
    (sym (ap (λ l. measure_fields c.args.d.now ms c.args.last c.args.case c.args.fields.now (there l (seen_of c.args.d.now c.args.names.now) before)) none
    ∙ no_fields c.args.d.now ms c.args.last c.args.case c.args.fields.now (seen_of c.args.d.now c.args.names.now) before))

pub group_bits-returns : goal.group_bits-returns
group_bits-returns t c =
    let under : Measures = measure_to (c.args.levels - 1) c.args.d.now in
    let is : out-Node c.args.node.now ≡ Node-F.Group c.in-Group.case c.in-Group.entries = ap out-Node (c.in-Group.is ∙ sym (variant.rolls-Group c.in-Group.case c.in-Group.entries)) ∙ out-roll-Node (Node-F.Group c.in-Group.case c.in-Group.entries) in
    c.fields_bits.ensures nothing (omega arith)
    ∙ ap (λ k. capped (measure_fields c.args.d.now under c.args.last k c.fields_of.result.now (there c.as_slice.result.now [] nothing)).sum.bits) c.from.ensures
    ∙ ap (λ l. capped (measure_fields c.args.d.now under c.args.last c.in-Group.case l (there c.as_slice.result.now [] nothing)).sum.bits) c.fields_of.ensures
    ∙ ap (λ l. capped (measure_fields c.args.d.now under c.args.last c.in-Group.case (fields_of c.args.d.now c.args.def) (there l [] nothing)).sum.bits) c.as_slice.ensures
    ∙ ap (λ m. capped m.bits) (group_of c.args.d.now c.args.levels c.args.def c.args.last c.args.node.now c.in-Group.case c.in-Group.entries c.if-levels-eq0.false is)

pub fields_bits-returns-in-Some-switch_cases : goal.fields_bits-returns-in-Some-switch_cases
fields_bits-returns-in-Some-switch_cases t c before e =
    let ms : Measures = measure_to c.args.levels c.args.d.now in
    let names = seen_of c.args.d.now c.args.names.now in
    let whole : c.args.fields.now ≡ c.in-Some.field.now ∷ c.in-Some.fields.now = search rules in
    c.fields_bits.ensures (measure_entries c.args.d.now ms c.args.last c.case_fields-inner.result.now (there c.args.nodes.now names before)).sum (c.entries_bits-sum.ensures before e)
    ∙ ap (λ m. capped m.sum.bits)
    (behind_switch c.args.d.now ms c.args.last c.args.case c.in-Some.field.now c.in-Some.fields.now c.in-Some-switch_cases.cases.now c.case_fields-inner.result.now c.args.nodes.now _ names before
    c.in-Some-switch_cases.ensures c.case_fields-inner.ensures (take_rest c.args.nodes.now c.min.result ∙ ap (λ k. drop k c.args.nodes.now) c.min.ensures)
    ∙ ap (λ l. measure_fields c.args.d.now ms c.args.last c.args.case l (there c.args.nodes.now names before)) (sym whole))

pub fields_bits-returns-then-not-is_seen : goal.fields_bits-returns-then-not-is_seen
fields_bits-returns-then-not-is_seen t c before e =
    let ms : Measures = measure_to c.args.levels c.args.d.now in
    let names = seen_of c.args.d.now c.args.names.now in
    let whole : c.args.fields.now ≡ c.in-Some.field.now ∷ c.in-Some.fields.now = search rules in
    let given : c.args.nodes.now ≡ c.in-Some-split_first.node.now ∷ c.in-Some-split_first.nodes.now = search rules in
    let after : Measure = together before (body_measure c.args.d.now ms names c.args.last (layer c.in-Some.field.now) c.in-Some-split_first.node.now) in
    c.fields_bits-then-not-is_seen.ensures after (c.plus-sum.ensures before.bits _ e c.body_bits.ensures)
    ∙ ap (λ m. capped m.sum.bits)
    (behind_unseen c.args.d.now ms c.args.last c.args.case c.in-Some.field.now c.in-Some.fields.now c.in-Some-split_first.node.now c.in-Some-split_first.nodes.now names before c.in_default-switch_cases.ensures c.is_seen.ensures c.if-not-is_seen.true
    ∙ ap (λ l. measure_fields c.args.d.now ms c.args.last c.args.case (c.in-Some.field.now ∷ c.in-Some.fields.now) (there l names before)) (sym given)
    ∙ ap (λ l. measure_fields c.args.d.now ms c.args.last c.args.case l (there c.args.nodes.now names before)) (sym whole))

pub items_bits-loop-place-preserved : goal.items_bits-loop-place-preserved
items_bits-loop-place-preserved t c =
    let ms : Measures = measure_to c.args.levels c.args.d.now in
    let before = c.loop-place.invariant.0 in (
      before + (ms c.args.def c.is_last-last.result c.index-items-place.result).bits,
      c.plus-sum.ensures before _ c.loop-place.invariant.1 c.group_bits.ensures,
      next_item ms c.args.def c.args.counted c.args.items.now c.loop-place.place c.index-items-place.result c.is_last-last.result before _ c.loop-place-test.true c.index-items-place.is c.is_last-last.ensures c.loop-place.invariant.2,
    )
