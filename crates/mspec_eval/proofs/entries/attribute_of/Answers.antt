use Rattle.std.proofs.Common.{◌∙◌, ap, sym, arith}
use Rattle.std.specs.Prelude.{slice_get}
use Rattle.std.specs.Int.{w128}
use Rattle.std.proofs.lemmas.Int.{to_z-of_z}
use Rattle.mspec_expr.specs.declared.kinds.Meant.{Meant}
use Rattle.mspec_expr.specs.Counted.{done}
use Rattle.mspec_expr.specs.Kinds.{literal_node}
use Rattle.mspec_expr.specs.Values.{Entry, attribute_of, attributes}
use Rattle.mspec_eval.specs.Things.{kept_outcome}
use Rattle.mspec_eval.proofs.EntryLaws.{first_none, first_some, no_params, param_here, param_past}
use Rattle.mspec_eval.proofs.entries.attribute_of.Goals as goal

pub returns-in-Some : goal.returns-in-Some
returns-in-Some c =
    let n = c.args.number in
    let same = to_z-of_z w128 n c.ranges.number in
    let before = rw same at c.loop-place.invariant in
    let found = rw same at c.in-Some.ensures in
    let values = found ∙ ap (λ l. slice_get (attributes c.loop-place.place n l) 0) c.constants_of.ensures in
    let here = param_here c.args.d.now c.args.def n c.args.name.now c.params_of-param-items.result.now c.loop-place.place c.param-item.result c.loop-place-test.true c.param-item.is (sym c.is_named.ensures ∙ c.if-is_named.true) in
    let first = first_some c.args.d.now c.param-item.result _ c.in-Some.value values in
    c.given.ensures
    ∙ ap (λ (m : Meant). kept_outcome (done (Entry m (literal_node c.in-Some.value)))) c.ref_meant.ensures
    ∙ sym (ap kept_outcome (ap (λ l. attribute_of c.args.d.now c.args.def n c.args.name.now l 0) (sym c.params_of-param-items.ensures) ∙ before ∙ here ∙ first))

pub returns-in-None : goal.returns-in-None
returns-in-None c =
    let n = c.args.number in
    let same = to_z-of_z w128 n c.ranges.number in
    let before = rw same at c.loop-place.invariant in
    let found = rw same at c.in-None.ensures in
    let values = found ∙ ap (λ l. slice_get (attributes c.loop-place.place n l) 0) c.constants_of.ensures in
    let here = param_here c.args.d.now c.args.def n c.args.name.now c.params_of-param-items.result.now c.loop-place.place c.param-item.result c.loop-place-test.true c.param-item.is (sym c.is_named.ensures ∙ c.if-is_named.true) in
    let first = first_none c.args.d.now c.param-item.result _ values in
    sym (ap kept_outcome (ap (λ l. attribute_of c.args.d.now c.args.def n c.args.name.now l 0) (sym c.params_of-param-items.ensures) ∙ before ∙ here ∙ first))

pub loop-place-preserved : goal.loop-place-preserved
loop-place-preserved c =
    c.loop-place.invariant ∙ param_past c.args.d.now c.args.def _ c.args.name.now c.params_of-param-items.result.now c.loop-place.place c.param-item.result c.loop-place-test.true c.param-item.is (sym c.is_named.ensures ∙ c.if-is_named.false)

pub returns : goal.returns
returns c =
    let n = c.args.number in
    let same = to_z-of_z w128 n c.ranges.number in
    let before = rw same at c.loop-place.invariant in
    let none = no_params c.params_of-param-items.result.now c.loop-place.place (omega arith) in
    sym (ap kept_outcome (ap (λ l. attribute_of c.args.d.now c.args.def n c.args.name.now l 0) (sym c.params_of-param-items.ensures) ∙ before ∙ ap (λ l. attribute_of c.args.d.now c.args.def n c.args.name.now l c.loop-place.place) none))
