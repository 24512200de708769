use Rattle.std.proofs.Common.{◌≡◌, ◌<◌, ℕ, length, get_or, false, arith, ap, ◌∙◌}
use Rattle.std.proofs.lemmas.List.{get_or-map, length-map}
use Rattle.wire_frames.specs.declared.kinds.PlcValue.{PlcValue}
use Rattle.wire_frames.specs.declared.kinds.PlcValue.TheVariants as values
use Rattle.data_io.specs.Data.{value_node}
use Rattle.data_io.proofs.values.item_values.Goals as goal

pub returns-in-None-clause-shape : goal.returns-in-None-clause-shape
returns-in-None-clause-shape c =
    λ _ list each e.
    let i : ℕ = c.loop-item.item-index in
    let long : length c.args.items.now ≡ length list = ap length e ∙ length-map list value_node in
    let inside : i < length list = omega (arith, long, c.loop-item-test.true) in
    let value : PlcValue = get_or list i (values.Bool false) in
    let is : c.item-item.result ≡ value_node value =
    c.item-item.is ∙ ap (λ xs. get_or xs i c.item-item.result) e ∙ get_or-map value_node list i (values.Bool false) c.item-item.result inside in
    c.in-None.ensures.none value (each i (values.Bool false) inside) is
