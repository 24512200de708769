use Rattle.std.proofs.Common.{◌∷◌, ◌++◌, ◌-◌, length, take, drop, get_or, false}
use Rattle.std.specs.List.{flat_map}
use Rattle.wire_frames.specs.declared.kinds.PlcValue.TheVariants.{Bool}
use Rattle.answer_texts.specs.Texts.{value_text, values_text}
use Rattle.answer_texts.proofs.AppendLemmas.{joined, told}
use Rattle.answer_texts.proofs.ValueLemmas.{all_values}
use Rattle.answer_texts.proofs.values.append_values.Goals as goal

pub returns-in_ok-append_value-in-len1-up : goal.returns-in_ok-append_value-in-len1-up
returns-in_ok-append_value-in-len1-up c =
    let old = c.args.text.now.items in
    let new = c.append_more.new.text.items in
    let values = c.args.values.now in
    let first = value_text (get_or values 0 (Bool false)) in
    let second = flat_map (λ value. 44 ∷ value_text value) (take (length values - 1) (drop 1 values)) in
    told values_text c.append_more.result old new (first ++ second) values (all_values values (Bool false) c.in-len1-up.len_at_least) (joined c.append_more.result old c.append_value.new.text.items new first second c.in_ok-append_value-in-len1-up.ensures c.append_more.ensures)
