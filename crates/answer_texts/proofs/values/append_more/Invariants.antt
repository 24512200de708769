use Rattle.std.proofs.Common.{◌≡◌, ◌∷◌, ◌++◌, length, take, drop}
use Rattle.std.specs.List.{flat_map}
use Rattle.answer_texts.specs.Texts.{value_text}
use Rattle.answer_texts.proofs.values.append_more.Given as goal

-- the text so far and what the values left add make the whole
abbrev pub invariant-loop-value : goal.invariant-loop-value
invariant-loop-value l =
    record {
      whole : l.text.items ++ flat_map (λ value. 44 ∷ value_text value) (drop l.value-index l.values) ≡ l.initial.text.items ++ flat_map (λ value. 44 ∷ value_text value) l.values;
      begins : take (length l.initial.text.items) l.text.items ≡ l.initial.text.items;
    }
