use Rattle.std.proofs.Common.{◌≡◌, ◌++◌, length, take, drop}
use Rattle.answer_texts.specs.Texts.{items_text}
use Rattle.answer_texts.proofs.values.append_rows.Given as goal

-- the text so far and what the rows left add make the whole
abbrev pub invariant-loop-row : goal.invariant-loop-row
invariant-loop-row l =
    record {
      whole : l.text.items ++ items_text (drop l.row-index l.rows) ≡ l.initial.text.items ++ items_text l.rows;
      begins : take (length l.initial.text.items) l.text.items ≡ l.initial.text.items;
    }
