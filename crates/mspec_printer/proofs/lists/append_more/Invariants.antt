use Rattle.std.proofs.Common.{◌≡◌, ◌++◌, drop, ◌∷◌}
use Rattle.std.specs.List.{flat_map}
use Rattle.mspec_lexer.specs.Tokens.{text_of}
use Rattle.mspec_printer.proofs.lists.append_more.Given as goal

-- the text so far and what is left make the whole
abbrev pub invariant-loop-item : goal.invariant-loop-item
invariant-loop-item g l =
    l.text.items ++ flat_map (λ item. 44 ∷ 32 ∷ text_of (g.T.Item.pieces item)) (drop l.item-index l.items) ≡ l.initial.text.items ++ flat_map (λ item. 44 ∷ 32 ∷ text_of (g.T.Item.pieces item)) l.items
