use Rattle.std.proofs.Common.{◌≡◌, ℕ, List, ◌++◌, codes, decimal, append_assoc, ap, subst, ◌∙◌}
use Rattle.node_tree.specs.Appends.{Appends}
use Rattle.answer_texts.proofs.AppendLemmas.{joined}
use Rattle.answer_texts.proofs.answers.append_ticked.Goals as goal

pub returns : goal.returns
returns c =
    let old = c.args.text.now.items in
    let middle = c.append_pair.new.text.items in
    let more = c.extend_from_slice.new.self.items in
    let new = c.append_number.new.text.items in
    let count = c.args.ticked in
    let pair = codes "ticked " ++ decimal count.rows ++ codes " " ++ decimal count.leases in
    let first : middle ≡ old ++ pair =
    c.in_ok-append_pair.ensures
    ∙ ap (λ (n : ℕ). old ++ (codes "ticked " ++ decimal n ++ codes " " ++ decimal c.from-2.result)) c.from.ensures
    ∙ ap (λ (n : ℕ). old ++ (codes "ticked " ++ decimal count.rows ++ codes " " ++ decimal n)) c.from-2.ensures in
    let begun : more ≡ old ++ (pair ++ codes " ") =
    c.in_ok-extend_from_slice.ensures.items ∙ ap (λ (xs : List ℕ). xs ++ codes " ") first ∙ append_assoc old pair (codes " ") in
    let last : Appends c.append_number.result more new (decimal count.waiters) =
    subst (λ (n : ℕ). Appends c.append_number.result more new (decimal n)) c.from-3.ensures c.append_number.ensures in
    joined c.append_number.result old more new (pair ++ codes " ") (decimal count.waiters) begun last
