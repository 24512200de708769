use Rattle.std.proofs.Common.{◌≡◌, ◌<◌, ◌+◌, ◌∷◌, ℕ, List, length, drop, get_or, arith, sym, ap, ◌∙◌, subst}
use Rattle.std.proofs.lemmas.Bool.{eqb-false}
use Rattle.std.proofs.lemmas.List.{take_rest, drop_more}
use Rattle.tag_address.specs.Parts.{IsCountUpTo, IsRead, IsRefusal}
use Rattle.tag_address.proofs.CountLaws.{count_read, count_refused, past_type}
use Rattle.tag_address.proofs.modbus_tags.read_count.Goals as goal

pub returns-then-text-ne91-clause-refused : goal.returns-then-text-ne91-clause-refused
returns-then-text-ne91-clause-refused c =
    let text : List ℕ = c.args.text.now in
    let some : 0 < length text = (let not = eqb-false (length text) 0 (sym c.is_empty.ensures ∙ c.if-is_empty.false) in omega (arith, not)) in
    let split : text ≡ get_or text 0 0 ∷ drop 1 text = drop_more text 0 0 some in
    subst (λ (t : List ℕ). IsRefusal (IsCountUpTo c.args.most) 2 0 t 0 _) (sym split) (past_type c.args.most (get_or text 0 0) (drop 1 text) c.requires.some c.if-text-ne91.true)

pub returns-in-Ok-clause-read : goal.returns-in-Ok-clause-read
returns-in-Ok-clause-read c =
    let text : List ℕ = c.args.text.now in
    let some : 0 < length text = (let not = eqb-false (length text) 0 (sym c.is_empty.ensures ∙ c.if-is_empty.false) in omega (arith, not)) in
    let split : text ≡ 91 ∷ drop 1 text = drop_more text 0 0 some ∙ ap (λ (b : ℕ). b ∷ drop 1 text) c.if-text-ne91.false in
    subst (λ (t : List ℕ). IsRead (IsCountUpTo c.args.most) t c.in-Ok.count) (sym split) (count_read c.args.most (drop 1 text) c.in-Ok.count (rw take_rest at c.in-Ok.ensures.read))

pub returns-in-Err-clause-refused : goal.returns-in-Err-clause-refused
returns-in-Err-clause-refused c =
    let text : List ℕ = c.args.text.now in
    let some : 0 < length text = (let not = eqb-false (length text) 0 (sym c.is_empty.ensures ∙ c.if-is_empty.false) in omega (arith, not)) in
    let split : text ≡ 91 ∷ drop 1 text = drop_more text 0 0 some ∙ ap (λ (b : ℕ). b ∷ drop 1 text) c.if-text-ne91.false in
    rw c.behind.ensures.place (rw c.behind.ensures.why
    (subst (λ (t : List ℕ). IsRefusal (IsCountUpTo c.args.most) 2 0 t (1 + c.in-Err.refusal.place) c.in-Err.refusal.why) (sym split) (count_refused c.args.most (drop 1 text) c.in-Err.refusal.place c.in-Err.refusal.why (rw take_rest at c.in-Err.ensures.refused))))
