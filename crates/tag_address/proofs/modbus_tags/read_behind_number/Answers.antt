use Rattle.std.proofs.Common.{◌≡◌, ◌<◌, ◌+◌, ◌∷◌, ℕ, List, length, drop, arith, sym, ap, ◌∙◌, subst}
use Rattle.std.proofs.lemmas.Bool.{eqb-true, eqb-false}
use Rattle.std.proofs.lemmas.List.{take_rest, drop_more}
use Rattle.tag_address.specs.Parts.{IsBehindNumber, IsRead, IsRefusal}
use Rattle.tag_address.proofs.NumberLaws.{not_led_at}
use Rattle.tag_address.proofs.StageLaws.{behind_colon_refused, colon_read, no_colon}
use Rattle.tag_address.proofs.modbus_tags.read_behind_number.Goals as goal
use Rattle.tag_address.proofs.modbus_tags.read_behind_number.Goals.{then-is_empty-via-then-is_empty, then-is_empty-via-else-is_empty+then-text-ne58}

pub returns-then-is_empty-clause-refused : goal.returns-then-is_empty-clause-refused
returns-then-is_empty-clause-refused c =
    no_colon c.args.area c.args.number c.args.text.now c.requires.area c.requires.low c.requires.high (not_led_at (λ (b : ℕ). b ≡ 58) c.args.text.now (λ some first.
    elim c.then-is_empty.branch [
      | then-is_empty-via-then-is_empty w ↦ let none = eqb-true (length c.args.text.now) 0 (sym c.is_empty.ensures ∙ w.if-is_empty.true) in omega (arith, none)
      | then-is_empty-via-else-is_empty+then-text-ne58 w ↦ w.if-text-ne58.true first
    ]))

pub returns-in-Ok-clause-read : goal.returns-in-Ok-clause-read
returns-in-Ok-clause-read c =
    let text : List ℕ = c.args.text.now in
    let some : 0 < length text = (let not = eqb-false (length text) 0 (sym c.is_empty.ensures ∙ c.if-is_empty.false) in omega (arith, not)) in
    let split : text ≡ 58 ∷ drop 1 text = drop_more text 0 0 some ∙ ap (λ (b : ℕ). b ∷ drop 1 text) c.if-text-ne58.false in
    subst (λ (t : List ℕ). IsRead (IsBehindNumber c.args.area c.args.number) t c.in-Ok.item) (sym split) (colon_read c.args.area c.args.number (drop 1 text) c.in-Ok.item (rw take_rest at c.in-Ok.ensures.read))

pub returns-in-Err-clause-refused : goal.returns-in-Err-clause-refused
returns-in-Err-clause-refused c =
    let text : List ℕ = c.args.text.now in
    let some : 0 < length text = (let not = eqb-false (length text) 0 (sym c.is_empty.ensures ∙ c.if-is_empty.false) in omega (arith, not)) in
    let split : text ≡ 58 ∷ drop 1 text = drop_more text 0 0 some ∙ ap (λ (b : ℕ). b ∷ drop 1 text) c.if-text-ne58.false in
    rw c.behind.ensures.place (rw c.behind.ensures.why
    (subst (λ (t : List ℕ). IsRefusal (IsBehindNumber c.args.area c.args.number) 1 0 t (1 + c.in-Err.refusal.place) c.in-Err.refusal.why) (sym split) (behind_colon_refused c.args.area c.args.number (drop 1 text) c.in-Err.refusal.place c.in-Err.refusal.why (rw take_rest at c.in-Err.ensures.refused))))
