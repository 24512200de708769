use Rattle.std.proofs.Common.{◌≡◌, ◌<◌, ◌+◌, ◌∷◌, [], ℕ, List, length, drop, length-drop, arith, sym, ap, ◌∙◌, subst}
use Rattle.std.proofs.lemmas.Bool.{eqb-true, eqb-false}
use Rattle.std.proofs.lemmas.List.{take_rest, drop_more}
use Rattle.tag_address.specs.declared.urls.Url.TheVariants.{Modbus}
use Rattle.tag_address.specs.Parts.{IsNotLed, IsRead, IsStuck}
use Rattle.tag_address.specs.UrlParts.{IsBehindHost}
use Rattle.tag_address.proofs.NumberLaws.{not_led_at}
use Rattle.tag_address.proofs.UrlLaws.{ported_read, ported_stuck, unported_read, unported_stuck}
use Rattle.tag_address.proofs.urls.read_behind_host.Goals as goal
use Rattle.tag_address.proofs.urls.read_behind_host.Goals.{then-is_empty-via-then-is_empty, then-is_empty-via-else-is_empty+then-text-ne58}

pub returns-in-Ok-clause-read : goal.returns-in-Ok-clause-read
returns-in-Ok-clause-read c =
    λ host.
    let not : IsNotLed (λ (b : ℕ). b ≡ 58) c.args.text.now = not_led_at (λ (b : ℕ). b ≡ 58) c.args.text.now (λ some first.
    elim c.then-is_empty.branch [
      | then-is_empty-via-then-is_empty w ↦ let none = eqb-true (length c.args.text.now) 0 (sym c.is_empty.ensures ∙ w.if-is_empty.true) in omega (arith, none)
      | then-is_empty-via-else-is_empty+then-text-ne58 w ↦ w.if-text-ne58.true first
    ]) in
    unported_read host c.args.text.now (Modbus host 502 c.in-Ok.unit) not (c.in-Ok.ensures.read host 502)

pub returns-in-Err-clause-stuck : goal.returns-in-Err-clause-stuck
returns-in-Err-clause-stuck c =
    λ host.
    let not : IsNotLed (λ (b : ℕ). b ≡ 58) c.args.text.now = not_led_at (λ (b : ℕ). b ≡ 58) c.args.text.now (λ some first.
    elim c.then-is_empty.branch [
      | then-is_empty-via-then-is_empty w ↦ let none = eqb-true (length c.args.text.now) 0 (sym c.is_empty.ensures ∙ w.if-is_empty.true) in omega (arith, none)
      | then-is_empty-via-else-is_empty+then-text-ne58 w ↦ w.if-text-ne58.true first
    ]) in
    unported_stuck host c.args.text.now c.in-Err.place not (c.in-Err.ensures.stuck host 502)

pub overflow_add-result : goal.overflow_add-result
overflow_add-result c =
    let some : 0 < length c.args.text.now = (let not = eqb-false (length c.args.text.now) 0 (sym c.is_empty.ensures ∙ c.if-is_empty.false) in omega (arith, not)) in
    let stuck = rw take_rest at (c.in-Err-read_port.ensures.stuck []) in
    let long = length-drop 1 c.args.text.now in
    omega (arith, stuck.within, long, some)

pub returns-in-Ok-read_port-clause-read : goal.returns-in-Ok-read_port-clause-read
returns-in-Ok-read_port-clause-read c =
    λ host.
    let text : List ℕ = c.args.text.now in
    let some : 0 < length text = (let not = eqb-false (length text) 0 (sym c.is_empty.ensures ∙ c.if-is_empty.false) in omega (arith, not)) in
    let split : text ≡ 58 ∷ drop 1 text = drop_more text 0 0 some ∙ ap (λ (b : ℕ). b ∷ drop 1 text) c.if-text-ne58.false in
    let url = Modbus host c.in-Ok-read_port.port c.in-Ok-read_port.unit in
    subst (λ (t : List ℕ). IsRead (IsBehindHost host) t url) (sym split) (ported_read host (drop 1 text) url (rw take_rest at (c.in-Ok-read_port.ensures.read host)))

pub returns-in-Err-read_port-clause-stuck : goal.returns-in-Err-read_port-clause-stuck
returns-in-Err-read_port-clause-stuck c =
    λ host.
    let text : List ℕ = c.args.text.now in
    let some : 0 < length text = (let not = eqb-false (length text) 0 (sym c.is_empty.ensures ∙ c.if-is_empty.false) in omega (arith, not)) in
    let split : text ≡ 58 ∷ drop 1 text = drop_more text 0 0 some ∙ ap (λ (b : ℕ). b ∷ drop 1 text) c.if-text-ne58.false in
    subst (λ (t : List ℕ). IsStuck (IsBehindHost host) t (1 + c.in-Err-read_port.place)) (sym split) (ported_stuck host (drop 1 text) c.in-Err-read_port.place (rw take_rest at (c.in-Err-read_port.ensures.stuck host)))
